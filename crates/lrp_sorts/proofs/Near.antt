-- Names of which each is new: the number of each is its place.
use Rattle.std.proofs.Common.{◌≡◌, ◌<◌, ◌≤◌, ◌+◌, ℕ, Bool, true, false, cond, not, ◌||◌, ◌&&◌, List, [], ◌∷◌, ◌++◌, length, map, get_or, slice_get, position, Some, None, option_map, ap, sym, subst, refl, ◌∙◌, arith}
use Rattle.std.specs.Bool.{nat_lt}
use Rattle.std.specs.List.{list_any}
use Rattle.std.specs.Option.{is_some}
use Rattle.std.specs.Str.{bytes_eq}
use Rattle.std.specs.Cmp.Lexicographic.{bytes_decides}
use Rattle.std.proofs.Math.Seq.{get_or-append_seam}
use Rattle.std.proofs.lemmas.Bool.{ltb-false}
use Rattle.std.proofs.lemmas.List.{get_or_append_left, length-append, length-map}
use Rattle.std.proofs.lemmas.List.Folds.{list_any-append}
use Rattle.std.proofs.lemmas.Option.{get_or_from_slice_get, slice_get-map, slice_get_read}
use Rattle.lrp_model.specs.Faults.{is_named_in}
use Rattle.lrp_model.specs.Texts.{Identifier}
use Rattle.lrp_model.specs.declared.relations.Relation.{Relation}
use Rattle.lrp_sorts.specs.Definitions.{AreNew, Defined, definition_number}
use Rattle.lrp_sorts.proofs.Firsts.{after, among, is_placed, position_more}
use Rattle.lrp_sorts.proofs.Numbered.{new_number, number_of}

below : (i before : ℕ) → i < before → Some i ≡ among before (Some i)
below i before lt = by (nat_lt i before) refl
  where
    by : (b : Bool) → nat_lt i before ≡ b → Some i ≡ cond b (Some i) None
    by true e = refl
    by false e = absurd (grind (arith, e, lt))

-- a definition whose name is this one is what the name means
pub near_number : (d : Defined) (before i : ℕ) (r : Relation) (n : Identifier) → AreNew (map (λ q. q.name) d.relations) (map (λ q. q.name) d.definitions)
    → i < length d.definitions → r ≡ get_or d.definitions i r → bytes_eq r.name n ≡ true → i < before → Some i ≡ definition_number d before n
near_number d before i r n new low there same lt =
    let names : List Identifier = map (λ q. q.name) d.definitions in
    let taken : List Identifier = map (λ q. q.name) d.relations in
    let within : i < length names = omega (arith, low, length-map d.definitions (λ q. q.name)) in
    let at : slice_get d.definitions i ≡ Some r = slice_get_read d.definitions (length d.definitions) i r refl low there in
    let read : get_or names i [] ≡ n = get_or_from_slice_get names i r.name [] (slice_get-map (λ q. q.name) d.definitions i ∙ ap (option_map (λ q. q.name)) at) ∙ (bytes_decides r.name n).0 same in
    let first : Some i ≡ cond (is_named_in taken n) None (position (bytes_eq n) names) = subst (λ m. Some i ≡ cond (is_named_in taken m) None (position (bytes_eq m) names)) read (new i within) in
    below i before lt ∙ number_of d before n (Some i) first

-- what holds of both holds of each
pub both_true : (a b : Bool) → (a && b) ≡ true → (a ≡ true) × (b ≡ true)
both_true true true h = (refl, refl)
both_true true false h = absurd (grind (arith, h))
both_true false b h = absurd (grind (arith, h))

-- what is denied doesn't hold
pub undenied : (b : Bool) → not b ≡ true → b ≡ false
undenied true h = absurd (grind (arith, h))
undenied false h = refl

-- one more name, which is new
module _ (taken names : List Identifier) (k : Identifier) where
  kept : (i : ℕ) (n : Identifier) (b : Bool) → is_named_in taken n ≡ b → Some i ≡ cond b None (position (bytes_eq n) names) → Some i ≡ cond b None (position (bytes_eq n) (names ++ k ∷ []))
  kept i n true e h = absurd cc
  kept i n false e h = sym (position_more (bytes_eq n) names k ∙ ap (λ o. after o (bytes_eq n k) (length names)) (sym h))

  pub still_new : AreNew taken names → is_named_in (taken ++ names) k ≡ false → AreNew taken (names ++ k ∷ [])
  still_new h new i lt = by (nat_lt i (length names)) refl
    where
      both : is_named_in taken k || list_any (bytes_eq k) names ≡ false
      both = sym (list_any-append (bytes_eq k) taken names) ∙ new

      apart : is_named_in taken k ≡ false
      apart = grind (arith, both)

      absent : is_some (position (bytes_eq k) names) ≡ false
      absent = let none : list_any (bytes_eq k) names ≡ false = grind (arith, both) in is_placed (bytes_eq k) names ∙ none

      own : Some (length names) ≡ cond (is_named_in taken k) None (position (bytes_eq k) (names ++ k ∷ []))
      own = ap (λ b. cond b (Some (length names)) (cond (is_named_in taken k) None (position (bytes_eq k) names))) (sym ((bytes_decides k k).1 refl)) ∙ new_number taken names k apart absent k

      by : (b : Bool) → nat_lt i (length names) ≡ b → Some i ≡ cond (is_named_in taken (get_or (names ++ k ∷ []) i [])) None (position (bytes_eq (get_or (names ++ k ∷ []) i [])) (names ++ k ∷ []))
      by true e =
          let within : i < length names = grind (arith, e) in
          let n = get_or names i [] in
          let read : get_or (names ++ k ∷ []) i [] ≡ n = get_or_append_left names (k ∷ []) [] i within in
          subst (λ m. Some i ≡ cond (is_named_in taken m) None (position (bytes_eq m) (names ++ k ∷ []))) (sym read) (kept i n (is_named_in taken n) refl (h i within))
      by false e =
          let size : length (names ++ k ∷ []) ≡ length names + 1 = length-append names (k ∷ []) in
          let low : length names ≤ i = ltb-false i (length names) e in
          let last : i ≡ length names = omega (arith, lt, size, low) in
          let read : get_or (names ++ k ∷ []) (length names) [] ≡ k = get_or-append_seam names k [] [] in
          subst (λ j. Some j ≡ cond (is_named_in taken (get_or (names ++ k ∷ []) j [])) None (position (bytes_eq (get_or (names ++ k ∷ []) j [])) (names ++ k ∷ []))) (sym last)
          (subst (λ m. Some (length names) ≡ cond (is_named_in taken m) None (position (bytes_eq m) (names ++ k ∷ []))) (sym read) own)
