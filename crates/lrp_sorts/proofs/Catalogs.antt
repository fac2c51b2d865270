-- The relation that a name means among those of a database and the first definitions beside it.
use Rattle.std.proofs.Common.{◌≡◌, ◌<◌, ℕ, zero, suc, Bool, true, false, cond, List, [], ◌∷◌, ◌++◌, ◌-◌, length, map, take, slice_get, find, position, Bor, Option, Some, None, option_map, refl, ap, ap₂, sym, subst, append_assoc, append-nil, ◌∙◌, arith}
use Rattle.std.specs.Option.{is_some, option_copied}
use Rattle.std.specs.Str.{bytes_eq}
use Rattle.lrp_model.specs.Faults.{is_named_in}
use Rattle.lrp_model.specs.Rows.{relation_named}
use Rattle.lrp_model.specs.Texts.{Identifier}
use Rattle.lrp_model.specs.declared.relations.Relation.{Relation}
use Rattle.lrp_sorts.specs.Catalogs.{StandBeside, first_definitions}
use Rattle.lrp_sorts.specs.Definitions.{Defined, definition_number}
use Rattle.lrp_sorts.specs.declared.catalog.First.{First}
use Rattle.lrp_sorts.proofs.Firsts.{found_after, found_before, is_found, named_placed, none_there, place_within, placed}

taken_at : {A : Type 0} (xs : List A) (k i : ℕ) (x : A) → i < length (take k xs) → slice_get xs i ≡ Some x → slice_get (take k xs) i ≡ Some x
taken_at [] zero i x lt e = absurd (omega (arith, lt))
taken_at [] (suc k) i x lt e = absurd (omega (arith, lt))
taken_at (y ∷ xs) zero i x lt e = absurd (omega (arith, lt))
taken_at (y ∷ xs) (suc k) zero x lt e = e
taken_at (y ∷ xs) (suc k) (suc i) x lt e = taken_at xs k i x (omega (arith, lt)) e

module _ (d : Defined) (before : ℕ) (n : Identifier) where
  abbrev related : Bool
  related = is_named_in (map (λ r. r.name) d.relations) n

  abbrev first : List Relation
  first = take before d.definitions

  abbrev place : Option ℕ
  place = position (bytes_eq n) (map (λ r. r.name) first)

  abbrev has_name : Relation → Bool
  has_name r = bytes_eq r.name n

  found_first : find has_name first ≡ placed first place
  found_first = named_placed (λ r. r.name) first n

  unrelated : (b : Bool) → related ≡ b → b ≡ false → is_some (relation_named d.relations n) ≡ false
  unrelated b e f = is_found (λ r. r.name) d.relations n ∙ e ∙ f

  -- by the definition with its number
  pub defined_is : (i : ℕ) (r : Relation) → definition_number d before n ≡ Some i → slice_get d.definitions i ≡ Some r → Some r ≡ relation_named (d.relations ++ first) n
  defined_is i r e at = by related refl e
    where
      by : (b : Bool) → related ≡ b → cond b None place ≡ Some i → Some r ≡ relation_named (d.relations ++ first) n
      by true f h = absurd cc
      by false f h =
          let there : slice_get first i ≡ Some r = taken_at d.definitions before i r (place_within (λ r. r.name) first n i h) at in
          sym there ∙ ap (placed first) (sym h) ∙ sym found_first ∙ found_after has_name d.relations first (relation_named d.relations n) refl (unrelated false f refl)

  -- by the relation of the database, where there is none
  pub related_is : definition_number d before n ≡ None → relation_named d.relations n ≡ relation_named (d.relations ++ first) n
  related_is e = by related refl e
    where
      by : (b : Bool) → related ≡ b → cond b None place ≡ None → relation_named d.relations n ≡ relation_named (d.relations ++ first) n
      by true f h = found_before has_name d.relations first (relation_named d.relations n) refl (is_found (λ r. r.name) d.relations n ∙ f)
      by false f h =
          let none : is_some (relation_named d.relations n) ≡ false = unrelated false f refl in
          sym (none_there (relation_named d.relations n) none) ∙ ap (placed first) (sym h) ∙ sym found_first ∙ found_after has_name d.relations first (relation_named d.relations n) refl none

module _ (db : List Relation) (beside : Option First) where
  -- by a definition beside the database
  pub beside_defined : (f : First) (n : Identifier) (i : ℕ) (r : Relation) → beside ≡ Some f → StandBeside db beside → definition_number f.definitions.now f.count n ≡ Some i → slice_get f.definitions.now.definitions i ≡ Some r
      → Some r ≡ relation_named (db ++ first_definitions beside) n
  beside_defined f n i r e h number at =
      let same : f.definitions.now.relations ≡ db = subst (StandBeside db) e h in
      defined_is f.definitions.now f.count n i r number at ∙ ap₂ (λ l o. relation_named (l ++ first_definitions o) n) same (sym e)

  -- or by a relation of it
  pub beside_related : (f : First) (n : Identifier) → beside ≡ Some f → StandBeside db beside → definition_number f.definitions.now f.count n ≡ None → relation_named db n ≡ relation_named (db ++ first_definitions beside) n
  beside_related f n e h number =
      let same : f.definitions.now.relations ≡ db = subst (StandBeside db) e h in
      ap (λ l. relation_named l n) (sym same) ∙ related_is f.definitions.now f.count n number ∙ ap₂ (λ l o. relation_named (l ++ first_definitions o) n) same (sym e)

  -- where nothing stands beside it
  pub beside_alone : (n : Identifier) → beside ≡ None → relation_named db n ≡ relation_named (db ++ first_definitions beside) n
  beside_alone n e = ap (λ l. relation_named l n) (sym (append-nil db)) ∙ ap (λ o. relation_named (db ++ first_definitions o) n) (sym e)

pub copied_now : (o : Option (Bor Relation)) → option_map (λ r. r.now) o ≡ option_copied o
copied_now None = refl
copied_now (Some r) = refl

-- the next definition
pub next_taken : (db ds : List Relation) (n : ℕ) (r : Relation) → 0 < n → slice_get ds (n - 1) ≡ Some r → (db ++ take (n - 1) ds) ++ r ∷ [] ≡ db ++ take n ds
next_taken db ds zero r some at = absurd (omega (arith, some))
next_taken db ds (suc k) r some at =
    let same : suc k - 1 ≡ k = omega arith in
    append_assoc db (take (suc k - 1) ds) (r ∷ []) ∙ ap (λ l. db ++ l) (ap (λ j. take j ds ++ r ∷ []) same ∙ sym (by ds k (sym (ap (slice_get ds) same) ∙ at)))
  where
    by : (xs : List Relation) (j : ℕ) → slice_get xs j ≡ Some r → take (suc j) xs ≡ take j xs ++ r ∷ []
    by [] j e = absurd cc
    by (x ∷ xs) zero e = let both : Some x ≡ Some r = e in let same : x ≡ r = cc in ap (λ y. y ∷ []) same
    by (x ∷ xs) (suc j) e = ap (λ l. x ∷ l) (by xs j e)
