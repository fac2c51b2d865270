-- Names that are among others, and relations by their names.
use Rattle.std.proofs.Common.{◌≡◌, ◌≢◌, ◌<◌, ◌+◌, inl, inr, ℕ, zero, suc, Bool, true, false, List, [], ◌∷◌, ◌++◌, length, get_or, map, Contains, Option, Some, None, refl, sym, ap, ◌∙◌, bytes_eq, arith}
use Rattle.std.specs.Prelude.{◌&&◌, IfNone, IfSome, is_some, slice_get}
use Rattle.std.specs.List.{list_all, list_any}
use Rattle.std.specs.Cmp.Lexicographic.{bytes_decides}
use Rattle.std.proofs.lemmas.Bool.{true≢false}
use Rattle.lrp_zone.proofs.Cases.{eq_or}
use Rattle.std.proofs.lemmas.List.{length-map}
use Rattle.std.proofs.lemmas.Option.{slice_get_within}
use Rattle.lrp_model.specs.Texts.{Identifier}
use Rattle.lrp_tables.proofs.Joining.{at_place, found_in, not_found_in, place_in}
use Rattle.lrp_kept.specs.declared.rows.HeldRelation.{HeldRelation}
use Rattle.lrp_kept.proofs.JoinedUp.{same_some}

pub is_among_is : (o : Option ℕ) (names : List Identifier) (v : Identifier) (b : Bool) → b ≡ is_some o → IfSome o (λ i. slice_get names i ≡ Some v) → IfNone o (Contains names v → ⊥) → b ≡ list_any (bytes_eq v) names
is_among_is (Some i) names v b e some none = e ∙ sym (found_in v names (at_place names i v some))
is_among_is None names v b e some none = e ∙ sym (not_found_in v names none)

all_append : {X : Type 0} (p : X → Bool) (xs ys : List X) → list_all p (xs ++ ys) ≡ (list_all p xs && list_all p ys)
all_append p [] ys = refl
all_append p (x ∷ xs) ys = ap (λ b. p x && b) (all_append p xs ys) ∙ assoc (p x) (list_all p xs) (list_all p ys)
  where
    assoc : (a b c : Bool) → (a && (b && c)) ≡ ((a && b) && c)
    assoc true b c = refl
    assoc false b c = refl

-- both parts, where the first is known
pub both_covered : {X : Type 0} (p : X → Bool) (xs ys : List X) (a b : Bool) → a ≡ list_all p xs → b ≡ list_all p ys → a ≡ true → b ≡ list_all p (xs ++ ys)
both_covered p xs ys a b e f t = f ∙ sym (ap (λ c. c && list_all p ys) (sym e ∙ t)) ∙ sym (all_append p xs ys)

pub first_not_covered : {X : Type 0} (p : X → Bool) (xs ys : List X) (a : Bool) → a ≡ list_all p xs → a ≡ false → false ≡ list_all p (xs ++ ys)
first_not_covered p xs ys a e t = sym (ap (λ c. c && list_all p ys) (sym e ∙ t)) ∙ sym (all_append p xs ys)

and_true : (b : Bool) → b ≡ (b && true)
and_true true = refl
and_true false = refl

pub with_true : (a b : Bool) → a ≡ b → a ≡ (b && true)
with_true a b e = e ∙ and_true b

-- ---- relations

pub name_there : (rs : List HeldRelation) (i : ℕ) (d : HeldRelation) → i < length rs → slice_get (map (λ (r : HeldRelation). r.name) rs) i ≡ Some (get_or rs i d).name
name_there [] i d low = absurd (omega (arith, low))
name_there (r ∷ rs) zero d low = refl
name_there (r ∷ rs) (suc i) d low = name_there rs i d (omega (arith, low))

pub not_named : (rs : List HeldRelation) (v : Identifier) → ((k : ℕ) → k < length rs → slice_get (map (λ (r : HeldRelation). r.name) rs) k ≡ Some v → ⊥) → Contains (map (λ (r : HeldRelation). r.name) rs) v → ⊥
not_named rs v none c =
    let p = place_in (map (λ (r : HeldRelation). r.name) rs) v c in
    let l : p.0 < length (map (λ (r : HeldRelation). r.name) rs) = slice_get_within (map (λ (r : HeldRelation). r.name) rs) p.0 v p.1 in
    none p.0 (omega (arith, l, length-map rs (λ (r : HeldRelation). r.name))) p.1

-- what a look at a relation's name says
pub named_at : (rs : List HeldRelation) (n : ℕ) (r : HeldRelation) (v : Identifier) (b : Bool) → n < length rs → r ≡ get_or rs n r → b ≡ bytes_eq r.name v → b ≡ true → slice_get (map (λ (x : HeldRelation). x.name) rs) n ≡ Some v
named_at rs n r v b low is says e = name_there rs n r low ∙ ap (λ (x : HeldRelation). Some x.name) (sym is) ∙ ap Some ((bytes_decides r.name v).0 (sym says ∙ e))

below : (k i : ℕ) → k < i + 1 → k ≢ i → k < i
below k i lt other = grind (arith, lt, other)

pub not_named_more : (rs : List HeldRelation) (n : ℕ) (r : HeldRelation) (v : Identifier) (b : Bool) → n < length rs → r ≡ get_or rs n r → b ≡ bytes_eq r.name v → b ≡ false
    → ((k : ℕ) → k < n → slice_get (map (λ (x : HeldRelation). x.name) rs) k ≡ Some v → ⊥) → (k : ℕ) → k < n + 1 → slice_get (map (λ (x : HeldRelation). x.name) rs) k ≡ Some v → ⊥
not_named_more rs n r v b low is says e before k lt at = elim (eq_or k n) [
  | inl same ↦
      let here : slice_get (map (λ (x : HeldRelation). x.name) rs) n ≡ Some r.name = name_there rs n r low ∙ ap (λ (x : HeldRelation). Some x.name) (sym is) in
      let name : r.name ≡ v = same_some r.name v (sym here ∙ ap (slice_get (map (λ (x : HeldRelation). x.name) rs)) (sym same) ∙ at) in
      true≢false (sym ((bytes_decides r.name v).1 name) ∙ sym says ∙ e)
  | inr d ↦ before k (below k n lt d) at
]
