-- Whether some relation of a list passes a test.
use Rattle.std.proofs.Common.{◌≡◌, ◌≤◌, ◌+◌, ℕ, zero, suc, Bool, true, false, ◌||◌, List, [], ◌∷◌, ◌++◌, length, take, Some, slice_get, refl, sym, ap, ◌∙◌}
use Rattle.std.specs.List.{list_any}
use Rattle.lrp_model.specs.Core.{has_named_sort, is_named}
use Rattle.lrp_model.specs.declared.relations.Relation.{Relation}
use Rattle.lrp_plan.proofs.Names.{take_next, take_whole}

or_with : (a b : Bool) → a ≡ true → (a || b) ≡ true
or_with true b e = refl
or_with false b e = cc

or_after : (a b : Bool) → b ≡ true → (a || b) ≡ true
or_after true b e = refl
or_after false b e = e

or_none : (a b : Bool) → a ≡ false → b ≡ false → (a || b) ≡ false
or_none true b e f = cc
or_none false b e f = f

first_no : (a b c : Bool) → (a || b) ≡ false → (b ≡ false → c ≡ false) → (a || c) ≡ false
first_no true b c e h = cc
first_no false b c e h = h e

any_push : (p : Relation → Bool) (xs : List Relation) (r : Relation) → list_any p xs ≡ false → p r ≡ false → list_any p (xs ++ r ∷ []) ≡ false
any_push p [] r e f = or_none (p r) false f refl
any_push p (x ∷ xs) r e f = first_no (p x) (list_any p xs) (list_any p (xs ++ r ∷ [])) e (λ k. any_push p xs r k f)

any_at : (p : Relation → Bool) (xs : List Relation) (i : ℕ) (r : Relation) → slice_get xs i ≡ Some r → p r ≡ true → list_any p xs ≡ true
any_at p [] i r e h = cc
any_at p (x ∷ xs) zero r e h = let d : x ≡ r = cc in or_with (p x) (list_any p xs) (ap p d ∙ h)
any_at p (x ∷ xs) (suc i) r e h = or_after (p x) (list_any p xs) (any_at p xs i r e h)

pub one_names : (db : List Relation) (i : ℕ) (r : Relation) (b : Bool) → slice_get db i ≡ Some r → b ≡ list_any (λ column. is_named column.sort) r.columns → b ≡ true → true ≡ has_named_sort db
one_names db i r b e h t = sym (any_at (λ relation. list_any (λ column. is_named column.sort) relation.columns) db i r e (sym h ∙ t))

pub none_names : (db : List Relation) (i : ℕ) (r : Relation) (b : Bool) → slice_get db i ≡ Some r → b ≡ list_any (λ column. is_named column.sort) r.columns → b ≡ false → has_named_sort (take i db) ≡ false → has_named_sort (take (i + 1) db) ≡ false
none_names db i r b e h t n = ap has_named_sort (take_next db i r e) ∙ any_push (λ relation. list_any (λ column. is_named column.sort) relation.columns) (take i db) r n (sym h ∙ t)

pub no_names : (db : List Relation) (i : ℕ) → length db ≤ i → has_named_sort (take i db) ≡ false → false ≡ has_named_sort db
no_names db i le n = sym n ∙ ap has_named_sort (take_whole db i le)
