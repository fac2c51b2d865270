-- The set of the names of named sorts, name by name.
use Rattle.std.proofs.Common.{◌≡◌, ℕ, ◌+◌, ◌<◌, Bool, true, false, cond, ◌||◌, List, [], ◌∷◌, ◌++◌, refl, ap, sym, ◌∙◌, length, take, get_or, Bor, Some, slice_get}
use Rattle.std.proofs.lemmas.Option.{get_or_from_slice_get}
use Rattle.lrp_model.specs.Sorting.{has_sort}
use Rattle.lrp_model.specs.declared.relations.Relation.{Relation}
use Rattle.std.specs.List.{list_any}
use Rattle.std.specs.Str.{bytes_eq}
use Rattle.std.specs.HashSet.{HashSet, UpdatesBy}
use Rattle.std.proofs.lemmas.List.Folds.{list_any-append, list_any_more}
use Rattle.lrp_model.specs.Texts.{Identifier}
use Rattle.lrp_model.specs.Sorts.{same_sort}
use Rattle.lrp_model.specs.declared.relations.Sort.{Sort}
use Rattle.lrp_sorts.specs.Scopes.{holds}

-- a choice of true is an `or`
chosen_or : (b x : Bool) → cond b true x ≡ (x || b)
chosen_or true true = refl
chosen_or true false = refl
chosen_or false true = refl
chosen_or false false = refl

-- what is false adds nothing
pub nothing_added : (x : Bool) → x ≡ (x || false)
nothing_added true = refl
nothing_added false = refl

-- the grouping of three does not matter
or_again : (a b c : Bool) → ((a || b) || c) ≡ (a || (b || c))
or_again true b c = refl
or_again false b c = refl

-- a set with one name more
pub one_name : {S : Type 0} (k : Bor (List ℕ)) (s t : HashSet (Bor (List ℕ)) S) (name : Identifier) → k.now ≡ name → UpdatesBy (λ x y. bytes_eq x.now y.now) (λ y. bytes_eq k.now y.now) s t true
    → (n : Identifier) → holds t n ≡ (holds s n || bytes_eq name n)
one_name k s t name e u n =
    u.0 (record { ref_ptr = (0, 0); now = n }) ∙ chosen_or (bytes_eq k.now n) (holds s n) ∙ ap (λ m. holds s n || bytes_eq m n) e

-- one element more
pub one_sort : {A : Type 0} (old new before : Bool) (p : A → Bool) (xs : List A) (i : ℕ) (x : A) → i < length xs → x ≡ get_or xs i x
    → old ≡ (before || list_any p (take i xs)) → new ≡ (old || p x) → new ≡ (before || list_any p (take (i + 1) xs))
one_sort old new before p xs i x lt is o n =
    n ∙ ap (λ b. b || p x) o ∙ or_again before (list_any p (take i xs)) (p x)
    ∙ ap (λ b. before || b) (ap (λ y. list_any p (take i xs) || p y) is ∙ sym (list_any_more p xs i x lt))

-- the element at an index is the one that is there
at_index : {A : Type 0} (xs : List A) (i : ℕ) (x : A) → slice_get xs i ≡ Some x → get_or xs i x ≡ x
at_index xs i x e = get_or_from_slice_get xs i x x e

-- one relation more
pub one_relation : (db : List Relation) (i : ℕ) (r : Relation) (s : Sort) (new old : Bool) → i < length db → slice_get db i ≡ Some r
    → new ≡ (old || list_any (λ c. same_sort c.sort s) r.columns) → old ≡ has_sort (take i db) s → new ≡ has_sort (take (i + 1) db) s
one_relation db i r s new old lt at n o =
    n ∙ ap (λ b. b || list_any (λ c. same_sort c.sort s) r.columns) o
    ∙ ap (λ x. has_sort (take i db) s || list_any (λ c. same_sort c.sort s) x.columns) (sym (at_index db i r at))
    ∙ sym (list_any_more (λ r. list_any (λ c. same_sort c.sort s) r.columns) db i r lt)

-- the sorts of one relation more
pub sort_more : (db : List Relation) (r : Relation) (s : Sort) → has_sort (db ++ r ∷ []) s ≡ (has_sort db s || list_any (λ c. same_sort c.sort s) r.columns)
sort_more db r s = list_any-append (λ x. list_any (λ c. same_sort c.sort s) x.columns) db (r ∷ []) ∙ ap (λ b. has_sort db s || b) (by (list_any (λ c. same_sort c.sort s) r.columns))
  where
    by : (b : Bool) → (b || false) ≡ b
    by true = refl
    by false = refl
