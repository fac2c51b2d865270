-- The map from names to sorts, as quantifiers are entered and left.
use Rattle.std.proofs.Common.{◌≡◌, ℕ, Bool, true, false, cond, List, [], ◌∷◌, ◌++◌, map, reverse, Option, Some, None, option_map, refl, ap, sym, ◌∙◌, append_assoc, Bor, bytes_eq}
use Rattle.std.proofs.lemmas.List.{append-nil}
use Rattle.std.specs.List.{find}
use Rattle.std.specs.HashMap.{HashMap}
use Rattle.lrp_model.specs.Texts.{Identifier}
use Rattle.lrp_model.specs.Sorting.{Binders, binder_sort}
use Rattle.lrp_model.specs.declared.relations.Sort.{Sort}
use Rattle.lrp_model.specs.declared.raw.RawColumn.{RawColumn}
use Rattle.lrp_sorts.specs.Scopes.{kept_at}
use Rattle.lrp_sorts.specs.Nesting.{apart, binders_with, first_sort, IsNested, mapped}
use Rattle.lrp_sorts.specs.declared.scope.QuantifierBinder.{QuantifierBinder}
use Rattle.lrp_sorts.proofs.Binding.{map_reverse}
use Rattle.lrp_sorts.proofs.Counting.{same_name}
use Rattle.lrp_sorts.proofs.Heads.{sort_choice}
use Rattle.lrp_sorts.proofs.Tallies.{own_binder}

-- the binders of a scope, from its quantifiers
pub bound_around : (qs : List QuantifierBinder) (head : Binders) (n : Identifier) → binder_sort (binders_with (reverse qs) head) n ≡ binder_sort (reverse (map (λ (q : QuantifierBinder). q.binder.now) qs) ++ head) n
bound_around qs head n = ap (λ l. binder_sort (l ++ head) n) (map_reverse (λ (q : QuantifierBinder). q.binder.now) qs)

-- ---- a short head, whose binders aren't in the map

one_first : (b : Bool) (c : RawColumn) (all found : Option RawColumn) (rest : Option Sort) → option_map (λ (c : RawColumn). c.sort) all ≡ first_sort (option_map (λ (c : RawColumn). c.sort) found) rest
    → option_map (λ (c : RawColumn). c.sort) (cond b (Some c) all) ≡ first_sort (option_map (λ (c : RawColumn). c.sort) (cond b (Some c) found)) rest
one_first true c all found rest e = refl
one_first false c all found rest e = e

-- of two lists of binders the first that has a name tells its sort
first_of_two : (bs cs : Binders) (n : Identifier) → binder_sort (bs ++ cs) n ≡ first_sort (binder_sort bs n) (binder_sort cs n)
first_of_two [] cs n = refl
first_of_two (b ∷ bs) cs n =
    one_first (bytes_eq b.name n) b (find (λ c. bytes_eq c.name n) (bs ++ cs)) (find (λ c. bytes_eq c.name n) bs) (binder_sort cs n) (first_of_two bs cs n)

whole_head : (short : Bool) (cs : List RawColumn) → mapped short cs ++ apart short cs ≡ reverse cs
whole_head true cs = refl
whole_head false cs = append-nil (reverse cs)

-- what the map has for a name, and else the head, is the sort of the innermost binder
pub sort_here : {S : Type 0} (m : HashMap (Bor (List ℕ)) (Bor Sort) S) (qs : List QuantifierBinder) (short : Bool) (cs : List RawColumn) (n : Identifier) → IsNested m (reverse qs) (mapped short cs)
    → first_sort (kept_at m n) (binder_sort (apart short cs) n) ≡ binder_sort (reverse (map (λ (q : QuantifierBinder). q.binder.now) qs) ++ reverse cs) n
sort_here m qs short cs n k =
    let outer : List RawColumn = reverse (map (λ (q : QuantifierBinder). q.binder.now) qs) in
    ap (λ o. first_sort o (binder_sort (apart short cs) n)) (k.sorts n ∙ bound_around qs (mapped short cs) n)
    ∙ sym (first_of_two (outer ++ mapped short cs) (apart short cs) n)
    ∙ ap (λ l. binder_sort l n) (append_assoc outer (mapped short cs) (apart short cs) ∙ ap (λ l. outer ++ l) (whole_head short cs))

-- a head alone
pub nested_head : {S : Type 0} (m : HashMap (Bor (List ℕ)) (Bor Sort) S) (head : Binders) → ((n : Identifier) → kept_at m n ≡ binder_sort head n) → IsNested m [] head
nested_head m head h = record { sorts = h; outer = tt }

module _ {S : Type 0} (m n : HashMap (Bor (List ℕ)) (Bor Sort) S) (q : QuantifierBinder) (qs : List QuantifierBinder) (head : Binders) where
  -- one quantifier further in
  pub entered : IsNested m qs head → option_map (λ (s : Bor Sort). s.now) q.outer ≡ binder_sort (binders_with qs head) q.binder.now.name
      → ((name : Identifier) → kept_at n name ≡ cond (bytes_eq q.binder.now.name name) (Some q.binder.now.sort) (kept_at m name)) → IsNested n (q ∷ qs) head
  entered k o u = record {
    sorts = λ name.
        u name ∙ ap (cond (bytes_eq q.binder.now.name name) (Some q.binder.now.sort)) (k.sorts name)
        ∙ sort_choice (bytes_eq q.binder.now.name name) q.binder.now (find (λ (b : RawColumn). bytes_eq b.name name) (binders_with qs head));
    outer = (o, k.outer);
  }

  left_at : (name : Identifier) (b : Bool) → bytes_eq q.binder.now.name name ≡ b → IsNested m (q ∷ qs) head
      → cond b (option_map (λ (s : Bor Sort). s.now) q.outer) (kept_at m name) ≡ binder_sort (binders_with qs head) name
  left_at name true e k = k.outer.0 ∙ ap (binder_sort (binders_with qs head)) (same_name q.binder.now.name name e)
  left_at name false e k =
      k.sorts name ∙ ap (λ t. option_map (λ (x : RawColumn). x.sort) (cond t (Some q.binder.now) (find (λ x. bytes_eq x.name name) (binders_with qs head)))) e

  -- and out of it again
  pub left : IsNested m (q ∷ qs) head → ((name : Identifier) → kept_at n name ≡ cond (bytes_eq q.binder.now.name name) (option_map (λ (s : Bor Sort). s.now) q.outer) (kept_at m name)) → IsNested n qs head
  left k u = record { sorts = λ name. u name ∙ left_at name (bytes_eq q.binder.now.name name) refl k; outer = k.outer.1 }

-- the name of the innermost quantifier is there
pub own_kept : {S : Type 0} (m : HashMap (Bor (List ℕ)) (Bor Sort) S) (q : QuantifierBinder) (qs : List QuantifierBinder) (head : Binders) → IsNested m (q ∷ qs) head → kept_at m q.binder.now.name ≡ Some q.binder.now.sort
own_kept m q qs head k = k.sorts q.binder.now.name ∙ own_binder q.binder.now (binders_with qs head)
