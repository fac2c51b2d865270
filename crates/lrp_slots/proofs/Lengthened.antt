-- How many slots a chain can have, and what a result shows in one form and in another.
use Rattle.std.proofs.Common.{◌≡◌, ◌≢◌, ◌+◌, ◌<◌, ◌^◌, Bool, true, false, not, List, [], ◌∷◌, Option, Some, None, Ordering, Less, Equal, Greater, arith, refl, sym, ap, subst, ◌∙◌}
use Rattle.std.specs.Cmp.{IsTotalOrder}
use Rattle.std.specs.List.Sorted.{IsStrictlySortedBy}
use Rattle.std.specs.Map.{keys_of, lookup}
use Rattle.std.specs.BTreeMap.{is_at, insert_entry}
use Rattle.std.specs.Ordering.{is_eq, match_ordering}
use Rattle.std.proofs.lemmas.Map.Entries.{lookup_at_gap, lookup_head, lookup_tail}
use Rattle.std.proofs.lemmas.Map.Keys.{sorted_tail}
use Rattle.std.specs.Prelude.{IfSome, IsSome, option_map, unwrap_or, Result, Ok, Err, IfOk, OnErr, OnSome, IfNone}
use Rattle.slab.specs.Slab.{Slab, slab_len}
use Rattle.lrp_model.specs.declared.tuples.Cell.{Cell}
use Rattle.lrp_slots.specs.declared.chains.Link.{Link}
use Rattle.lrp_slots.specs.declared.chains.Chain.{Chain}
use Rattle.lrp_slots.specs.Links.{chain_at, slots_of, AreLinked}
use Rattle.lrp_slots.proofs.Linked.{slots_of-insert}

-- a chain has no more slots than all chains have
pub count_fits : {V : Type 0} (slab : Slab (Link V)) (es : List (Cell × Chain)) → AreLinked slab es → slab_len slab + 1 < 2 ^ 64 → (c : Cell) (o : Option Chain) → chain_at es c ≡ o → IfSome o (λ chain. chain.count + 1 < 2 ^ 64)
count_fits slab es linked small c None e = tt
count_fits slab es linked small c (Some chain) e =
    let none : Chain = record { first = 0; last = 0; count = 0; in_line = true } in
    let rest = slots_of-insert es c none chain linked.ascending e in
    let all : slots_of es ≡ slab_len slab = linked.all in
    omega (arith, small)

-- a value that is put in again changes nothing
pub put_again : {K X : Type 0} {R : K → K → Ordering} → IsTotalOrder R → (es : List (K × X)) (q : K) (v : X) → IsStrictlySortedBy R (keys_of es) → lookup (is_at (R q)) es ≡ Some v → insert_entry R es q v ≡ es
put_again total [] q v sorted found = cc
put_again {K} {X} {R} total (e ∷ es) q v sorted found = by_order total e es q v sorted found (λ rest. put_again total es q v (sorted_tail R e.0 (keys_of es) sorted) rest) (R q e.0) refl
  where
    by_order : {K X : Type 0} {R : K → K → Ordering} → IsTotalOrder R → (e : K × X) (es : List (K × X)) (q : K) (v : X) → IsStrictlySortedBy R (keys_of (e ∷ es)) → lookup (is_at (R q)) (e ∷ es) ≡ Some v
        → (lookup (is_at (R q)) es ≡ Some v → insert_entry R es q v ≡ es) → (o : Ordering) → R q e.0 ≡ o → insert_entry R (e ∷ es) q v ≡ e ∷ es
    by_order {K} {X} {R} total e es q v sorted found again Less is =
        let none : lookup (is_at (R q)) (e ∷ es) ≡ None =
        lookup_at_gap total q (e ∷ es) 0 sorted (λ j f lt p. absurd (omega arith)) (λ f p. let same : e ≡ f = cc in subst (λ (g : K × X). R q g.0 ≡ Less) same is) in
        cc (none, found)
    by_order {K} {X} {R} total e es q v sorted found again Equal is =
        let first : lookup (is_at (R q)) (e ∷ es) ≡ Some e.1 = lookup_head (is_at (R q)) e es (ap is_eq is) in
        let same : v ≡ e.1 = cc in
        ap (λ o. match_ordering o ((q, v) ∷ e ∷ es) ((e.0, v) ∷ es) (e ∷ insert_entry R es q v)) is ∙ ap (λ w. (e.0, w) ∷ es) same
    by_order {K} {X} {R} total e es q v sorted found again Greater is =
        let rest : lookup (is_at (R q)) es ≡ Some v = sym (lookup_tail (is_at (R q)) e es (ap is_eq is)) ∙ found in
        ap (λ o. match_ordering o ((q, v) ∷ e ∷ es) ((e.0, v) ∷ es) (e ∷ insert_entry R es q v)) is ∙ ap (λ l. e ∷ l) (again rest)

-- so a value that was held stays as it was
pub held_stays : {K X : Type 0} {R : K → K → Ordering} → IsTotalOrder R → (es new : List (K × X)) (q : K) (held : Option X) (fresh : X) → IsStrictlySortedBy R (keys_of es) → held ≡ lookup (is_at (R q)) es
    → new ≡ insert_entry R es q (unwrap_or held fresh) → held ≢ None → new ≡ es
held_stays total es new q None fresh sorted is made some = absurd (some refl)
held_stays total es new q (Some v) fresh sorted is made some = made ∙ put_again total es q v sorted (sym is)

-- where a cell was begun and where not
pub of_begun : {E : Type 0} (r : Result Bool E) (X Y Z : Type 0) → (r ≡ Ok true → X) → (r ≢ Ok true → Y) → (X → Z) → (Y → Z) → Z
of_begun (Ok true) X Y Z x y f g = f (x refl)
of_begun (Ok false) X Y Z x y f g = g (y (λ e. cc))
of_begun (Err e) X Y Z x y f g = g (y (λ d. cc))

-- something stays something
pub still_some : {X Y : Type 0} (f : X → Y) (o : Option X) → IsSome o → IsSome (option_map f o)
still_some f None some = cc
still_some f (Some x) some = refl

-- what is not some is none
pub none_so : (b : Bool) → false ≡ not b → b ≡ true
none_so true e = refl
none_so false e = cc

module _ {A B : Type 0} where
  -- of a value
  pub of_ok : (r : Result A B) (P Q : A → Type 0) → ((a : A) → P a → Q a) → IfOk r P → IfOk r Q
  of_ok (Ok a) P Q f p = f a p
  of_ok (Err b) P Q f p = tt

  -- of a value and of an error
  pub of_both : (r : Result A B) (P : A → Type 0) (X Y : Type 0) → ((a : A) → P a → Y) → (X → Y) → IfOk r P → OnErr r X → Y
  of_both (Ok a) P X Y f g p x = f a p
  of_both (Err b) P X Y f g p x = g x

module _ {X : Type 0} where
  -- where there is something and where not
  pub of_found : (o : Option X) (A B Z : Type 0) → (A → Z) → (B → Z) → OnSome o A → IfNone o B → Z
  of_found (Some x) A B Z f g a b = f a
  of_found None A B Z f g a b = g b

  -- of something
  pub on_some : (o : Option X) (A B : Type 0) → (A → B) → OnSome o A → OnSome o B
  on_some (Some x) A B f a = f a
  on_some None A B f a = tt

-- where a cell was put in and where not
pub of_put : {E : Type 0} (r : Result Bool E) (X Y Z : Type 0) → (r ≡ Ok true → X) → (r ≡ Ok false → Y) → OnErr r Y → (X → Z) → (Y → Z) → Z
of_put (Ok true) X Y Z x y e f g = f (x refl)
of_put (Ok false) X Y Z x y e f g = g (y refl)
of_put (Err d) X Y Z x y e f g = g e
