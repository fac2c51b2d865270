-- The first fault of a list is the sooner one of those of its parts.
use Rattle.std.proofs.Common.{◌≡◌, ℕ, false, List, [], ◌∷◌, ◌++◌, Option, Some, None, refl, ap, sym, subst, ◌∙◌}
use Rattle.std.specs.declared.cmp.Ordering.{Ordering}
use Rattle.std.specs.declared.cmp.Ordering.TheVariants.{Less, Equal, Greater}
use Rattle.std.specs.Ordering.{nat_cmp, match_ordering, is_gt, ordering_reverse}
use Rattle.std.specs.Cmp.{IsTotalOrder}
use Rattle.std.specs.Cmp.Lexicographic.{slice_cmp}
use Rattle.std.proofs.lemmas.Cmp.{nat_list_cmp_total, upto}
use Rattle.lrp_model.specs.Faults.{earlier, earliest}
use Rattle.lrp_model.specs.Sooner.{sooner}

-- no fault at all
pub first_of_none : {F : Type 0} (stands : F → List ℕ) → earliest stands [] ≡ None
first_of_none stands = refl

-- one fault is the first of itself
pub first_of_one : {F : Type 0} (stands : F → List ℕ) (f : F) → earliest stands (f ∷ []) ≡ Some f
first_of_one stands f = refl

-- a function of a choice is the choice of the function's values
match_out : {A B : Type 0} (k : A → B) (o : Ordering) (a b c : A) → k (match_ordering o a b c) ≡ match_ordering o (k a) (k b) (k c)
match_out k Less a b c = refl
match_out k Equal a b c = refl
match_out k Greater a b c = refl

-- what is not below leaves the choice as it was
not_below : {A : Type 0} (q : Ordering) (a c : A) → is_gt (ordering_reverse q) ≡ false → a ≡ match_ordering q c a a
not_below Equal a c e = refl
not_below Greater a c e = refl
not_below Less a c e = search

-- of three, the first two compared first, or the last two
three_ways : {A : Type 0} (o p q : Ordering) (a b c : A)
    → (p ≡ Less → o ≡ Less → q ≡ Less)
    → (is_gt (ordering_reverse o) ≡ false → is_gt (ordering_reverse p) ≡ false → is_gt (ordering_reverse q) ≡ false)
    → match_ordering p (match_ordering q c a a) (match_ordering o b a a) (match_ordering o b a a) ≡ match_ordering o (match_ordering p c b b) (match_ordering q c a a) (match_ordering q c a a)
three_ways Less Less q a b c below above = ap (λ r. match_ordering r c a a) (below refl refl)
three_ways Less Equal q a b c below above = refl
three_ways Less Greater q a b c below above = refl
three_ways Equal Less q a b c below above = refl
three_ways Greater Less q a b c below above = refl
three_ways Equal Equal q a b c below above = not_below q a c (above refl refl)
three_ways Equal Greater q a b c below above = not_below q a c (above refl refl)
three_ways Greater Equal q a b c below above = not_below q a c (above refl refl)
three_ways Greater Greater q a b c below above = not_below q a c (above refl refl)

-- a fault, the first of some, and that of more: it does not matter which two are compared first
pub sooner_of_three : {F : Type 0} (stands : F → List ℕ) (f : F) (g h : Option F) → earlier stands f (sooner stands g h) ≡ sooner stands (earlier stands f g) h
sooner_of_three stands f None h = refl
sooner_of_three stands f (Some g) None = sym (match_out (λ x. sooner stands x None) (slice_cmp nat_cmp (stands g) (stands f)) (Some g) (Some f) (Some f))
sooner_of_three stands f (Some g) (Some h) =
    let total : IsTotalOrder (slice_cmp nat_cmp) = nat_list_cmp_total in
    let order : List ℕ → List ℕ → Ordering = slice_cmp nat_cmp in
    match_out (earlier stands f) (order (stands h) (stands g)) (Some h) (Some g) (Some g)
    ∙ three_ways (order (stands g) (stands f)) (order (stands h) (stands g)) (order (stands h) (stands f)) (Some f) (Some g) (Some h)
    (λ p o. total.trans (stands h) (stands g) (stands f) p o)
    (λ o p. subst (λ r. is_gt r ≡ false) (total.antisymm (stands f) (stands h)) (upto total (stands f) (stands g) (stands h) (subst (λ r. is_gt r ≡ false) (sym (total.antisymm (stands f) (stands g))) o) (subst (λ r. is_gt r ≡ false) (sym (total.antisymm (stands g) (stands h))) p)))
    ∙ sym (match_out (λ x. sooner stands x (Some h)) (order (stands g) (stands f)) (Some g) (Some f) (Some f))

-- the first fault of two lists
pub first_of_both : {F : Type 0} (stands : F → List ℕ) (xs ys : List F) → earliest stands (xs ++ ys) ≡ sooner stands (earliest stands xs) (earliest stands ys)
first_of_both stands [] ys = refl
first_of_both stands (x ∷ xs) ys = ap (earlier stands x) (first_of_both stands xs ys) ∙ sooner_of_three stands x (earliest stands xs) (earliest stands ys)

-- nothing is after
pub sooner_than_none : {F : Type 0} (stands : F → List ℕ) (f : Option F) → sooner stands f None ≡ f
sooner_than_none stands None = refl
sooner_than_none stands (Some f) = refl

-- of three that may be none, it does not matter which two are compared first
pub sooner_again : {F : Type 0} (stands : F → List ℕ) (f g h : Option F) → sooner stands f (sooner stands g h) ≡ sooner stands (sooner stands f g) h
sooner_again stands None g h = refl
sooner_again stands (Some f) g h = sooner_of_three stands f g h

-- either choice is a fault
neither : {F A : Type 0} (o : Ordering) (f g : F) → match_ordering o (Some g) (Some f) (Some f) ≡ None → A
neither Less f g e = absurd cc
neither Equal f g e = absurd cc
neither Greater f g e = absurd cc

-- the earlier of a fault and another is a fault
none_of_some : {F : Type 0} {A : Type 0} (f : F) (g : Option F) (stands : F → List ℕ) → earlier stands f g ≡ None → A
none_of_some f None stands e = absurd cc
none_of_some f (Some g) stands e = neither (slice_cmp nat_cmp (stands g) (stands f)) f g e

-- a list that has a first fault is not empty, and one without is
pub none_is_empty : {F : Type 0} (stands : F → List ℕ) (xs : List F) → earliest stands xs ≡ None → xs ≡ []
none_is_empty stands [] e = refl
none_is_empty stands (x ∷ xs) e = none_of_some x (earliest stands xs) stands e

-- of two that have no first, neither is a fault
pub none_of_both : {F : Type 0} (stands : F → List ℕ) (f g : Option F) → sooner stands f g ≡ None → (f ≡ None) × (g ≡ None)
none_of_both stands None g e = (refl, e)
none_of_both stands (Some f) g e = none_of_some f g stands e
