-- Periods that divide a small one.
use Rattle.std.proofs.Common.{◌≡◌, inl, inr, ◌⊎◌, ℕ, ◌<◌, ◌≤◌, ◌^◌, ◌+◌, List, [], ◌∷◌, length, take, Contains, get_or, sym, subst, arith, to_z, of_z, w64}
use Rattle.std.specs.Prelude.{ℤ, pos, nat_abs, ◌≤ℤ◌, ◌<ℤ◌}
use Rattle.std.specs.List.{AllByRecursion}
use Rattle.std.proofs.lemmas.Int.{ints}
use Rattle.std.proofs.lemmas.List.{take_all}
use Rattle.std.proofs.lemmas.List.Elements.{Contains-append_cases}
use Rattle.lrp_theory.proofs.Members.{front_more, in_none, in_one}
use Rattle.lrp_plan_laws.proofs.Members.{all_by}
use Rattle.lrp_theory.specs.Divides.{Divides, IsLcm}
use Rattle.lrp_theory.proofs.Modulo.{multiple_below, Divides-self}
use Rattle.lrp_theory.proofs.Multiples.{Divides-trans, lcm_divides}
use Rattle.lrp_model.specs.declared.formulas.Test.{Test}
use Rattle.lrp_tables.specs.Calls.{test_period}
use Rattle.lrp_periods.specs.Parts.{IsSmallPeriod}
use Rattle.lrp_model.specs.declared.relations.Value.{Value}
use Rattle.lrp_periods.specs.Periods.{IsCommonPeriod, IsOwnPeriod, IsValuePeriod}

pub natural : (z : ℤ) → pos 1 ≤ℤ z → pos (nat_abs z) ≡ z
natural z l = omega (arith, ints)

-- a divisor of a small period is small
pub own_low : (whole p : ℤ) → IsSmallPeriod whole → IsOwnPeriod whole p → p ≤ℤ whole
own_low whole p small own = by (compare whole p)
  where
    compare : (a b : ℤ) → (a <ℤ b) ⊎ (b ≤ℤ a)
    compare a b = grind (arith, ints)

    by : (whole <ℤ p) ⊎ (p ≤ℤ whole) → p ≤ℤ whole
    by (inl l) = absurd (let z : whole ≤ℤ pos 0 = multiple_below p whole own.divides own.low l in let o : pos 1 ≤ℤ whole = small.low in omega (arith, ints))
    by (inr h) = h

pub own_high : (whole p : ℤ) → IsSmallPeriod whole → IsOwnPeriod whole p → nat_abs p ≤ 2 ^ 56
own_high whole p small own = let l : p ≤ℤ whole = own_low whole p small own in let a : pos 1 ≤ℤ p = own.low in let h : nat_abs whole ≤ 2 ^ 56 = small.high in omega (arith, ints)

-- a small period is its word
pub word_is : (z : ℤ) → pos 1 ≤ℤ z → nat_abs z ≤ 2 ^ 56 → to_z w64 (of_z w64 z) ≡ z
word_is z low high = omega (arith, ints)

pub own_word : {whole p : ℤ} → IsSmallPeriod whole → IsOwnPeriod whole p → to_z w64 (of_z w64 p) ≡ p
own_word {whole} {p} small own = word_is p own.low (own_high whole p small own)

pub whole_word : {whole : ℤ} → IsSmallPeriod whole → to_z w64 (of_z w64 whole) ≡ whole
whole_word {whole} small = word_is whole small.low small.high

pub whole_own : {whole : ℤ} → IsSmallPeriod whole → IsOwnPeriod whole whole
whole_own {whole} small = record { low = small.low; divides = Divides-self whole }

pub worded_own : {whole p : ℤ} → IsSmallPeriod whole → IsOwnPeriod whole p → IsOwnPeriod (to_z w64 (of_z w64 whole)) (to_z w64 (of_z w64 p))
worded_own {whole} {p} small own = subst (λ w. IsOwnPeriod w (to_z w64 (of_z w64 p))) (sym (whole_word small)) (subst (IsOwnPeriod whole) (sym (own_word small own)) own)

pub worded_whole : {whole : ℤ} → IsSmallPeriod whole → IsSmallPeriod (to_z w64 (of_z w64 whole))
worded_whole small = subst IsSmallPeriod (sym (whole_word small)) small

-- the words of what a call is given are taken away
pub common_plain : {left right whole k : ℤ} → IsSmallPeriod whole → IsOwnPeriod whole left → IsOwnPeriod whole right → IsCommonPeriod (to_z w64 (of_z w64 left)) (to_z w64 (of_z w64 right)) (to_z w64 (of_z w64 whole)) k → IsCommonPeriod left right whole k
common_plain {left} {right} {whole} {k} small l r is = subst (λ w. IsCommonPeriod left right w k) (whole_word small) (subst (λ a. IsCommonPeriod left a (to_z w64 (of_z w64 whole)) k) (own_word small r) (subst (λ a. IsCommonPeriod a (to_z w64 (of_z w64 right)) (to_z w64 (of_z w64 whole)) k) (own_word small l) is))

-- a result is put into a word
pub common_word : {left right whole k : ℤ} → IsSmallPeriod whole → IsCommonPeriod left right whole k → IsCommonPeriod left right whole (to_z w64 (of_z w64 k))
common_word {left} {right} {whole} {k} small is = subst (IsCommonPeriod left right whole) (sym (own_word small is.own)) is

-- both
pub common_own : {left right whole k : ℤ} → IsSmallPeriod whole → IsOwnPeriod whole left → IsOwnPeriod whole right → IsCommonPeriod (to_z w64 (of_z w64 left)) (to_z w64 (of_z w64 right)) (to_z w64 (of_z w64 whole)) k → IsCommonPeriod left right whole (to_z w64 (of_z w64 k))
common_own small l r is = common_word small (common_plain small l r is)

-- the same where only the first of two is in a word
pub test_own : {left right whole k : ℤ} → IsSmallPeriod whole → IsOwnPeriod whole left → IsCommonPeriod (to_z w64 (of_z w64 left)) right (to_z w64 (of_z w64 whole)) k → IsCommonPeriod left right whole (to_z w64 (of_z w64 k))
test_own {left} {right} {whole} {k} small l is = common_word small (subst (λ w. IsCommonPeriod left right w k) (whole_word small) (subst (λ a. IsCommonPeriod a right (to_z w64 (of_z w64 whole)) k) (own_word small l) is))

pub lcm_common : {left right whole k : ℤ} → IsSmallPeriod whole → IsOwnPeriod whole left → IsOwnPeriod whole right → pos 1 ≤ℤ k → IsLcm (nat_abs (to_z w64 (of_z w64 left))) (nat_abs (to_z w64 (of_z w64 right))) (nat_abs k) → IsCommonPeriod left right whole k
lcm_common {left} {right} {whole} {k} small l r low is = record {
  own = record { low = low; divides = subst (λ z. Divides z whole) k_is (lcm_divides (nat_abs left) (nat_abs right) (nat_abs k) whole here (subst (λ z. Divides z whole) (sym l_is) l.divides) (subst (λ z. Divides z whole) (sym r_is) r.divides)) };
  of_left = subst (λ z. Divides z k) l_is (subst (Divides (pos (nat_abs left))) k_is here.common.0);
  of_right = subst (λ z. Divides z k) r_is (subst (Divides (pos (nat_abs right))) k_is here.common.1.0);
}
  where
    k_is : pos (nat_abs k) ≡ k
    k_is = natural k low

    l_is : pos (nat_abs left) ≡ left
    l_is = natural left l.low

    r_is : pos (nat_abs right) ≡ right
    r_is = natural right r.low

    here : IsLcm (nat_abs left) (nat_abs right) (nat_abs k)
    here = subst (λ z. IsLcm (nat_abs left) (nat_abs z) (nat_abs k)) (own_word small r) (subst (λ z. IsLcm (nat_abs z) (nat_abs (to_z w64 (of_z w64 right))) (nat_abs k)) (own_word small l) is)

pub whole_common : {left right whole : ℤ} → IsSmallPeriod whole → IsOwnPeriod whole left → IsOwnPeriod whole right → IsCommonPeriod left right whole whole
whole_common small l r = record { own = whole_own small; of_left = l.divides; of_right = r.divides }

-- 1 divides each period
pub one_own : {whole : ℤ} → IsOwnPeriod whole (pos 1)
one_own {whole} = record { low = (let o : pos 1 ≤ℤ pos 1 = omega (arith, ints) in o); divides = record { times = whole; is = omega (arith, ints) } }

pub own_within : (whole p : ℤ) → IsSmallPeriod whole → IsOwnPeriod whole p → nat_abs p ≤ nat_abs whole
own_within whole p small own = let l : p ≤ℤ whole = own_low whole p small own in let a : pos 1 ≤ℤ p = own.low in let h : pos 1 ≤ℤ whole = small.low in omega (arith, ints)

-- an own period is one of those that a common multiple is found of
pub word_bounds : {whole p : ℤ} → IsSmallPeriod whole → IsOwnPeriod whole p → (pos 1 ≤ℤ to_z w64 (of_z w64 p)) × (to_z w64 (of_z w64 p) ≤ℤ pos (2 ^ 62))
word_bounds {whole} {p} small own = subst (λ z. (pos 1 ≤ℤ z) × (z ≤ℤ pos (2 ^ 62))) (sym (own_word small own)) (own.low, high p own.low (own_high whole p small own))
  where
    high : (z : ℤ) → pos 1 ≤ℤ z → nat_abs z ≤ 2 ^ 56 → z ≤ℤ pos (2 ^ 62)
    high z l h = omega (arith, ints)

-- ---- tests

-- the period 1 adds nothing
pub one_common : {own whole : ℤ} → IsOwnPeriod whole own → IsCommonPeriod own (pos 1) whole own
one_common {own} {whole} is = record { own = is; of_left = Divides-self own; of_right = record { times = own; is = omega (arith, ints) } }

-- the period of the first n tests
pub record HasPeriodsOf (whole : ℤ) (tests : List Test) (own : ℤ) : Type 0 where
  pub own_is : IsOwnPeriod whole own
  pub each : (test : Test) → Contains tests test → Divides (test_period test) own

pub periods_none : {whole own : ℤ} (tests : List Test) (n : ℕ) → n ≡ 0 → own ≡ pos 1 → HasPeriodsOf whole (take n tests) own
periods_none {whole} {own} tests n e f = subst (HasPeriodsOf whole (take n tests)) (sym f) (record { own_is = one_own; each = λ test k. absurd (in_none test (subst (λ m. Contains (take m tests) test) e k)) })

pub periods_more : {whole own new : ℤ} (tests : List Test) (n : ℕ) (test : Test) → n < length tests → test ≡ get_or tests n test → HasPeriodsOf whole (take n tests) own → IsCommonPeriod own (test_period test) whole new → HasPeriodsOf whole (take (n + 1) tests) new
periods_more {whole} {own} {new} tests n test low at h c = subst (λ ts. HasPeriodsOf whole ts new) (sym (front_more tests n test low at)) (record {
  own_is = c.own;
  each = λ other k. elim (Contains-append_cases (take n tests) (test ∷ []) other k) [
    | inl a ↦ Divides-trans (test_period other) own new (h.each other a) c.of_left
    | inr b ↦ subst (λ t. Divides (test_period t) new) (in_one test other b) c.of_right
  ];
})

pub periods_all : {whole own : ℤ} (tests : List Test) (n : ℕ) → length tests ≤ n → HasPeriodsOf whole (take n tests) own → AllByRecursion (λ test. Divides (test_period test) own) tests
periods_all {whole} {own} tests n high h = all_by _ tests (λ test k. h.each test (subst (λ ts. Contains ts test) (sym (take_all n tests high)) k))

-- what holds of a small period holds of its word, and the other way round
pub in_word : {period : ℤ} → IsSmallPeriod period → (P : ℤ → Type 0) → P period → P (to_z w64 (of_z w64 period))
in_word small P h = subst P (sym (whole_word small)) h

pub of_word : {period : ℤ} → IsSmallPeriod period → (P : ℤ → Type 0) → P (to_z w64 (of_z w64 period)) → P period
of_word small P h = subst P (whole_word small) h

pub test_plain : {left right whole k : ℤ} → IsSmallPeriod whole → IsOwnPeriod whole left → IsCommonPeriod (to_z w64 (of_z w64 left)) right (to_z w64 (of_z w64 whole)) k → IsCommonPeriod left right whole k
test_plain {left} {right} {whole} {k} small l is = subst (λ w. IsCommonPeriod left right w k) (whole_word small) (subst (λ a. IsCommonPeriod a right (to_z w64 (of_z w64 whole)) k) (own_word small l) is)

-- where the whole one is a word already
pub test_left : {left right whole k : ℤ} → IsSmallPeriod whole → IsOwnPeriod whole left → IsCommonPeriod (to_z w64 (of_z w64 left)) right whole k → IsCommonPeriod left right whole k
test_left {left} {right} {whole} {k} small l is = subst (λ a. IsCommonPeriod a right whole k) (own_word small l) is

pub value_left : {left whole k : ℤ} {value : Value} → IsSmallPeriod whole → IsOwnPeriod whole left → IsValuePeriod whole (to_z w64 (of_z w64 left)) value k → IsValuePeriod whole left value k
value_left {left} {whole} {k} {value} small l is = subst (λ a. IsValuePeriod whole a value k) (own_word small l) is
