-- The least common multiple of other lists with the same members, and that of a period and further numbers.
use Rattle.std.proofs.Common.{◌≡◌, ◌≤◌, ◌<◌, ◌^◌, ℕ, List, [], ◌∷◌, Option, Some, None, Contains, subst, ⊎_elim, arith}
use Rattle.std.specs.List.{AllByRecursion}
use Rattle.std.proofs.lemmas.Bool.{cases_lt}
use Rattle.lrp_theory.specs.Divides.{IsMultiple, IsCommon}
use Rattle.lrp_model.specs.Periods.{lcm, lcm_all}
use Rattle.lrp_theory.proofs.Multiples.{same_multiples}
use Rattle.lrp_plan_laws.proofs.Members.{all_from}
use Rattle.lrp_plan_laws.proofs.PeriodLaws.{lcm_all_is, lcm_common, lcm_least, lcm_positive}
use Rattle.lrp_limits.specs.Multiples.{IsLeastWithinLimit, IsPeriod, IsPeriodOf}
use Rattle.lrp_limits.proofs.Keeping.{least_is}

-- lists with the same members have the same common multiples
pub common_from : (ks ls : List ℕ) (n : ℕ) → AllByRecursion (Contains ks) ls → IsCommon ks n → IsCommon ls n
common_from ks ls n h c = all_from (λ k. IsMultiple k n) ks ls h c

-- and the same least one
pub least_from : (ks ls : List ℕ) (k : ℕ) → AllByRecursion (Contains ks) ls → AllByRecursion (Contains ls) ks → IsLeastWithinLimit ks k → IsLeastWithinLimit ls k
least_from ks ls k h g least = record { period = least.period; multiples = λ n. let m = least.multiples n in ((λ x. common_from ks ls n h (m.0 x)), λ c. m.1 (common_from ls ks n g c)) }

pub none_from : (ks ls : List ℕ) → AllByRecursion (Contains ls) ks → IsPeriodOf ks None → IsPeriodOf ls None
none_from ks ls g none n p c = none n p (common_from ls ks n g c)

-- either way
pub period_from : (ks ls : List ℕ) (o : Option ℕ) → AllByRecursion (Contains ks) ls → AllByRecursion (Contains ls) ks → IsPeriodOf ks o → IsPeriodOf ls o
period_from ks ls (Some k) h g least = least_from ks ls k h g least
period_from ks ls None h g none = none_from ks ls g none

-- where there is none up to 2^62, the least common multiple is above
pub above : (ks : List ℕ) → AllByRecursion (λ k. 1 ≤ k) ks → IsPeriodOf ks None → 2 ^ 62 < lcm_all ks
above ks h none =
    ⊎_elim (λ lt. lt)
    (λ le. absurd (none (lcm_all ks) (record { low = lcm_positive ks h; high = le }) (lcm_all_is ks h).common))
    (cases_lt (2 ^ 62) (lcm_all ks))

-- a period is the least common multiple of itself
pub least_of_one : (k : ℕ) → IsPeriod k → IsLeastWithinLimit (k ∷ []) k
least_of_one k p = record { period = p; multiples = λ n. ((λ m. (m, tt)), λ c. c.0) }

pub lcm_swapped : (a b : ℕ) → 1 ≤ a → 1 ≤ b → lcm a b ≡ lcm b a
lcm_swapped a b h i =
    let c = lcm_common a b h in
    let d = lcm_common b a i in
    same_multiples (lcm a b) (lcm b a) (lcm_least a b (lcm b a) h d.1 d.0) (lcm_least b a (lcm a b) i c.1 c.0)

-- the period and further numbers: their least common multiple, or none up to 2^62
pub raised : (k : ℕ) (ks : List ℕ) (m : ℕ) → 1 ≤ k → AllByRecursion (λ l. 1 ≤ l) ks → IsPeriodOf (k ∷ ks) (Some m) → m ≡ lcm (lcm_all ks) k
raised k ks m low each least = let e : m ≡ lcm k (lcm_all ks) = least_is (k ∷ ks) m least in let f = lcm_swapped k (lcm_all ks) low (lcm_positive ks each) in omega (arith, e, f)

pub raised_above : (k : ℕ) (ks : List ℕ) → 1 ≤ k → AllByRecursion (λ l. 1 ≤ l) ks → IsPeriodOf (k ∷ ks) None → 2 ^ 62 < lcm (lcm_all ks) k
raised_above k ks low each none = subst (λ m. 2 ^ 62 < m) (lcm_swapped k (lcm_all ks) low (lcm_positive ks each)) (above (k ∷ ks) (low, each) none)
