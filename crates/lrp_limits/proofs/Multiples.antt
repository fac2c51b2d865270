-- Least common multiples by the numbers that they divide, and what one number more makes of them.
use Rattle.std.proofs.Common.{◌≡◌, ◌↔◌, ◌≤◌, ◌<◌, ◌/◌, ◌%◌, ◌^◌, ℕ, pos, List, [], ◌∷◌, ◌++◌, None, ⊎_elim, arith}
use Rattle.std.proofs.lemmas.Bool.{cases_lt}
use Rattle.lrp_theory.specs.Divides.{IsMultiple, IsLcm}
use Rattle.lrp_theory.proofs.Multiples.{Divides-trans, multiple_by, multiple_le, lcm_low}
use Rattle.lrp_point.specs.Points.{IsLcmAbove}
use Rattle.lrp_model.proofs.Logic.{all_append}
use Rattle.lrp_limits.specs.Multiples.{IsLeastWithinLimit, IsPeriodOf}

-- the multiples of the least common multiple are the common ones
lcm_multiples : (a b l n : ℕ) → IsLcm a b l → IsMultiple l n ↔ (IsMultiple a n × IsMultiple b n)
lcm_multiples a b l n h = (
  (λ m. (Divides-trans (pos a) (pos l) (pos n) h.common.0 m, Divides-trans (pos b) (pos l) (pos n) h.common.1.0 m)),
  λ m. h.least n (m.0, (m.1, tt)),
)

-- one number more
pub with_one : (ks : List ℕ) (k l m : ℕ) → IsLeastWithinLimit ks k → 1 ≤ l → m ≤ 2 ^ 62 → IsLcm k l m → IsLeastWithinLimit (ks ++ l ∷ []) m
with_one ks k l m h low high is = record {
  period = record { low = (let p : 0 < m = lcm_low k l m h.period.low low is in omega arith); high = high };
  multiples = λ n.
      let r = lcm_multiples k l m n is in
      let s = h.multiples n in
      let t = all_append (λ d. IsMultiple d n) ks (l ∷ []) in
      ((λ x. let y = r.0 x in t.1 (s.0 y.0, (y.1, tt))), λ x. let y = t.0 x in r.1 (s.1 y.0, y.1.0));
}

-- a divisor more
pub with_divisor : (ks : List ℕ) (k l : ℕ) → IsLeastWithinLimit ks k → 0 < l → k % l ≡ 0 → IsLeastWithinLimit (ks ++ l ∷ []) k
with_divisor ks k l h low r = record {
  period = h.period;
  multiples = λ n.
      let s = h.multiples n in
      let t = all_append (λ d. IsMultiple d n) ks (l ∷ []) in
      let own : IsMultiple l k = multiple_by (k / l) (omega arith) in
      ((λ x. t.1 (s.0 x, (Divides-trans (pos l) (pos k) (pos n) own x, tt))), λ x. s.1 (t.0 x).0);
}

-- a least common multiple above 2^62
pub with_above : (ks : List ℕ) (k l : ℕ) → IsLeastWithinLimit ks k → 1 ≤ l → IsLcmAbove k l (2 ^ 62) → IsPeriodOf (ks ++ l ∷ []) None
with_above ks k l h low above n p c =
    let x = (all_append (λ d. IsMultiple d n) ks (l ∷ [])).0 c in
    let r = lcm_multiples k l above.multiple n above.is in
    let m : IsMultiple above.multiple n = r.1 ((h.multiples n).1 x.0, x.1.0) in
    let le : above.multiple ≤ n = multiple_le above.multiple n p.low m in
    let high : n ≤ 2 ^ 62 = p.high in
    let far : 2 ^ 62 < above.multiple = above.above in
    absurd (omega arith)

-- a least common multiple that is not above a limit
pub not_above : (k l m limit : ℕ) → IsLcm k l m → (IsLcmAbove k l limit → ⊥) → m ≤ limit
not_above k l m limit is none = ⊎_elim (λ lt. absurd (none (record { multiple = m; is = is; above = lt }))) (λ le. le) (cases_lt limit m)
