-- Numbers for which a row has room.
use Rattle.std.proofs.Common.{◌≡◌, ℕ, zero, suc, ◌+◌, ◌*◌, ◌<◌, ◌≤◌, ◌^◌, List, [], ◌++◌, Option, None, Some, refl, sym, ap, subst, ◌∙◌, arith}
use Rattle.std.specs.Prelude.{◌↔◌, ℤ, pos, negsuc, nat_abs, ◌*ℤ◌, ◌≤ℤ◌, MatchOption, option_map}
use Rattle.std.proofs.lemmas.Int.{ints}
use Rattle.lrp_limits.specs.Facts.{KeepsMultiples}
use Rattle.lrp_limits.specs.Multiples.{IsLeastWithinLimit, IsPeriod, IsPeriodOf}
use Rattle.lrp_limits.specs.declared.periods.Period.{Period}
use Rattle.lrp_model.specs.Periods.{row_periods}
use Rattle.lrp_model.specs.declared.relations.Row.{Row}
use Rattle.lrp_theory.proofs.Multiples.{multiple_le}
use Rattle.lrp_theory.specs.Divides.{Divides, IsCommon, IsMultiple}
use Rattle.lrp_lint.specs.Contents.{HasPeriodRoom}
use Rattle.lrp_lint.specs.Flaws.{IsRowWithinLimits, row_reach}

-- one is the least common multiple of no numbers
least_of_none : IsLeastWithinLimit [] 1
least_of_none = record {
  period = record { low = omega arith; high = omega arith };
  multiples = λ n. (λ m. tt, λ c. record { times = pos n; is = omega (arith, ints) });
}

-- the least common multiple of a row's periods
pub period_is : (row : Row) (one : ℕ) (new : Option ℕ) → one ≡ 1 → KeepsMultiples (row_periods row) (Some one) new → IsPeriodOf (row_periods row) new
period_is row one new e k = k.keeps [] (subst (λ n. IsPeriodOf [] (Some n)) (sym e) least_of_none)

module _ (row : Row) where
  -- no number is a common multiple
  pub none_within : IsPeriodOf (row_periods row) None → IsRowWithinLimits row → ⊥
  none_within none w = none w.period (record { low = let l = w.low in omega (arith, l); high = let r = w.room in omega (arith, r) }) w.common

  -- the least one is too great
  pub beyond : (k : ℕ) → IsLeastWithinLimit (row_periods row) k → 2 ^ 62 < row_reach row + k → IsRowWithinLimits row → ⊥
  beyond k least far w = let m : k ≤ w.period = multiple_le k w.period (let l = w.low in omega (arith, l)) ((least.multiples w.period).1 w.common) in let r = w.room in omega (arith, m, r, far)

  -- it is one for which the row has room
  pub has_room : (k : ℕ) → IsLeastWithinLimit (row_periods row) k → row_reach row + k ≤ 2 ^ 62 → HasPeriodRoom row (pos k)
  has_room k least near = record {
    low = let l = least.period.low in omega (arith, ints, l);
    common = (least.multiples k).0 (record { times = pos 1; is = omega (arith, ints) });
    room = near;
  }

  pub room_found : (period : Period) (bound : ℕ) (found : Option ℤ) → IsPeriodOf (row_periods row) (Some period.number) → bound ≡ row_reach row → MatchOption found (2 ^ 62 < bound + period.number) (λ k. (k ≡ pos period.number) × (bound + period.number ≤ 2 ^ 62)) → MatchOption found (IsRowWithinLimits row → ⊥) (HasPeriodRoom row)
  room_found period bound None least e far = beyond period.number least (subst (λ b. 2 ^ 62 < b + period.number) e far)
  room_found period bound (Some k) least e near = subst (HasPeriodRoom row) (sym near.0) (has_room period.number least (subst (λ b. b + period.number ≤ 2 ^ 62) e near.1))

  -- such a row is within the limits
  pub within_limits : (k : ℤ) → HasPeriodRoom row k → IsRowWithinLimits row
  within_limits k h = record { period = nat_abs k; low = let l = h.low in omega (arith, ints, l); common = h.common; room = h.room }
