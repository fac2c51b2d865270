-- The points of one period that have together the members of a point.
use Rattle.std.specs.Prelude.{◌≡◌, ℕ, ℤ, zero, suc, ◌+◌, ◌*◌, ◌^◌, ◌<◌, ◌≤◌, List, [], ◌∷◌, length, get_or, pos, nat_abs}
use Rattle.lrp_point.specs.Points.{PointView, point, IsIn}

-- so many points of one period, whose offsets begin at next and grow by step
abbrev pub split_points : ℕ → ℕ → ℕ → ℕ → List PointView
split_points zero next step period = []
split_points (suc left) next step period = point next period ∷ split_points left (next + step) step period

-- what the iterator keeps: the offsets stay below the period
pub record StaysBelow (left next step period : ℕ) : Type 0 where
  pub below : (i : ℕ) → i < left → next + i * step < period
  pub step_high : step ≤ 2 ^ 62
  pub period_high : period ≤ 2 ^ 62

-- the points ps of period k, by ascending offsets, have together the members of p, and no two of them have a common one
pub record IsPointSplit (p : PointView) (k : ℤ) (ps : List PointView) : Type 0 where
  pub count : pos (length ps * p.period) ≡ k
  pub each : (i : ℕ) → i < length ps → get_or ps i p ≡ point (p.offset + i * p.period) (nat_abs k)
  pub to : (x : ℤ) → IsIn p x → (i : ℕ) × (i < length ps) × IsIn (get_or ps i p) x
  pub from : (x : ℤ) (i : ℕ) → i < length ps → IsIn (get_or ps i p) x → IsIn p x
  pub once : (x : ℤ) (i j : ℕ) → i < length ps → j < length ps → IsIn (get_or ps i p) x → IsIn (get_or ps j p) x → i ≡ j
