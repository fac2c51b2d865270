-- No bound so far is a negative one of a column from itself.
use Rattle.std.proofs.Common.{◌≡◌, ◌<◌, ℕ}
use Rattle.std.specs.Prelude.{pos, ◌<ℤ◌}
use Rattle.lrp_zone.specs.Given.{bound_at}
use Rattle.lrp_zone.proofs.gathering.has_negative.Given as goal

abbrev pub invariant-loop-bound : goal.invariant-loop-bound
invariant-loop-bound l = (i : ℕ) → i < l.bound-index → (bound_at l.bounds i).left ≡ (bound_at l.bounds i).right → (bound_at l.bounds i).most <ℤ pos 0 → ⊥
