-- No place so far is after the last one.
use Rattle.std.proofs.Common.{ℕ, ◌<◌, ◌≤◌}
use Rattle.std.specs.Prelude.{slice_index_or}
use Rattle.lrp_minus.proofs.taking.last_of.Given as goal

abbrev pub invariant-loop-place : goal.invariant-loop-place
invariant-loop-place l = (i : ℕ) → i < l.place-index → slice_index_or l.places i 0 ≤ l.last
