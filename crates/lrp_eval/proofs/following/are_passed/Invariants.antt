-- The steps so far are passed.
use Rattle.std.proofs.Common.{ℕ, suc, ◌+◌, ◌≤◌, ◌<◌}
use Rattle.lrp_eval.specs.Freeing.{IsDone}
use Rattle.lrp_eval.proofs.following.are_passed.Given as goal

abbrev pub invariant-loop-place : goal.invariant-loop-place
invariant-loop-place l = (i : ℕ) → l.at ≤ i → i < l.place → IsDone l.readers (suc (l.at + l.count)) i
