-- The steps so far drop the names.
use Rattle.std.proofs.Common.{◌≡◌, ◌+◌, length}
use Rattle.lrp_eval.specs.Together.{AreDroppedFrom}
use Rattle.lrp_eval.proofs.following.names_dropped.Given as goal

abbrev pub invariant-loop-place : goal.invariant-loop-place
invariant-loop-place l = record {
  names : AreDroppedFrom l.steps l.at l.names;
  count : l.at + length l.names ≡ l.place;
}
