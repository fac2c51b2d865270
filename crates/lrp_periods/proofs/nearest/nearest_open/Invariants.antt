-- No number of the ranks so far is open.
use Rattle.lrp_periods.proofs.NearestLaws.{AreNoneBefore}
use Rattle.lrp_periods.proofs.nearest.nearest_open.Given as goal

abbrev pub invariant-loop-place : goal.invariant-loop-place
invariant-loop-place l = AreNoneBefore l.covers l.place
