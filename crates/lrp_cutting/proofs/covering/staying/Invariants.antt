-- Those of the first places that stay are kept.
use Rattle.lrp_cutting.proofs.CoverLaws.{AreKeptOf}
use Rattle.lrp_cutting.proofs.covering.staying.Given as goal

abbrev pub invariant-loop-place : goal.invariant-loop-place
invariant-loop-place l = AreKeptOf l.zones l.out l.place l.kept
