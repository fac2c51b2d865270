-- The first places are decided.
use Rattle.lrp_cutting.specs.Covering.{AreLeftOut}
use Rattle.lrp_cutting.proofs.covering.left_out.Given as goal

abbrev pub invariant-loop-place : goal.invariant-loop-place
invariant-loop-place l = AreLeftOut l.zones l.place l.out.items
