-- The tuples of the zones so far meet the bound.
use Rattle.lrp_hulls.proofs.Commoned.{MetBefore}
use Rattle.lrp_hulls.proofs.common.common_bound.Given as goal

abbrev pub invariant-loop-number : goal.invariant-loop-number
invariant-loop-number l = MetBefore l.pieces l.i l.j l.number l.most
