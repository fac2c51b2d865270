-- The zones so far are far in turn.
use Rattle.lrp_cutting.proofs.SettledLaws.{IsInTurn}
use Rattle.lrp_cutting.proofs.settled.are_apart.Given as goal

abbrev pub invariant-loop-zone : goal.invariant-loop-zone
invariant-loop-zone l = IsInTurn l.fn.period l.first l.fn.rest l.last l.zone-iterator
