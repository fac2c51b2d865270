-- The intervals have the numbers of the zones so far.
use Rattle.std.proofs.Common.{[], ◌∷◌, ◌++◌}
use Rattle.lrp_cutting.proofs.Lists.{IsReadTo}
use Rattle.lrp_cutting.proofs.TurnLaws.{HaveRead}
use Rattle.lrp_cutting.proofs.line.intervals_in_turn.Given as goal

abbrev pub invariant-loop-zone : goal.invariant-loop-zone
invariant-loop-zone l = IsReadTo (HaveRead l.first l.fn.rest (l.made.items ++ l.last ∷ [])) l.fn.rest l.zone-iterator
