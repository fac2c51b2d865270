-- The first intervals are merged.
use Rattle.std.proofs.Common.{take, ◌∷◌}
use Rattle.lrp_cutting.proofs.AddingLaws.{AreAdding}
use Rattle.lrp_cutting.proofs.line.add_merged.Given as goal

abbrev pub invariant-loop-next : goal.invariant-loop-next
invariant-loop-next l = AreAdding l.cell l.zone (l.initial.last ∷ take l.next-index l.rest) l.fn.made l.made l.last
