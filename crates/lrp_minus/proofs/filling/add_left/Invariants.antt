-- The first pieces were added.
use Rattle.std.proofs.Common.{take, ◌+◌, ◌∷◌}
use Rattle.lrp_cutting.specs.Differences.{greatest_reach}
use Rattle.lrp_minus.proofs.FillingLaws.{AreFilled}
use Rattle.lrp_store.specs.Growing.{GrowsByAtMost}
use Rattle.lrp_minus.proofs.filling.add_left.Given as goal

abbrev pub invariant-loop-piece : goal.invariant-loop-piece
invariant-loop-piece l =
    AreFilled l.zone l.cutters (take l.initial.store.shape.texts l.cell.texts) l.cap (greatest_reach (l.zone ∷ l.cutters) + l.zone.period) l.initial.store l.store (take l.piece-index l.piece-items)
    × GrowsByAtMost l.piece-index l.cell l.initial.store l.store
