-- What is held in the zones that are after was added.
use Rattle.lrp_tables.specs.Pieces.{pieces_from}
use Rattle.lrp_steps.proofs.Likeness.{IsTaking, pieces_of}
use Rattle.lrp_steps.proofs.alike.add_zones.Given as goal

abbrev pub invariant-loop-cell : goal.invariant-loop-cell
invariant-loop-cell l = IsTaking l.store l.cap l.fn.out l.out (pieces_of l.cell-iterator)

abbrev pub invariant-loop-zone : goal.invariant-loop-zone
invariant-loop-zone l = IsTaking l.store l.cap l.fn.out l.out (pieces_from l.cell l.zone-iterator l.cell-iterator)
