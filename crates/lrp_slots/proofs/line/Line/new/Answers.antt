-- No cell ascends.
use Rattle.lrp_slots.proofs.Keyed.{empty_line}
use Rattle.lrp_slots.proofs.line.Line.new.Goals as goal

pub invariant_of-result : goal.invariant_of-result
invariant_of-result g c = empty_line g.K.Key.cell_of c.new.result.items c.new.ensures.items
