-- One cell more goes to the end of the tree.
use Rattle.std.proofs.Common.{◌<◌, ◌∙◌, arith, length}
use Rattle.lrp_slots.proofs.Keyed.{one_more_key}
use Rattle.lrp_slots.proofs.line.Line.tree.Goals as goal

pub loop-i-preserved : goal.loop-i-preserved
loop-i-preserved g c =
    let lt : c.loop-i.i < length c.self.inside.entries.items = omega (arith, c.loop-i-test.true, c.len-i-end.ensures) in
    c.in_ok-insert.ensures.entries ∙ one_more_key g.K.Key.cell_of c.self.inside.entries.items c.loop-i.tree c.loop-i.i c.index.result.now c.cell.result c.self.invariant lt c.loop-i.invariant c.index.ensures c.cell.ensures
