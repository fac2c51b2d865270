-- A cell is taken out under the keys that the cells have.
use Rattle.std.specs.Map.{remove_entry}
use Rattle.std.specs.BTreeMap.{is_at}
use Rattle.lrp_slots.specs.Lists.{cell_cmp}
use Rattle.lrp_slots.proofs.Lines.{IsInTree, in_line, in_tree, stands_in_tree, taken_in_line, taken_line}
use Rattle.lrp_slots.proofs.in_line.Lines.remove.Goals as goal

pub invariant_of-self : goal.invariant_of-self
invariant_of-self c =
    let t : IsInTree c.self.inside.narrow c.self.inside.medium c.args.self.now = in_tree c.self.inside.narrow c.self.inside.medium c.args.self.now c.is_empty.result c.self.invariant c.self.view_is c.is_empty.ensures c.if-not-is_empty.true in
    stands_in_tree c.self.inside.narrow c.remove.new.self (remove_entry (is_at (cell_cmp c.args.cell.now)) c.self.inside.medium) t.empty c.remove.ensures (taken_line c.self.inside.medium c.args.cell.now t.ordered)

pub invariant_of-self-2 : goal.invariant_of-self-2
invariant_of-self-2 c = (taken_in_line c.self.inside.narrow c.self.inside.medium c.args.self.now c.remove-2.new.self c.args.cell.now (in_line c.self.inside.narrow c.self.inside.medium c.args.self.now c.is_empty.result c.self.invariant c.self.view_is c.is_empty.ensures c.if-not-is_empty.false) c.remove-2.ensures).0
