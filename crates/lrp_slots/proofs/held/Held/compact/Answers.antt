-- The cells of a tree stand in line.
use Rattle.std.proofs.Common.{◌≡◌, ◌++◌, ◌∙◌}
use Rattle.lrp_slots.proofs.Lines.{IsInTree, in_tree}
use Rattle.lrp_slots.proofs.held.Held.compact.Goals as goal

pub line_of-requires : goal.line_of-requires
line_of-requires c = (in_tree c.self.inside.line c.self.inside.tree c.args.self.now c.is_empty.result c.self.invariant c.self.view_is c.is_empty.ensures c.if-is_empty.false).ordered
