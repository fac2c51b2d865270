-- The first cells are in the tree.
use Rattle.std.proofs.Common.{◌≡◌, take}
use Rattle.lrp_slots.specs.Keys.{entries_by}
use Rattle.lrp_slots.proofs.line.Line.tree.Given as goal

abbrev pub invariant-loop-i : goal.invariant-loop-i
invariant-loop-i g l = l.tree ≡ take l.i (entries_by g.K.Key.cell_of l.self-inside.entries.items)
