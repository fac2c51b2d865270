-- The spans of the cells that are not left are gathered.
use Rattle.lrp_spans.proofs.GroupLaws.{AreGathering}
use Rattle.lrp_spans.proofs.groups.groups_of.Given as goal

abbrev pub invariant-loop-cell : goal.invariant-loop-cell
invariant-loop-cell l = AreGathering l.store l.cell-iterator l.groups.lists
