-- The columns before are listed.
use Rattle.lrp_cutting.specs.Leaving.{AreFromRow}
use Rattle.lrp_cutting.proofs.stored.push_row.Given as goal

abbrev pub invariant-loop-right : goal.invariant-loop-right
invariant-loop-right l = AreFromRow l.zone l.left l.right l.initial.made.items l.made.items
