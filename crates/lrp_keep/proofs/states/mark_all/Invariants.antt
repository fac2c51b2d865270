use Rattle.lrp_keep.specs.States.{AreMarkedBy}
use Rattle.lrp_keep.proofs.states.mark_all.Given as goal

-- the relations so far have their numbers
abbrev pub invariant-loop-i : goal.invariant-loop-i
invariant-loop-i l = AreMarkedBy l.database l.i l.fn.rows l.rows
