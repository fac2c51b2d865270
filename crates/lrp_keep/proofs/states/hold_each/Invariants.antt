use Rattle.lrp_keep.specs.States.{AreAllHeld}
use Rattle.lrp_keep.proofs.states.hold_each.Given as goal

-- the rows of the relations so far are held
abbrev pub invariant-loop-i : goal.invariant-loop-i
invariant-loop-i l = AreAllHeld l.of l.database l.i l.fn.rows l.rows
