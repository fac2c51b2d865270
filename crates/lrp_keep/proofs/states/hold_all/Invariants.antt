use Rattle.std.proofs.Common.{take}
use Rattle.lrp_keep.specs.States.{AreHeldAlso}
use Rattle.lrp_keep.proofs.states.hold_all.Given as goal

-- the rows so far are held
abbrev pub invariant-loop-row : goal.invariant-loop-row
invariant-loop-row l = AreHeldAlso l.of l.number (take l.row-index l.row-items) l.fn.rows l.rows
