-- The table has the assignments of the parts so far.
use Rattle.lrp_periods.specs.Operations.{AreOperand}
use Rattle.lrp_periods.proofs.Brought.{IsWholeTo}
use Rattle.lrp_periods.proofs.wholes.whole.Given as goal

abbrev pub invariant-loop-part : goal.invariant-loop-part
invariant-loop-part l = (can : AreOperand l.setting.domain.now l.fn.period l.parts) → IsWholeTo l.setting.cap can l.part-index l.made
