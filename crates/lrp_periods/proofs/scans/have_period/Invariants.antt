-- The rows so far have the period.
use Rattle.std.proofs.Common.{take, Contains}
use Rattle.lrp_model.specs.declared.relations.Row.{Row}
use Rattle.lrp_periods.specs.Periods.{IsRowPeriod}
use Rattle.lrp_periods.proofs.scans.have_period.Given as goal

abbrev pub invariant-loop-row : goal.invariant-loop-row
invariant-loop-row l = (row : Row) → Contains (take l.row-index l.rows) row → IsRowPeriod l.fn.whole row l.fn.own
