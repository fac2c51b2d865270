-- The first row is one of the rows.
use Rattle.lrp_cutting.proofs.Lists.{read}
use Rattle.lrp_periods.specs.Periods.{RowHasPeriods}
use Rattle.lrp_periods.proofs.PeriodLaws.{in_word, one_own}
use Rattle.lrp_periods.proofs.scans.first_period.Goals as goal

pub row_period-requires-clause-row : goal.row_period-requires-clause-row
row_period-requires-clause-row c = in_word c.requires.whole (λ p. RowHasPeriods p c.row-item.result) (c.requires.rows c.row-item.result (read c.args.rows.now 0 c.row-item.result c.in-len1-up.len_at_least c.row-item.is))

pub returns-in-empty : goal.returns-in-empty
returns-in-empty c = one_own
