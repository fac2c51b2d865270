-- One row more has the period.
use Rattle.std.proofs.Common.{◌≡◌, ◌≤◌, length, arith, subst, to_z, of_z, w64}
use Rattle.std.proofs.lemmas.Int.{ints}
use Rattle.lrp_cutting.proofs.Lists.{read}
use Rattle.lrp_periods.specs.Periods.{RowHasPeriods, IsRowPeriod}
use Rattle.lrp_periods.proofs.PeriodLaws.{in_word, of_word, worded_whole}
use Rattle.lrp_periods.proofs.ScanParts.{have_all, have_more, have_none, row_same}
use Rattle.lrp_periods.proofs.scans.have_period.Goals as goal

pub loop-row-init : goal.loop-row-init
loop-row-init c = have_none _ _ c.args.rows.now

pub row_period-period-requires-clause-row : goal.row_period-period-requires-clause-row
row_period-period-requires-clause-row c = in_word c.requires.whole (λ p. RowHasPeriods p c.row-item.result) (c.requires.rows c.row-item.result (read c.args.rows.now c.loop-row.row-index c.row-item.result c.loop-row-test.true c.row-item.is))

pub loop-row-preserved : goal.loop-row-preserved
loop-row-preserved c = have_more _ _ c.args.rows.now c.loop-row.row-index c.row-item.result c.loop-row-test.true c.row-item.is (row_same (worded_whole c.requires.whole) c.row_period-period.ensures (c.is_same.ensures c.if-not-is_same.false)) c.loop-row.invariant

pub returns : goal.returns
returns c = λ e row k. of_word c.requires.whole (λ p. IsRowPeriod p row c.args.own) (subst (IsRowPeriod (to_z w64 (of_z w64 c.args.whole)) row) (let w : to_z w64 (of_z w64 c.args.own) ≡ c.args.own = omega (arith, ints) in w)
    (have_all _ _ c.args.rows.now c.loop-row.row-index (let l : length c.args.rows.now ≤ c.loop-row.row-index = omega (arith, c.loop-row-test.false) in l) c.loop-row.invariant row k))
