-- One row more is split from the others.
use Rattle.std.proofs.Common.{◌≡◌, ◌≤◌, length, arith, refl, subst, to_z, of_z, w64}
use Rattle.std.proofs.lemmas.Int.{ints}
use Rattle.lrp_cutting.proofs.Lists.{read}
use Rattle.lrp_periods.specs.Periods.{RowHasPeriods}
use Rattle.lrp_periods.specs.Scanning.{IsSplitBy}
use Rattle.lrp_periods.proofs.PeriodLaws.{in_word, of_word, worded_whole}
use Rattle.lrp_periods.proofs.ScanParts.{row_same, split_all, split_none, split_other, split_same}
use Rattle.lrp_periods.proofs.scans.split.Goals as goal

pub loop-row-init : goal.loop-row-init
loop-row-init c = split_none _ _ c.args.rows.now 0 _ _ refl c.new-same.ensures c.new-others.ensures

pub row_period-period-requires-clause-row : goal.row_period-period-requires-clause-row
row_period-period-requires-clause-row c = in_word c.requires.whole (λ p. RowHasPeriods p c.row-item.result) (c.requires.rows c.row-item.result (read c.args.rows.now c.loop-row.row-index c.row-item.result c.loop-row-test.true c.row-item.is))

pub loop-row-preserved-then-is_same : goal.loop-row-preserved-then-is_same
loop-row-preserved-then-is_same c = split_same _ _ c.args.rows.now c.loop-row.row-index c.row-item.result c.in_ok-copy.copy c.loop-row.same _ c.loop-row.others c.loop-row-test.true c.row-item.is c.in_ok-copy.ensures (row_same (worded_whole c.requires.whole) c.row_period-period.ensures (c.is_same.ensures c.if-is_same.true)) c.in_ok-push.ensures.ok c.loop-row.invariant

pub loop-row-preserved : goal.loop-row-preserved
loop-row-preserved c = split_other _ _ c.args.rows.now c.loop-row.row-index c.row-item.result c.in_ok-copy.copy c.loop-row.same c.loop-row.others _ c.loop-row-test.true c.row-item.is c.in_ok-copy.ensures c.in_ok-push-2.ensures.ok c.loop-row.invariant

pub returns : goal.returns
returns c = of_word c.requires.whole (λ p. IsSplitBy p c.args.own c.args.rows.now (record { same = c.loop-row.same; others = c.loop-row.others })) (subst (λ o. IsSplitBy (to_z w64 (of_z w64 c.args.whole)) o c.args.rows.now (record { same = c.loop-row.same; others = c.loop-row.others })) (let w : to_z w64 (of_z w64 c.args.own) ≡ c.args.own = omega (arith, ints) in w)
    (split_all _ _ c.args.rows.now c.loop-row.row-index _ (let l : length c.args.rows.now ≤ c.loop-row.row-index = omega (arith, c.loop-row-test.false) in l) c.loop-row.invariant))
