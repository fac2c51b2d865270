-- The period of one value more.
use Rattle.std.proofs.Common.{refl, arith, to_z, w64}
use Rattle.lrp_cutting.proofs.Lists.{read}
use Rattle.lrp_plan_laws.proofs.Members.{all_of}
use Rattle.lrp_steps.specs.Rows.{DividesPeriod}
use Rattle.lrp_periods.specs.Periods.{IsRowPeriod}
use Rattle.lrp_periods.proofs.PeriodLaws.{in_word, of_word, worded_whole}
use Rattle.lrp_periods.proofs.ScanParts.{value_word, values_all, values_more, values_none}
use Rattle.lrp_periods.proofs.Words.{end_in, is_in, low_in}
use Rattle.lrp_periods.proofs.scans.row_period.Goals as goal

pub loop-value-init : goal.loop-value-init
loop-value-init c = values_none _ _ c.args.row.now.values 0 refl refl

pub with_value-own-requires-clause-own : goal.with_value-own-requires-clause-own
with_value-own-requires-clause-own c = c.loop-value.invariant.own_is

pub with_value-own-requires-clause-value : goal.with_value-own-requires-clause-value
with_value-own-requires-clause-value c = in_word c.requires.whole (λ p. DividesPeriod p c.value-item.result) (all_of (DividesPeriod c.args.whole) c.args.row.now.values c.value-item.result c.requires.row
    (read c.args.row.now.values c.loop-value.value-index c.value-item.result (low_in _ c.args.row.now.values c.loop-value.value-index c.as_slice-value-items.ensures c.loop-value-test.true) (is_in _ c.args.row.now.values c.loop-value.value-index c.value-item.result c.as_slice-value-items.ensures c.value-item.is)))

pub loop-value-preserved : goal.loop-value-preserved
loop-value-preserved c =
    let v = value_word (worded_whole c.requires.whole) c.with_value-own.ensures in
    values_more _ _ _ c.args.row.now.values c.loop-value.value-index c.value-item.result (low_in _ c.args.row.now.values c.loop-value.value-index c.as_slice-value-items.ensures c.loop-value-test.true) (is_in _ c.args.row.now.values c.loop-value.value-index c.value-item.result c.as_slice-value-items.ensures c.value-item.is) c.loop-value.invariant v.own_is v.of_own v.of_value

pub returns : goal.returns
returns c = of_word c.requires.whole (λ p. IsRowPeriod p c.args.row.now (to_z w64 c.loop-value.own-bits))
    (values_all _ _ c.args.row.now c.loop-value.value-index (end_in _ c.args.row.now.values c.loop-value.value-index c.as_slice-value-items.ensures (let l = c.loop-value-test.false in omega (arith, l))) c.loop-value.invariant)
