-- One group of rows after another is scanned.
use Rattle.std.proofs.Common.{◌≡◌, length, arith, sym, subst, to_z, of_z, w64}
use Rattle.std.specs.Prelude.{Contains}
use Rattle.lrp_tables.proofs.Joining.{at_place}
use Rattle.lrp_periods.specs.Periods.{RowHasPeriods, IsOwnPeriod}
use Rattle.lrp_periods.specs.Scanning.{IsSplitBy}
use Rattle.lrp_periods.proofs.Gathering.{added_part, can_add}
use Rattle.lrp_periods.proofs.PeriodLaws.{in_word, of_word, own_word}
use Rattle.lrp_periods.proofs.ScanParts.{grouping_more, grouping_none, grouping_ok, grouping_rows, left_periods}
use Rattle.lrp_periods.proofs.scans.scan_groups.Goals as goal

pub loop-turn-init : goal.loop-turn-init
loop-turn-init c = λ can. grouping_none can c.new-parts.ensures c.in_ok-left.ensures

pub returns-then-len-eq0 : goal.returns-then-len-eq0
returns-then-len-eq0 c = grouping_ok c.requires c.some.result c.some.ensures.same c.some.ensures.some (let l : length c.loop-turn.left ≡ 0 = (let e = c.len.ensures in let z = c.if-len-eq0.true in omega (arith, e, z)) in l) (c.loop-turn.invariant c.requires)

pub row_period-own-requires-clause-row : goal.row_period-own-requires-clause-row
row_period-own-requires-clause-row c = in_word c.requires.period_is (λ p. RowHasPeriods p c.at.result.now) (left_periods c.requires (c.loop-turn.invariant c.requires) c.at.result.now (at_place c.loop-turn.left 0 c.at.result.now c.at.ensures))

pub split-requires-clause-rows : goal.split-requires-clause-rows
split-requires-clause-rows c = λ row k. in_word c.requires.period_is (λ p. RowHasPeriods p row) (left_periods c.requires (c.loop-turn.invariant c.requires) row (subst (λ rs. Contains rs row) c.as_slice.ensures k))

pub scan_rows-requires : goal.scan_rows-requires
scan_rows-requires c =
    let own = of_word c.requires.period_is (λ p. IsOwnPeriod p c.row_period-own.result) c.row_period-own.ensures.own in
    let split = of_word c.requires.period_is (λ p. IsSplitBy p (to_z w64 (of_z w64 c.row_period-own.result)) c.loop-turn.left c.in_ok-groups.groups) (subst (λ rs. IsSplitBy (to_z w64 (of_z w64 c.args.source.now.period)) (to_z w64 (of_z w64 c.row_period-own.result)) rs c.in_ok-groups.groups) c.as_slice.ensures c.in_ok-groups.ensures) in
    grouping_rows c.requires (c.loop-turn.invariant c.requires) (subst (IsOwnPeriod c.args.source.now.period) (sym (own_word c.requires.period_is own)) own) split

pub add_part-requires : goal.add_part-requires
add_part-requires c = (c.args.source.now.period, can_add c.requires.period_is (c.loop-turn.invariant c.requires).each c.in_ok-made.ensures)

pub loop-turn-preserved : goal.loop-turn-preserved
loop-turn-preserved c = λ can.
    let split = of_word can.period_is (λ p. IsSplitBy p (to_z w64 (of_z w64 c.row_period-own.result)) c.loop-turn.left c.in_ok-groups.groups) (subst (λ rs. IsSplitBy (to_z w64 (of_z w64 c.args.source.now.period)) (to_z w64 (of_z w64 c.row_period-own.result)) rs c.in_ok-groups.groups) c.as_slice.ensures c.in_ok-groups.ensures) in
    grouping_more can (c.loop-turn.invariant can) split (added_part c.in_ok-made.ensures (c.in_ok-more.ensures c.args.source.now.period (can_add can.period_is (c.loop-turn.invariant can).each c.in_ok-made.ensures)))
