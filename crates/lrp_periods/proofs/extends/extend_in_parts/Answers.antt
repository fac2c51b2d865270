-- One part after another is added over the head's columns.
use Rattle.std.proofs.Common.{arith, to_z, of_z, w64}
use Rattle.std.specs.Prelude.{◌≤◌, length}
use Rattle.lrp_cutting.proofs.Lists.{read}
use Rattle.lrp_periods.proofs.Extended.{all_extended, extend_each, extend_word, extended_part}
use Rattle.lrp_periods.proofs.Gathering.{can_put, finished_word, made_all, put_more, put_none}
use Rattle.lrp_periods.proofs.extends.extend_in_parts.Goals as goal

pub loop-part-init : goal.loop-part-init
loop-part-init c = put_none (extend_each (extend_word c.requires)) c.args.of.now c.new-parts.ensures

pub extend-requires : goal.extend-requires
extend-requires c = c.requires.columns_are c.part-item.result (read c.args.of.now c.loop-part.part-index c.part-item.result c.loop-part-test.true c.part-item.is)

pub add_part-requires : goal.add_part-requires
add_part-requires c = ((to_z w64 (of_z w64 c.args.period)), can_put (extend_word c.requires).operand.period_is c.loop-part.invariant (extended_part (extend_word c.requires) (read c.args.of.now c.loop-part.part-index c.part-item.result c.loop-part-test.true c.part-item.is) c.in_ok-extended.ensures.table c.in_ok-made.ensures.same c.in_ok-made.ensures.valid c.in_ok-made.ensures.reach))

pub loop-part-preserved : goal.loop-part-preserved
loop-part-preserved c =
    let made = extended_part (extend_word c.requires) (read c.args.of.now c.loop-part.part-index c.part-item.result c.loop-part-test.true c.part-item.is) c.in_ok-extended.ensures.table c.in_ok-made.ensures.same c.in_ok-made.ensures.valid c.in_ok-made.ensures.reach in
    put_more (extend_each (extend_word c.requires)) c.args.of.now c.loop-part.part-index c.part-item.result c.loop-part-test.true c.part-item.is c.loop-part.invariant made (c.in_ok-more.ensures (to_z w64 (of_z w64 c.args.period)) (can_put (extend_word c.requires).operand.period_is c.loop-part.invariant made))

pub returns : goal.returns
returns c = finished_word _ _ _ _ _ c.requires.operand.period_is c.some.result c.some.ensures.same c.some.ensures.some (all_extended (extend_word c.requires) (made_all (extend_each (extend_word c.requires)) c.args.of.now c.loop-part.part-index (let l : length c.args.of.now ≤ c.loop-part.part-index = omega (arith, c.loop-part-test.false) in l) c.loop-part.invariant))
