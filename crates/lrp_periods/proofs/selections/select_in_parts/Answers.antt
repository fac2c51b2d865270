-- The selection from one part after another is added.
use Rattle.std.proofs.Common.{arith, to_z, of_z, w64}
use Rattle.std.specs.Prelude.{◌≤◌, length}
use Rattle.lrp_cutting.proofs.Lists.{read}
use Rattle.lrp_periods.proofs.Words.{select_word}
use Rattle.lrp_periods.proofs.Gathering.{can_put, finished_word, made_all, put_more, put_none}
use Rattle.lrp_periods.proofs.OneByOne.{all_selected, can_select_part, select_each, select_made}
use Rattle.lrp_periods.proofs.selections.select_in_parts.Goals as goal

pub loop-part-init : goal.loop-part-init
loop-part-init c = put_none (select_each (select_word c.requires)) c.args.of.now c.new-parts.ensures

pub select_part-requires : goal.select_part-requires
select_part-requires c = (can_select_part (select_word c.requires) (read c.args.of.now c.loop-part.part-index c.part-item.result c.loop-part-test.true c.part-item.is))

pub add_part-requires : goal.add_part-requires
add_part-requires c = ((to_z w64 (of_z w64 c.args.period)), can_put (select_word c.requires).period_is c.loop-part.invariant (select_made (select_word c.requires) c.part-item.result (read c.args.of.now c.loop-part.part-index c.part-item.result c.loop-part-test.true c.part-item.is) c.in_ok-made.ensures))

pub loop-part-preserved : goal.loop-part-preserved
loop-part-preserved c =
    let made = select_made (select_word c.requires) c.part-item.result (read c.args.of.now c.loop-part.part-index c.part-item.result c.loop-part-test.true c.part-item.is) c.in_ok-made.ensures in
    put_more (select_each (select_word c.requires)) c.args.of.now c.loop-part.part-index c.part-item.result c.loop-part-test.true c.part-item.is c.loop-part.invariant made (c.in_ok-more.ensures (to_z w64 (of_z w64 c.args.period)) (can_put (select_word c.requires).period_is c.loop-part.invariant made))

pub returns : goal.returns
returns c = finished_word _ _ _ _ _ c.requires.period_is c.some.result c.some.ensures.same c.some.ensures.some (all_selected (select_word c.requires) (made_all (select_each (select_word c.requires)) c.args.of.now c.loop-part.part-index (let l : length c.args.of.now ≤ c.loop-part.part-index = omega (arith, c.loop-part-test.false) in l) c.loop-part.invariant))
