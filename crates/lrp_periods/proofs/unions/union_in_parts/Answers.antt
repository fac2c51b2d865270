-- First the parts of the left table are added, and then those of the right one.
use Rattle.std.proofs.Common.{arith, to_z, of_z, w64}
use Rattle.std.specs.Prelude.{◌≤◌, length}
use Rattle.lrp_cutting.proofs.Lists.{read}
use Rattle.lrp_periods.proofs.Words.{combine_word}
use Rattle.lrp_periods.proofs.Gathering.{can_put, finished_word, made_all, put_more, put_none}
use Rattle.lrp_periods.proofs.SideBySide.{all_united, both_all, both_begun, both_more, can_stand_beside, wide_each, wide_part}
use Rattle.lrp_periods.proofs.unions.union_in_parts.Goals as goal

pub loop-left-init : goal.loop-left-init
loop-left-init c = put_none (wide_each (combine_word c.requires)) c.args.lefts.now c.new-parts.ensures

pub left_beside-requires : goal.left_beside-requires
left_beside-requires c = ((to_z w64 (of_z w64 c.args.period)), can_stand_beside (combine_word c.requires) (read c.args.lefts.now c.loop-left.left-index c.left-item.result c.loop-left-test.true c.left-item.is) (read c.args.rights.now 0 c.index-rights-0.result c.requires.rights_are.some c.index-rights-0.is))

pub add_part-requires : goal.add_part-requires
add_part-requires c =
    let k = read c.args.lefts.now c.loop-left.left-index c.left-item.result c.loop-left-test.true c.left-item.is in
    let q = read c.args.rights.now 0 c.index-rights-0.result c.requires.rights_are.some c.index-rights-0.is in
    ((to_z w64 (of_z w64 c.args.period)), can_put (combine_word c.requires).period_is c.loop-left.invariant (wide_part (combine_word c.requires) c.left-item.result c.index-rights-0.result c.left-item.result k q (c.in_ok-made.ensures (to_z w64 (of_z w64 c.args.period)) (can_stand_beside (combine_word c.requires) k q))))

pub loop-left-preserved : goal.loop-left-preserved
loop-left-preserved c =
    let k = read c.args.lefts.now c.loop-left.left-index c.left-item.result c.loop-left-test.true c.left-item.is in
    let q = read c.args.rights.now 0 c.index-rights-0.result c.requires.rights_are.some c.index-rights-0.is in
    let made = wide_part (combine_word c.requires) c.left-item.result c.index-rights-0.result c.left-item.result k q (c.in_ok-made.ensures (to_z w64 (of_z w64 c.args.period)) (can_stand_beside (combine_word c.requires) k q)) in
    put_more (wide_each (combine_word c.requires)) c.args.lefts.now c.loop-left.left-index c.left-item.result c.loop-left-test.true c.left-item.is c.loop-left.invariant made (c.in_ok-more.ensures (to_z w64 (of_z w64 c.args.period)) (can_put (combine_word c.requires).period_is c.loop-left.invariant made))

pub loop-right-init : goal.loop-right-init
loop-right-init c = both_begun (combine_word c.requires) (made_all (wide_each (combine_word c.requires)) c.args.lefts.now c.loop-left.left-index (let l : length c.args.lefts.now ≤ c.loop-left.left-index = omega (arith, c.loop-left-test.false) in l) c.loop-left.invariant)

pub right_beside-requires : goal.right_beside-requires
right_beside-requires c = ((to_z w64 (of_z w64 c.args.period)), can_stand_beside (combine_word c.requires) (read c.args.lefts.now 0 c.index-lefts-0.result c.requires.lefts_are.some c.index-lefts-0.is) (read c.args.rights.now c.loop-right.right-index c.right-item.result c.loop-right-test.true c.right-item.is))

pub add_part-requires-in-loop-right : goal.add_part-requires-in-loop-right
add_part-requires-in-loop-right c =
    let k = read c.args.lefts.now 0 c.index-lefts-0.result c.requires.lefts_are.some c.index-lefts-0.is in
    let q = read c.args.rights.now c.loop-right.right-index c.right-item.result c.loop-right-test.true c.right-item.is in
    ((to_z w64 (of_z w64 c.args.period)), can_put (combine_word c.requires).period_is c.loop-right.invariant (wide_part (combine_word c.requires) c.index-lefts-0.result c.right-item.result c.right-item.result k q (c.in_ok-beside.ensures (to_z w64 (of_z w64 c.args.period)) (can_stand_beside (combine_word c.requires) k q))))

pub loop-right-preserved : goal.loop-right-preserved
loop-right-preserved c =
    let k = read c.args.lefts.now 0 c.index-lefts-0.result c.requires.lefts_are.some c.index-lefts-0.is in
    let q = read c.args.rights.now c.loop-right.right-index c.right-item.result c.loop-right-test.true c.right-item.is in
    let made = wide_part (combine_word c.requires) c.index-lefts-0.result c.right-item.result c.right-item.result k q (c.in_ok-beside.ensures (to_z w64 (of_z w64 c.args.period)) (can_stand_beside (combine_word c.requires) k q)) in
    both_more (combine_word c.requires) c.loop-right.right-index c.right-item.result c.loop-right-test.true c.right-item.is c.loop-right.invariant made (c.in_ok-both.ensures (to_z w64 (of_z w64 c.args.period)) (can_put (combine_word c.requires).period_is c.loop-right.invariant made))

pub returns : goal.returns
returns c = finished_word _ _ _ _ _ c.requires.period_is c.some.result c.some.ensures.same c.some.ensures.some (all_united (combine_word c.requires) (both_all (combine_word c.requires) c.loop-right.right-index (let l : length c.args.rights.now ≤ c.loop-right.right-index = omega (arith, c.loop-right-test.false) in l) c.loop-right.invariant))
