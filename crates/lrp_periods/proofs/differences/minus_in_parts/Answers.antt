-- What is left of one left part after another is added.
use Rattle.std.proofs.Common.{arith, to_z, of_z, w64}
use Rattle.std.specs.Prelude.{◌≤◌, length}
use Rattle.lrp_cutting.proofs.Lists.{read}
use Rattle.lrp_periods.proofs.Words.{minus_word}
use Rattle.lrp_periods.proofs.Gathering.{can_put, finished_word, made_all, put_more, put_none}
use Rattle.lrp_periods.proofs.TakenApart.{all_taken, can_take_all, minus_each, minus_made}
use Rattle.lrp_periods.proofs.differences.minus_in_parts.Goals as goal

pub loop-left-init : goal.loop-left-init
loop-left-init c = put_none (minus_each (minus_word c.requires)) c.args.lefts.now c.new-parts.ensures

pub left_of-requires : goal.left_of-requires
left_of-requires c = (can_take_all (minus_word c.requires) (read c.args.lefts.now c.loop-left.left-index c.left-item.result c.loop-left-test.true c.left-item.is))

pub add_part-requires : goal.add_part-requires
add_part-requires c = (
  to_z w64 (of_z w64 c.args.period),
  can_put (minus_word c.requires).period_is c.loop-left.invariant
      (minus_made (minus_word c.requires) c.left-item.result (read c.args.lefts.now c.loop-left.left-index c.left-item.result c.loop-left-test.true c.left-item.is)
      c.in_ok-made.ensures),
)

pub loop-left-preserved : goal.loop-left-preserved
loop-left-preserved c =
    let made = minus_made (minus_word c.requires) c.left-item.result (read c.args.lefts.now c.loop-left.left-index c.left-item.result c.loop-left-test.true c.left-item.is)
    c.in_ok-made.ensures in
    put_more (minus_each (minus_word c.requires)) c.args.lefts.now c.loop-left.left-index c.left-item.result c.loop-left-test.true c.left-item.is c.loop-left.invariant made (c.in_ok-more.ensures (to_z w64 (of_z w64 c.args.period)) (can_put (minus_word c.requires).period_is c.loop-left.invariant made))

pub returns : goal.returns
returns c = finished_word _ _ _ _ _ c.requires.period_is c.some.result c.some.ensures.same c.some.ensures.some (all_taken (minus_word c.requires) (made_all (minus_each (minus_word c.requires)) c.args.lefts.now c.loop-left.left-index (let l : length c.args.lefts.now ≤ c.loop-left.left-index = omega (arith, c.loop-left-test.false) in l) c.loop-left.invariant))
