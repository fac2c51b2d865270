-- The first column in which the windows differ decides, and before it there is one value in each.
use Rattle.std.proofs.Common.{◌≡◌, arith, below_more}
use Rattle.lrp_zone.specs.Order.{at}
use Rattle.lrp_cutting.proofs.ApartLaws.{before_here, same_more}
use Rattle.lrp_cutting.proofs.turns.comes_before.Goals as goal

pub returns-then-is_before : goal.returns-then-is_before
returns-then-is_before c = λ t.
    before_here c.args.zone.now c.args.next.now c.loop-i.i c.window_of-window.result c.window_of-other.result c.window_of-window.ensures.window c.window_of-other.ensures.window
    c.columns-columns.ensures.valid c.columns.ensures.valid (omega arith) c.loop-i.invariant (c.is_before.ensures c.if-is_before.true)

pub loop-i-preserved : goal.loop-i-preserved
loop-i-preserved c = λ xs ys m n.
    below_more (λ j. at ys j ≡ at xs j) c.loop-i.i (c.loop-i.invariant xs ys m n)
    (same_more c.args.zone.now c.args.next.now c.loop-i.i c.window_of-window.result c.window_of-other.result c.window_of-window.ensures.window c.window_of-other.ensures.window
    (c.have_one_value.ensures c.if-not-have_one_value.false) xs ys m n)
