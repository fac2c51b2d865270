use Rattle.std.proofs.Common.{◌<◌, arith, length, get_or}
use Rattle.std.proofs.lemmas.Option.{slice_get-get_or}
use Rattle.lrp_kept.proofs.spans.are_apart_somewhere.Goals as goal

pub returns-then-is_apart : goal.returns-then-is_apart
returns-then-is_apart c =
    let left : c.loop-i.i < length c.args.left.now = omega (arith, c.requires.left, c.requires.few, c.loop-i-test.true) in
    let right : c.loop-i.i < length c.args.right.now = omega (arith, c.requires.right, c.requires.few, c.loop-i-test.true) in
    λ e xs h g. c.is_apart.ensures c.if-is_apart.true (xs c.loop-i.i)
    (h.each c.loop-i.i (get_or c.args.left.now c.loop-i.i c.index-left-i.result) (slice_get-get_or c.args.left.now c.loop-i.i c.index-left-i.result left))
    (g.each c.loop-i.i (get_or c.args.right.now c.loop-i.i c.index-right-i.result) (slice_get-get_or c.args.right.now c.loop-i.i c.index-right-i.result right))
