-- Lists of the same length are equal where their texts are.
use Rattle.std.proofs.Common.{◌≡◌, length, arith}
use Rattle.lrp_watch.proofs.KeptParts.{same_texts_all}
use Rattle.lrp_watch.proofs.keeping.is_same_domain.Goals as goal

pub returns : goal.returns
returns c = λ e.
    let left : c.len.result ≡ length c.args.left.now = c.len.ensures.count in
    let right : c.len-2.result ≡ length c.args.right.now = c.len-2.ensures.count in
    let end : c.len-number-end.result ≡ length c.args.left.now = c.len-number-end.ensures.count in
    same_texts_all c.args.left.now c.args.right.now (omega (arith, left, right, c.if-len.false)) (λ i l. c.loop-number.invariant i (omega (arith, l, end, c.loop-number-test.false)))
