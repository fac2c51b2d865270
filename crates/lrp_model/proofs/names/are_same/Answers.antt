use Rattle.std.proofs.Common.{◌≡◌, ap, sym, ◌∙◌, length, take, arith}
use Rattle.std.proofs.Math.Seq.{take-length}
use Rattle.std.proofs.lemmas.Slice.Eq.{bytes_eq-Decides}
use Rattle.lrp_model.proofs.names.are_same.Goals as goal

pub returns : goal.returns
returns c =
    let left = c.args.left.now in
    let right = c.args.right.now in
    let sizes : length left ≡ length right = grind (arith, c.if-left-right.false) in
    let last : c.loop-i.i ≡ length left = omega (arith, c.loop-i-test.false, c.loop-i.auto.i-end) in
    let same : left ≡ right =
    sym (take-length left) ∙ ap (λ n. take n left) (sym last) ∙ c.loop-i.invariant ∙ ap (λ n. take n right) (last ∙ sizes) ∙ take-length right in
    sym ((bytes_eq-Decides left right).1 same)
