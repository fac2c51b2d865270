-- The first one with the later end of the two.
use Rattle.std.proofs.Common.{◌≡◌, ◌∙◌, arith, to_z, of_z, w64}
use Rattle.std.proofs.lemmas.Int.{ints}
use Rattle.lrp_cutting.proofs.line.grown.Goals as goal

pub returns : goal.returns
returns c = λ z e low last next.
    let w : to_z w64 (of_z w64 c.args.period) ≡ c.args.period = omega (arith, ints, c.ranges.period.sfits) in
    c.joined.ensures z low last next (c.begins_by.ensures c.if-not-begins_by.false) (λ a. cc ((c.is_apart.ensures z.period (w ∙ e)).1 a, c.if-is_apart.false))
