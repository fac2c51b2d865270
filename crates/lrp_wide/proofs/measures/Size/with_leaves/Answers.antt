use Rattle.std.proofs.Common.{◌+◌, max, min, refl, arith}
use Rattle.lrp_wide.proofs.MeasureNumbers.{leaves, sized}
use Rattle.lrp_wide.proofs.measures.Size.with_leaves.Goals as goal

pub returns : goal.returns
returns c = λ f d h.
    let n = c.args.leaves in
    sized c.beside.result (f + n) (f + n) (max d 1) (max d (min n 1)) refl (omega (arith, c.if-leaves-eq0.false)) (c.beside.ensures f d n 1 h (leaves _ n c.ranges.leaves.fits refl refl))
