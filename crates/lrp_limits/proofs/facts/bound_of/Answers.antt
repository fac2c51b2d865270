use Rattle.std.proofs.Common.{nat_abs, pos, arith}
use Rattle.lrp_model.specs.declared.relations.Bound.{Bound}
use Rattle.lrp_limits.proofs.Greatest.{greatest_map_at}
use Rattle.lrp_limits.proofs.facts.bound_of.Goals as goal

pub loop-bound-preserved : goal.loop-bound-preserved
loop-bound-preserved c =
    let e = greatest_map_at (λ (b : Bound). nat_abs b.most) c.as_slice-bound-items.result.now c.loop-bound.bound-index (record { left = 0; right = 0; most = pos 0 }) c.loop-bound-test.true in
    omega (arith, e, c.magnitude.ensures, c.max-most.ensures, c.loop-bound.invariant)
