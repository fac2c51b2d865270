use Rattle.std.proofs.Common.{◌≡◌, ◌<◌, length, get_or, subst, arith}
use Rattle.lrp_limits.proofs.Greatest.{greatest_map_step}
use Rattle.lrp_kept.specs.Held.{greatest_bounds}
use Rattle.lrp_kept.specs.Sizes.{joined_reach}
use Rattle.lrp_kept.proofs.limits.atoms_reach.Goals as goal

pub loop-atom-preserved : goal.loop-atom-preserved
loop-atom-preserved c =
    let low : c.loop-atom.atom-index < length c.args.atoms.now.items = subst (λ xs. c.loop-atom.atom-index < length xs) c.deref-atom-items.ensures.value c.loop-atom-test.true in
    let is : c.atom-item.result ≡ get_or c.args.atoms.now.items c.loop-atom.atom-index c.atom-item.result = subst (λ xs. c.atom-item.result ≡ get_or xs c.loop-atom.atom-index c.atom-item.result) c.deref-atom-items.ensures.value c.atom-item.is in
    let e = greatest_map_step (joined_reach (greatest_bounds c.args.relations.now) c.args.period.number) c.args.atoms.now.items c.loop-atom.atom-index c.atom-item.result low is in
    omega (arith, e, c.atom_reach.ensures, c.max-reach.ensures, c.loop-atom.invariant)
