use Rattle.std.proofs.Common.{map, ap, arith}
use Rattle.lrp_model.specs.Reach.{greatest, test_reach}
use Rattle.lrp_limits.proofs.Greatest.{greatest-append}
use Rattle.lrp_kept.specs.Held.{greatest_bounds}
use Rattle.lrp_kept.specs.Sizes.{joined_reach}
use Rattle.lrp_kept.proofs.limits.disjunct_reach.Goals as goal

pub returns : goal.returns
returns c =
    let e = greatest-append (map (joined_reach (greatest_bounds c.args.relations.now) c.args.period.number) c.args.disjunct.now.atoms.items) (map test_reach c.args.disjunct.now.tests) in
    let s = ap (λ ts. greatest (map test_reach ts)) c.as_slice.ensures in
    omega (arith, e, s, c.atoms_reach.ensures, c.tests_reach.ensures, c.max.ensures)
