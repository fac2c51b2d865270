use Rattle.lrp_kept.specs.Held.{greatest_bounds}
use Rattle.lrp_kept.proofs.Sized.{scaled_is}
use Rattle.lrp_kept.proofs.limits.scaled_reach.Goals as goal

pub returns : goal.returns
returns c =
    scaled_is (greatest_bounds c.args.relations.now) c.args.period.number c.args.disjuncts.now c.args.head.now c.sizes_of-most.result c.stepped.result c.doubled_times.result c.scaled.result
    c.sizes_of-most.ensures c.stepped.ensures c.doubled_times.ensures c.scaled.ensures
