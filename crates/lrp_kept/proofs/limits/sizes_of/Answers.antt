use Rattle.std.proofs.Common.{◌≡◌, length, vec_len, max, refl, ap, subst, ◌∙◌, rules}
use Rattle.lrp_model.specs.Sorts.{time_count}
use Rattle.lrp_kept.specs.Held.{greatest_bounds}
use Rattle.lrp_kept.proofs.Sized.{more_sizes, no_sizes}
use Rattle.lrp_kept.proofs.limits.sizes_of.Goals as goal

pub loop-disjunct-init : goal.loop-disjunct-init
loop-disjunct-init c = no_sizes (greatest_bounds c.args.relations.now) c.args.period.number _ refl refl refl refl

pub loop-disjunct-preserved : goal.loop-disjunct-preserved
loop-disjunct-preserved c =
    let size : vec_len c.disjunct-item.result.atoms ≡ length c.disjunct-item.result.atoms.items = search rules in
    more_sizes (greatest_bounds c.args.relations.now) c.args.period.number c.args.disjuncts.now c.loop-disjunct.disjunct-index c.disjunct-item.result c.loop-disjunct.most _ c.disjunct_reach.result c.times_of.result c.loop-disjunct-test.true c.disjunct-item.is c.loop-disjunct.invariant
    c.disjunct_reach.ensures (c.times_of.ensures ∙ ap time_count c.as_slice.ensures) c.max.ensures
    (subst (λ n. c.max-in-loop-disjunct.result ≡ max n c.loop-disjunct.most.atoms) (c.len.ensures ∙ size) c.max-in-loop-disjunct.ensures)
    (subst (λ n. c.max-in-loop-disjunct-2.result ≡ max n c.loop-disjunct.most.tests) c.len-in-loop-disjunct.ensures c.max-in-loop-disjunct-2.ensures)
    c.max-in-loop-disjunct-3.ensures
