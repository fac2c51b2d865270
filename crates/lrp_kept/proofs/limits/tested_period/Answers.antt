use Rattle.std.proofs.Common.{[], ◌++◌, take, flat_map, sym, subst}
use Rattle.lrp_model.specs.Periods.{test_periods}
use Rattle.lrp_limits.specs.Multiples.{IsLeastWithinLimit, IsPeriodOf}
use Rattle.lrp_limits.proofs.Greatest.{flat_map_step}
use Rattle.lrp_limits.proofs.Keeping.{least_of_none}
use Rattle.lrp_kept.specs.Sizes.{period_number, tested_periods}
use Rattle.lrp_kept.proofs.limits.tested_period.Goals as goal

pub loop-disjunct-init : goal.loop-disjunct-init
loop-disjunct-init c = subst (IsLeastWithinLimit []) (sym c.one.ensures) least_of_none

pub loop-disjunct-preserved : goal.loop-disjunct-preserved
loop-disjunct-preserved c =
    subst (λ ks. IsPeriodOf ks (period_number c.with_tests-period.result)) (sym (flat_map_step tested_periods c.args.disjuncts.now c.loop-disjunct.disjunct-index c.disjunct-item.result c.loop-disjunct-test.true c.disjunct-item.is))
    (subst (λ ts. IsPeriodOf (flat_map tested_periods (take c.loop-disjunct.disjunct-index c.args.disjuncts.now) ++ flat_map test_periods ts) (period_number c.with_tests-period.result)) c.as_slice.ensures
    (c.with_tests-period.ensures.keeps (flat_map tested_periods (take c.loop-disjunct.disjunct-index c.args.disjuncts.now)) c.loop-disjunct.invariant))
