use Rattle.std.proofs.Common.{◌≡◌, ◌++◌, flat_map, length, subst, arith}
use Rattle.lrp_limits.specs.Multiples.{IsPeriodOf}
use Rattle.lrp_kept.specs.Sizes.{period_number, tested_periods}
use Rattle.lrp_keep.specs.States.{read_periods}
use Rattle.lrp_keep.proofs.Marking.{none_read, one_read}
use Rattle.lrp_keep.proofs.states.whole_period.Goals as goal

pub loop-i-init : goal.loop-i-init
loop-i-init c = none_read (flat_map tested_periods c.args.of.now.disjuncts.items) (period_number c.tested_period-period.result) (subst (λ ds. IsPeriodOf (flat_map tested_periods ds) (period_number c.tested_period-period.result)) c.deref.ensures.value c.tested_period-period.ensures)

pub loop-i-preserved : goal.loop-i-preserved
loop-i-preserved c = one_read (flat_map tested_periods c.args.of.now.disjuncts.items) c.args.of.now.disjuncts.items c.args.database.now c.loop-i.i c.at.result.now (period_number c.loop-i.period) (period_number c.with_relation-period.result) c.at.ensures.value c.with_relation-period.ensures c.loop-i.invariant

pub returns : goal.returns
returns c =
    let whole : c.loop-i.i ≡ length c.args.database.now = omega (arith, c.loop-i-test.false, c.loop-i.auto.i-end, c.relations-i-end.ensures.len) in
    subst (λ n. IsPeriodOf (flat_map tested_periods c.args.of.now.disjuncts.items ++ read_periods c.args.of.now.disjuncts.items c.args.database.now n) (period_number c.loop-i.period)) whole c.loop-i.invariant
