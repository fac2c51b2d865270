use Rattle.std.proofs.Common.{◌≤◌, ◌<◌, ◌^◌, arith}
use Rattle.lrp_core.specs.Cores.{core_of}
use Rattle.lrp_model.specs.Formulas.{question_of}
use Rattle.lrp_plan_laws.specs.GuardedPlans.{guarded_plan}
use Rattle.lrp_guarded.proofs.Ended.{far_guarded, near_guarded}
use Rattle.lrp_plan.proofs.Whole.{same_head, no_period}
use Rattle.lrp_guarded.proofs.planning.plan_gathered.Goals as goal

pub returns-in-None : goal.returns-in-None
returns-in-None c = λ db g b. no_period (guarded_plan db (question_of c.args.query.now)) db (question_of c.args.query.now) c.args.sources.now (core_of c.args.core.now) c.whole_period.result c.in-None.is c.whole_period.ensures g

pub returns-then-scaled : goal.returns-then-scaled
returns-then-scaled c = λ db g b.
    let far : 2 ^ 62 < c.scaled.result = let t = c.if-scaled.true in omega (arith, t) in
    far_guarded db (question_of c.args.query.now) c.args.sources.now (core_of c.args.core.now) c.whole_period.result c.in-Some.period c.in_ok-draft.draft c.scaled.result c.in-Some.is c.whole_period.ensures c.in_ok-draft.ensures
    (same_head c.as_slice.result.now c.args.query.now.head.columns c.scaled.result c.in_ok-draft.draft.last.reach c.as_slice.ensures c.scaled.ensures) far g b

pub returns : goal.returns
returns c = λ db g b.
    let low : c.scaled.result ≤ 2 ^ 62 = let t = c.if-scaled.false in omega (arith, t) in
    near_guarded db (question_of c.args.query.now) c.args.sources.now (core_of c.args.core.now) c.whole_period.result c.in-Some.period c.in_ok-draft.draft c.scaled.result c.in_ok-plan.plan c.in-Some.is c.whole_period.ensures c.in_ok-draft.ensures
    (same_head c.as_slice.result.now c.args.query.now.head.columns c.scaled.result c.in_ok-draft.draft.last.reach c.as_slice.ensures c.scaled.ensures) low c.in_ok-plan.ensures.steps c.in_ok-plan.ensures.head c.in_ok-plan.ensures.domain g b
