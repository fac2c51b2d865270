use Rattle.std.proofs.Common.{◌≤◌, ◌<◌, ◌^◌, arith}
use Rattle.lrp_core.specs.Cores.{core_of}
use Rattle.lrp_model.specs.Formulas.{question_of}
use Rattle.lrp_model.specs.Plans.{plan}
use Rattle.lrp_plan.proofs.Whole.{same_head, no_period, far_reach, near_reach}
use Rattle.lrp_plan.proofs.planning.plan_gathered.Goals as goal

pub returns-in-None : goal.returns-in-None
returns-in-None c = λ db g. no_period (plan db (question_of c.args.query.now)) db (question_of c.args.query.now) c.args.sources.now (core_of c.args.core.now) c.whole_period.result c.in-None.is c.whole_period.ensures g

pub returns-then-scaled : goal.returns-then-scaled
returns-then-scaled c = λ db g.
    let far : 2 ^ 62 < c.scaled.result = let t = c.if-scaled.true in omega (arith, t) in
    far_reach db (question_of c.args.query.now) c.args.sources.now (core_of c.args.core.now) c.whole_period.result c.in-Some.period c.in_ok-draft.draft c.scaled.result c.in-Some.is c.whole_period.ensures c.in_ok-draft.ensures
    (same_head c.as_slice.result.now c.args.query.now.head.columns c.scaled.result c.in_ok-draft.draft.last.reach c.as_slice.ensures c.scaled.ensures) far g

pub returns : goal.returns
returns c = λ db g.
    let low : c.scaled.result ≤ 2 ^ 62 = let t = c.if-scaled.false in omega (arith, t) in
    near_reach db (question_of c.args.query.now) c.args.sources.now (core_of c.args.core.now) c.whole_period.result c.in-Some.period c.in_ok-draft.draft c.scaled.result c.in_ok-plan.plan c.in-Some.is c.whole_period.ensures c.in_ok-draft.ensures
    (same_head c.as_slice.result.now c.args.query.now.head.columns c.scaled.result c.in_ok-draft.draft.last.reach c.as_slice.ensures c.scaled.ensures) low c.in_ok-plan.ensures.steps c.in_ok-plan.ensures.head c.in_ok-plan.ensures.domain g
