-- The three steps stand in the plan.
use Rattle.std.proofs.Common.{◌<◌, List, suc, length, sym, subst, arith}
use Rattle.lrp_model.specs.declared.plans.Step.{Step}
use Rattle.lrp_eval.specs.Together.{IsNarrowing, IsNarrowingNext}
use Rattle.lrp_eval.proofs.LoopLaws.{narrowing_next, narrowing_together}
use Rattle.lrp_eval.proofs.following.run_narrowing.Goals as goal
use Rattle.lrp_plan_laws.proofs.Elements.{within}

pub narrowed-requires : goal.narrowed-requires
narrowed-requires c =
    let is : IsNarrowing c.args.plan.now.steps c.args.readers.now (length c.args.tables.now) c.in-Some.narrowing = subst (λ (ss : List Step). IsNarrowing ss c.args.readers.now (length c.args.tables.now) c.in-Some.narrowing) c.as_slice.ensures c.in-Some.ensures in
    record {
      next = record {
        planned = c.requires.plan.planned;
        database = c.requires.plan.database;
        query = c.requires.plan.query;
        is = subst (λ d. IsNarrowingNext c.requires.plan.planned c.requires.plan.database c.requires.plan.query c.args.setting.now.cap d c.args.tables.now c.in-Some.narrowing) (sym c.requires.domain)
            (narrowing_next c.requires.plan.planned c.requires.plan.database c.requires.plan.query c.args.setting.now.cap c.args.plan.now c.args.tables.now c.args.readers.now c.in-Some.narrowing c.requires.plan.is c.requires.plan.run is);
      };
    }

pub returns-clause-table : goal.returns-clause-table
returns-clause-table c = λ planned db q h run.
    let is : IsNarrowing c.args.plan.now.steps c.args.readers.now (length c.args.tables.now) c.in-Some.narrowing = subst (λ (ss : List Step). IsNarrowing ss c.args.readers.now (length c.args.tables.now) c.in-Some.narrowing) c.as_slice.ensures c.in-Some.ensures in
    narrowing_together planned db q c.args.setting.now.cap c.args.plan.now c.args.tables.now c.args.readers.now c.in-Some.narrowing h run is c.in_ok-table.table
    (c.in_ok-table.ensures planned db q
    (subst (λ d. IsNarrowingNext planned db q c.args.setting.now.cap d c.args.tables.now c.in-Some.narrowing) (sym c.requires.domain) (narrowing_next planned db q c.args.setting.now.cap c.args.plan.now c.args.tables.now c.args.readers.now c.in-Some.narrowing h run is)))

pub returns-clause-inside : goal.returns-clause-inside
returns-clause-inside c =
    let is : IsNarrowing c.args.plan.now.steps c.args.readers.now (length c.args.tables.now) c.in-Some.narrowing = subst (λ (ss : List Step). IsNarrowing ss c.args.readers.now (length c.args.tables.now) c.in-Some.narrowing) c.as_slice.ensures c.in-Some.ensures in
    let l : suc (suc (length c.args.tables.now)) < length c.args.plan.now.steps = within c.args.plan.now.steps (suc (suc (length c.args.tables.now))) is.third is.third_at in
    omega (arith, l)
