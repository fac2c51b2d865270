-- The join and the steps after it stand in the plan.
use Rattle.std.proofs.Common.{List, length, sym, subst}
use Rattle.lrp_model.specs.declared.plans.Step.{Step}
use Rattle.lrp_eval.specs.Together.{AreRunTogether, IsProjection, IsProjectionNext}
use Rattle.lrp_eval.proofs.LoopLaws.{projection_next, projection_together}
use Rattle.lrp_eval.proofs.Reading.{some_ok}
use Rattle.lrp_eval.proofs.following.run_projection.Goals as goal

pub projected-requires : goal.projected-requires
projected-requires c =
    let is : IsProjection c.args.plan.now.steps c.args.readers.now (length c.args.tables.now) c.in-Ok-Some.projection = subst (λ (ss : List Step). IsProjection ss c.args.readers.now (length c.args.tables.now) c.in-Ok-Some.projection) c.as_slice.ensures (some_ok _ _ _ c.in-Ok-Some.field-0-is c.in-Ok-Some.ensures) in
    record {
      next = record {
        planned = c.requires.plan.planned;
        database = c.requires.plan.database;
        query = c.requires.plan.query;
        is = subst (λ d. IsProjectionNext c.requires.plan.planned c.requires.plan.database c.requires.plan.query c.args.setting.now.cap d c.args.tables.now c.in-Ok-Some.projection) (sym c.requires.domain)
            (projection_next c.requires.plan.planned c.requires.plan.database c.requires.plan.query c.args.setting.now.cap c.args.plan.now c.args.tables.now c.args.readers.now c.in-Ok-Some.projection c.requires.plan.is c.requires.plan.run is);
      };
    }

pub returns-clause-table : goal.returns-clause-table
returns-clause-table c = λ planned db q h run.
    let is : IsProjection c.args.plan.now.steps c.args.readers.now (length c.args.tables.now) c.in-Ok-Some.projection = subst (λ (ss : List Step). IsProjection ss c.args.readers.now (length c.args.tables.now) c.in-Ok-Some.projection) c.as_slice.ensures (some_ok _ _ _ c.in-Ok-Some.field-0-is c.in-Ok-Some.ensures) in
    subst (λ k. AreRunTogether planned db q c.args.setting.now.cap c.args.readers.now c.args.tables.now k c.in_ok-table.table) (sym c.len-between.ensures)
    (projection_together planned db q c.args.setting.now.cap c.args.plan.now c.args.tables.now c.args.readers.now c.in-Ok-Some.projection h run is c.in_ok-table.table
    (c.in_ok-table.ensures planned db q
    (subst (λ d. IsProjectionNext planned db q c.args.setting.now.cap d c.args.tables.now c.in-Ok-Some.projection) (sym c.requires.domain) (projection_next planned db q c.args.setting.now.cap c.args.plan.now c.args.tables.now c.args.readers.now c.in-Ok-Some.projection h run is))))
