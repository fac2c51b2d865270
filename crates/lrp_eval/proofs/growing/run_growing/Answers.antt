-- A union takes its left table, and any other step leaves all as they are.
use Rattle.std.proofs.Common.{List, ◌-◌, suc, length, subst, refl}
use Rattle.lrp_tables.specs.declared.table.Table.{Table}
use Rattle.lrp_eval.specs.Freeing.{IsDone}
use Rattle.lrp_eval.specs.Running.{IsRunResult}
use Rattle.lrp_eval.proofs.GrowingLaws.{left_alone, left_taken, next_of, some_union}
use Rattle.lrp_eval.proofs.Reading.{worded}
use Rattle.lrp_eval.proofs.growing.run_growing.Goals as goal

pub grow-requires : goal.grow-requires
grow-requires c = record {
  planned = c.requires.plan.0;
  database = c.args.database.now;
  query = c.requires.plan.1;
  is = worded (some_union (next_of c.requires.plan.0 c.args.database.now c.requires.plan.1 c.args.setting.now.cap c.args.plan.now c.args.setting.now.domain.now c.args.tables.now c.args.tables.now c.at-step.result.now c.len.result c.requires.domain c.len.ensures c.at-step.ensures refl c.requires.plan.2 c.requires.plan.3) c.in-Some.ensures);
  apart = c.in-Some.ensures.apart;
}

pub run_step-requires : goal.run_step-requires
run_step-requires c = record {
  next = (
    c.requires.plan.0,
    c.requires.plan.1,
    c.requires.plan.2.is.head,
    next_of c.requires.plan.0 c.args.database.now c.requires.plan.1 c.args.setting.now.cap c.args.plan.now c.args.setting.now.domain.now c.args.tables.now c.as_slice.result.now c.at-step.result.now c.len.result c.requires.domain c.len.ensures c.at-step.ensures c.as_slice.ensures c.requires.plan.2 c.requires.plan.3,
  );
}

pub returns-in-Some-clause-run : goal.returns-in-Some-clause-run
returns-in-Some-clause-run c = λ planned q h run. c.grow.ensures.run planned c.args.database.now q
    (worded (some_union (next_of planned c.args.database.now q c.args.setting.now.cap c.args.plan.now c.args.setting.now.domain.now c.args.tables.now c.args.tables.now c.at-step.result.now c.len.result c.requires.domain c.len.ensures c.at-step.ensures refl h run) c.in-Some.ensures))

pub returns-in-Some-clause-left : goal.returns-in-Some-clause-left
returns-in-Some-clause-left c = left_taken c.args.readers.now c.in-Some.growth.left c.args.tables.now c.grow.new.tables (subst (λ n. IsDone c.args.readers.now (suc n) (c.in-Some.growth.left - 1)) c.len-2.ensures c.in-Some.ensures.done) c.grow.ensures.left

pub returns-in-None-clause-run : goal.returns-in-None-clause-run
returns-in-None-clause-run c = λ planned q h run. subst (λ (ts : List Table). IsRunResult planned c.args.database.now q c.args.setting.now.cap (suc (length ts)) c.run_step.result) c.as_slice.ensures
    (c.run_step.ensures planned q h.is.head
    (next_of planned c.args.database.now q c.args.setting.now.cap c.args.plan.now c.args.setting.now.domain.now c.args.tables.now c.as_slice.result.now c.at-step.result.now c.len.result c.requires.domain c.len.ensures c.at-step.ensures c.as_slice.ensures h run))

pub returns-in-None-clause-left : goal.returns-in-None-clause-left
returns-in-None-clause-left c = left_alone c.args.readers.now c.args.tables.now
