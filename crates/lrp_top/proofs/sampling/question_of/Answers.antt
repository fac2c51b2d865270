-- Both texts are read, and the plan is within the limits.
use Rattle.std.proofs.Common.{◌≡◌, refl, sym, ◌∙◌, subst}
use Rattle.std.proofs.lemmas.Result.{err_from_is_err_and}
use Rattle.lrp_model.specs.DatabaseReading.{IsDatabase}
use Rattle.lrp_model.specs.Formulas.{question_of}
use Rattle.lrp_model.specs.QueryReading.{IsQuery}
use Rattle.lrp_model.specs.Sorting.{IsWellSorted}
use Rattle.lrp_sample.specs.Trees.{raw_sample, sample_question, sample_relations}
use Rattle.lrp_top.proofs.SampleLemmas.{sample_planned}
use Rattle.lrp_top.proofs.sampling.question_of.Goals as goal

pub returns-in_err-database-2 : goal.returns-in_err-database-2
returns-in_err-database-2 c =
    let db = sample_relations c.args.seed c.args.size in
    let p = err_from_is_err_and c.from_residual-in_err-database-2.result c.from_residual-in_err-database-2.ensures.1 in
    rw (p.1, p.2) (c.in_err-database-2.ensures.every db (subst (λ bytes. IsDatabase bytes db) (sym c.in_ok-database.ensures.database) (c.sample_texts_are_read.ensures.database c.args.seed c.args.size)))

pub returns-in_err-query : goal.returns-in_err-query
returns-in_err-query c =
    let db = sample_relations c.args.seed c.args.size in
    let p = err_from_is_err_and c.from_residual-in_err-query.result c.from_residual-in_err-query.ensures.1 in
    let read : c.in_ok-database-2.database.relations ≡ db = c.in_ok-database-2.ensures.every db (subst (λ bytes. IsDatabase bytes db) (sym c.in_ok-database.ensures.database) (c.sample_texts_are_read.ensures.database c.args.seed c.args.size)) in
    rw (p.1, p.2) (c.in_err-query.ensures.every raw_sample (subst (λ bytes. IsQuery bytes raw_sample) (sym c.in_ok-database.ensures.query) c.sample_texts_are_read.ensures.query)
    (subst (λ r. IsWellSorted r raw_sample) (sym read) (c.sample_query_is_well_sorted.ensures.sorted c.args.seed c.args.size)))

pub returns-in_err-plan : goal.returns-in_err-plan
returns-in_err-plan c =
    let db = sample_relations c.args.seed c.args.size in
    let p = err_from_is_err_and c.from_residual-in_err-plan.result c.from_residual-in_err-plan.ensures.1 in
    let read : c.in_ok-database-2.database.relations ≡ db = c.in_ok-database-2.ensures.every db (subst (λ bytes. IsDatabase bytes db) (sym c.in_ok-database.ensures.database) (c.sample_texts_are_read.ensures.database c.args.seed c.args.size)) in
    let asked : question_of c.in_ok-query.query.query ≡ sample_question = c.in_ok-query.ensures.every raw_sample (subst (λ bytes. IsQuery bytes raw_sample) (sym c.in_ok-database.ensures.query) c.sample_texts_are_read.ensures.query)
    (subst (λ r. IsWellSorted r raw_sample) (sym read) (c.sample_query_is_well_sorted.ensures.sorted c.args.seed c.args.size)) ∙ c.sample_query_is_well_sorted.ensures.plain in
    rw (p.1, p.2) (sample_planned c.args.seed c.args.size c.in_ok-database-2.database.relations (question_of c.in_ok-query.query.query) read asked c.in_err-plan.field-0.0
    (c.sample_is_within_limits.ensures.limits c.args.seed c.args.size c.requires.size) c.in_err-plan.ensures.planned)

pub returns : goal.returns
returns c =
    let db = sample_relations c.args.seed c.args.size in
    let fit = c.in_ok-query.ensures.fit in
    let read : c.in_ok-database-2.database.relations ≡ db = c.in_ok-database-2.ensures.every db (subst (λ bytes. IsDatabase bytes db) (sym c.in_ok-database.ensures.database) (c.sample_texts_are_read.ensures.database c.args.seed c.args.size)) in
    let asked : question_of c.in_ok-query.query.query ≡ sample_question = c.in_ok-query.ensures.every raw_sample (subst (λ bytes. IsQuery bytes raw_sample) (sym c.in_ok-database.ensures.query) c.sample_texts_are_read.ensures.query)
    (subst (λ r. IsWellSorted r raw_sample) (sym read) (c.sample_query_is_well_sorted.ensures.sorted c.args.seed c.args.size)) ∙ c.sample_query_is_well_sorted.ensures.plain in
    record {
      ready = record {
        planned = record {
          settled = fit.settled;
          sound = c.in_ok-plan.ensures.sound;
          points = fit.points;
          is = c.in_ok-plan.ensures.planned.0;
          period = c.in_ok-plan.ensures.planned.1.period;
          reach = c.in_ok-plan.ensures.planned.1.reach;
        };
        writable = c.in_ok-plan.ensures.writable;
        head = fit.head;
      };
      planning = refl;
      relations = read;
      query = asked;
    }
