-- What is left of the refusals is want of memory.
use Rattle.std.proofs.lemmas.Result.{err_from_is_err_and}
use Rattle.lrp_model.specs.Formulas.{question_of}
use Rattle.lrp_top.specs.Sampled.{TellsSample}
use Rattle.lrp_top.proofs.SampleLemmas.{output_memory, sample_answered, sample_counted}
use Rattle.lrp_top.proofs.sampling.sample.Goals as goal

pub returns-in_err-answer : goal.returns-in_err-answer
returns-in_err-answer c =
    let question = c.in_ok-question.question in
    let is = c.in_ok-question.ensures in
    let p = err_from_is_err_and c.from_residual-in_err-answer.result c.from_residual-in_err-answer.ensures.1 in
    rw (p.1, p.2) (output_memory (TellsSample c.args.seed c.args.size) c.in_err-answer.field-0.0
    (sample_counted c.args.seed c.args.size question.database.relations (question_of question.query.query) is.relations is.query question.planning is.planning 1000000 c.in_err-answer.field-0.0
    (c.sample_has_few_cells.ensures.default c.args.seed c.args.size c.requires.size) c.in_err-answer.ensures.counted))

pub returns-in_err-report : goal.returns-in_err-report
returns-in_err-report c =
    let p = err_from_is_err_and c.from_residual-in_err-report.result c.from_residual-in_err-report.ensures.1 in
    rw (p.1, p.2) tt

pub returns : goal.returns
returns c =
    let question = c.in_ok-question.question in
    let is = c.in_ok-question.ensures in
    c.in_ok-report.ensures c.args.seed 1000000 (sample_answered c.args.seed c.args.size question.database.relations (question_of question.query.query) is.relations is.query question.planning is.planning 1000000 c.in_ok-answer.answer c.in_ok-answer.ensures.answers)
