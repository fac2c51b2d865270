-- What is told for each purpose.
use Rattle.std.proofs.Common.{subst, sym}
use Rattle.lrp_outputs.specs.Outputs.{told}
use Rattle.lrp_top.specs.Questions.{IsServed, database_source, query_source}
use Rattle.lrp_top.proofs.serving.serve.Goals as goal

pub returns-in-Answer : goal.returns-in-Answer
returns-in-Answer c = record {
  served = subst (λ p. IsServed c.args.question.planning p (database_source c.args.question.database) (query_source c.args.question.query) c.args.question.plan (told c.named_answer.result)) (sym c.in-Answer.is) c.named_answer.ensures.due;
}

pub returns-in-Witness : goal.returns-in-Witness
returns-in-Witness c = record {
  served = subst (λ p. IsServed c.args.question.planning p (database_source c.args.question.database) (query_source c.args.question.query) c.args.question.plan (told c.witness.result)) (sym c.in-Witness.is) c.witness.ensures.due;
}

pub returns-in-Page : goal.returns-in-Page
returns-in-Page c = record {
  served = subst (λ p. IsServed c.args.question.planning p (database_source c.args.question.database) (query_source c.args.question.query) c.args.question.plan (told c.page.result)) (sym c.in-Page.is) c.page.ensures.page;
}

pub returns-in-Count : goal.returns-in-Count
returns-in-Count c = record {
  served = subst (λ p. IsServed c.args.question.planning p (database_source c.args.question.database) (query_source c.args.question.query) c.args.question.plan (told c.number.result)) (sym c.in-Count.is) c.number.ensures.due;
}

pub returns-in-Ranges : goal.returns-in-Ranges
returns-in-Ranges c = record {
  served = subst (λ p. IsServed c.args.question.planning p (database_source c.args.question.database) (query_source c.args.question.query) c.args.question.plan (told c.range_lines.result)) (sym c.in-Ranges.is) c.range_lines.ensures.due;
}
