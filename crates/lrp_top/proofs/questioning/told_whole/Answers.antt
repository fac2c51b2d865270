-- What is told for each purpose.
use Rattle.std.proofs.Common.{subst, sym}
use Rattle.lrp_outputs.specs.Outputs.{told}
use Rattle.lrp_top.specs.Questions.{IsServed, database_source, query_source}
use Rattle.lrp_top.proofs.questioning.told_whole.Goals as goal

pub returns-in-Answer : goal.returns-in-Answer
returns-in-Answer c =
    let question = c.args.question.now in
    record { served = subst (λ p. IsServed question.planning p (database_source question.database) (query_source question.query) question.plan (told c.named_answer.result)) (sym c.in-Answer.is) c.named_answer.ensures.due }

pub returns-in-Witness : goal.returns-in-Witness
returns-in-Witness c =
    let question = c.args.question.now in
    record { served = subst (λ p. IsServed question.planning p (database_source question.database) (query_source question.query) question.plan (told c.witness.result)) (sym c.in-Witness.is) c.witness.ensures.due }

pub returns-in-Count : goal.returns-in-Count
returns-in-Count c =
    let question = c.args.question.now in
    record { served = subst (λ p. IsServed question.planning p (database_source question.database) (query_source question.query) question.plan (told c.number.result)) (sym c.in-Count.is) c.number.ensures.due }

pub returns-in-Ranges : goal.returns-in-Ranges
returns-in-Ranges c =
    let question = c.args.question.now in
    record { served = subst (λ p. IsServed question.planning p (database_source question.database) (query_source question.query) question.plan (told c.range_lines.result)) (sym c.in-Ranges.is) c.range_lines.ensures.due }
