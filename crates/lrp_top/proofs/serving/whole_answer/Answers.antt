-- In canonical form, or as they come.
use Rattle.std.proofs.Common.{subst, sym}
use Rattle.lrp_top.specs.Due.{IsAnswered}
use Rattle.lrp_top.specs.Heads.{IsHeadFor, canon_need}
use Rattle.lrp_outputs.specs.Outputs.{told}
use Rattle.lrp_top.specs.Questions.{database_source, query_source}
use Rattle.lrp_top.proofs.serving.whole_answer.Goals as goal

pub canonical_answer-requires-clause-head : goal.canonical_answer-requires-clause-head
canonical_answer-requires-clause-head c = subst (λ canon. IsHeadFor (canon_need canon) c.args.question.now.query.query.head.columns) c.if-canon.true c.requires.head

pub returns-then-canon : goal.returns-then-canon
returns-then-canon c =
    let question = c.args.question.now in
    record { due = subst (λ canon. IsAnswered question.planning canon c.args.name c.args.cap (database_source question.database) (query_source question.query) question.plan (told c.canonical_answer.result)) (sym c.if-canon.true) c.canonical_answer.ensures.due }

pub returns-else-canon : goal.returns-else-canon
returns-else-canon c =
    let question = c.args.question.now in
    record { due = subst (λ canon. IsAnswered question.planning canon c.args.name c.args.cap (database_source question.database) (query_source question.query) question.plan (told c.all_answers.result)) (sym c.if-canon.false) c.all_answers.ensures.due }
