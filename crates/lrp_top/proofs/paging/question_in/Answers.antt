-- What is due for the question is due for the words that ask it.
use Rattle.std.proofs.Common.{subst, sym}
use Rattle.lrp_words.specs.Commands.{task_of}
use Rattle.lrp_top.specs.Due.{IsDueFor, files_of}
use Rattle.lrp_top.specs.Keeping.{MeansDue}
use Rattle.lrp_top.specs.Questions.{IsProperPurpose}
use Rattle.lrp_words.specs.declared.purpose.Asked.{Asked}
use Rattle.lrp_top.proofs.AskingLemmas.{due_of_command, proper_of_command}
use Rattle.lrp_top.proofs.PagingLemmas.{if_some, no_overruns}
use Rattle.lrp_top.proofs.paging.question_in.Goals as goal

pub returns-in-Ok-Question-clause-proper : goal.returns-in-Ok-Question-clause-proper
returns-in-Ok-Question-clause-proper c =
    let asked = c.in-Ok-Question in
    let window = proper_of_command asked.field-0 asked.asked asked.field-0-is asked.ensures.civil asked.ensures.range in
    if_some c.for_answers.result (λ found same. subst (λ (a : Asked). IsProperPurpose a.purpose) (sym same) window) c.for_answers.ensures.same

pub returns-in-Ok-Question-clause-due : goal.returns-in-Ok-Question-clause-due
returns-in-Ok-Question-clause-due c =
    let asked = c.in-Ok-Question in
    let due : MeansDue c.args.words.now asked.asked = λ seen outcome none h. subst (λ task. IsDueFor task seen outcome) (sym asked.ensures.command)
    (due_of_command asked.field-0 asked.asked asked.field-0-is seen outcome asked.ensures.civil h, no_overruns seen outcome (files_of (task_of asked.field-0)) none) in
    if_some c.for_answers.result (λ found same. subst (MeansDue c.args.words.now) (sym same) due) c.for_answers.ensures.same
