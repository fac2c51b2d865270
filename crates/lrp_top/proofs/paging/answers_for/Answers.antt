-- Where the page begins, and then the answers.
use Rattle.std.proofs.Common.{◌≡◌, ◌≤◌, ◌∙◌, Err, Ok, List, ap₂, refl, sym, subst}
use Rattle.std.specs.Prelude.{ℕ}
use Rattle.lrp_model.specs.Formulas.{question_of}
use Rattle.lrp_model.specs.Sorts.{time_count, text_count}
use Rattle.lrp_model.specs.declared.relations.Column.{Column}
use Rattle.lrp_token.specs.Files.{files_digest}
use Rattle.lrp_words.specs.Commands.{after_text}
use Rattle.lrp_top.specs.Due.{IsCounted, IsOutput}
use Rattle.lrp_top.specs.Keeping.{IsPageListed}
use Rattle.lrp_top.specs.Questions.{database_source, query_source, resumed_as}
use Rattle.lrp_top.specs.Resuming.{IsResumed}
use Rattle.lrp_top.specs.Steps.{Then}
use Rattle.lrp_top.specs.Telling.{TellsPage}
use Rattle.lrp_top.specs.declared.questioning.Unasked.{Unasked}
use Rattle.lrp_top.proofs.HeadCounts.{few_texts, few_times}
use Rattle.lrp_top.proofs.PagingLemmas.{after_any, if_err}
use Rattle.lrp_top.proofs.paging.answers_for.Goals as goal

pub resumed-requires-clause-times : goal.resumed-requires-clause-times
resumed-requires-clause-times c = subst (λ head. time_count head ≤ 8) (sym c.as_slice-head.ensures) (few_times c.args.question.database.relations (question_of c.args.question.query.query) c.requires.ready.planned.settled)

pub resumed-requires-clause-texts : goal.resumed-requires-clause-texts
resumed-requires-clause-texts c = subst (λ head. text_count head ≤ 8) (sym c.as_slice-head.ensures) (few_texts c.args.question.database.relations (question_of c.args.question.query.query) c.requires.ready.planned.settled)

pub answered-requires-clause-digest : goal.answered-requires-clause-digest
answered-requires-clause-digest c = c.digest-files.ensures ∙ ap₂ files_digest c.as_slice.ensures c.as_slice-2.ensures

pub returns-in-Ok-clause-refused : goal.returns-in-Ok-clause-refused
returns-in-Ok-clause-refused c =
    let question = c.args.question in
    let head = question.query.query.head.columns in
    let p = c.args.page.now.paging in
    let spelled : c.digest-files.result ≡ files_digest question.database.bytes question.query.bytes = c.digest-files.ensures ∙ ap₂ files_digest c.as_slice.ensures c.as_slice-2.ensures in
    if_err c.answered.result (λ unasked counted. λ plan. record {
      first = resumed_as head (Ok c.in-Ok.after);
      is = subst (λ files. IsResumed files head (after_text p.after) (resumed_as head (Ok c.in-Ok.after))) spelled
          (subst (λ (h : List Column). IsResumed c.digest-files.result h (after_text p.after) (resumed_as h (Ok c.in-Ok.after))) c.as_slice-head.ensures c.in-Ok.ensures.resumed);
      next = after_any head c.in-Ok.after (λ tuple. Then (IsCounted question.planning question.database.relations (question_of question.query.query) p.cap) (λ done. IsOutput (TellsPage question.database.relations (question_of question.query.query) p.from p.to tuple p.limit p.civil p.json (files_digest question.database.bytes question.query.bytes)))) (Err unasked.refusal)
          (λ tuple. record { first = Err unasked.refusal; is = counted; next = refl });
    }) c.answered.ensures.refused

pub returns-in-Err-clause-refused : goal.returns-in-Err-clause-refused
returns-in-Err-clause-refused c =
    let question = c.args.question in
    let head = question.query.query.head.columns in
    let p = c.args.page.now.paging in
    let spelled : c.digest-files.result ≡ files_digest question.database.bytes question.query.bytes = c.digest-files.ensures ∙ ap₂ files_digest c.as_slice.ensures c.as_slice-2.ensures in
    subst (λ (u : Unasked). IsPageListed question.planning c.args.page.now (database_source question.database) (query_source question.query) (Err u.refusal)) (sym c.unasked_of.ensures) (λ plan. record {
      first = Err c.in-Err.refusal;
      is = subst (λ files. IsResumed files head (after_text p.after) (Err c.in-Err.refusal)) spelled
          (subst (λ (h : List Column). IsResumed c.digest-files.result h (after_text p.after) (Err c.in-Err.refusal)) c.as_slice-head.ensures c.in-Err.ensures.resumed);
      next = refl;
    })

pub returns-in-Err-clause-file : goal.returns-in-Err-clause-file
returns-in-Err-clause-file c = subst (λ (u : Unasked). u.file ≡ c.args.question.database) (sym c.unasked_of.ensures) refl
