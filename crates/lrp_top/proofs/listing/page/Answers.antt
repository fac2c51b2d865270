-- Where the page begins, and what is due after that.
use Rattle.std.proofs.Common.{◌≡◌, ◌≤◌, Err, Ok, List, Option, refl, sym, ap₂, subst, ◌∙◌}
use Rattle.std.specs.Prelude.{ℕ, IfSome}
use Rattle.lrp_answers.specs.Listing.{HasShapeOf}
use Rattle.lrp_model.specs.Formulas.{question_of}
use Rattle.lrp_model.specs.Rows.{Tuple}
use Rattle.lrp_model.specs.Sorts.{time_count, text_count}
use Rattle.lrp_model.specs.declared.relations.Column.{Column}
use Rattle.lrp_token.specs.Files.{files_digest}
use Rattle.lrp_words.specs.Commands.{after_text}
use Rattle.lrp_top.specs.Due.{IsCounted, IsOutput}
use Rattle.lrp_top.specs.Telling.{TellsPage}
use Rattle.lrp_outputs.specs.Outcomes.{Outcome}
use Rattle.lrp_top.specs.Resuming.{IsResumed, shape_of}
use Rattle.lrp_outputs.specs.Outputs.{told}
use Rattle.lrp_top.specs.Questions.{resumed_as}
use Rattle.lrp_top.specs.Steps.{After, Then}
use Rattle.lrp_top.proofs.HeadCounts.{few_texts, few_times}
use Rattle.lrp_top.proofs.ResumeLemmas.{after_resumed, lent}
use Rattle.lrp_top.proofs.listing.page.Goals as goal

pub resumed-requires-clause-times : goal.resumed-requires-clause-times
resumed-requires-clause-times c = subst (λ head. time_count head ≤ 8) (sym c.as_slice-head.ensures) (few_times c.args.question.database.relations (question_of c.args.question.query.query) c.requires.ready.planned.settled)

pub resumed-requires-clause-texts : goal.resumed-requires-clause-texts
resumed-requires-clause-texts c = subst (λ head. text_count head ≤ 8) (sym c.as_slice-head.ensures) (few_texts c.args.question.database.relations (question_of c.args.question.query.query) c.requires.ready.planned.settled)

pub page_after-requires-clause-after : goal.page_after-requires-clause-after
page_after-requires-clause-after c =
    let head = c.args.question.query.query.head.columns in
    lent (HasShapeOf (shape_of head)) c.in-Ok.after c.as_ref.result c.as_ref.ensures.value (subst (λ h. IfSome c.in-Ok.after (HasShapeOf (shape_of h))) c.as_slice-head.ensures c.in-Ok.ensures.shape)

pub returns-in-Ok : goal.returns-in-Ok
returns-in-Ok c =
    let question = c.args.question in
    let head = question.query.query.head.columns in
    let p = c.args.paging.now in
    let spelled : c.digest-files.result ≡ files_digest question.database.bytes question.query.bytes = c.digest-files.ensures ∙ ap₂ files_digest c.as_slice.ensures c.as_slice-2.ensures in
    let Next : List ℕ → Option Tuple → Outcome → Type 0 = λ files tuple.
    Then (IsCounted question.planning question.database.relations (question_of question.query.query) p.cap) (λ done. IsOutput (TellsPage question.database.relations (question_of question.query.query) p.from p.to tuple p.limit p.civil p.json files)) in
    record {
      page = record {
        first = resumed_as head (Ok c.in-Ok.after);
        is = subst (λ files. IsResumed files head (after_text p.after) (resumed_as head (Ok c.in-Ok.after))) spelled
            (subst (λ (h : List Column). IsResumed c.digest-files.result h (after_text p.after) (resumed_as h (Ok c.in-Ok.after))) c.as_slice-head.ensures c.in-Ok.ensures.resumed);
        next = subst (λ files. After (resumed_as head (Ok c.in-Ok.after)) (Next files) (told c.page_after.result)) spelled
            (after_resumed head c.in-Ok.after c.as_ref.result (Next c.digest-files.result) (told c.page_after.result) c.as_ref.ensures.value c.page_after.ensures.page);
      };
    }

pub returns-in-Err : goal.returns-in-Err
returns-in-Err c =
    let question = c.args.question in
    let head = question.query.query.head.columns in
    let p = c.args.paging.now in
    let spelled : c.digest-files.result ≡ files_digest question.database.bytes question.query.bytes = c.digest-files.ensures ∙ ap₂ files_digest c.as_slice.ensures c.as_slice-2.ensures in
    record {
      page = record {
        first = Err c.in-Err.refusal;
        is = subst (λ files. IsResumed files head (after_text p.after) (Err c.in-Err.refusal)) spelled
            (subst (λ (h : List Column). IsResumed c.digest-files.result h (after_text p.after) (Err c.in-Err.refusal)) c.as_slice-head.ensures c.in-Err.ensures.resumed);
        next = refl;
      };
    }
