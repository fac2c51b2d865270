-- Where the page begins, and what is due after that.
use Rattle.std.proofs.Common.{◌≤◌, Ok, Err, List, Option, refl, sym, subst}
use Rattle.std.specs.Prelude.{IfSome, ℕ}
use Rattle.lrp_answers.specs.Listing.{HasShapeOf}
use Rattle.lrp_model.specs.Formulas.{question_of}
use Rattle.lrp_model.specs.Sorts.{time_count, text_count}
use Rattle.lrp_model.specs.declared.relations.Column.{Column}
use Rattle.lrp_words.specs.Commands.{after_text}
use Rattle.lrp_top.specs.Questions.{resumed_as}
use Rattle.lrp_top.specs.Resuming.{IsResumed, shape_of}
use Rattle.lrp_top.proofs.HeadCounts.{few_texts, few_times}
use Rattle.lrp_top.proofs.PagingLemmas.{Next, page_due}
use Rattle.lrp_top.proofs.ResumeLemmas.{after_resumed, lent}
use Rattle.lrp_top.proofs.paging.next_page.Goals as goal

pub resumed-requires-clause-times : goal.resumed-requires-clause-times
resumed-requires-clause-times g c = subst (λ head. time_count head ≤ 8) (sym c.as_slice-head.ensures) (few_times c.args.begun.file.relations (question_of c.args.begun.kept.query.file.query) c.requires.begun.kept.sound.settled)

pub resumed-requires-clause-texts : goal.resumed-requires-clause-texts
resumed-requires-clause-texts g c = subst (λ head. text_count head ≤ 8) (sym c.as_slice-head.ensures) (few_texts c.args.begun.file.relations (question_of c.args.begun.kept.query.file.query) c.requires.begun.kept.sound.settled)

pub page_from-requires-clause-after : goal.page_from-requires-clause-after
page_from-requires-clause-after g c =
    let head = c.args.begun.kept.query.file.query.head.columns in
    lent (HasShapeOf (shape_of head)) c.in-Ok.after c.as_ref.result c.as_ref.ensures.value (subst (λ h. IfSome c.in-Ok.after (HasShapeOf (shape_of h))) c.as_slice-head.ensures c.in-Ok.ensures.shape)

pub returns-in-Ok-clause-told : goal.returns-in-Ok-clause-told
returns-in-Ok-clause-told g c =
    let page = c.args.page.now in
    let begun = c.args.begun in
    let head = begun.kept.query.file.query.head.columns in
    let b = c.requires.begun in
    let e = c.page_from.ensures.told in
    record {
      outcome = e.outcome;
      is = page_due page begun.file begun.kept c.requires.read b.kept b.same (resumed_as head (Ok c.in-Ok.after)) e.outcome
          (subst (λ (h : List Column). IsResumed begun.kept.query.files h (after_text page.paging.after) (resumed_as h (Ok c.in-Ok.after))) c.as_slice-head.ensures c.in-Ok.ensures.resumed)
          (after_resumed head c.in-Ok.after c.as_ref.result (Next page begun.file begun.kept c.requires.read b.kept b.same begun.kept.query.files) e.outcome c.as_ref.ensures.value e.is);
      ends = e.ends;
    }

pub returns-in-Err-clause-told : goal.returns-in-Err-clause-told
returns-in-Err-clause-told g c =
    let page = c.args.page.now in
    let begun = c.args.begun in
    let head = begun.kept.query.file.query.head.columns in
    let b = c.requires.begun in
    record {
      outcome = Err c.in-Err.refusal;
      is = page_due page begun.file begun.kept c.requires.read b.kept b.same (Err c.in-Err.refusal) (Err c.in-Err.refusal)
          (subst (λ (h : List Column). IsResumed begun.kept.query.files h (after_text page.paging.after) (Err c.in-Err.refusal)) c.as_slice-head.ensures c.in-Err.ensures.resumed)
          refl;
      ends = c.tell-status.ensures;
    }

pub returns-in-Err-clause-kept : goal.returns-in-Err-clause-kept
returns-in-Err-clause-kept g c = record { civil_is = c.civil_of-civil.ensures; bytes_are = refl; read = c.requires.read; last = c.requires.begun.kept }
