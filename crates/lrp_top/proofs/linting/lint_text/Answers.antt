-- The first refusal of the query, or what is found.
use Rattle.std.proofs.Common.{Ok, Some, sym, subst}
use Rattle.std.proofs.lemmas.Result.{err_from_is_err_and}
use Rattle.lrp_lint.specs.Listed.{AreFindings}
use Rattle.lrp_model.specs.RawQueries.{raw_question_of}
use Rattle.lrp_model.specs.Sorting.{IsWellSorted}
use Rattle.lrp_sorts.specs.Outcomes.{IsUnsorted}
use Rattle.lrp_top.specs.Due.{IsPlacedReadOf}
use Rattle.lrp_top.proofs.LintLemmas.{lint_refused, placed_as, report_told}
use Rattle.lrp_top.proofs.ReadingLemmas.{unread_refused, unsorted_refused}
use Rattle.lrp_top.proofs.linting.lint_text.Goals as goal

pub returns-in_err-raw : goal.returns-in_err-raw
returns-in_err-raw c =
    let p = err_from_is_err_and c.from_residual.result c.from_residual.ensures.1 in
    let db = c.args.database in
    λ seen name. rw (p.1, p.2) (lint_refused db (IsPlacedReadOf c.args.tense db seen name c.args.bytes.now) _ (unread_refused c.args.tense db seen name c.args.bytes.now c.in_err-raw.field-0.0 c.requires c.in_err-raw.ensures.refused))

pub returns-in_err-report : goal.returns-in_err-report
returns-in_err-report c =
    let p = err_from_is_err_and c.from_residual-in_err-report.result c.from_residual-in_err-report.ensures.1 in
    let db = c.args.database in
    λ seen name. rw (p.1, p.2) (lint_refused db (IsPlacedReadOf c.args.tense db seen name c.args.bytes.now) _ tt)

pub returns-in_err-check : goal.returns-in_err-check
returns-in_err-check c =
    let p = err_from_is_err_and c.from_residual-in_err-check.result c.from_residual-in_err-check.ensures.1 in
    let db = c.args.database in
    let raw = raw_question_of c.in_ok-raw.raw in
    let unsorted = subst (λ d. IsUnsorted d raw c.in_err-check.field-0.0) c.in_ok-report.ensures.database c.in_err-check.ensures.refused in
    λ seen name. rw (p.1, p.2) (lint_refused db (IsPlacedReadOf c.args.tense db seen name c.args.bytes.now) _ (unsorted_refused c.args.tense db seen name c.args.bytes.now raw c.in_err-check.field-0.0 c.requires c.in_ok-raw.ensures.said unsorted))

pub returns : goal.returns
returns c =
    let db = c.args.database in
    let raw = raw_question_of c.in_ok-raw.raw in
    let sorted = subst (λ d. IsWellSorted d raw) c.in_ok-report.ensures.database c.in_ok-check.ensures.sorted in
    λ seen name. record {
      first = Ok (Some raw);
      is = (c.requires, placed_as c.args.tense db c.args.bytes.now raw c.in_ok-raw.ensures.said sorted);
      next = report_told db (Some raw) c.in_ok-report.report c.in_ok-report.ensures.database c.in_ok-report.ensures.findings;
    }
