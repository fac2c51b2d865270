-- The first refusal, or what is found.
use Rattle.std.proofs.Common.{None, Some, ap, refl, sym, subst}
use Rattle.std.proofs.lemmas.Result.{err_from_is_err_and}
use Rattle.lrp_lint.specs.Reports.{report_text}
use Rattle.lrp_outputs.specs.Outputs.{told}
use Rattle.lrp_words.specs.Commands.{after_text, linted_files}
use Rattle.lrp_top.specs.Languages.{usual_by}
use Rattle.lrp_top.specs.Questions.{database_source}
use Rattle.lrp_top.specs.Telling.{TellsFindings}
use Rattle.lrp_top.proofs.LintLemmas.{lint_alone, lint_since, lint_starts, report_told}
use Rattle.lrp_top.proofs.QuestionLemmas.{read_before}
use Rattle.lrp_io.proofs.StartsLemmas.{only_first}
use Rattle.lrp_top.proofs.linting.lint.Goals as goal

pub returns-in-Some-clause-due : goal.returns-in-Some-clause-due
returns-in-Some-clause-due g c =
    let files = c.args.files.now in
    lint_since (linted_files files) _ _ _ (database_source c.in_ok-file.file) c.into_relations-database.result (Some c.in-Some.name.now) (told c.lint_over.result) c.into_relations-database.ensures (sym (ap after_text c.in-Some.is))
    (read_before (usual_by files.civil) _ _ _ _ c.in_ok-file.ensures.read refl) c.lint_over.ensures.due (sym c.in_ok-file.ensures.files) c.in_ok-file.ensures.later

pub returns-in-Some-clause-long : goal.returns-in-Some-clause-long
returns-in-Some-clause-long g c = λ name over. c.lint_over.ensures.long name (record { named = over.named; many = over.many })

pub returns-in_err-report-in-None-clause-due : goal.returns-in_err-report-in-None-clause-due
returns-in_err-report-in-None-clause-due g c =
    let p = err_from_is_err_and c.from_residual-in_err-report-in-None.result c.from_residual-in_err-report-in-None.ensures.1 in
    rw (p.1, p.2) (lint_alone (linted_files c.args.files.now) _ (database_source c.in_ok-file.file) _ (ap after_text c.in-None.is) c.in_ok-file.ensures.read tt)

pub returns-in_ok-report-in-None-clause-due : goal.returns-in_ok-report-in-None-clause-due
returns-in_ok-report-in-None-clause-due g c =
    let files = c.args.files.now in
    let file = c.in_ok-file.file in
    lint_alone (linted_files files) _ (database_source file) _ (ap after_text c.in-None.is) c.in_ok-file.ensures.read
    (subst (λ db. TellsFindings db None (report_text c.in_ok-report-in-None.report)) c.into_relations-database.ensures (report_told c.into_relations-database.result None c.in_ok-report-in-None.report c.in_ok-report-in-None.ensures.database c.in_ok-report-in-None.ensures.findings))

pub returns-in_ok-report-in-None-clause-long : goal.returns-in_ok-report-in-None-clause-long
returns-in_ok-report-in-None-clause-long g c = λ name over. absurd (c.in_ok-file.ensures.long name over)

pub returns-in_err-file-clause-starts : goal.returns-in_err-file-clause-starts
returns-in_err-file-clause-starts g c = only_first _ _ _ _ c.in_err-file.ensures.starts

pub returns-in-Some-clause-starts : goal.returns-in-Some-clause-starts
returns-in-Some-clause-starts g c = lint_starts _ _ _ _ _ _ (ap after_text c.in-Some.is) c.in_ok-file.ensures.starts c.lint_over.ensures.starts

pub returns-in_err-report-in-None-clause-starts : goal.returns-in_err-report-in-None-clause-starts
returns-in_err-report-in-None-clause-starts g c = only_first _ _ _ _ c.in_ok-file.ensures.starts

pub returns-in_ok-report-in-None-clause-starts : goal.returns-in_ok-report-in-None-clause-starts
returns-in_ok-report-in-None-clause-starts g c = only_first _ _ _ _ c.in_ok-file.ensures.starts
