-- The bytes that were read, or why none were.
use Rattle.std.proofs.Common.{Err, ap, arith, ◌∙◌}
use Rattle.lrp_outputs.specs.Outputs.{told}
use Rattle.lrp_top.specs.Languages.{usual_language}
use Rattle.lrp_top.proofs.FileLemmas.{few_given, long_query, no_query_memory, unread_query}
use Rattle.lrp_top.proofs.LintLemmas.{lint_read, lint_unread}
use Rattle.lrp_top.proofs.linting.lint_over.Goals as goal

pub returns-in-Ok-clause-due : goal.returns-in-Ok-clause-due
returns-in-Ok-clause-due g c =
    lint_read c.args.tense c.args.database _ c.args.name.now c.as_slice.result.now (told c.lint_text.result) (λ held e. c.as_slice.ensures ∙ c.in-Ok.ensures.whole held e) c.lint_text.ensures

pub returns-in-Ok-clause-long : goal.returns-in-Ok-clause-long
returns-in-Ok-clause-long g c =
    λ name over. few_given _ name over (omega (arith, c.in-Ok.ensures.count, c.in-Ok.ensures.short))

pub returns-in-Err-Failed-clause-due : goal.returns-in-Err-Failed-clause-due
returns-in-Err-Failed-clause-due g c =
    lint_unread c.args.tense c.args.database _ c.args.name.now _ (unread_query (usual_language c.args.tense) c.args.database _ c.args.name.now (c.in-Err-Failed.ensures.failed (ap Err c.in-Err-Failed.field-0-is)))

pub returns-in-Err-Failed-clause-long : goal.returns-in-Err-Failed-clause-long
returns-in-Err-Failed-clause-long g c =
    λ name over. few_given _ name over (c.in-Err-Failed.ensures.failed_short name (ap Err c.in-Err-Failed.field-0-is) over.named)

pub returns-in-Err-TooLong-clause-due : goal.returns-in-Err-TooLong-clause-due
returns-in-Err-TooLong-clause-due g c =
    let e = ap Err c.in-Err-TooLong.field-0-is in
    lint_unread c.args.tense c.args.database _ c.args.name.now _
    (long_query (usual_language c.args.tense) c.args.database _ c.args.name.now (λ held f. c.in-Err-TooLong.ensures.too_long_told held f e) (c.in-Err-TooLong.ensures.too_long_named e) (c.in-Err-TooLong.ensures.too_long e))

pub returns-clause-due : goal.returns-clause-due
returns-clause-due g c = lint_unread c.args.tense c.args.database _ c.args.name.now _ (no_query_memory (usual_language c.args.tense) c.args.database _ c.args.name.now)
