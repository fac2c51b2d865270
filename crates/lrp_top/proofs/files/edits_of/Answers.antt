-- The bytes that were read, or why none were.
use Rattle.std.proofs.Common.{Err, ap, arith, ◌∙◌}
use Rattle.lrp_top.proofs.FileLemmas.{edits_read_of, few_given, long_edits, no_edits_memory, unread_edits}
use Rattle.lrp_top.proofs.files.edits_of.Goals as goal

pub returns-in-Ok-clause-read : goal.returns-in-Ok-clause-read
returns-in-Ok-clause-read g c = edits_read_of c.args.database.now _ c.args.name.now c.as_slice.result.now _ (λ held e. c.as_slice.ensures ∙ c.in-Ok.ensures.whole held e) c.edits_in.ensures.read

pub returns-in-Ok-clause-long : goal.returns-in-Ok-clause-long
returns-in-Ok-clause-long g c =
    λ name over. few_given _ name over (omega (arith, c.in-Ok.ensures.count, c.in-Ok.ensures.short))

pub returns-in-Err-Failed-clause-read : goal.returns-in-Err-Failed-clause-read
returns-in-Err-Failed-clause-read g c = unread_edits c.args.database.now _ c.args.name.now (c.in-Err-Failed.ensures.failed (ap Err c.in-Err-Failed.field-0-is))

pub returns-in-Err-Failed-clause-long : goal.returns-in-Err-Failed-clause-long
returns-in-Err-Failed-clause-long g c =
    λ name over. few_given _ name over (c.in-Err-Failed.ensures.failed_short name (ap Err c.in-Err-Failed.field-0-is) over.named)

pub returns-in-Err-TooLong-clause-read : goal.returns-in-Err-TooLong-clause-read
returns-in-Err-TooLong-clause-read g c =
    let e = ap Err c.in-Err-TooLong.field-0-is in
    long_edits c.args.database.now _ c.args.name.now (λ held f. c.in-Err-TooLong.ensures.too_long_told held f e) (c.in-Err-TooLong.ensures.too_long_named e) (c.in-Err-TooLong.ensures.too_long e)

pub returns-in-Err-Memory-clause-read : goal.returns-in-Err-Memory-clause-read
returns-in-Err-Memory-clause-read g c = no_edits_memory c.args.database.now _ c.args.name.now
