-- The bytes that were read, or why none were.
use Rattle.std.proofs.Common.{Err, ap, arith}
use Rattle.lrp_top.proofs.FileLemmas.{asked_of, few_given, long_query, no_query_memory, unread_query}
use Rattle.lrp_top.proofs.files.query_of.Goals as goal

pub returns-in-Ok-clause-asked : goal.returns-in-Ok-clause-asked
returns-in-Ok-clause-asked g c = asked_of c.args.language c.args.database.now _ c.args.name.now c.in-Ok.bytes _ (λ held e. c.in-Ok.ensures.whole held e) c.query_in.ensures.asked

pub returns-in-Ok-clause-long : goal.returns-in-Ok-clause-long
returns-in-Ok-clause-long g c =
    λ name over. few_given _ name over (omega (arith, c.in-Ok.ensures.count, c.in-Ok.ensures.short))

pub returns-in-Err-Failed-clause-asked : goal.returns-in-Err-Failed-clause-asked
returns-in-Err-Failed-clause-asked g c = unread_query c.args.language c.args.database.now _ c.args.name.now (c.in-Err-Failed.ensures.failed (ap Err c.in-Err-Failed.field-0-is))

pub returns-in-Err-Failed-clause-long : goal.returns-in-Err-Failed-clause-long
returns-in-Err-Failed-clause-long g c =
    λ name over. few_given _ name over (c.in-Err-Failed.ensures.failed_short name (ap Err c.in-Err-Failed.field-0-is) over.named)

pub returns-in-Err-TooLong-clause-asked : goal.returns-in-Err-TooLong-clause-asked
returns-in-Err-TooLong-clause-asked g c =
    let e = ap Err c.in-Err-TooLong.field-0-is in
    long_query c.args.language c.args.database.now _ c.args.name.now (λ held f. c.in-Err-TooLong.ensures.too_long_told held f e) (c.in-Err-TooLong.ensures.too_long_named e) (c.in-Err-TooLong.ensures.too_long e)

pub returns-in-Err-Memory-clause-asked : goal.returns-in-Err-Memory-clause-asked
returns-in-Err-Memory-clause-asked g c = no_query_memory c.args.language c.args.database.now _ c.args.name.now
