use Rattle.std.proofs.Common.{subst, sym, true}
use Rattle.lrp_model.specs.RawQueries.{raw_file_of}
use Rattle.lrp_query.specs.Grammars.{file_in, IsTextUnread}
use Rattle.lrp_query.proofs.OfBytes.{as_read, as_stopped}
use Rattle.lrp_query.proofs.queries.read_file_text.Goals as goal

pub returns-in-Ok-clause-file : goal.returns-in-Ok-clause-file
returns-in-Ok-clause-file c = as_read true file_in c.args.text.now c.of-tokens.result (raw_file_of c.in-Ok.file) c.of-tokens.ensures c.utf8.text c.in-Ok.ensures

pub returns-in-Err-clause-refused : goal.returns-in-Err-clause-refused
returns-in-Err-clause-refused c =
    subst (IsTextUnread true file_in c.args.text.now) (sym c.refusal.ensures)
    (as_stopped true file_in c.args.text.now c.of-tokens.result c.read_file_tokens.new.tokens c.in-Err.fault c.peek.result.lexeme c.peek.result.slice.now c.peek.result.place c.of-tokens.ensures c.utf8.text c.peek.ensures c.in-Err.ensures)
