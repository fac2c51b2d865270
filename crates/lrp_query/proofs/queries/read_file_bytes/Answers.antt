use Rattle.std.proofs.Common.{subst, sym, true}
use Rattle.std.specs.Str.{IsValidUpTo}
use Rattle.lrp_query.specs.Grammars.{file_in}
use Rattle.lrp_query.proofs.OfBytes.{as_no_utf8}
use Rattle.lrp_query.proofs.queries.read_file_bytes.Goals as goal

pub returns-in-Err-clause-refused : goal.returns-in-Err-clause-refused
returns-in-Err-clause-refused c = as_no_utf8 true file_in c.args.bytes.now c.valid_up_to.result c.not_utf8.result (subst (IsValidUpTo c.args.bytes.now) (sym c.valid_up_to.ensures) c.in-Err.ensures.cases.1) c.not_utf8.ensures
