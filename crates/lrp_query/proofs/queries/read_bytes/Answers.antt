use Rattle.std.proofs.Common.{subst, sym}
use Rattle.std.specs.Str.{IsValidUpTo}
use Rattle.lrp_model.specs.Queries.{is_wide}
use Rattle.lrp_query.specs.Grammars.{query_in}
use Rattle.lrp_query.proofs.OfBytes.{as_no_utf8}
use Rattle.lrp_query.proofs.queries.read_bytes.Goals as goal

pub returns-in-Err-clause-refused : goal.returns-in-Err-clause-refused
returns-in-Err-clause-refused g c = as_no_utf8 (is_wide g.G.Grammar.language) (query_in g.G.Grammar.language) c.args.bytes.now c.valid_up_to.result c.not_utf8.result (subst (IsValidUpTo c.args.bytes.now) (sym c.valid_up_to.ensures) c.in-Err.ensures.cases.1) c.not_utf8.ensures
