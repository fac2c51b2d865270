use Rattle.std.proofs.Common.{◌∙◌, ap, subst, sym}
use Rattle.lrp_model.specs.Lexing.{tokens_in}
use Rattle.lrp_model.specs.Queries.{is_wide}
use Rattle.lrp_model.specs.RawQueries.{raw_question_of}
use Rattle.lrp_query.specs.Grammars.{query_in, IsTextUnread}
use Rattle.lrp_query.proofs.OfBytes.{as_read, as_stopped}
use Rattle.lrp_query.proofs.queries.read_text.Goals as goal

pub returns-in-Ok-clause-query : goal.returns-in-Ok-clause-query
returns-in-Ok-clause-query g c = as_read (is_wide g.G.Grammar.language) (query_in g.G.Grammar.language) c.args.text.now c.of-tokens.result (raw_question_of c.in-Ok.query) (c.of-tokens.ensures ∙ ap (λ wide. tokens_in wide c.args.text.now) c.is_wide.ensures) c.utf8.text c.in-Ok.ensures

pub returns-in-Err-clause-refused : goal.returns-in-Err-clause-refused
returns-in-Err-clause-refused g c =
    subst (IsTextUnread (is_wide g.G.Grammar.language) (query_in g.G.Grammar.language) c.args.text.now) (sym c.refusal.ensures)
    (as_stopped (is_wide g.G.Grammar.language) (query_in g.G.Grammar.language) c.args.text.now c.of-tokens.result c.read_tokens.new.tokens c.in-Err.fault c.peek.result.lexeme c.peek.result.slice.now c.peek.result.place (c.of-tokens.ensures ∙ ap (λ wide. tokens_in wide c.args.text.now) c.is_wide.ensures) c.utf8.text c.peek.ensures c.in-Err.ensures)
