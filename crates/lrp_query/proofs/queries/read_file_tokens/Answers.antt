use Rattle.std.proofs.Common.{◌≡◌, ◌<◌, [], length, map, arith, ap, refl, Ok}
use Rattle.std.proofs.lemmas.Result.{err_from_is_err_and}
use Rattle.lrp_model.specs.Queries.Language.{wide}
use Rattle.lrp_text.proofs.Turns.{lifts}
use Rattle.lrp_query.specs.Rules.{definitions_from, file_with}
use Rattle.lrp_query.proofs.Turning.{definitions_seen}
use Rattle.lrp_model.specs.RawQueries.{raw_question_of}
use Rattle.lrp_query.specs.Grammars.{file_in, meant, query_in, wide_after}
use Rattle.lrp_query.proofs.queries.read_file_tokens.Goals as goal

pub returns-in_err-definitions : goal.returns-in_err-definitions
unfolding file_with
returns-in_err-definitions c = λ n lt.
    let p = err_from_is_err_and c.from_residual.result c.from_residual.ensures.1 in
    rw (p.1, p.2) (lifts (definitions_from meant wide_after n n [] c.args.tokens.now) (file_in n c.args.tokens.now) c.read_definitions.new.tokens c.in_err-definitions.field-0.0 (λ j e. rw e refl) (c.in_err-definitions.ensures.value n lt))

pub returns-in_err-query : goal.returns-in_err-query
unfolding file_with
returns-in_err-query c = λ n lt.
    let p = err_from_is_err_and c.from_residual-in_err-query.result c.from_residual-in_err-query.ensures.1 in
    let less : length c.read_definitions.new.tokens < n = omega (arith, c.in_ok-definitions.ensures.shorter, lt) in
    rw (p.1, p.2) (lifts (query_in wide n c.read_definitions.new.tokens) (file_in n c.args.tokens.now) c.read_tokens.new.tokens c.in_err-query.field-0.0 (λ j e. rw (c.in_ok-definitions.ensures.value n lt, e) refl) (c.in_err-query.ensures n less))

pub returns : goal.returns
unfolding file_with
returns c = λ n lt.
    let less : length c.read_definitions.new.tokens < n = omega (arith, c.in_ok-definitions.ensures.shorter, lt) in
    rw (c.in_ok-definitions.ensures.value n lt, c.in_ok-query.ensures n less) (ap (λ ds. Ok (record { definitions = ds; query = raw_question_of c.in_ok-query.query }, [])) (definitions_seen c.in_ok-definitions.definitions.items))
