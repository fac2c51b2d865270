use Rattle.std.proofs.Common.{◌≡◌, ◌∙◌, ◌<◌, ◌∷◌, ◌++◌, [], map, sym, ap, arith, length, Ok, true, false}
use Rattle.std.proofs.lemmas.List.{map_push}
use Rattle.std.proofs.lemmas.Result.{err_from_is_err_and}
use Rattle.lrp_model.specs.Queries.{define_word}
use Rattle.lrp_text.specs.Parsers.{look}
use Rattle.lrp_text.specs.Taking.{is_token_named}
use Rattle.lrp_query.specs.Grammars.{meant, wide_after, read_definition_of}
use Rattle.lrp_query.specs.Rules.{definitions_from}
use Rattle.lrp_query.proofs.Turning.{definitions_end, definitions_go, definitions_fail}
use Rattle.lrp_query.proofs.queries.read_definitions.Goals as goal

pub loop-alloc-init : goal.loop-alloc-init
loop-alloc-init c = record { same = λ turns lt. (turns, lt, ap (λ found. definitions_from meant wide_after turns turns (map read_definition_of found) c.args.tokens.now) c.new-found.ensures.items); shorter = omega arith }

pub returns-in_err-definition-clause-value : goal.returns-in_err-definition-clause-value
returns-in_err-definition-clause-value c = λ turns lt.
    let p = err_from_is_err_and c.from_residual.result c.from_residual.ensures.1 in
    let kept = c.loop-alloc.invariant.same turns lt in
    let less : length c.loop-alloc.tokens < turns = omega (arith, c.loop-alloc.invariant.shorter, lt) in
    let defines : look false (is_token_named define_word) c.loop-alloc.tokens ≡ Ok (true, c.loop-alloc.tokens) = c.sees_named.ensures ∙ ap (λ b. Ok (b, c.loop-alloc.tokens)) c.loop-alloc-test.true in
    rw (p.1, p.2) (definitions_fail meant wide_after turns _ c.loop-alloc.tokens kept.0 _ _ _ c.in_err-definition.field-0.0 kept.1 defines (c.in_err-definition.ensures.value turns less) kept.2)

pub loop-alloc-preserved : goal.loop-alloc-preserved
loop-alloc-preserved c = record {
  same = λ turns lt.
      let kept = c.loop-alloc.invariant.same turns lt in
      let less : length c.loop-alloc.tokens < turns = omega (arith, c.loop-alloc.invariant.shorter, lt) in
      let defines : look false (is_token_named define_word) c.loop-alloc.tokens ≡ Ok (true, c.loop-alloc.tokens) = c.sees_named.ensures ∙ ap (λ b. Ok (b, c.loop-alloc.tokens)) c.loop-alloc-test.true in
      let next = definitions_go meant wide_after turns _ c.loop-alloc.tokens kept.0 _ _ _ kept.1 defines (c.in_ok-definition.ensures.value turns less) c.in_ok-definition.ensures.fewer in
      (next.0, next.1, ap (λ found. definitions_from meant wide_after next.0 turns found c.read_definition.new.tokens) (ap (map read_definition_of) c.in_ok-add.ensures ∙ map_push read_definition_of c.loop-alloc.found.items c.in_ok-definition.definition) ∙ sym next.2 ∙ kept.2);
  shorter = omega (arith, c.loop-alloc.invariant.shorter, c.in_ok-definition.ensures.fewer);
}

pub returns-clause-value : goal.returns-clause-value
returns-clause-value c = λ turns lt.
    let kept = c.loop-alloc.invariant.same turns lt in
    let none : look false (is_token_named define_word) c.loop-alloc.tokens ≡ Ok (false, c.loop-alloc.tokens) = c.sees_named.ensures ∙ ap (λ b. Ok (b, c.loop-alloc.tokens)) c.loop-alloc-test.false in
    sym kept.2 ∙ definitions_end meant wide_after turns _ c.loop-alloc.tokens kept.0 _ kept.1 none
