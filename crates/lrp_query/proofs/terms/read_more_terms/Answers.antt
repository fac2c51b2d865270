use Rattle.std.proofs.Common.{◌≡◌, ◌∙◌, sym, ap, arith, length, Ok, true, false, ◌<◌}
use Rattle.std.proofs.lemmas.Result.{err_from_is_err_and}
use Rattle.lrp_model.specs.declared.tokens.Symbol.TheVariants.{Comma}
use Rattle.lrp_text.specs.Parsers.{eat, separated_from}
use Rattle.lrp_text.specs.Taking.{is_symbol}
use Rattle.lrp_text.proofs.Turns.{more_below, last_below, none_below}
use Rattle.lrp_query.specs.Rules.{raw_terms, argument}
use Rattle.lrp_query.proofs.terms.read_more_terms.Goals as goal

pub returns-in_err-term-clause-value : goal.returns-in_err-term-clause-value
returns-in_err-term-clause-value c = λ turns lt.
    let p = err_from_is_err_and c.from_residual-in_err-term.result c.from_residual-in_err-term.ensures.1 in
    let kept = c.loop-found.invariant.same turns lt in
    rw (p.1, p.2) (none_below (argument c.args.wide raw_terms) (is_symbol Comma) kept.0 _ _ _ _ _ c.in_err-term.field-0.0 kept.1 c.in_err-term.ensures.value kept.2)

pub returns-then-not-eat-clause-value : goal.returns-then-not-eat-clause-value
returns-then-not-eat-clause-value c = λ turns lt.
    let kept = c.loop-found.invariant.same turns lt in
    let stops : eat (is_symbol Comma) c.read_argument.new.tokens ≡ Ok (false, c.eat.new.self) = c.eat.ensures.value ∙ ap (λ b. Ok (b, c.eat.new.self)) c.if-not-eat.true in
    sym kept.2 ∙ last_below (argument c.args.wide raw_terms) (is_symbol Comma) kept.0 _ _ _ _ _ _ kept.1 c.in_ok-term.ensures.value stops ∙ ap (λ x. Ok (x, c.eat.new.self)) (sym (c.exact.ensures ∙ c.in_ok-push.ensures.ok))

pub loop-found-preserved : goal.loop-found-preserved
loop-found-preserved c = record {
  same = λ turns lt.
      let kept = c.loop-found.invariant.same turns lt in
      let goes : eat (is_symbol Comma) c.read_argument.new.tokens ≡ Ok (true, c.eat.new.self) = c.eat.ensures.value ∙ ap (λ b. Ok (b, c.eat.new.self)) c.if-not-eat.false in
      let fewer : length c.eat.new.self < length c.loop-found.tokens = omega (arith, c.eat.ensures.shorter, c.in_ok-term.ensures.fewer) in
      let next = more_below (argument c.args.wide raw_terms) (is_symbol Comma) kept.0 _ _ _ _ _ _ kept.1 c.in_ok-term.ensures.value goes fewer in
      rw c.in_ok-push.ensures.ok (next.0, next.1, sym next.2 ∙ kept.2);
  shorter = omega (arith, c.loop-found.invariant.shorter, c.eat.ensures.shorter, c.in_ok-term.ensures.fewer);
}

pub loop-found-init : goal.loop-found-init
loop-found-init c = record { same = λ turns lt. (turns, lt, ap (λ found. separated_from (argument c.args.wide raw_terms) (is_symbol Comma) turns found c.args.tokens.now) c.in_ok-found.ensures); shorter = omega arith }
