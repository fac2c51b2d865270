use Rattle.std.proofs.Common.{◌≡◌, ◌∙◌, [], sym, ap, subst, refl, arith, length, Ok, true, false, ◌<◌}
use Rattle.std.proofs.lemmas.Result.{err_from_is_err_and}
use Rattle.lrp_model.specs.declared.tokens.Symbol.TheVariants.{Comma}
use Rattle.lrp_text.specs.Parsers.{Reads, eat}
use Rattle.lrp_text.specs.Taking.{is_symbol}
use Rattle.lrp_text.proofs.Turns.{more_below, last_below, none_below}
use Rattle.lrp_query.specs.Rules.{raw_terms, argument}
use Rattle.lrp_query.proofs.terms.read_some_terms.Goals as goal

pub returns-in_err-first-clause-value : goal.returns-in_err-first-clause-value
returns-in_err-first-clause-value c = λ turns lt.
    let p = err_from_is_err_and c.from_residual.result c.from_residual.ensures.1 in
    rw (p.1, p.2) (none_below (argument c.args.wide raw_terms) (is_symbol Comma) turns (length c.args.tokens.now) [] c.args.tokens.now _ _ c.in_err-first.field-0.0 lt c.in_err-first.ensures.value refl)

pub returns-then-eat-clause-value : goal.returns-then-eat-clause-value
returns-then-eat-clause-value c = λ turns lt.
    let goes : eat (is_symbol Comma) c.read_argument.new.tokens ≡ Ok (true, c.eat.new.self) = c.eat.ensures.value ∙ ap (λ b. Ok (b, c.eat.new.self)) c.if-eat.true in
    let fewer : length c.eat.new.self < length c.args.tokens.now = omega (arith, c.eat.ensures.shorter, c.in_ok-first.ensures.fewer) in
    let next = more_below (argument c.args.wide raw_terms) (is_symbol Comma) turns (length c.args.tokens.now) [] _ _ _ _ lt c.in_ok-first.ensures.value goes fewer in
    subst (λ o. Reads o c.read_more_terms.result c.read_more_terms.new.tokens) (sym next.2) (c.read_more_terms.ensures.value next.0 next.1)

pub returns-clause-value : goal.returns-clause-value
returns-clause-value c = λ turns lt.
    let stops : eat (is_symbol Comma) c.read_argument.new.tokens ≡ Ok (false, c.eat.new.self) = c.eat.ensures.value ∙ ap (λ b. Ok (b, c.eat.new.self)) c.if-eat.false in
    last_below (argument c.args.wide raw_terms) (is_symbol Comma) turns (length c.args.tokens.now) [] _ _ _ _ lt c.in_ok-first.ensures.value stops ∙ ap (λ x. Ok (x, c.eat.new.self)) (sym c.in_ok-terms_from.ensures)
