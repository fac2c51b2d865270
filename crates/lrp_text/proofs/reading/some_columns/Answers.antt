use Rattle.std.proofs.Common.{◌≡◌, ◌∙◌, sym, ap, arith, length, Ok, true, false, ◌<◌}
use Rattle.std.proofs.lemmas.Result.{err_from_is_err_and}
use Rattle.lrp_model.specs.declared.tokens.Symbol.TheVariants.{Comma}
use Rattle.lrp_text.specs.Parsers.{eat, separated_from}
use Rattle.lrp_text.specs.Taking.{is_symbol}
use Rattle.lrp_text.specs.ColumnRule.{column}
use Rattle.lrp_text.proofs.Turns.{more_below, last_below, none_below}
use Rattle.lrp_text.proofs.reading.some_columns.Goals as goal

pub returns-in_err-column-clause-value : goal.returns-in_err-column-clause-value
returns-in_err-column-clause-value c = λ turns lt.
    let p = err_from_is_err_and c.from_residual.result c.from_residual.ensures.1 in
    let kept = c.loop-found.invariant.same turns lt in
    rw (p.1, p.2) (none_below column (is_symbol Comma) kept.0 _ _ _ _ _ c.in_err-column.field-0.0 kept.1 c.in_err-column.ensures.value kept.2)

pub returns-then-not-eat-clause-value : goal.returns-then-not-eat-clause-value
returns-then-not-eat-clause-value c = λ turns lt.
    let kept = c.loop-found.invariant.same turns lt in
    let stops : eat (is_symbol Comma) c.column.new.tokens ≡ Ok (false, c.eat.new.self) = c.eat.ensures.value ∙ ap (λ b. Ok (b, c.eat.new.self)) c.if-not-eat.true in
    sym kept.2 ∙ last_below column (is_symbol Comma) kept.0 _ _ _ _ _ _ kept.1 c.in_ok-column.ensures.value stops ∙ ap (λ x. Ok (x, c.eat.new.self)) (sym (c.shrink_to_fit.ensures ∙ c.in_ok-push.ensures.ok))

pub loop-found-preserved : goal.loop-found-preserved
loop-found-preserved c = record {
  same = λ turns lt.
      let kept = c.loop-found.invariant.same turns lt in
      let goes : eat (is_symbol Comma) c.column.new.tokens ≡ Ok (true, c.eat.new.self) = c.eat.ensures.value ∙ ap (λ b. Ok (b, c.eat.new.self)) c.if-not-eat.false in
      let fewer : length c.eat.new.self < length c.loop-found.tokens = omega (arith, c.eat.ensures.shorter, c.in_ok-column.ensures.fewer) in
      let next = more_below column (is_symbol Comma) kept.0 _ _ _ _ _ _ kept.1 c.in_ok-column.ensures.value goes fewer in
      rw c.in_ok-push.ensures.ok (next.0, next.1, sym next.2 ∙ kept.2);
  shorter = omega (arith, c.loop-found.invariant.shorter, c.eat.ensures.shorter, c.in_ok-column.ensures.fewer);
}

pub loop-found-init : goal.loop-found-init
loop-found-init c = record { same = λ turns lt. (turns, lt, ap (λ found. separated_from column (is_symbol Comma) turns found c.args.tokens.now) c.new-found.ensures); shorter = omega arith }
