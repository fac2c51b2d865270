use Rattle.std.proofs.Common.{◌≡◌, ◌∙◌, ◌++◌, ◌∷◌, [], sym, ap, arith, length, map, Ok, true, false, ◌<◌}
use Rattle.std.proofs.lemmas.List.{map_push}
use Rattle.std.proofs.lemmas.Result.{err_from_is_err_and}
use Rattle.lrp_model.specs.declared.tokens.Symbol.TheVariants.{Comma}
use Rattle.lrp_text.specs.Parsers.{eat, separated_from}
use Rattle.lrp_text.specs.Taking.{is_symbol, name}
use Rattle.lrp_text.proofs.Turns.{more_below, last_below, none_below}
use Rattle.lrp_query.specs.Grammars.{name_and_place, names_and_places}
use Rattle.lrp_query.proofs.binders.read_names.Goals as goal

pub returns-in_err-name-clause-value : goal.returns-in_err-name-clause-value
returns-in_err-name-clause-value c = λ turns lt.
    let p = err_from_is_err_and c.from_residual.result c.from_residual.ensures.1 in
    let kept = c.loop-names.invariant.same turns lt in
    rw (p.1, p.2) (none_below name (is_symbol Comma) kept.0 _ _ _ _ _ c.in_err-name.field-0.0 kept.1 c.in_err-name.ensures.value kept.2)

pub returns-then-not-eat-clause-value : goal.returns-then-not-eat-clause-value
returns-then-not-eat-clause-value c = λ turns lt.
    let kept = c.loop-names.invariant.same turns lt in
    let stops : eat (is_symbol Comma) c.name.new.self ≡ Ok (false, c.eat.new.self) = c.eat.ensures.value ∙ ap (λ b. Ok (b, c.eat.new.self)) c.if-not-eat.true in
    sym kept.2 ∙ last_below name (is_symbol Comma) kept.0 _ _ _ _ _ _ kept.1 c.in_ok-name.ensures.value stops ∙ ap (λ x. Ok (x, c.eat.new.self)) (sym (ap (map name_and_place) c.in_ok-add.ensures ∙ map_push name_and_place c.loop-names.names.items _))

pub loop-names-preserved : goal.loop-names-preserved
loop-names-preserved c = record {
  same = λ turns lt.
      let kept = c.loop-names.invariant.same turns lt in
      let goes : eat (is_symbol Comma) c.name.new.self ≡ Ok (true, c.eat.new.self) = c.eat.ensures.value ∙ ap (λ b. Ok (b, c.eat.new.self)) c.if-not-eat.false in
      let fewer : length c.eat.new.self < length c.loop-names.tokens = omega (arith, c.eat.ensures.shorter, c.in_ok-name.ensures.fewer) in
      let next = more_below name (is_symbol Comma) kept.0 _ _ _ _ _ _ kept.1 c.in_ok-name.ensures.value goes fewer in
      (next.0, next.1, ap (λ found. separated_from name (is_symbol Comma) next.0 found c.eat.new.self) (ap (map name_and_place) c.in_ok-add.ensures ∙ map_push name_and_place c.loop-names.names.items _) ∙ sym next.2 ∙ kept.2);
  shorter = omega (arith, c.loop-names.invariant.shorter, c.eat.ensures.shorter, c.in_ok-name.ensures.fewer);
}

pub loop-names-init : goal.loop-names-init
loop-names-init c = record { same = λ turns lt. (turns, lt, ap (λ found. separated_from name (is_symbol Comma) turns (map name_and_place found) c.args.tokens.now) c.new-names.ensures.items); shorter = omega arith }
