use Rattle.std.proofs.Common.{◌≡◌, ◌∙◌, ap, arith, length, Ok, true, false, ◌<◌}
use Rattle.std.proofs.lemmas.Result.{err_from_is_err_and}
use Rattle.lrp_model.specs.declared.tokens.Symbol.TheVariants.{CloseBrace}
use Rattle.lrp_text.specs.Parsers.{look}
use Rattle.lrp_text.specs.Taking.{is_symbol, located}
use Rattle.lrp_rel.specs.Rules.{row}
use Rattle.lrp_rel.specs.Gathered.{IsBodyOf}
use Rattle.lrp_rel.proofs.KeptTurns.{turn_starts, turn_ends, turn_goes, turn_fails}
use Rattle.lrp_rel.proofs.reading.read_rows.Goals as goal

pub returns-then-sees-clause-value : goal.returns-then-sees-clause-value
returns-then-sees-clause-value c = λ turns lt.
    let ends : look false (is_symbol CloseBrace) c.rows.tokens ≡ Ok (true, c.rows.tokens) = c.sees.ensures ∙ ap (λ b. Ok (b, c.rows.tokens)) c.if-sees.true in
    turn_ends (located (row turns)) (is_symbol CloseBrace) (IsBodyOf c.args.heading.now) turns c.args.tokens.now c.rows.tokens c.rows.body (c.rows.invariant.same turns lt) ends

pub returns-in_err-row-clause-value : goal.returns-in_err-row-clause-value
returns-in_err-row-clause-value c = λ turns lt.
    let p = err_from_is_err_and c.from_residual.result c.from_residual.ensures.1 in
    let goes : look false (is_symbol CloseBrace) c.rows.tokens ≡ Ok (false, c.rows.tokens) = c.sees.ensures ∙ ap (λ b. Ok (b, c.rows.tokens)) c.if-sees.false in
    let less : length c.rows.tokens < turns = omega (arith, c.rows.invariant.shorter, lt) in
    rw (p.1, p.2) (turn_fails (located (row turns)) (is_symbol CloseBrace) (IsBodyOf c.args.heading.now) turns c.args.tokens.now c.rows.tokens c.read_placed_row.new.tokens c.rows.body c.in_err-row.field-0.0 (c.rows.invariant.same turns lt) goes (c.in_err-row.ensures.value turns less))

pub rows-preserved : goal.rows-preserved
rows-preserved c = record {
  same = λ turns lt.
      let goes : look false (is_symbol CloseBrace) c.rows.tokens ≡ Ok (false, c.rows.tokens) = c.sees.ensures ∙ ap (λ b. Ok (b, c.rows.tokens)) c.if-sees.false in
      let less : length c.rows.tokens < turns = omega (arith, c.rows.invariant.shorter, lt) in
      turn_goes (located (row turns)) (is_symbol CloseBrace) (IsBodyOf c.args.heading.now) turns c.args.tokens.now c.rows.tokens c.read_placed_row.new.tokens c.rows.body c.keep.new.self c.in_ok-row.row
      (c.rows.invariant.same turns lt) goes (c.in_ok-row.ensures.value turns less) c.in_ok-row.ensures.fewer c.in_ok-keep.ensures;
  shorter = omega (arith, c.rows.invariant.shorter, c.in_ok-row.ensures.fewer);
}

pub rows-init : goal.rows-init
rows-init c = record {
  same = λ turns lt. turn_starts (located (row turns)) (is_symbol CloseBrace) (IsBodyOf c.args.heading.now) turns c.args.tokens.now c.new-body.result lt (c.new-body.ensures c.args.heading.now);
  shorter = omega arith;
}
