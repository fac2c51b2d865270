use Rattle.std.proofs.Common.{◌<◌, length, arith, refl}
use Rattle.std.proofs.lemmas.Result.{err_from_is_err_and}
use Rattle.lrp_model.specs.declared.tokens.Symbol.TheVariants.{Close, Comma}
use Rattle.lrp_text.specs.Parsers.{listed}
use Rattle.lrp_text.specs.Taking.{is_symbol}
use Rattle.lrp_rel.specs.Rules.{row, value, bounds}
use Rattle.lrp_text.proofs.Turns.{lifts}
use Rattle.lrp_rel.proofs.reading.read_row.Goals as goal

pub returns-in_err-values-clause-value : goal.returns-in_err-values-clause-value
unfolding row
returns-in_err-values-clause-value c = λ n lt.
    let p = err_from_is_err_and c.from_residual-in_err-values.result c.from_residual-in_err-values.ensures.1 in
    let fewer : length c.expect.new.self < n = omega (arith, c.in_ok-expect.ensures.fewer, lt) in
    rw (p.1, p.2) (lifts (listed value (is_symbol Comma) (is_symbol Close) n c.expect.new.self) (row n c.args.tokens.now) c.read_values.new.tokens c.in_err-values.field-0.0
    (λ j e. rw (c.in_ok-expect.ensures.value, e) refl) (c.in_err-values.ensures.value n fewer))

pub returns-in_err-bounds-clause-value : goal.returns-in_err-bounds-clause-value
unfolding row
returns-in_err-bounds-clause-value c = λ n lt.
    let p = err_from_is_err_and c.from_residual-in_err-bounds.result c.from_residual-in_err-bounds.ensures.1 in
    let fewer : length c.expect.new.self < n = omega (arith, c.in_ok-expect.ensures.fewer, lt) in
    let less : length c.expect-2.new.self < n = omega (arith, c.in_ok-values.ensures.shorter, c.in_ok-expect-2.ensures.fewer, fewer) in
    rw (p.1, p.2) (lifts (bounds n c.expect-2.new.self) (row n c.args.tokens.now) c.read_bounds.new.tokens c.in_err-bounds.field-0.0
    (λ j e. rw (c.in_ok-expect.ensures.value, c.in_ok-values.ensures.value n fewer, c.in_ok-expect-2.ensures.value, e) refl) (c.in_err-bounds.ensures.value n less))
