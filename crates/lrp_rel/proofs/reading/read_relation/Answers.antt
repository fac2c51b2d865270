use Rattle.std.proofs.Common.{◌<◌, ap, sym, [], length, arith, refl, Ok}
use Rattle.std.proofs.lemmas.Result.{err_from_is_err_and}
use Rattle.lrp_model.specs.declared.tokens.Symbol.TheVariants.{Close, CloseBrace, Comma}
use Rattle.lrp_text.specs.Parsers.{listed, until_from}
use Rattle.lrp_text.specs.Taking.{is_symbol, located}
use Rattle.lrp_text.specs.ColumnRule.{column}
use Rattle.lrp_rel.specs.Rules.{row, relation}
use Rattle.lrp_text.proofs.Turns.{lifts}
use Rattle.lrp_rel.proofs.GatheredLemmas.{written_with}
use Rattle.lrp_rel.proofs.reading.read_relation.Goals as goal

pub returns-in_err-columns-clause-value : goal.returns-in_err-columns-clause-value
unfolding relation
returns-in_err-columns-clause-value c = λ n lt.
    let p = err_from_is_err_and c.from_residual-in_err-columns.result c.from_residual-in_err-columns.ensures.1 in
    let fewer : length c.expect.new.self < n = omega (arith, c.in_ok-expect_word.ensures.fewer, c.in_ok-name.ensures.fewer, c.in_ok-expect.ensures.fewer, lt) in
    rw (p.1, p.2) (lifts (listed column (is_symbol Comma) (is_symbol Close) n c.expect.new.self) (relation n c.args.tokens.now) c.columns.new.tokens c.in_err-columns.field-0.0
    (λ j e. rw (c.in_ok-expect_word.ensures.value, c.in_ok-name.ensures.value, c.in_ok-expect.ensures.value, e) refl) (c.in_err-columns.ensures.value n fewer))

pub returns-in_err-body-clause-value : goal.returns-in_err-body-clause-value
unfolding relation
returns-in_err-body-clause-value c = λ n lt.
    let p = err_from_is_err_and c.from_residual-in_err-body.result c.from_residual-in_err-body.ensures.1 in
    let fewer : length c.expect.new.self < n = omega (arith, c.in_ok-expect_word.ensures.fewer, c.in_ok-name.ensures.fewer, c.in_ok-expect.ensures.fewer, lt) in
    let less : length c.expect-3.new.self < n = omega (arith, c.in_ok-columns.ensures.shorter, c.in_ok-expect-2.ensures.fewer, c.in_ok-expect-3.ensures.fewer, fewer) in
    rw (p.1, p.2) (lifts (until_from (located (row n)) (is_symbol CloseBrace) n [] c.expect-3.new.self) (relation n c.args.tokens.now) c.read_rows.new.tokens c.in_err-body.field-0.0
    (λ j e. rw (c.in_ok-expect_word.ensures.value, c.in_ok-name.ensures.value, c.in_ok-expect.ensures.value, c.in_ok-columns.ensures.value n fewer, c.in_ok-expect-2.ensures.value, c.in_ok-expect-3.ensures.value, e) refl) (c.in_err-body.ensures.value n less))

pub returns-clause-value : goal.returns-clause-value
unfolding relation
returns-clause-value c = λ n lt.
    let fewer : length c.expect.new.self < n = omega (arith, c.in_ok-expect_word.ensures.fewer, c.in_ok-name.ensures.fewer, c.in_ok-expect.ensures.fewer, lt) in
    let less : length c.expect-3.new.self < n = omega (arith, c.in_ok-columns.ensures.shorter, c.in_ok-expect-2.ensures.fewer, c.in_ok-expect-3.ensures.fewer, fewer) in
    let rows = c.in_ok-body.ensures.value n less in
    let name = c.in_ok-name.name in
    record {
      value = written_with name c.in_ok-heading.heading.columns rows.value;
      read = rw (c.in_ok-expect_word.ensures.value, c.in_ok-name.ensures.value, c.in_ok-expect.ensures.value, c.in_ok-columns.ensures.value n fewer, c.in_ok-expect-2.ensures.value, c.in_ok-expect-3.ensures.value, rows.read, c.in_ok-expect-4.ensures.value)
          (ap (λ cs. Ok (written_with name cs rows.value, c.expect-4.new.self)) (sym c.in_ok-heading.ensures.columns));
      stands = c.in_ok-of.ensures rows.value rows.stands;
    }
