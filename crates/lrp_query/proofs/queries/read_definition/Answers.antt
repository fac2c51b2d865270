use Rattle.std.proofs.Common.{◌<◌, length, arith, refl}
use Rattle.std.proofs.lemmas.Result.{err_from_is_err_and}
use Rattle.lrp_model.specs.Queries.{define_word, as_word}
use Rattle.lrp_model.specs.Queries.Language.{wide}
use Rattle.lrp_model.specs.declared.tokens.Symbol.TheVariants.{Open, Close, Comma, Semicolon}
use Rattle.lrp_text.specs.Parsers.{listed}
use Rattle.lrp_text.specs.Taking.{is_symbol, expect, expect_named, name}
use Rattle.lrp_text.specs.ColumnRule.{column}
use Rattle.lrp_text.proofs.Turns.{lifts}
use Rattle.lrp_query.specs.Rules.{definition_with}
use Rattle.lrp_query.specs.Grammars.{meant, part_in, wide_after}
use Rattle.lrp_query.proofs.queries.read_definition.Goals as goal

pub returns-in_err-expect_named-clause-value : goal.returns-in_err-expect_named-clause-value
unfolding definition_with
returns-in_err-expect_named-clause-value c = λ n lt.
    let p = err_from_is_err_and c.from_residual.result c.from_residual.ensures.1 in
    rw (p.1, p.2) (lifts (expect_named define_word c.args.tokens.now) (definition_with meant wide_after n c.args.tokens.now) c.expect_named.new.self c.in_err-expect_named.field-0.0 (λ j e. rw e refl) c.in_err-expect_named.ensures.value)

pub returns-in_err-name-clause-value : goal.returns-in_err-name-clause-value
unfolding definition_with
returns-in_err-name-clause-value c = λ n lt.
    let p = err_from_is_err_and c.from_residual-in_err-name.result c.from_residual-in_err-name.ensures.1 in
    rw (p.1, p.2) (lifts (name c.expect_named.new.self) (definition_with meant wide_after n c.args.tokens.now) c.name.new.self c.in_err-name.field-0.0 (λ j e. rw (c.in_ok-expect_named.ensures.value, e) refl) c.in_err-name.ensures.value)

pub returns-in_err-expect-clause-value : goal.returns-in_err-expect-clause-value
unfolding definition_with
returns-in_err-expect-clause-value c = λ n lt.
    let p = err_from_is_err_and c.from_residual-in_err-expect.result c.from_residual-in_err-expect.ensures.1 in
    rw (p.1, p.2) (lifts (expect Open c.name.new.self) (definition_with meant wide_after n c.args.tokens.now) c.expect.new.self c.in_err-expect.field-0.0 (λ j e. rw (c.in_ok-expect_named.ensures.value, c.in_ok-name.ensures.value, e) refl) c.in_err-expect.ensures.value)

pub returns-in_err-columns-clause-value : goal.returns-in_err-columns-clause-value
unfolding definition_with
returns-in_err-columns-clause-value c = λ n lt.
    let p = err_from_is_err_and c.from_residual-in_err-columns.result c.from_residual-in_err-columns.ensures.1 in
    let first : length c.expect.new.self < n = omega (arith, c.in_ok-expect_named.ensures.fewer, c.in_ok-name.ensures.fewer, c.in_ok-expect.ensures.fewer, lt) in
    rw (p.1, p.2) (lifts (listed column (is_symbol Comma) (is_symbol Close) n c.expect.new.self) (definition_with meant wide_after n c.args.tokens.now) c.columns.new.tokens c.in_err-columns.field-0.0 (λ j e. rw (c.in_ok-expect_named.ensures.value, c.in_ok-name.ensures.value, c.in_ok-expect.ensures.value, e) refl) (c.in_err-columns.ensures.value n first))

pub returns-in_err-expect-2-clause-value : goal.returns-in_err-expect-2-clause-value
unfolding definition_with
returns-in_err-expect-2-clause-value c = λ n lt.
    let p = err_from_is_err_and c.from_residual-in_err-expect-2.result c.from_residual-in_err-expect-2.ensures.1 in
    let first : length c.expect.new.self < n = omega (arith, c.in_ok-expect_named.ensures.fewer, c.in_ok-name.ensures.fewer, c.in_ok-expect.ensures.fewer, lt) in
    rw (p.1, p.2) (lifts (expect Close c.columns.new.tokens) (definition_with meant wide_after n c.args.tokens.now) c.expect-2.new.self c.in_err-expect-2.field-0.0 (λ j e. rw (c.in_ok-expect_named.ensures.value, c.in_ok-name.ensures.value, c.in_ok-expect.ensures.value, c.in_ok-columns.ensures.value n first, e) refl) c.in_err-expect-2.ensures.value)

pub returns-in_err-expect_named-2-clause-value : goal.returns-in_err-expect_named-2-clause-value
unfolding definition_with
returns-in_err-expect_named-2-clause-value c = λ n lt.
    let p = err_from_is_err_and c.from_residual-in_err-expect_named-2.result c.from_residual-in_err-expect_named-2.ensures.1 in
    let first : length c.expect.new.self < n = omega (arith, c.in_ok-expect_named.ensures.fewer, c.in_ok-name.ensures.fewer, c.in_ok-expect.ensures.fewer, lt) in
    rw (p.1, p.2) (lifts (expect_named as_word c.expect-2.new.self) (definition_with meant wide_after n c.args.tokens.now) c.expect_named-2.new.self c.in_err-expect_named-2.field-0.0 (λ j e. rw (c.in_ok-expect_named.ensures.value, c.in_ok-name.ensures.value, c.in_ok-expect.ensures.value, c.in_ok-columns.ensures.value n first, c.in_ok-expect-2.ensures.value, e) refl) c.in_err-expect_named-2.ensures.value)

pub returns-in_err-body-clause-value : goal.returns-in_err-body-clause-value
unfolding definition_with
returns-in_err-body-clause-value c = λ n lt.
    let p = err_from_is_err_and c.from_residual-in_err-body.result c.from_residual-in_err-body.ensures.1 in
    let first : length c.expect.new.self < n = omega (arith, c.in_ok-expect_named.ensures.fewer, c.in_ok-name.ensures.fewer, c.in_ok-expect.ensures.fewer, lt) in
    let second : length c.expect_named-2.new.self < n = omega (arith, c.in_ok-columns.ensures.shorter, c.in_ok-expect-2.ensures.fewer, c.in_ok-expect_named-2.ensures.fewer, first) in
    rw (p.1, p.2) (lifts (part_in wide 64 n c.expect_named-2.new.self) (definition_with meant wide_after n c.args.tokens.now) c.read_part.new.tokens c.in_err-body.field-0.0 (λ j e. rw (c.in_ok-expect_named.ensures.value, c.in_ok-name.ensures.value, c.in_ok-expect.ensures.value, c.in_ok-columns.ensures.value n first, c.in_ok-expect-2.ensures.value, c.in_ok-expect_named-2.ensures.value, e) refl) (c.in_err-body.ensures.value n second))

pub returns-in_err-expect-3-clause-value : goal.returns-in_err-expect-3-clause-value
unfolding definition_with
returns-in_err-expect-3-clause-value c = λ n lt.
    let p = err_from_is_err_and c.from_residual-in_err-expect-3.result c.from_residual-in_err-expect-3.ensures.1 in
    let first : length c.expect.new.self < n = omega (arith, c.in_ok-expect_named.ensures.fewer, c.in_ok-name.ensures.fewer, c.in_ok-expect.ensures.fewer, lt) in
    let second : length c.expect_named-2.new.self < n = omega (arith, c.in_ok-columns.ensures.shorter, c.in_ok-expect-2.ensures.fewer, c.in_ok-expect_named-2.ensures.fewer, first) in
    rw (p.1, p.2) (lifts (expect Semicolon c.read_part.new.tokens) (definition_with meant wide_after n c.args.tokens.now) c.expect-3.new.self c.in_err-expect-3.field-0.0 (λ j e. rw (c.in_ok-expect_named.ensures.value, c.in_ok-name.ensures.value, c.in_ok-expect.ensures.value, c.in_ok-columns.ensures.value n first, c.in_ok-expect-2.ensures.value, c.in_ok-expect_named-2.ensures.value, c.in_ok-body.ensures.value n second, e) refl) c.in_err-expect-3.ensures.value)

pub returns-clause-value : goal.returns-clause-value
unfolding definition_with
returns-clause-value c = λ n lt.
    let first : length c.expect.new.self < n = omega (arith, c.in_ok-expect_named.ensures.fewer, c.in_ok-name.ensures.fewer, c.in_ok-expect.ensures.fewer, lt) in
    let second : length c.expect_named-2.new.self < n = omega (arith, c.in_ok-columns.ensures.shorter, c.in_ok-expect-2.ensures.fewer, c.in_ok-expect_named-2.ensures.fewer, first) in
    rw (c.in_ok-expect_named.ensures.value, c.in_ok-name.ensures.value, c.in_ok-expect.ensures.value, c.in_ok-columns.ensures.value n first, c.in_ok-expect-2.ensures.value, c.in_ok-expect_named-2.ensures.value, c.in_ok-body.ensures.value n second, c.in_ok-expect-3.ensures.value) refl
