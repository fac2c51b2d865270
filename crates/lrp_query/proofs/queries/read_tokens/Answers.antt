use Rattle.std.proofs.Common.{◌<◌, length, arith, refl}
use Rattle.std.proofs.lemmas.Result.{err_from_is_err_and}
use Rattle.lrp_model.specs.declared.tokens.Symbol.TheVariants.{Bar, CloseBrace, Comma}
use Rattle.lrp_text.specs.Parsers.{listed}
use Rattle.lrp_text.specs.Taking.{is_symbol, expect, expect_end}
use Rattle.lrp_text.specs.ColumnRule.{column}
use Rattle.lrp_text.proofs.Turns.{lifts}
use Rattle.lrp_query.specs.Rules.{query_over}
use Rattle.lrp_query.specs.Grammars.{part_in, query_in}
use Rattle.lrp_query.proofs.queries.read_tokens.Goals as goal

pub returns-in_err-head : goal.returns-in_err-head
unfolding query_over
returns-in_err-head g c = λ n lt.
    let p = err_from_is_err_and c.from_residual-in_err-head.result c.from_residual-in_err-head.ensures.1 in
    let fewer : length c.expect.new.self < n = omega (arith, c.in_ok-expect.ensures.fewer, lt) in
    rw (p.1, p.2) (lifts (listed column (is_symbol Comma) (is_symbol Bar) n c.expect.new.self) (query_in g.G.Grammar.language n c.args.tokens.now) c.columns.new.tokens c.in_err-head.field-0.0
    (λ j e. rw (c.in_ok-expect.ensures.value, e) refl) (c.in_err-head.ensures.value n fewer))

pub returns-in_err-body : goal.returns-in_err-body
unfolding query_over
returns-in_err-body g c = λ n lt.
    let p = err_from_is_err_and c.from_residual-in_err-body.result c.from_residual-in_err-body.ensures.1 in
    let fewer : length c.expect.new.self < n = omega (arith, c.in_ok-expect.ensures.fewer, lt) in
    let less : length c.expect-2.new.self < n = omega (arith, c.in_ok-head.ensures.shorter, c.in_ok-expect-2.ensures.fewer, fewer) in
    rw (p.1, p.2) (lifts (part_in g.G.Grammar.language 64 n c.expect-2.new.self) (query_in g.G.Grammar.language n c.args.tokens.now) c.read_part.new.tokens c.in_err-body.field-0.0
    (λ j e. rw (c.in_ok-expect.ensures.value, c.in_ok-head.ensures.value n fewer, c.in_ok-expect-2.ensures.value, e) refl) (c.in_err-body.ensures.value n less))

pub returns-in_err-expect-2 : goal.returns-in_err-expect-2
unfolding query_over
returns-in_err-expect-2 g c = λ n lt.
    let p = err_from_is_err_and c.from_residual-in_err-expect-2.result c.from_residual-in_err-expect-2.ensures.1 in
    let fewer : length c.expect.new.self < n = omega (arith, c.in_ok-expect.ensures.fewer, lt) in
    rw (p.1, p.2) (lifts (expect Bar c.columns.new.tokens) (query_in g.G.Grammar.language n c.args.tokens.now) c.expect-2.new.self c.in_err-expect-2.field-0.0
    (λ j e. rw (c.in_ok-expect.ensures.value, c.in_ok-head.ensures.value n fewer, e) refl) c.in_err-expect-2.ensures.value)

pub returns-in_err-expect-3 : goal.returns-in_err-expect-3
unfolding query_over
returns-in_err-expect-3 g c = λ n lt.
    let p = err_from_is_err_and c.from_residual-in_err-expect-3.result c.from_residual-in_err-expect-3.ensures.1 in
    let fewer : length c.expect.new.self < n = omega (arith, c.in_ok-expect.ensures.fewer, lt) in
    let less : length c.expect-2.new.self < n = omega (arith, c.in_ok-head.ensures.shorter, c.in_ok-expect-2.ensures.fewer, fewer) in
    rw (p.1, p.2) (lifts (expect CloseBrace c.read_part.new.tokens) (query_in g.G.Grammar.language n c.args.tokens.now) c.expect-3.new.self c.in_err-expect-3.field-0.0
    (λ j e. rw (c.in_ok-expect.ensures.value, c.in_ok-head.ensures.value n fewer, c.in_ok-expect-2.ensures.value, c.in_ok-body.ensures.value n less, e) refl) c.in_err-expect-3.ensures.value)

pub returns-in_err-expect_end : goal.returns-in_err-expect_end
unfolding query_over
returns-in_err-expect_end g c = λ n lt.
    let p = err_from_is_err_and c.from_residual-in_err-expect_end.result c.from_residual-in_err-expect_end.ensures.1 in
    let fewer : length c.expect.new.self < n = omega (arith, c.in_ok-expect.ensures.fewer, lt) in
    let less : length c.expect-2.new.self < n = omega (arith, c.in_ok-head.ensures.shorter, c.in_ok-expect-2.ensures.fewer, fewer) in
    rw (p.1, p.2) (lifts (expect_end c.expect-3.new.self) (query_in g.G.Grammar.language n c.args.tokens.now) c.expect-3.new.self c.in_err-expect_end.field-0.0
    (λ j e. rw (c.in_ok-expect.ensures.value, c.in_ok-head.ensures.value n fewer, c.in_ok-expect-2.ensures.value, c.in_ok-body.ensures.value n less, c.in_ok-expect-3.ensures.value, e) refl) c.in_err-expect_end.ensures.value)

pub returns : goal.returns
unfolding query_over
returns g c = λ n lt.
    let fewer : length c.expect.new.self < n = omega (arith, c.in_ok-expect.ensures.fewer, lt) in
    let less : length c.expect-2.new.self < n = omega (arith, c.in_ok-head.ensures.shorter, c.in_ok-expect-2.ensures.fewer, fewer) in
    rw (c.in_ok-expect.ensures.value, c.in_ok-head.ensures.value n fewer, c.in_ok-expect-2.ensures.value, c.in_ok-body.ensures.value n less, c.in_ok-expect-3.ensures.value, c.in_ok-expect_end.ensures.value) refl
