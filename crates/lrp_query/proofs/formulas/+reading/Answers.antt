use Rattle.std.proofs.Common.{◌≡◌, ◌<◌, ◌≤◌, ◌-◌, ◌∷◌, [], map, ◌∙◌, sym, ap, subst, refl, arith, length, Ok, Err, Some, None, true, false}
use Rattle.std.proofs.lemmas.Result.{err_from_is_err_and}
use Rattle.lrp_model.specs.Queries.{is_wide}
use Rattle.lrp_model.specs.RawQueries.{raw_form_of}
use Rattle.lrp_model.specs.declared.tokens.Word.TheVariants.{And, Or, Implies}
use Rattle.lrp_model.specs.declared.tokens.Symbol.TheVariants.{Comma, Close}
use Rattle.lrp_text.specs.Parsers.{Reads, look, eat, separated_from, and_then, pure}
use Rattle.lrp_text.specs.Taking.{is_name, is_word, expect}
use Rattle.lrp_text.specs.ColumnRule.{column}
use Rattle.lrp_text.proofs.Turns.{more_below, last_below, none_below, lifts}
use Rattle.lrp_query.specs.declared.starts.Start.TheVariants.{Not as by_not, Exists as by_exists, Forall as by_forall, Open as by_open, Name as by_name, Term as by_term}
use Rattle.lrp_query.specs.declared.words.Leading.TheVariants.{OfRange, OfPair}
use Rattle.lrp_query.specs.Rules.{named, negated, existing, holding, enclosed, after_first, implying, conjoined, disjoined, both, either, chained, whole, closed_whole, member_of, quantified, binders_rule}
use Rattle.lrp_query.specs.OperatorRules.{closed_by, ranged_parts, paired_parts}
use Rattle.lrp_query.specs.Grammars.{meant, operators_in, formula_in, formulas_in, part_in, whole_in, word_in, joined_of, quantified_by}
use Rattle.lrp_query.specs.Reading.{ReadsAs}
use Rattle.lrp_query.proofs.Started.{started_in, cut_in}
use Rattle.lrp_query.proofs.Parts.{narrow_part, wide_part, narrow_existing, wide_existing, unread_existing, narrow_holding, wide_holding, unread_holding, narrow_enclosed, wide_enclosed, unread_enclosed, plain_after_at, range_after_at, pair_after_at, none_after_at}
use Rattle.lrp_query.proofs.Chains.{chain_cut, chain_unread, chain_ends, chain_goes, chain_fails}
use Rattle.lrp_query.proofs.Places.{bare_is, implied_is}
use Rattle.lrp_query.proofs.formulas.+reading.Goals as goal

pub read_formula-returns-then-depth-eq0-clause-value : goal.read_formula-returns-then-depth-eq0-clause-value
read_formula-returns-then-depth-eq0-clause-value g t c = λ turns lt. cut_in g.G.Grammar.language c.args.depth turns c.args.tokens.now c.too_deep.result c.if-depth-eq0.true c.too_deep.ensures.value c.too_deep.ensures.no_hole

pub read_formula-returns-in-Not-clause-value : goal.read_formula-returns-in-Not-clause-value
read_formula-returns-in-Not-clause-value g t c = λ turns lt.
    subst (λ o. ReadsAs raw_form_of o c.read_negation.result c.read_negation.new.tokens) (sym (started_in g.G.Grammar.language c.args.depth turns c.args.tokens.now c.place-place.result by_not c.if-depth-eq0.false c.in-Not.ensures.no_hole c.place-place.ensures c.in-Not.ensures.value)) (c.read_negation.ensures.value turns lt)

pub read_formula-returns-in-Exists-clause-value : goal.read_formula-returns-in-Exists-clause-value
read_formula-returns-in-Exists-clause-value g t c = λ turns lt.
    subst (λ o. ReadsAs raw_form_of o c.read_existential.result c.read_existential.new.tokens) (sym (started_in g.G.Grammar.language c.args.depth turns c.args.tokens.now c.place-place.result by_exists c.if-depth-eq0.false c.in-Exists.ensures.no_hole c.place-place.ensures c.in-Exists.ensures.value)) (c.read_existential.ensures.value turns lt)

pub read_formula-returns-in-Forall-clause-value : goal.read_formula-returns-in-Forall-clause-value
read_formula-returns-in-Forall-clause-value g t c = λ turns lt.
    subst (λ o. ReadsAs raw_form_of o c.read_universal.result c.read_universal.new.tokens) (sym (started_in g.G.Grammar.language c.args.depth turns c.args.tokens.now c.place-place.result by_forall c.if-depth-eq0.false c.in-Forall.ensures.no_hole c.place-place.ensures c.in-Forall.ensures.value)) (c.read_universal.ensures.value turns lt)

pub read_formula-returns-in-Open-clause-value : goal.read_formula-returns-in-Open-clause-value
read_formula-returns-in-Open-clause-value g t c = λ turns lt.
    subst (λ o. ReadsAs raw_form_of o c.read_enclosed.result c.read_enclosed.new.tokens) (sym (started_in g.G.Grammar.language c.args.depth turns c.args.tokens.now c.place-place.result by_open c.if-depth-eq0.false c.in-Open.ensures.no_hole c.place-place.ensures c.in-Open.ensures.value)) (c.read_enclosed.ensures.value turns lt)

pub read_formula-returns-in-Name-clause-value : goal.read_formula-returns-in-Name-clause-value
read_formula-returns-in-Name-clause-value g t c = λ turns lt.
    subst (λ o. ReadsAs raw_form_of o c.read_named.result c.read_named.new.tokens) (sym (started_in g.G.Grammar.language c.args.depth turns c.args.tokens.now c.place-place.result by_name c.if-depth-eq0.false c.in-Name.ensures.no_hole c.place-place.ensures c.in-Name.ensures.value)) (c.read_named.ensures.value turns lt)

pub read_negation-returns-in_err-of-clause-value : goal.read_negation-returns-in_err-of-clause-value
unfolding negated
read_negation-returns-in_err-of-clause-value g t c = λ turns lt.
    let p = err_from_is_err_and c.from_residual-in_err-of.result c.from_residual-in_err-of.ensures.1 in
    let fewer : length c.expect_word.new.self < turns = omega (arith, c.in_ok-expect_word.ensures.fewer, lt) in
    rw (p.1, p.2) (lifts (formula_in g.G.Grammar.language c.args.depth turns c.expect_word.new.self) (negated meant (formula_in g.G.Grammar.language c.args.depth turns) c.args.place c.args.tokens.now) c.read_formula.new.tokens c.in_err-of.field-0.0
    (λ j e. rw (c.in_ok-expect_word.ensures.value, e) refl) (c.in_err-of.ensures.value turns fewer))

pub read_implication-returns-in_err-second-clause-value : goal.read_implication-returns-in_err-second-clause-value
unfolding implying
read_implication-returns-in_err-second-clause-value g t c = λ turns lt.
    let p = err_from_is_err_and c.from_residual.result c.from_residual.ensures.1 in
    rw (p.1, p.2) (lifts (formula_in g.G.Grammar.language c.args.depth turns c.args.tokens.now) (implying meant (formula_in g.G.Grammar.language c.args.depth turns) c.args.place (raw_form_of c.args.first) c.args.tokens.now) c.read_formula.new.tokens c.in_err-second.field-0.0
    (λ j e. rw e refl) (c.in_err-second.ensures.value turns lt))

pub read_formula-returns-in-Term-clause-value : goal.read_formula-returns-in-Term-clause-value
read_formula-returns-in-Term-clause-value g t c = λ turns lt.
    rw (started_in g.G.Grammar.language c.args.depth turns c.args.tokens.now c.place-place.result by_term c.if-depth-eq0.false c.in-Term.ensures.no_hole c.place-place.ensures c.in-Term.ensures.value, sym c.is_wide.ensures) c.read_unnamed.ensures.value

pub read_ranged-returns-in_err-of-clause-value : goal.read_ranged-returns-in_err-of-clause-value
unfolding ranged_parts
read_ranged-returns-in_err-of-clause-value g t c = λ turns lt.
    let p = err_from_is_err_and c.from_residual-in_err-of.result c.from_residual-in_err-of.ensures.1 in
    let fewer : length c.read_ends.new.tokens < turns = omega (arith, c.in_ok-name.ensures.fewer, c.in_ok-ends.ensures.fewer, lt) in
    rw (p.1, p.2) (lifts (formula_in g.G.Grammar.language c.args.depth turns c.read_ends.new.tokens) (ranged_parts (operators_in g.G.Grammar.language) (formula_in g.G.Grammar.language c.args.depth turns) c.args.word c.args.place c.args.tokens.now) c.read_formula.new.tokens c.in_err-of.field-0.0
    (λ j e. rw (c.in_ok-name.ensures.value, c.in_ok-ends.ensures.value, e) refl) (c.in_err-of.ensures.value turns fewer))

pub read_negation-returns-clause-value : goal.read_negation-returns-clause-value
unfolding negated
read_negation-returns-clause-value g t c = λ turns lt.
    let fewer : length c.expect_word.new.self < turns = omega (arith, c.in_ok-expect_word.ensures.fewer, lt) in
    rw (c.in_ok-expect_word.ensures.value, c.in_ok-of.ensures.value turns fewer) (ap (λ f. Ok (f, c.read_formula.new.tokens)) (sym c.in_ok-denied.ensures))

pub read_named-returns-clause-value : goal.read_named-returns-clause-value
unfolding named
read_named-returns-clause-value g t c = λ turns lt.
    let fewer : length c.name.new.self < turns = omega (arith, c.in_ok-name.ensures.fewer, lt) in
    rw c.in_ok-name.ensures.value (c.read_after.ensures.value turns fewer)

pub read_after_first-returns-then-eat_word-clause-value : goal.read_after_first-returns-then-eat_word-clause-value
unfolding after_first
read_after_first-returns-then-eat_word-clause-value g t c = λ turns lt.
    let goes : eat (is_word Implies) c.args.tokens.now ≡ Ok (true, c.eat_word.new.self) = c.eat_word.ensures.value ∙ ap (λ b. Ok (b, c.eat_word.new.self)) c.if-eat_word.true in
    let less : length c.eat_word.new.self < turns = omega (arith, c.eat_word.ensures.shorter, lt) in
    rw goes (c.read_implication.ensures.value turns less)

pub read_after_first-returns-then-eat_word-2-clause-value : goal.read_after_first-returns-then-eat_word-2-clause-value
unfolding after_first
read_after_first-returns-then-eat_word-2-clause-value g t c = λ turns lt.
    let first : eat (is_word Implies) c.args.tokens.now ≡ Ok (false, c.eat_word.new.self) = c.eat_word.ensures.value ∙ ap (λ b. Ok (b, c.eat_word.new.self)) c.if-eat_word.false in
    let goes : eat (is_word And) c.eat_word.new.self ≡ Ok (true, c.eat_word-2.new.self) = c.eat_word-2.ensures.value ∙ ap (λ b. Ok (b, c.eat_word-2.new.self)) c.if-eat_word-2.true in
    let less : length c.eat_word-2.new.self < turns = omega (arith, c.eat_word.ensures.shorter, c.eat_word-2.ensures.shorter, lt) in
    rw (first, goes) (c.read_conjunction.ensures.value turns less)

pub read_after_first-returns-then-eat_word-3-clause-value : goal.read_after_first-returns-then-eat_word-3-clause-value
unfolding after_first
read_after_first-returns-then-eat_word-3-clause-value g t c = λ turns lt.
    let first : eat (is_word Implies) c.args.tokens.now ≡ Ok (false, c.eat_word.new.self) = c.eat_word.ensures.value ∙ ap (λ b. Ok (b, c.eat_word.new.self)) c.if-eat_word.false in
    let second : eat (is_word And) c.eat_word.new.self ≡ Ok (false, c.eat_word-2.new.self) = c.eat_word-2.ensures.value ∙ ap (λ b. Ok (b, c.eat_word-2.new.self)) c.if-eat_word-2.false in
    let goes : eat (is_word Or) c.eat_word-2.new.self ≡ Ok (true, c.eat_word-3.new.self) = c.eat_word-3.ensures.value ∙ ap (λ b. Ok (b, c.eat_word-3.new.self)) c.if-eat_word-3.true in
    let less : length c.eat_word-3.new.self < turns = omega (arith, c.eat_word.ensures.shorter, c.eat_word-2.ensures.shorter, c.eat_word-3.ensures.shorter, lt) in
    rw (first, second, goes) (c.read_disjunction.ensures.value turns less)

pub read_existential-returns-in_err-expect_word-clause-value : goal.read_existential-returns-in_err-expect_word-clause-value
read_existential-returns-in_err-expect_word-clause-value g t c = λ turns lt.
    let p = err_from_is_err_and c.from_residual.result c.from_residual.ensures.1 in
    rw (p.1, p.2) (unread_existing c.args.depth turns c.args.place c.args.tokens.now g.G.Grammar.language c.expect_word.new.self c.in_err-expect_word.field-0.0 c.in_err-expect_word.ensures.value)

pub read_existential-returns-then-is_wide-clause-value : goal.read_existential-returns-then-is_wide-clause-value
read_existential-returns-then-is_wide-clause-value g t c = λ turns lt.
    let is : is_wide g.G.Grammar.language ≡ true = sym c.is_wide.ensures ∙ c.if-is_wide.true in
    let fewer : length c.expect_word.new.self < turns = omega (arith, c.in_ok-expect_word.ensures.fewer, lt) in
    rw (wide_existing c.args.depth turns c.args.place c.args.tokens.now g.G.Grammar.language is, c.in_ok-expect_word.ensures.value) (c.read_quantified.ensures.value turns fewer)

pub read_existential-returns-in_err-binder-clause-value : goal.read_existential-returns-in_err-binder-clause-value
unfolding existing
read_existential-returns-in_err-binder-clause-value g t c = λ turns lt.
    let is : is_wide g.G.Grammar.language ≡ false = sym c.is_wide.ensures ∙ c.if-is_wide.false in
    let p = err_from_is_err_and c.from_residual-in_err-binder.result c.from_residual-in_err-binder.ensures.1 in
    rw (p.1, p.2) (subst (λ o. Reads o (Err c.in_err-binder.field-0.0) c.column.new.tokens) (sym (narrow_existing c.args.depth turns c.args.place c.args.tokens.now g.G.Grammar.language is)) (lifts (column c.expect_word.new.self) (existing meant (formula_in g.G.Grammar.language c.args.depth turns) c.args.place c.args.tokens.now) c.column.new.tokens c.in_err-binder.field-0.0
    (λ j e. rw (c.in_ok-expect_word.ensures.value, e) refl) c.in_err-binder.ensures.value))

pub read_existential-returns-in_err-of-clause-value : goal.read_existential-returns-in_err-of-clause-value
unfolding existing
read_existential-returns-in_err-of-clause-value g t c = λ turns lt.
    let is : is_wide g.G.Grammar.language ≡ false = sym c.is_wide.ensures ∙ c.if-is_wide.false in
    let p = err_from_is_err_and c.from_residual-in_err-of.result c.from_residual-in_err-of.ensures.1 in
    let fewer : length c.column.new.tokens < turns = omega (arith, c.in_ok-expect_word.ensures.fewer, c.in_ok-binder.ensures.fewer, lt) in
    rw (p.1, p.2) (subst (λ o. Reads o (Err c.in_err-of.field-0.0) c.read_formula.new.tokens) (sym (narrow_existing c.args.depth turns c.args.place c.args.tokens.now g.G.Grammar.language is)) (lifts (formula_in g.G.Grammar.language c.args.depth turns c.column.new.tokens) (existing meant (formula_in g.G.Grammar.language c.args.depth turns) c.args.place c.args.tokens.now) c.read_formula.new.tokens c.in_err-of.field-0.0
    (λ j e. rw (c.in_ok-expect_word.ensures.value, c.in_ok-binder.ensures.value, e) refl) (c.in_err-of.ensures.value turns fewer)))

pub read_existential-returns-clause-value : goal.read_existential-returns-clause-value
unfolding existing
read_existential-returns-clause-value g t c = λ turns lt.
    let is : is_wide g.G.Grammar.language ≡ false = sym c.is_wide.ensures ∙ c.if-is_wide.false in
    let fewer : length c.column.new.tokens < turns = omega (arith, c.in_ok-expect_word.ensures.fewer, c.in_ok-binder.ensures.fewer, lt) in
    rw (narrow_existing c.args.depth turns c.args.place c.args.tokens.now g.G.Grammar.language is, c.in_ok-expect_word.ensures.value, c.in_ok-binder.ensures.value, c.in_ok-of.ensures.value turns fewer) (ap (λ f. Ok (f, c.read_formula.new.tokens)) (sym c.in_ok-some.ensures))

pub read_universal-returns-in_err-expect_word-clause-value : goal.read_universal-returns-in_err-expect_word-clause-value
read_universal-returns-in_err-expect_word-clause-value g t c = λ turns lt.
    let p = err_from_is_err_and c.from_residual.result c.from_residual.ensures.1 in
    rw (p.1, p.2) (unread_holding c.args.depth turns c.args.place c.args.tokens.now g.G.Grammar.language c.expect_word.new.self c.in_err-expect_word.field-0.0 c.in_err-expect_word.ensures.value)

pub read_universal-returns-then-is_wide-clause-value : goal.read_universal-returns-then-is_wide-clause-value
read_universal-returns-then-is_wide-clause-value g t c = λ turns lt.
    let is : is_wide g.G.Grammar.language ≡ true = sym c.is_wide.ensures ∙ c.if-is_wide.true in
    let fewer : length c.expect_word.new.self < turns = omega (arith, c.in_ok-expect_word.ensures.fewer, lt) in
    rw (wide_holding c.args.depth turns c.args.place c.args.tokens.now g.G.Grammar.language is, c.in_ok-expect_word.ensures.value) (c.read_quantified.ensures.value turns fewer)

pub read_universal-returns-in_err-binder-clause-value : goal.read_universal-returns-in_err-binder-clause-value
unfolding holding
read_universal-returns-in_err-binder-clause-value g t c = λ turns lt.
    let is : is_wide g.G.Grammar.language ≡ false = sym c.is_wide.ensures ∙ c.if-is_wide.false in
    let p = err_from_is_err_and c.from_residual-in_err-binder.result c.from_residual-in_err-binder.ensures.1 in
    rw (p.1, p.2) (subst (λ o. Reads o (Err c.in_err-binder.field-0.0) c.column.new.tokens) (sym (narrow_holding c.args.depth turns c.args.place c.args.tokens.now g.G.Grammar.language is)) (lifts (column c.expect_word.new.self) (holding meant (formula_in g.G.Grammar.language c.args.depth turns) c.args.place c.args.tokens.now) c.column.new.tokens c.in_err-binder.field-0.0
    (λ j e. rw (c.in_ok-expect_word.ensures.value, e) refl) c.in_err-binder.ensures.value))

pub read_universal-returns-in_err-of-clause-value : goal.read_universal-returns-in_err-of-clause-value
unfolding holding
read_universal-returns-in_err-of-clause-value g t c = λ turns lt.
    let is : is_wide g.G.Grammar.language ≡ false = sym c.is_wide.ensures ∙ c.if-is_wide.false in
    let p = err_from_is_err_and c.from_residual-in_err-of.result c.from_residual-in_err-of.ensures.1 in
    let fewer : length c.column.new.tokens < turns = omega (arith, c.in_ok-expect_word.ensures.fewer, c.in_ok-binder.ensures.fewer, lt) in
    rw (p.1, p.2) (subst (λ o. Reads o (Err c.in_err-of.field-0.0) c.read_formula.new.tokens) (sym (narrow_holding c.args.depth turns c.args.place c.args.tokens.now g.G.Grammar.language is)) (lifts (formula_in g.G.Grammar.language c.args.depth turns c.column.new.tokens) (holding meant (formula_in g.G.Grammar.language c.args.depth turns) c.args.place c.args.tokens.now) c.read_formula.new.tokens c.in_err-of.field-0.0
    (λ j e. rw (c.in_ok-expect_word.ensures.value, c.in_ok-binder.ensures.value, e) refl) (c.in_err-of.ensures.value turns fewer)))

pub read_universal-returns-clause-value : goal.read_universal-returns-clause-value
unfolding holding
read_universal-returns-clause-value g t c = λ turns lt.
    let is : is_wide g.G.Grammar.language ≡ false = sym c.is_wide.ensures ∙ c.if-is_wide.false in
    let fewer : length c.column.new.tokens < turns = omega (arith, c.in_ok-expect_word.ensures.fewer, c.in_ok-binder.ensures.fewer, lt) in
    rw (narrow_holding c.args.depth turns c.args.place c.args.tokens.now g.G.Grammar.language is, c.in_ok-expect_word.ensures.value, c.in_ok-binder.ensures.value, c.in_ok-of.ensures.value turns fewer) (ap (λ f. Ok (f, c.read_formula.new.tokens)) (sym c.in_ok-every.ensures))

pub read_enclosed-returns-in_err-expect-clause-value : goal.read_enclosed-returns-in_err-expect-clause-value
read_enclosed-returns-in_err-expect-clause-value g t c = λ turns lt.
    let p = err_from_is_err_and c.from_residual.result c.from_residual.ensures.1 in
    rw (p.1, p.2) (unread_enclosed c.args.depth turns c.args.place c.args.tokens.now g.G.Grammar.language c.expect.new.self c.in_err-expect.field-0.0 c.in_err-expect.ensures.value)

pub read_enclosed-returns-then-is_wide-clause-value : goal.read_enclosed-returns-then-is_wide-clause-value
read_enclosed-returns-then-is_wide-clause-value g t c = λ turns lt.
    let is : is_wide g.G.Grammar.language ≡ true = sym c.is_wide.ensures ∙ c.if-is_wide.true in
    let fewer : length c.expect.new.self < turns = omega (arith, c.in_ok-expect.ensures.fewer, lt) in
    rw (wide_enclosed c.args.depth turns c.args.place c.args.tokens.now g.G.Grammar.language is, c.in_ok-expect.ensures.value) (c.read_closed_whole.ensures.value turns fewer)

pub read_enclosed-returns-in_err-first-clause-value : goal.read_enclosed-returns-in_err-first-clause-value
unfolding enclosed
read_enclosed-returns-in_err-first-clause-value g t c = λ turns lt.
    let is : is_wide g.G.Grammar.language ≡ false = sym c.is_wide.ensures ∙ c.if-is_wide.false in
    let p = err_from_is_err_and c.from_residual-in_err-first.result c.from_residual-in_err-first.ensures.1 in
    let fewer : length c.expect.new.self < turns = omega (arith, c.in_ok-expect.ensures.fewer, lt) in
    rw (p.1, p.2) (subst (λ o. Reads o (Err c.in_err-first.field-0.0) c.read_formula.new.tokens) (sym (narrow_enclosed c.args.depth turns c.args.place c.args.tokens.now g.G.Grammar.language is)) (lifts (formula_in g.G.Grammar.language c.args.depth turns c.expect.new.self) (enclosed meant (formula_in g.G.Grammar.language c.args.depth turns) turns c.args.place c.args.tokens.now) c.read_formula.new.tokens c.in_err-first.field-0.0
    (λ j e. rw (c.in_ok-expect.ensures.value, e) refl) (c.in_err-first.ensures.value turns fewer)))

pub read_enclosed-returns-clause-value : goal.read_enclosed-returns-clause-value
unfolding enclosed
read_enclosed-returns-clause-value g t c = λ turns lt.
    let is : is_wide g.G.Grammar.language ≡ false = sym c.is_wide.ensures ∙ c.if-is_wide.false in
    let fewer : length c.expect.new.self < turns = omega (arith, c.in_ok-expect.ensures.fewer, lt) in
    let less : length c.read_formula.new.tokens < turns = omega (arith, c.in_ok-first.ensures.fewer, fewer) in
    rw (narrow_enclosed c.args.depth turns c.args.place c.args.tokens.now g.G.Grammar.language is, c.in_ok-expect.ensures.value, c.in_ok-first.ensures.value turns fewer) (c.read_after_first.ensures.value turns less)

pub read_conjunction-returns-in_err-of-clause-value : goal.read_conjunction-returns-in_err-of-clause-value
unfolding conjoined
read_conjunction-returns-in_err-of-clause-value g t c = λ turns lt.
    let p = err_from_is_err_and c.from_residual.result c.from_residual.ensures.1 in
    rw (p.1, p.2) (lifts (separated_from (formula_in g.G.Grammar.language c.args.depth turns) (is_word And) turns (raw_form_of c.args.first ∷ []) c.args.tokens.now) (conjoined meant (formula_in g.G.Grammar.language c.args.depth turns) turns c.args.place (raw_form_of c.args.first) c.args.tokens.now) c.read_members.new.tokens c.in_err-of.field-0.0
    (λ j e. rw e refl) (c.in_err-of.ensures.value turns turns lt lt))

pub read_conjunction-returns-in_err-expect-clause-value : goal.read_conjunction-returns-in_err-expect-clause-value
unfolding conjoined
read_conjunction-returns-in_err-expect-clause-value g t c = λ turns lt.
    let p = err_from_is_err_and c.from_residual-in_err-expect.result c.from_residual-in_err-expect.ensures.1 in
    rw (p.1, p.2) (lifts (expect Close c.read_members.new.tokens) (conjoined meant (formula_in g.G.Grammar.language c.args.depth turns) turns c.args.place (raw_form_of c.args.first) c.args.tokens.now) c.expect.new.self c.in_err-expect.field-0.0
    (λ j e. rw (c.in_ok-of.ensures.value turns turns lt lt, e) refl) c.in_err-expect.ensures.value)

pub read_conjunction-returns-clause-value : goal.read_conjunction-returns-clause-value
unfolding conjoined
read_conjunction-returns-clause-value g t c = λ turns lt.
    rw (c.in_ok-of.ensures.value turns turns lt lt, c.in_ok-expect.ensures.value) (ap (λ f. Ok (f, c.expect.new.self)) (sym c.conjunction.ensures))

pub read_disjunction-returns-in_err-of-clause-value : goal.read_disjunction-returns-in_err-of-clause-value
unfolding disjoined
read_disjunction-returns-in_err-of-clause-value g t c = λ turns lt.
    let p = err_from_is_err_and c.from_residual.result c.from_residual.ensures.1 in
    rw (p.1, p.2) (lifts (separated_from (formula_in g.G.Grammar.language c.args.depth turns) (is_word Or) turns (raw_form_of c.args.first ∷ []) c.args.tokens.now) (disjoined meant (formula_in g.G.Grammar.language c.args.depth turns) turns c.args.place (raw_form_of c.args.first) c.args.tokens.now) c.read_members.new.tokens c.in_err-of.field-0.0
    (λ j e. rw e refl) (c.in_err-of.ensures.value turns turns lt lt))

pub read_disjunction-returns-in_err-expect-clause-value : goal.read_disjunction-returns-in_err-expect-clause-value
unfolding disjoined
read_disjunction-returns-in_err-expect-clause-value g t c = λ turns lt.
    let p = err_from_is_err_and c.from_residual-in_err-expect.result c.from_residual-in_err-expect.ensures.1 in
    rw (p.1, p.2) (lifts (expect Close c.read_members.new.tokens) (disjoined meant (formula_in g.G.Grammar.language c.args.depth turns) turns c.args.place (raw_form_of c.args.first) c.args.tokens.now) c.expect.new.self c.in_err-expect.field-0.0
    (λ j e. rw (c.in_ok-of.ensures.value turns turns lt lt, e) refl) c.in_err-expect.ensures.value)

pub read_disjunction-returns-clause-value : goal.read_disjunction-returns-clause-value
unfolding disjoined
read_disjunction-returns-clause-value g t c = λ turns lt.
    rw (c.in_ok-of.ensures.value turns turns lt lt, c.in_ok-expect.ensures.value) (ap (λ f. Ok (f, c.expect.new.self)) (sym c.disjunction.ensures))

pub read_members-loop-found-init : goal.read_members-loop-found-init
read_members-loop-found-init g t c = record { same = λ turns more lt low. (more, low, ap (λ found. separated_from (formula_in g.G.Grammar.language c.args.depth turns) (is_word c.args.word) more found c.args.tokens.now) c.in_ok-found.ensures); shorter = omega arith }

pub read_members-returns-in_err-next-clause-value : goal.read_members-returns-in_err-next-clause-value
read_members-returns-in_err-next-clause-value g t c = λ turns more lt low.
    let p = err_from_is_err_and c.from_residual-in_err-next.result c.from_residual-in_err-next.ensures.1 in
    let kept = c.loop-found.invariant.same turns more lt low in
    let less : length c.loop-found.tokens < turns = omega (arith, c.loop-found.invariant.shorter, lt) in
    rw (p.1, p.2) (none_below (formula_in g.G.Grammar.language c.args.depth turns) (is_word c.args.word) kept.0 _ _ _ _ _ c.in_err-next.field-0.0 kept.1 (c.in_err-next.ensures.value turns less) kept.2)

pub read_members-returns-then-not-eat_word-clause-value : goal.read_members-returns-then-not-eat_word-clause-value
read_members-returns-then-not-eat_word-clause-value g t c = λ turns more lt low.
    let kept = c.loop-found.invariant.same turns more lt low in
    let less : length c.loop-found.tokens < turns = omega (arith, c.loop-found.invariant.shorter, lt) in
    let stops : eat (is_word c.args.word) c.read_formula.new.tokens ≡ Ok (false, c.eat_word.new.self) = c.eat_word.ensures.value ∙ ap (λ b. Ok (b, c.eat_word.new.self)) c.if-not-eat_word.true in
    sym kept.2 ∙ last_below (formula_in g.G.Grammar.language c.args.depth turns) (is_word c.args.word) kept.0 _ _ _ _ _ _ kept.1 (c.in_ok-next.ensures.value turns less) stops ∙ ap (λ x. Ok (x, c.eat_word.new.self)) (sym (ap (map raw_form_of) c.exact.ensures ∙ c.in_ok-add.ensures))

pub read_members-loop-found-preserved : goal.read_members-loop-found-preserved
read_members-loop-found-preserved g t c = record {
  same = λ turns more lt low.
      let kept = c.loop-found.invariant.same turns more lt low in
      let less : length c.loop-found.tokens < turns = omega (arith, c.loop-found.invariant.shorter, lt) in
      let goes : eat (is_word c.args.word) c.read_formula.new.tokens ≡ Ok (true, c.eat_word.new.self) = c.eat_word.ensures.value ∙ ap (λ b. Ok (b, c.eat_word.new.self)) c.if-not-eat_word.false in
      let fewer : length c.eat_word.new.self < length c.loop-found.tokens = omega (arith, c.eat_word.ensures.shorter, c.in_ok-next.ensures.fewer) in
      let next = more_below (formula_in g.G.Grammar.language c.args.depth turns) (is_word c.args.word) kept.0 _ _ _ _ _ _ kept.1 (c.in_ok-next.ensures.value turns less) goes fewer in
      rw c.in_ok-add.ensures (next.0, next.1, sym next.2 ∙ kept.2);
  shorter = omega (arith, c.loop-found.invariant.shorter, c.eat_word.ensures.shorter, c.in_ok-next.ensures.fewer);
}

pub read_after-returns-then-not-sees_name-clause-value : goal.read_after-returns-then-not-sees_name-clause-value
read_after-returns-then-not-sees_name-clause-value g t c = λ turns lt.
    let seen : look false is_name c.args.tokens.now ≡ Ok (false, c.args.tokens.now) = c.sees_name.ensures ∙ ap (λ b. Ok (b, c.args.tokens.now)) c.if-not-sees_name.true in
    rw (plain_after_at c.args.depth turns c.args.name c.args.place c.args.tokens.now g.G.Grammar.language seen, sym c.is_wide.ensures) (c.read_after_name.ensures.value turns lt)

pub read_after-returns-in-Some-OfRange-clause-value : goal.read_after-returns-in-Some-OfRange-clause-value
read_after-returns-in-Some-OfRange-clause-value g t c = λ turns lt.
    let seen : look false is_name c.args.tokens.now ≡ Ok (true, c.args.tokens.now) = c.sees_name.ensures ∙ ap (λ b. Ok (b, c.args.tokens.now)) c.if-not-sees_name.false in
    let word : Some (OfRange c.in-Some-OfRange.word) ≡ word_in g.G.Grammar.language c.args.name = ap Some (sym c.in-Some-OfRange.field-0-is) ∙ c.in-Some-OfRange.ensures in
    rw (range_after_at c.args.depth turns c.args.name c.args.place c.args.tokens.now g.G.Grammar.language c.in-Some-OfRange.word seen word) (c.read_ranged.ensures.value turns lt)

pub read_after-returns-in-Some-OfPair-clause-value : goal.read_after-returns-in-Some-OfPair-clause-value
read_after-returns-in-Some-OfPair-clause-value g t c = λ turns lt.
    let seen : look false is_name c.args.tokens.now ≡ Ok (true, c.args.tokens.now) = c.sees_name.ensures ∙ ap (λ b. Ok (b, c.args.tokens.now)) c.if-not-sees_name.false in
    let word : Some (OfPair c.in-Some-OfPair.word) ≡ word_in g.G.Grammar.language c.args.name = ap Some (sym c.in-Some-OfPair.field-0-is) ∙ c.in-Some-OfPair.ensures in
    rw (pair_after_at c.args.depth turns c.args.name c.args.place c.args.tokens.now g.G.Grammar.language c.in-Some-OfPair.word seen word) (c.read_paired.ensures.value turns lt)

pub read_after-returns-clause-value : goal.read_after-returns-clause-value
read_after-returns-clause-value g t c = λ turns lt.
    let seen : look false is_name c.args.tokens.now ≡ Ok (true, c.args.tokens.now) = c.sees_name.ensures ∙ ap (λ b. Ok (b, c.args.tokens.now)) c.if-not-sees_name.false in
    none_after_at c.args.depth turns c.args.name c.args.place c.args.tokens.now g.G.Grammar.language seen c.in-None.ensures

pub read_closed-returns-in_err-of-clause-value : goal.read_closed-returns-in_err-of-clause-value
unfolding closed_by
read_closed-returns-in_err-of-clause-value g t c = λ turns lt.
    let p = err_from_is_err_and c.from_residual.result c.from_residual.ensures.1 in
    rw (p.1, p.2) (lifts (part_in g.G.Grammar.language c.args.depth turns c.args.tokens.now) (closed_by (part_in g.G.Grammar.language c.args.depth turns) c.args.after c.args.tokens.now) c.read_part.new.tokens c.in_err-of.field-0.0
    (λ j e. rw e refl) (c.in_err-of.ensures.value turns lt))

pub read_paired-returns-in_err-left-clause-value : goal.read_paired-returns-in_err-left-clause-value
unfolding paired_parts
read_paired-returns-in_err-left-clause-value g t c = λ turns lt.
    let p = err_from_is_err_and c.from_residual-in_err-left.result c.from_residual-in_err-left.ensures.1 in
    let fewer : length c.read_variable.new.tokens < turns = omega (arith, c.in_ok-name.ensures.fewer, lt) in
    rw (p.1, p.2) (lifts (closed_by (part_in g.G.Grammar.language c.args.depth turns) Comma c.read_variable.new.tokens) (paired_parts (operators_in g.G.Grammar.language) (part_in g.G.Grammar.language c.args.depth turns) c.args.word c.args.place c.args.tokens.now) c.read_closed.new.tokens c.in_err-left.field-0.0
    (λ j e. rw (c.in_ok-name.ensures.value, e) refl) (c.in_err-left.ensures.value turns fewer))

pub read_paired-returns-in_err-right-clause-value : goal.read_paired-returns-in_err-right-clause-value
unfolding paired_parts
read_paired-returns-in_err-right-clause-value g t c = λ turns lt.
    let p = err_from_is_err_and c.from_residual-in_err-right.result c.from_residual-in_err-right.ensures.1 in
    let fewer : length c.read_variable.new.tokens < turns = omega (arith, c.in_ok-name.ensures.fewer, lt) in
    let less : length c.read_closed.new.tokens < turns = omega (arith, c.in_ok-name.ensures.fewer, c.in_ok-left.ensures.fewer, lt) in
    rw (p.1, p.2) (lifts (closed_by (part_in g.G.Grammar.language c.args.depth turns) Close c.read_closed.new.tokens) (paired_parts (operators_in g.G.Grammar.language) (part_in g.G.Grammar.language c.args.depth turns) c.args.word c.args.place c.args.tokens.now) c.read_closed-2.new.tokens c.in_err-right.field-0.0
    (λ j e. rw (c.in_ok-name.ensures.value, c.in_ok-left.ensures.value turns fewer, e) refl) (c.in_err-right.ensures.value turns less))

pub read_part-returns-then-not-is_wide-clause-value : goal.read_part-returns-then-not-is_wide-clause-value
read_part-returns-then-not-is_wide-clause-value g t c = λ turns lt.
    let is : is_wide g.G.Grammar.language ≡ false = sym c.is_wide.ensures ∙ c.if-not-is_wide.true in
    rw (narrow_part c.args.depth turns c.args.tokens.now g.G.Grammar.language is) (c.read_formula.ensures.value turns lt)

pub read_part-returns-in_err-formula-clause-value : goal.read_part-returns-in_err-formula-clause-value
read_part-returns-in_err-formula-clause-value g t c = λ turns lt.
    let is : is_wide g.G.Grammar.language ≡ true = sym c.is_wide.ensures ∙ c.if-not-is_wide.false in
    let p = err_from_is_err_and c.from_residual.result c.from_residual.ensures.1 in
    rw (p.1, p.2) (subst (λ o. Reads o (Err c.in_err-formula.field-0.0) c.read_whole.new.tokens) (sym (wide_part c.args.depth turns c.args.tokens.now g.G.Grammar.language is)) (lifts (whole_in g.G.Grammar.language c.args.depth turns c.args.tokens.now) (member_of (whole_in g.G.Grammar.language c.args.depth turns) c.args.tokens.now) c.read_whole.new.tokens c.in_err-formula.field-0.0
    (λ j e. rw e refl) (c.in_err-formula.ensures.value turns lt)))

pub read_part-returns-clause-value : goal.read_part-returns-clause-value
read_part-returns-clause-value g t c = λ turns lt.
    let is : is_wide g.G.Grammar.language ≡ true = sym c.is_wide.ensures ∙ c.if-not-is_wide.false in
    rw (wide_part c.args.depth turns c.args.tokens.now g.G.Grammar.language is, c.in_ok-formula.ensures.value turns lt) refl

pub read_closed_whole-returns-in_err-formula-clause-value : goal.read_closed_whole-returns-in_err-formula-clause-value
unfolding closed_whole
read_closed_whole-returns-in_err-formula-clause-value g t c = λ turns lt.
    let p = err_from_is_err_and c.from_residual.result c.from_residual.ensures.1 in
    rw (p.1, p.2) (lifts (whole_in g.G.Grammar.language c.args.depth turns c.args.tokens.now) (closed_whole meant (whole_in g.G.Grammar.language c.args.depth turns) c.args.place c.args.tokens.now) c.read_whole.new.tokens c.in_err-formula.field-0.0
    (λ j e. rw e refl) (c.in_err-formula.ensures.value turns lt))

pub read_closed_whole-returns-in_err-expect-clause-value : goal.read_closed_whole-returns-in_err-expect-clause-value
unfolding closed_whole
read_closed_whole-returns-in_err-expect-clause-value g t c = λ turns lt.
    let p = err_from_is_err_and c.from_residual-in_err-expect.result c.from_residual-in_err-expect.ensures.1 in
    rw (p.1, p.2) (lifts (expect Close c.read_whole.new.tokens) (closed_whole meant (whole_in g.G.Grammar.language c.args.depth turns) c.args.place c.args.tokens.now) c.expect.new.self c.in_err-expect.field-0.0
    (λ j e. rw (c.in_ok-formula.ensures.value turns lt, e) refl) c.in_err-expect.ensures.value)

pub read_closed_whole-returns-then-bare-clause-value : goal.read_closed_whole-returns-then-bare-clause-value
unfolding closed_whole
read_closed_whole-returns-then-bare-clause-value g t c = λ turns lt.
    rw (c.in_ok-formula.ensures.value turns lt, c.in_ok-expect.ensures.value, c.if-bare.true) (ap (λ f. Ok (f, c.expect.new.self)) (sym c.moved.ensures))

pub read_closed_whole-returns-clause-value : goal.read_closed_whole-returns-clause-value
unfolding closed_whole
read_closed_whole-returns-clause-value g t c = λ turns lt.
    rw (c.in_ok-formula.ensures.value turns lt, c.in_ok-expect.ensures.value, c.if-bare.false) (ap (λ f. Ok (f, c.expect.new.self)) (sym c.in_ok-grouped.ensures))

pub read_both-returns-in_err-first-clause-value : goal.read_both-returns-in_err-first-clause-value
unfolding both
read_both-returns-in_err-first-clause-value g t c = λ turns more lt low.
    let p = err_from_is_err_and c.from_residual.result c.from_residual.ensures.1 in
    rw (p.1, p.2) (lifts (formula_in g.G.Grammar.language c.args.depth turns c.args.tokens.now) (both meant (formula_in g.G.Grammar.language c.args.depth turns) more c.args.tokens.now) c.read_formula.new.tokens c.in_err-first.field-0.0
    (λ j e. rw e refl) (c.in_err-first.ensures.value turns lt))

pub read_both-returns-then-not-eat_word-clause-value : goal.read_both-returns-then-not-eat_word-clause-value
unfolding both
read_both-returns-then-not-eat_word-clause-value g t c = λ turns more lt low.
    let stops : eat (is_word And) c.read_formula.new.tokens ≡ Ok (false, c.eat_word.new.self) = c.eat_word.ensures.value ∙ ap (λ b. Ok (b, c.eat_word.new.self)) c.if-not-eat_word.true in
    rw (c.in_ok-first.ensures.value turns lt, stops) (ap (λ j. Ok (j, c.eat_word.new.self)) (sym c.alone.ensures))

pub read_both-returns-in_err-of-clause-value : goal.read_both-returns-in_err-of-clause-value
unfolding both
read_both-returns-in_err-of-clause-value g t c = λ turns more lt low.
    let p = err_from_is_err_and c.from_residual-in_err-of.result c.from_residual-in_err-of.ensures.1 in
    let goes : eat (is_word And) c.read_formula.new.tokens ≡ Ok (true, c.eat_word.new.self) = c.eat_word.ensures.value ∙ ap (λ b. Ok (b, c.eat_word.new.self)) c.if-not-eat_word.false in
    let less : length c.eat_word.new.self < turns = omega (arith, c.eat_word.ensures.shorter, c.in_ok-first.ensures.fewer, lt) in
    let fit : length c.eat_word.new.self < more = omega (arith, c.eat_word.ensures.shorter, c.in_ok-first.ensures.fewer, low) in
    rw (p.1, p.2) (lifts (separated_from (formula_in g.G.Grammar.language c.args.depth turns) (is_word And) more (raw_form_of c.in_ok-first.first ∷ []) c.eat_word.new.self) (both meant (formula_in g.G.Grammar.language c.args.depth turns) more c.args.tokens.now) c.read_members.new.tokens c.in_err-of.field-0.0
    (λ j e. rw (c.in_ok-first.ensures.value turns lt, goes, e) refl) (c.in_err-of.ensures.value turns more less fit))

pub read_both-returns-clause-value : goal.read_both-returns-clause-value
unfolding both
read_both-returns-clause-value g t c = λ turns more lt low.
    let goes : eat (is_word And) c.read_formula.new.tokens ≡ Ok (true, c.eat_word.new.self) = c.eat_word.ensures.value ∙ ap (λ b. Ok (b, c.eat_word.new.self)) c.if-not-eat_word.false in
    let less : length c.eat_word.new.self < turns = omega (arith, c.eat_word.ensures.shorter, c.in_ok-first.ensures.fewer, lt) in
    let fit : length c.eat_word.new.self < more = omega (arith, c.eat_word.ensures.shorter, c.in_ok-first.ensures.fewer, low) in
    rw (c.in_ok-first.ensures.value turns lt, goes, c.in_ok-of.ensures.value turns more less fit) (ap (λ j. Ok (j, c.read_members.new.tokens)) (bare_is meant.formulas.conjunction c.in_ok-first.first c.conjunction.result (map raw_form_of c.in_ok-of.of.items) c.bare.result c.bare.ensures c.conjunction.ensures))

pub read_either-returns-in_err-first-clause-value : goal.read_either-returns-in_err-first-clause-value
unfolding either
read_either-returns-in_err-first-clause-value g t c = λ turns more lt low.
    let p = err_from_is_err_and c.from_residual.result c.from_residual.ensures.1 in
    rw (p.1, p.2) (lifts (both meant (formula_in g.G.Grammar.language c.args.depth turns) more c.args.tokens.now) (either meant (formula_in g.G.Grammar.language c.args.depth turns) more c.args.tokens.now) c.read_both.new.tokens c.in_err-first.field-0.0
    (λ j e. rw e refl) (c.in_err-first.ensures.value turns more lt low))

pub read_either-returns-then-not-eat_word-clause-value : goal.read_either-returns-then-not-eat_word-clause-value
unfolding either
read_either-returns-then-not-eat_word-clause-value g t c = λ turns more lt low.
    let stops : eat (is_word Or) c.read_both.new.tokens ≡ Ok (false, c.eat_word.new.self) = c.eat_word.ensures.value ∙ ap (λ b. Ok (b, c.eat_word.new.self)) c.if-not-eat_word.true in
    rw (c.in_ok-first.ensures.value turns more lt low, stops) refl

pub read_either-returns-in_err-of-clause-value : goal.read_either-returns-in_err-of-clause-value
unfolding either
read_either-returns-in_err-of-clause-value g t c = λ turns more lt low.
    let p = err_from_is_err_and c.from_residual-in_err-of.result c.from_residual-in_err-of.ensures.1 in
    let goes : eat (is_word Or) c.read_both.new.tokens ≡ Ok (true, c.eat_word.new.self) = c.eat_word.ensures.value ∙ ap (λ b. Ok (b, c.eat_word.new.self)) c.if-not-eat_word.false in
    let less : length c.eat_word.new.self < turns = omega (arith, c.eat_word.ensures.shorter, c.in_ok-first.ensures.fewer, lt) in
    let fit : length c.eat_word.new.self < more = omega (arith, c.eat_word.ensures.shorter, c.in_ok-first.ensures.fewer, low) in
    rw (p.1, p.2) (lifts (separated_from (member_of (both meant (formula_in g.G.Grammar.language c.args.depth turns) more)) (is_word Or) more (raw_form_of c.in_ok-first.first.formula ∷ []) c.eat_word.new.self) (either meant (formula_in g.G.Grammar.language c.args.depth turns) more c.args.tokens.now) c.read_alternatives.new.tokens c.in_err-of.field-0.0
    (λ j e. rw (c.in_ok-first.ensures.value turns more lt low, goes, e) refl) (c.in_err-of.ensures.value turns more less fit))

pub read_either-returns-clause-value : goal.read_either-returns-clause-value
unfolding either
read_either-returns-clause-value g t c = λ turns more lt low.
    let goes : eat (is_word Or) c.read_both.new.tokens ≡ Ok (true, c.eat_word.new.self) = c.eat_word.ensures.value ∙ ap (λ b. Ok (b, c.eat_word.new.self)) c.if-not-eat_word.false in
    let less : length c.eat_word.new.self < turns = omega (arith, c.eat_word.ensures.shorter, c.in_ok-first.ensures.fewer, lt) in
    let fit : length c.eat_word.new.self < more = omega (arith, c.eat_word.ensures.shorter, c.in_ok-first.ensures.fewer, low) in
    rw (c.in_ok-first.ensures.value turns more lt low, goes, c.in_ok-of.ensures.value turns more less fit) (ap (λ j. Ok (j, c.read_alternatives.new.tokens)) (bare_is meant.formulas.disjunction c.in_ok-first.first.formula c.disjunction.result (map raw_form_of c.in_ok-of.of.items) c.bare.result c.bare.ensures c.disjunction.ensures))

pub read_alternatives-loop-found-init : goal.read_alternatives-loop-found-init
read_alternatives-loop-found-init g t c = record { same = λ turns more lt low. (more, low, ap (λ found. separated_from (member_of (both meant (formula_in g.G.Grammar.language c.args.depth turns) more)) (is_word Or) more found c.args.tokens.now) c.in_ok-found.ensures); shorter = omega arith }

pub read_alternatives-returns-in_err-formula-clause-value : goal.read_alternatives-returns-in_err-formula-clause-value
read_alternatives-returns-in_err-formula-clause-value g t c = λ turns more lt low.
    let p = err_from_is_err_and c.from_residual-in_err-formula.result c.from_residual-in_err-formula.ensures.1 in
    let kept = c.loop-found.invariant.same turns more lt low in
    let less : length c.loop-found.tokens < turns = omega (arith, c.loop-found.invariant.shorter, lt) in
    let fit : length c.loop-found.tokens ≤ more = omega (arith, c.loop-found.invariant.shorter, low) in
    let none = lifts (both meant (formula_in g.G.Grammar.language c.args.depth turns) more c.loop-found.tokens) (member_of (both meant (formula_in g.G.Grammar.language c.args.depth turns) more) c.loop-found.tokens) c.read_both.new.tokens c.in_err-formula.field-0.0 (λ j e. rw e refl) (c.in_err-formula.ensures.value turns more less fit) in
    rw (p.1, p.2) (none_below (member_of (both meant (formula_in g.G.Grammar.language c.args.depth turns) more)) (is_word Or) kept.0 _ _ _ _ _ c.in_err-formula.field-0.0 kept.1 none kept.2)

pub read_alternatives-returns-then-not-eat_word-clause-value : goal.read_alternatives-returns-then-not-eat_word-clause-value
read_alternatives-returns-then-not-eat_word-clause-value g t c = λ turns more lt low.
    let kept = c.loop-found.invariant.same turns more lt low in
    let less : length c.loop-found.tokens < turns = omega (arith, c.loop-found.invariant.shorter, lt) in
    let fit : length c.loop-found.tokens ≤ more = omega (arith, c.loop-found.invariant.shorter, low) in
    let one : member_of (both meant (formula_in g.G.Grammar.language c.args.depth turns) more) c.loop-found.tokens ≡ Ok (raw_form_of c.in_ok-formula.field-0.formula, c.read_both.new.tokens) = ap (λ o. and_then o (λ j. pure j.formula)) (c.in_ok-formula.ensures.value turns more less fit) in
    let stops : eat (is_word Or) c.read_both.new.tokens ≡ Ok (false, c.eat_word.new.self) = c.eat_word.ensures.value ∙ ap (λ b. Ok (b, c.eat_word.new.self)) c.if-not-eat_word.true in
    sym kept.2 ∙ last_below (member_of (both meant (formula_in g.G.Grammar.language c.args.depth turns) more)) (is_word Or) kept.0 _ _ _ _ _ _ kept.1 one stops ∙ ap (λ x. Ok (x, c.eat_word.new.self)) (sym (ap (map raw_form_of) c.exact.ensures ∙ c.in_ok-add.ensures))

pub read_alternatives-loop-found-preserved : goal.read_alternatives-loop-found-preserved
read_alternatives-loop-found-preserved g t c = record {
  same = λ turns more lt low.
      let kept = c.loop-found.invariant.same turns more lt low in
      let less : length c.loop-found.tokens < turns = omega (arith, c.loop-found.invariant.shorter, lt) in
      let fit : length c.loop-found.tokens ≤ more = omega (arith, c.loop-found.invariant.shorter, low) in
      let one : member_of (both meant (formula_in g.G.Grammar.language c.args.depth turns) more) c.loop-found.tokens ≡ Ok (raw_form_of c.in_ok-formula.field-0.formula, c.read_both.new.tokens) = ap (λ o. and_then o (λ j. pure j.formula)) (c.in_ok-formula.ensures.value turns more less fit) in
      let goes : eat (is_word Or) c.read_both.new.tokens ≡ Ok (true, c.eat_word.new.self) = c.eat_word.ensures.value ∙ ap (λ b. Ok (b, c.eat_word.new.self)) c.if-not-eat_word.false in
      let fewer : length c.eat_word.new.self < length c.loop-found.tokens = omega (arith, c.eat_word.ensures.shorter, c.in_ok-formula.ensures.fewer) in
      let next = more_below (member_of (both meant (formula_in g.G.Grammar.language c.args.depth turns) more)) (is_word Or) kept.0 _ _ _ _ _ _ kept.1 one goes fewer in
      rw c.in_ok-add.ensures (next.0, next.1, sym next.2 ∙ kept.2);
  shorter = omega (arith, c.loop-found.invariant.shorter, c.eat_word.ensures.shorter, c.in_ok-formula.ensures.fewer);
}

pub read_whole-returns-in_err-first-clause-value : goal.read_whole-returns-in_err-first-clause-value
unfolding whole
read_whole-returns-in_err-first-clause-value g t c = λ turns lt.
    let p = err_from_is_err_and c.from_residual.result c.from_residual.ensures.1 in
    rw (p.1, p.2) (lifts (either meant (formula_in g.G.Grammar.language c.args.depth turns) turns c.args.tokens.now) (whole_in g.G.Grammar.language c.args.depth turns c.args.tokens.now) c.read_either.new.tokens c.in_err-first.field-0.0
    (λ j e. rw e refl) (c.in_err-first.ensures.value turns turns lt (omega (arith, lt))))

pub read_whole-returns-then-not-eat_word-clause-value : goal.read_whole-returns-then-not-eat_word-clause-value
unfolding whole
read_whole-returns-then-not-eat_word-clause-value g t c = λ turns lt.
    let stops : eat (is_word Implies) c.read_either.new.tokens ≡ Ok (false, c.eat_word.new.self) = c.eat_word.ensures.value ∙ ap (λ b. Ok (b, c.eat_word.new.self)) c.if-not-eat_word.true in
    rw (c.in_ok-first.ensures.value turns turns lt (omega (arith, lt)), stops) refl

pub read_whole-returns-in_err-read_chain-clause-value : goal.read_whole-returns-in_err-read_chain-clause-value
unfolding whole
read_whole-returns-in_err-read_chain-clause-value g t c = λ turns lt.
    let p = err_from_is_err_and c.from_residual-in_err-read_chain.result c.from_residual-in_err-read_chain.ensures.1 in
    let goes : eat (is_word Implies) c.read_either.new.tokens ≡ Ok (true, c.eat_word.new.self) = c.eat_word.ensures.value ∙ ap (λ b. Ok (b, c.eat_word.new.self)) c.if-not-eat_word.false in
    let less : length c.eat_word.new.self < turns = omega (arith, c.eat_word.ensures.shorter, c.in_ok-first.ensures.fewer, lt) in
    rw (p.1, p.2) (lifts (chained meant (formulas_in g.G.Grammar.language turns) c.args.depth turns (raw_form_of c.in_ok-first.first.formula) c.eat_word.new.self) (whole_in g.G.Grammar.language c.args.depth turns c.args.tokens.now) c.read_chain.new.tokens c.in_err-read_chain.field-0.0
    (λ j e. rw (c.in_ok-first.ensures.value turns turns lt (omega (arith, lt)), goes, e) refl) (c.in_err-read_chain.ensures.value turns turns less less))

pub read_whole-returns-clause-value : goal.read_whole-returns-clause-value
unfolding whole
read_whole-returns-clause-value g t c = λ turns lt.
    let goes : eat (is_word Implies) c.read_either.new.tokens ≡ Ok (true, c.eat_word.new.self) = c.eat_word.ensures.value ∙ ap (λ b. Ok (b, c.eat_word.new.self)) c.if-not-eat_word.false in
    let less : length c.eat_word.new.self < turns = omega (arith, c.eat_word.ensures.shorter, c.in_ok-first.ensures.fewer, lt) in
    rw (c.in_ok-first.ensures.value turns turns lt (omega (arith, lt)), goes, c.in_ok-read_chain.ensures.value turns turns less less) (ap (λ j. Ok (j, c.read_chain.new.tokens)) (sym c.bare.ensures))

pub read_chain-returns-then-depth-eq0-clause-value : goal.read_chain-returns-then-depth-eq0-clause-value
read_chain-returns-then-depth-eq0-clause-value g t c = λ turns more lt low.
    chain_cut g.G.Grammar.language c.args.depth turns more (raw_form_of c.args.left) c.args.tokens.now c.too_deep.result low c.if-depth-eq0.true c.too_deep.ensures.value c.too_deep.ensures.no_hole

pub read_chain-returns-in_err-next-clause-value : goal.read_chain-returns-in_err-next-clause-value
read_chain-returns-in_err-next-clause-value g t c = λ turns more lt low.
    let p = err_from_is_err_and c.from_residual.result c.from_residual.ensures.1 in
    rw (p.1, p.2) (chain_unread meant (formulas_in g.G.Grammar.language turns) c.args.depth (raw_form_of c.args.left) c.args.tokens.now more c.read_either.new.tokens c.in_err-next.field-0.0 low (λ m fit. c.in_err-next.ensures.value turns m lt fit))

pub read_chain-returns-then-not-eat_word-clause-value : goal.read_chain-returns-then-not-eat_word-clause-value
read_chain-returns-then-not-eat_word-clause-value g t c = λ turns more lt low.
    let stops : eat (is_word Implies) c.read_either.new.tokens ≡ Ok (false, c.eat_word.new.self) = c.eat_word.ensures.value ∙ ap (λ b. Ok (b, c.eat_word.new.self)) c.if-not-eat_word.true in
    chain_ends meant (formulas_in g.G.Grammar.language turns) c.args.depth (raw_form_of c.args.left) c.args.tokens.now c.if-depth-eq0.false more c.read_either.new.tokens c.eat_word.new.self (joined_of c.in_ok-next.field-0) low (λ m fit. c.in_ok-next.ensures.value turns m lt fit) stops
    ∙ ap (λ f. Ok (f, c.eat_word.new.self)) (implied_is c.args.left _ _ c.in_ok-implied.ensures)

pub read_chain-returns-in_err-right-clause-value : goal.read_chain-returns-in_err-right-clause-value
read_chain-returns-in_err-right-clause-value g t c = λ turns more lt low.
    let p = err_from_is_err_and c.from_residual-in_err-right.result c.from_residual-in_err-right.ensures.1 in
    let goes : eat (is_word Implies) c.read_either.new.tokens ≡ Ok (true, c.eat_word.new.self) = c.eat_word.ensures.value ∙ ap (λ b. Ok (b, c.eat_word.new.self)) c.if-not-eat_word.false in
    let shorter : length c.eat_word.new.self < length c.args.tokens.now = omega (arith, c.eat_word.ensures.shorter, c.in_ok-next.ensures.fewer) in
    let less : length c.eat_word.new.self < turns = omega (arith, shorter, lt) in
    rw (p.1, p.2) (chain_fails meant (formulas_in g.G.Grammar.language turns) c.args.depth (raw_form_of c.args.left) c.args.tokens.now c.if-depth-eq0.false more c.read_either.new.tokens c.eat_word.new.self c.read_chain.new.tokens (joined_of c.in_ok-next.field-0) c.in_err-right.field-0.0 low (λ m fit. c.in_ok-next.ensures.value turns m lt fit) goes shorter (λ m fit. c.in_err-right.ensures.value turns m less fit))

pub read_chain-returns-clause-value : goal.read_chain-returns-clause-value
read_chain-returns-clause-value g t c = λ turns more lt low.
    let goes : eat (is_word Implies) c.read_either.new.tokens ≡ Ok (true, c.eat_word.new.self) = c.eat_word.ensures.value ∙ ap (λ b. Ok (b, c.eat_word.new.self)) c.if-not-eat_word.false in
    let shorter : length c.eat_word.new.self < length c.args.tokens.now = omega (arith, c.eat_word.ensures.shorter, c.in_ok-next.ensures.fewer) in
    let less : length c.eat_word.new.self < turns = omega (arith, shorter, lt) in
    chain_goes meant (formulas_in g.G.Grammar.language turns) c.args.depth (raw_form_of c.args.left) c.args.tokens.now c.if-depth-eq0.false more c.read_either.new.tokens c.eat_word.new.self c.read_chain.new.tokens (joined_of c.in_ok-next.field-0) (raw_form_of c.in_ok-right.right) low (λ m fit. c.in_ok-next.ensures.value turns m lt fit) goes shorter (λ m fit. c.in_ok-right.ensures.value turns m less fit)
    ∙ ap (λ f. Ok (f, c.read_chain.new.tokens)) (implied_is c.args.left _ _ c.in_ok-implied-2.ensures)

pub read_quantified-returns-in_err-binders-clause-value : goal.read_quantified-returns-in_err-binders-clause-value
unfolding quantified
read_quantified-returns-in_err-binders-clause-value g t c = λ turns lt.
    let p = err_from_is_err_and c.from_residual.result c.from_residual.ensures.1 in
    rw (p.1, p.2) (lifts (binders_rule turns c.args.tokens.now) (quantified (quantified_by c.args.quantifier) (formulas_in g.G.Grammar.language turns) c.args.depth turns c.args.place c.args.tokens.now) c.read_binders.new.tokens c.in_err-binders.field-0.0
    (λ j e. rw e refl) (c.in_err-binders.ensures.value turns lt))

pub read_quantified-returns-in_err-of-clause-value : goal.read_quantified-returns-in_err-of-clause-value
unfolding quantified
read_quantified-returns-in_err-of-clause-value g t c = λ turns lt.
    let p = err_from_is_err_and c.from_residual-in_err-of.result c.from_residual-in_err-of.ensures.1 in
    let inner : c.deeper-inner.result ≡ c.args.depth - (length c.in_ok-binders.binders - 1) = c.deeper-inner.ensures ∙ ap (λ n. c.args.depth - (n - 1)) c.len.ensures in
    let less : length c.read_binders.new.tokens < turns = omega (arith, c.in_ok-binders.ensures.fewer, lt) in
    rw (p.1, p.2) (lifts (formula_in g.G.Grammar.language c.deeper-inner.result turns c.read_binders.new.tokens) (quantified (quantified_by c.args.quantifier) (formulas_in g.G.Grammar.language turns) c.args.depth turns c.args.place c.args.tokens.now) c.read_formula.new.tokens c.in_err-of.field-0.0
    (λ j e. rw (c.in_ok-binders.ensures.value turns lt, sym inner, e) refl) (c.in_err-of.ensures.value turns less))

pub read_quantified-returns-clause-value : goal.read_quantified-returns-clause-value
unfolding quantified
read_quantified-returns-clause-value g t c = λ turns lt.
    let inner : c.deeper-inner.result ≡ c.args.depth - (length c.in_ok-binders.binders - 1) = c.deeper-inner.ensures ∙ ap (λ n. c.args.depth - (n - 1)) c.len.ensures in
    let less : length c.read_binders.new.tokens < turns = omega (arith, c.in_ok-binders.ensures.fewer, lt) in
    rw (c.in_ok-binders.ensures.value turns lt, sym inner, c.in_ok-of.ensures.value turns less) (ap (λ f. Ok (f, c.read_formula.new.tokens)) (sym c.in_ok-bound.ensures))
