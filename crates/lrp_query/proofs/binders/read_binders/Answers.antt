use Rattle.std.proofs.Common.{◌≡◌, ◌<◌, ◌∙◌, [], length, map, arith, sym, ap, refl, Ok}
use Rattle.std.proofs.lemmas.List.{length-map}
use Rattle.std.proofs.lemmas.Result.{err_from_is_err_and}
use Rattle.lrp_model.specs.declared.tokens.Symbol.TheVariants.{Colon}
use Rattle.lrp_text.specs.Taking.{expect}
use Rattle.lrp_text.specs.ColumnRule.{sort}
use Rattle.lrp_text.proofs.Turns.{lifts}
use Rattle.lrp_query.specs.Rules.{binders_rule, column_at, names_from}
use Rattle.lrp_query.specs.Grammars.{name_and_place, names_and_places}
use Rattle.lrp_query.proofs.binders.read_binders.Goals as goal

pub returns-in_err-names-clause-value : goal.returns-in_err-names-clause-value
unfolding binders_rule
returns-in_err-names-clause-value c = λ turns lt.
    let p = err_from_is_err_and c.from_residual.result c.from_residual.ensures.1 in
    rw (p.1, p.2) (lifts (names_from turns [] c.args.tokens.now) (binders_rule turns c.args.tokens.now) c.read_names.new.tokens c.in_err-names.field-0.0 (λ j e. rw e refl) (c.in_err-names.ensures.value turns lt))

pub returns-in_err-expect-clause-value : goal.returns-in_err-expect-clause-value
unfolding binders_rule
returns-in_err-expect-clause-value c = λ turns lt.
    let p = err_from_is_err_and c.from_residual-in_err-expect.result c.from_residual-in_err-expect.ensures.1 in
    rw (p.1, p.2) (lifts (expect Colon c.read_names.new.tokens) (binders_rule turns c.args.tokens.now) c.expect.new.self c.in_err-expect.field-0.0 (λ j e. rw (c.in_ok-names.ensures.value turns lt, e) refl) c.in_err-expect.ensures.value)

pub returns-in_err-sort-clause-value : goal.returns-in_err-sort-clause-value
unfolding binders_rule
returns-in_err-sort-clause-value c = λ turns lt.
    let p = err_from_is_err_and c.from_residual-in_err-sort.result c.from_residual-in_err-sort.ensures.1 in
    rw (p.1, p.2) (lifts (sort c.expect.new.self) (binders_rule turns c.args.tokens.now) c.sort.new.tokens c.in_err-sort.field-0.0 (λ j e. rw (c.in_ok-names.ensures.value turns lt, c.in_ok-expect.ensures.value, e) refl) c.in_err-sort.ensures.value)

pub returns-clause-value : goal.returns-clause-value
unfolding binders_rule
returns-clause-value c = λ turns lt.
    let named = map (column_at (c.in_ok-sort.sort, c.in_ok-sort.place)) in
    rw (c.in_ok-names.ensures.value turns lt, c.in_ok-expect.ensures.value, c.in_ok-sort.ensures.value) (ap (λ cs. Ok (cs, c.sort.new.tokens)) (sym (c.in_ok-columns_of.ensures ∙ ap (λ ns. named (map name_and_place ns)) c.as_slice.ensures.value)))

pub returns-clause-some : goal.returns-clause-some
returns-clause-some c =
    let of = column_at (c.in_ok-sort.sort, c.in_ok-sort.place) in
    let long : length c.in_ok-columns_of.field-0 ≡ length (map of (names_and_places c.in_ok-names.names)) = ap length (c.in_ok-columns_of.ensures ∙ ap (λ ns. map of (map name_and_place ns)) c.as_slice.ensures.value) in
    let outer : length (map of (names_and_places c.in_ok-names.names)) ≡ length (names_and_places c.in_ok-names.names) = length-map (names_and_places c.in_ok-names.names) of in
    let inner : length (names_and_places c.in_ok-names.names) ≡ length c.in_ok-names.names.items = length-map c.in_ok-names.names.items name_and_place in
    omega (arith, long, outer, inner, c.in_ok-names.ensures.some)
