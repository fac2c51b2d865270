-- Value after value is asked for.
use Rattle.std.proofs.Common.{◌≡◌, ◌+◌, ◌≤◌, ◌++◌, ◌∷◌, [], length, take, sym, subst}
use Rattle.std.proofs.lemmas.List.{take_all}
use Rattle.lrp_tables.specs.Columns.{times_of_term, texts_of_term}
use Rattle.lrp_steps.specs.Rows.{IsWithValues, HasNoValues}
use Rattle.lrp_steps.proofs.ReadRows.{same_front, front_get, flat_get, period_get, values_none, values_one_more, values_no, none_of_values}
use Rattle.lrp_steps.proofs.Conditioned.{matched_none, matched_some}
use Rattle.lrp_steps.proofs.rows.with_values.Goals as goal

pub loop-i-init : goal.loop-i-init
loop-i-init c = values_none c.args.domain.now c.args.vars.now.times c.args.vars.now.texts c.new-pattern.result c.new-pattern.ensures

pub with_value-requires-clause-times : goal.with_value-requires-clause-times
with_value-requires-clause-times c = λ name h. c.requires.times name (flat_get times_of_term c.args.terms.now c.loop-i.i c.at-in-loop-i.result.now name c.at-in-loop-i.ensures h)

pub with_value-requires-clause-texts : goal.with_value-requires-clause-texts
with_value-requires-clause-texts c = λ name h. c.requires.texts name (flat_get texts_of_term c.args.terms.now c.loop-i.i c.at-in-loop-i.result.now name c.at-in-loop-i.ensures h)

pub with_value-requires-clause-period : goal.with_value-requires-clause-period
with_value-requires-clause-period c = period_get c.args.values.now c.loop-i.i c.at.result.now c.at.ensures c.requires.periods

pub loop-i-preserved : goal.loop-i-preserved
loop-i-preserved c =
    let w = matched_some _ _ _ _ c.in-Some.is c.in_ok-next.ensures in
    let count : length (take c.loop-i.i c.args.values.now) ≡ length (take c.loop-i.i c.args.terms.now) = same_front c.loop-i.i c.args.values.now c.args.terms.now c.requires.count in
    subst (λ l. IsWithValues c.args.domain.now c.args.vars.now.times c.args.vars.now.texts l (take (c.loop-i.i + 1) c.args.terms.now) c.in-Some.next) (sym (front_get c.args.values.now c.loop-i.i c.at.result.now c.at.ensures))
    (subst (λ l. IsWithValues c.args.domain.now c.args.vars.now.times c.args.vars.now.texts (take c.loop-i.i c.args.values.now ++ c.at.result.now ∷ []) l c.in-Some.next) (sym (front_get c.args.terms.now c.loop-i.i c.at-in-loop-i.result.now c.at-in-loop-i.ensures))
    (values_one_more c.args.domain.now c.args.vars.now.times c.args.vars.now.texts (take c.loop-i.i c.args.values.now) (take c.loop-i.i c.args.terms.now) c.at.result.now c.at-in-loop-i.result.now count c.loop-i.pattern c.loop-i.invariant c.in-Some.next w))

pub returns : goal.returns
returns c =
    let low : length c.args.terms.now ≤ c.loop-i.i = subst (λ n. n ≤ c.loop-i.i) c.len-i-end.ensures c.loop-i-test.false in
    subst (λ l. IsWithValues c.args.domain.now c.args.vars.now.times c.args.vars.now.texts l c.args.terms.now c.loop-i.pattern) (take_all c.loop-i.i c.args.values.now (subst (λ n. n ≤ c.loop-i.i) (sym c.requires.count) low))
    (subst (λ l. IsWithValues c.args.domain.now c.args.vars.now.times c.args.vars.now.texts (take c.loop-i.i c.args.values.now) l c.loop-i.pattern) (take_all c.loop-i.i c.args.terms.now low) c.loop-i.invariant)

pub returns-in-None : goal.returns-in-None
returns-in-None c =
    let fails = matched_none _ _ _ c.in-None.is c.in_ok-next.ensures in
    let count : length (take c.loop-i.i c.args.values.now) ≡ length (take c.loop-i.i c.args.terms.now) = same_front c.loop-i.i c.args.values.now c.args.terms.now c.requires.count in
    none_of_values c.args.domain.now c.args.vars.now.times c.args.vars.now.texts c.args.values.now c.args.terms.now (c.loop-i.i + 1)
    (subst (λ l. HasNoValues c.args.domain.now c.args.vars.now.times c.args.vars.now.texts l (take (c.loop-i.i + 1) c.args.terms.now)) (sym (front_get c.args.values.now c.loop-i.i c.at.result.now c.at.ensures))
    (subst (λ l. HasNoValues c.args.domain.now c.args.vars.now.times c.args.vars.now.texts (take c.loop-i.i c.args.values.now ++ c.at.result.now ∷ []) l) (sym (front_get c.args.terms.now c.loop-i.i c.at-in-loop-i.result.now c.at-in-loop-i.ensures))
    (values_no c.args.domain.now c.args.vars.now.times c.args.vars.now.texts (take c.loop-i.i c.args.values.now) (take c.loop-i.i c.args.terms.now) c.at.result.now c.at-in-loop-i.result.now count c.loop-i.pattern c.loop-i.invariant fails)))
