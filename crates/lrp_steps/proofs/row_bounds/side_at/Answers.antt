-- The times among the terms are counted down.
use Rattle.std.proofs.Common.{◌≡◌, ◌<◌, ◌≤◌, ◌+◌, length, drop, get_or, sym, subst, ap, ◌∙◌, arith, Contains}
use Rattle.std.specs.Prelude.{nat_abs, flat_map}
use Rattle.std.proofs.lemmas.List.{drop_all}
use Rattle.lrp_model.specs.Reach.{greatest, term_magnitudes}
use Rattle.lrp_theory.specs.Entries.{node}
use Rattle.lrp_tables.specs.Columns.{times_of_term}
use Rattle.lrp_steps.specs.Rows.{term_times}
use Rattle.lrp_steps.proofs.ReadRows.{first_left, later_left, text_left, in_flat, node_none, offset_within}
use Rattle.lrp_steps.proofs.row_bounds.side_at.Goals as goal
use Rattle.lrp_steps.proofs.row_bounds.side_at.Goals.{in-Time+else-left-eq1, in_default}

pub side_of-requires-clause-names : goal.side_of-requires-clause-names
side_of-requires-clause-names c = λ name h.
    let low : c.loop-term.term-index < length c.args.terms.now = subst (λ l. c.loop-term.term-index < length l) c.as_slice-term-items.ensures c.loop-term-test.true in
    let is : c.term-item.result ≡ get_or c.args.terms.now c.loop-term.term-index c.term-item.result = c.term-item.is ∙ ap (λ l. get_or l c.loop-term.term-index c.term-item.result) c.as_slice-term-items.ensures in
    c.requires.names name (in_flat times_of_term c.args.terms.now c.loop-term.term-index c.term-item.result name low is (subst (λ t. Contains (times_of_term t) name) (sym c.in-Time.is) h))

pub returns-then-left-eq1-clause-value : goal.returns-then-left-eq1-clause-value
returns-then-left-eq1-clause-value c = λ env.
    let low : c.loop-term.term-index < length c.args.terms.now = subst (λ l. c.loop-term.term-index < length l) c.as_slice-term-items.ensures c.loop-term-test.true in
    let is : c.term-item.result ≡ get_or c.args.terms.now c.loop-term.term-index c.term-item.result = c.term-item.is ∙ ap (λ l. get_or l c.loop-term.term-index c.term-item.result) c.as_slice-term-items.ensures in
    c.side_of.ensures.value env ∙ sym (c.loop-term.invariant env ∙ first_left env c.args.terms.now c.loop-term.term-index c.term-item.result c.in-Time.term c.loop-term.left low is c.in-Time.is (omega (arith, c.if-left-eq1.true)))

pub returns-then-left-eq1-clause-small : goal.returns-then-left-eq1-clause-small
returns-then-left-eq1-clause-small c =
    let low : c.loop-term.term-index < length c.args.terms.now = subst (λ l. c.loop-term.term-index < length l) c.as_slice-term-items.ensures c.loop-term-test.true in
    let is : c.term-item.result ≡ get_or c.args.terms.now c.loop-term.term-index c.term-item.result = c.term-item.is ∙ ap (λ l. get_or l c.loop-term.term-index c.term-item.result) c.as_slice-term-items.ensures in
    subst (λ p. nat_abs p ≤ greatest (flat_map term_magnitudes c.args.terms.now)) (sym c.side_of.ensures.plus) (offset_within c.args.terms.now c.loop-term.term-index c.term-item.result c.in-Time.term low is c.in-Time.is)

pub loop-term-preserved : goal.loop-term-preserved
loop-term-preserved c = λ env.
    let low : c.loop-term.term-index < length c.args.terms.now = subst (λ l. c.loop-term.term-index < length l) c.as_slice-term-items.ensures c.loop-term-test.true in
    let is : c.term-item.result ≡ get_or c.args.terms.now c.loop-term.term-index c.term-item.result = c.term-item.is ∙ ap (λ l. get_or l c.loop-term.term-index c.term-item.result) c.as_slice-term-items.ensures in
    let next : node (term_times env (drop c.loop-term.term-index c.args.terms.now)) c.loop-term.left ≡ node (term_times env (drop (c.loop-term.term-index + 1) c.args.terms.now)) c.match-term.left = elim c.match-term.branch [
      | in-Time+else-left-eq1 w ↦ later_left env c.args.terms.now c.loop-term.term-index c.term-item.result w.in-Time.term c.loop-term.left c.match-term.left low is w.in-Time.is (λ e. omega (arith, w.if-left-eq1.false, e)) (w.left-is ∙ w.saturating_sub-left.ensures)
      | in_default w ↦ text_left env c.args.terms.now c.loop-term.term-index c.term-item.result c.loop-term.left c.match-term.left low is w.in_default.not-Time w.left-is
    ] in
    c.loop-term.invariant env ∙ next

pub returns-clause-value : goal.returns-clause-value
returns-clause-value c = λ env.
    let low : length c.args.terms.now ≤ c.loop-term.term-index = subst (λ l. length l ≤ c.loop-term.term-index) c.as_slice-term-items.ensures c.loop-term-test.false in
    sym (c.loop-term.invariant env ∙ ap (λ l. node (term_times env l) c.loop-term.left) (drop_all c.loop-term.term-index c.args.terms.now low) ∙ node_none c.loop-term.left)
