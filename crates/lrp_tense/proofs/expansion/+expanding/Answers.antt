use Rattle.std.proofs.Common.{ap, ◌∙◌}
use Rattle.lrp_model.specs.RawQueries.{raw_form_of}
use Rattle.lrp_tense.specs.declared.written_operators.PairOperator.{PairOperator}
use Rattle.lrp_tense.specs.Scopes.{past, expanded_in}
use Rattle.lrp_tense.proofs.Steps.{and_node, and_past, or_node, or_past, implies_node, implies_joined, implies_past, pair_node, pair_joined, pair_past, if_ok_then, then_ok, expand_step, past_step, is_inside}
use Rattle.lrp_tense.proofs.expansion.+expanding.Goals as goal

pub expand_formula-returns-in-And-clause-tree : goal.expand_formula-returns-in-And-clause-tree
expand_formula-returns-in-And-clause-tree t c =
    if_ok_then c.expand_joined.result _ _ c.expand_joined.ensures.tree (λ made h.
    h ∙ and_node c.args.f.now c.in-And.of c.deref-in-And.result.now c.args.scope.now c.in-And.is c.deref-in-And.ensures.value)

pub expand_formula-returns-in-And-clause-scope : goal.expand_formula-returns-in-And-clause-scope
expand_formula-returns-in-And-clause-scope t c =
    then_ok c.expand_joined.result _ _ c.expand_joined.ensures.scope (λ h.
    h ∙ and_past c.args.f.now c.in-And.of c.deref-in-And.result.now c.args.scope.now c.in-And.is c.deref-in-And.ensures.value)

pub expand_formula-returns-in-Or-clause-tree : goal.expand_formula-returns-in-Or-clause-tree
expand_formula-returns-in-Or-clause-tree t c =
    if_ok_then c.expand_joined-in-Or.result _ _ c.expand_joined-in-Or.ensures.tree (λ made h.
    h ∙ or_node c.args.f.now c.in-Or.of c.deref-in-Or.result.now c.args.scope.now c.in-Or.is c.deref-in-Or.ensures.value)

pub expand_formula-returns-in-Or-clause-scope : goal.expand_formula-returns-in-Or-clause-scope
expand_formula-returns-in-Or-clause-scope t c =
    then_ok c.expand_joined-in-Or.result _ _ c.expand_joined-in-Or.ensures.scope (λ h.
    h ∙ or_past c.args.f.now c.in-Or.of c.deref-in-Or.result.now c.args.scope.now c.in-Or.is c.deref-in-Or.ensures.value)

pub expand_inside-leave-name-requires : goal.expand_inside-leave-name-requires
expand_inside-leave-name-requires t c =
    is_inside (past c.args.scope.now (raw_form_of c.args.of.now)) _ c.args.written.now c.args.present
    (c.in_ok-of.ensures.scope ∙ ap (λ a. past a (raw_form_of c.args.of.now)) c.in_ok-enter.ensures)

pub expand_inside-returns-clause-name : goal.expand_inside-returns-clause-name
expand_inside-returns-clause-name t c =
    (c.leave-name.ensures c.args.written.now c.args.present (past c.args.scope.now (raw_form_of c.args.of.now))
    (c.in_ok-of.ensures.scope ∙ ap (λ a. past a (raw_form_of c.args.of.now)) c.in_ok-enter.ensures)).0

pub expand_inside-returns-clause-scope : goal.expand_inside-returns-clause-scope
expand_inside-returns-clause-scope t c =
    (c.leave-name.ensures c.args.written.now c.args.present (past c.args.scope.now (raw_form_of c.args.of.now))
    (c.in_ok-of.ensures.scope ∙ ap (λ a. past a (raw_form_of c.args.of.now)) c.in_ok-enter.ensures)).1

pub expand_each-loop-f-preserved : goal.expand_each-loop-f-preserved
expand_each-loop-f-preserved t c =
    let kept = c.loop-f.invariant in
    let k = c.in_ok-made.ensures in
    let g = c.into_inner-g.result in
    record {
      trees = expand_step c.args.fs.now c.loop-f.all.items _ c.loop-f.f-index c.f-item.result g c.args.scope.now c.loop-f-test.true c.f-item.is c.in_ok-push.ensures.items kept.trees (ap raw_form_of c.into_inner-g.ensures ∙ k.tree ∙ ap (λ a. expanded_in a (raw_form_of c.f-item.result)) kept.scope);
      scope = past_step c.args.fs.now c.loop-f.f-index c.f-item.result c.args.scope.now _ _ c.loop-f-test.true c.f-item.is kept.scope k.scope;
    }

pub expand_formula-returns-in_ok-left-in-Implies-clause-tree : goal.expand_formula-returns-in_ok-left-in-Implies-clause-tree
expand_formula-returns-in_ok-left-in-Implies-clause-tree t c =
    let l = c.in_ok-left-in-Implies.ensures in
    if_ok_then c.expand_implication.result _ _ c.expand_implication.ensures.tree (λ made h.
    h ∙ implies_joined c.args.scope.now _ c.args.f.now.place (raw_form_of c.deref-in-Implies.result.now) (raw_form_of c.deref-in-Implies-2.result.now) _ l.scope l.tree
    ∙ ap (expanded_in c.args.scope.now) (implies_node c.args.f.now _ _ _ _ c.in-Implies.is c.deref-in-Implies.ensures c.deref-in-Implies-2.ensures))

pub expand_formula-returns-in_ok-left-in-Implies-clause-scope : goal.expand_formula-returns-in_ok-left-in-Implies-clause-scope
expand_formula-returns-in_ok-left-in-Implies-clause-scope t c =
    let l = c.in_ok-left-in-Implies.ensures in
    then_ok c.expand_implication.result _ _ c.expand_implication.ensures.scope (λ h.
    implies_past c.args.scope.now _ _ c.args.f.now.place (raw_form_of c.deref-in-Implies.result.now) (raw_form_of c.deref-in-Implies-2.result.now) l.scope h
    ∙ ap (past c.args.scope.now) (implies_node c.args.f.now _ _ _ _ c.in-Implies.is c.deref-in-Implies.ensures c.deref-in-Implies-2.ensures))

pub expand_formula-returns-in_ok-begun-in-Paired-clause-tree : goal.expand_formula-returns-in_ok-begun-in-Paired-clause-tree
expand_formula-returns-in_ok-begun-in-Paired-clause-tree t c =
    let b = c.in_ok-begun-in-Paired.ensures in
    let p : PairOperator = record { at = c.written-in-Paired.result; word = c.in-Paired.word } in
    if_ok_then c.expand_paired.result _ _ c.expand_paired.ensures.tree (λ made h.
    h ∙ pair_joined _ _ p c.in_ok-begun-in-Paired.begun (raw_form_of c.deref-in-Paired.result.now) (raw_form_of c.deref-in-Paired-2.result.now) b.begun b.scope
    ∙ ap (expanded_in c.args.scope.now) (pair_node c.args.f.now _ _ p _ _ _ _ c.written-in-Paired.ensures c.in-Paired.is c.deref-in-Paired.ensures c.deref-in-Paired-2.ensures))

pub expand_formula-returns-in_ok-begun-in-Paired-clause-scope : goal.expand_formula-returns-in_ok-begun-in-Paired-clause-scope
expand_formula-returns-in_ok-begun-in-Paired-clause-scope t c =
    let b = c.in_ok-begun-in-Paired.ensures in
    let p : PairOperator = record { at = c.written-in-Paired.result; word = c.in-Paired.word } in
    then_ok c.expand_paired.result _ _ c.expand_paired.ensures.scope (λ h.
    pair_past c.args.scope.now _ _ p (raw_form_of c.deref-in-Paired.result.now) (raw_form_of c.deref-in-Paired-2.result.now) b.scope h
    ∙ ap (past c.args.scope.now) (pair_node c.args.f.now _ _ p _ _ _ _ c.written-in-Paired.ensures c.in-Paired.is c.deref-in-Paired.ensures c.deref-in-Paired-2.ensures))
