use Rattle.std.proofs.Common.{◌≡◌, get_or, length, false, map, Some, None, refl, sym, ap, subst, ◌∙◌, arith}
use Rattle.std.specs.Result.{OnOk}
use Rattle.lrp_core.specs.Cores.{core_of, cores_of, test_of}
use Rattle.lrp_core.specs.FreeVariables.{variable_of}
use Rattle.lrp_core.proofs.CoreViews.{core_of-And, core_of-Or}
use Rattle.lrp_core.proofs.TreeViews.{inner_known}
use Rattle.lrp_model.specs.RawTerms.{said_term}
use Rattle.lrp_model.specs.Formulas.{atom, test, sorted, negation, exists, conjunction, disjunction}
use Rattle.lrp_model.specs.Conjunctions.{first_or_0}
use Rattle.lrp_plan.specs.declared.taking.Taking.{Taking}
use Rattle.lrp_plan.specs.Elements.{AreInner, TakesAt, TakesTurns}
use Rattle.lrp_plan.specs.Taking.{TakesElement}
use Rattle.lrp_plan.specs.Waiting.{goes_first}
use Rattle.lrp_plan.proofs.Planned.{leaf_planned, test_planned, not_planned, exists_planned, as_planned, some_planned, all_planned}
use Rattle.lrp_plan.proofs.FirstTrees.{tree_there, tree_read, none_past}
use Rattle.lrp_plan.proofs.Unions.{none_so_far, one_more as one_more_planned}
use Rattle.lrp_plan.proofs.Turns.{idles_next, no_turns}
use Rattle.lrp_plan.proofs.Answered.{element_turned}
use Rattle.lrp_plan.proofs.planner.+planning.Goals as goal

pub plan_core-returns-in-Atom : goal.plan_core-returns-in-Atom
plan_core-returns-in-Atom t c =
    leaf_planned c.plan_atom.result c.args.sources.now c.args.inner.now (core_of c.args.core.now) (atom c.in-Atom.relation.now (map said_term c.as_slice.result.now)) c.args.draft.now c.plan_atom.new.draft (ap core_of c.in-Atom.is ∙ ap (λ ts. atom c.in-Atom.relation.now (map said_term ts)) (sym c.as_slice.ensures)) c.plan_atom.ensures

pub plan_core-returns-in-Check : goal.plan_core-returns-in-Check
plan_core-returns-in-Check t c =
    test_planned c.plan_test.result c.args.sources.now c.args.inner.now (core_of c.args.core.now) (test (test_of c.in-Check.test)) c.args.draft.now c.plan_test.new.draft (ap core_of c.in-Check.is) c.plan_test.ensures

pub plan_core-returns-in-Sorted : goal.plan_core-returns-in-Sorted
plan_core-returns-in-Sorted t c =
    leaf_planned c.plan_sorted.result c.args.sources.now c.args.inner.now (core_of c.args.core.now) (sorted c.in-Sorted.sort.now c.in-Sorted.name.now) c.args.draft.now c.plan_sorted.new.draft (ap core_of c.in-Sorted.is) c.plan_sorted.ensures

pub plan_core-returns-in_ok-plan_core-in-Not : goal.plan_core-returns-in_ok-plan_core-in-Not
plan_core-returns-in_ok-plan_core-in-Not t c =
    not_planned c.complement.result c.args.sources.now c.args.inner.now (core_of c.args.core.now) (core_of c.deref.result.now) c.args.draft.now c.plan_core.new.draft c.complement.new.self (ap core_of c.in-Not.is ∙ ap (λ x. negation (core_of x)) (sym c.deref.ensures)) c.in_ok-plan_core-in-Not.ensures c.complement.ensures

pub plan_core-returns-in-And : goal.plan_core-returns-in-And
plan_core-returns-in-And t c =
    as_planned c.plan_all.result c.args.sources.now c.args.inner.now (core_of c.args.core.now) (conjunction (cores_of c.deref-in-And.result.now)) c.args.draft.now c.plan_all.new.draft (ap core_of c.in-And.is ∙ core_of-And c.in-And.of ∙ ap (λ xs. conjunction (cores_of xs)) (sym c.deref-in-And.ensures.value)) c.plan_all.ensures

pub plan_core-returns-in-Or : goal.plan_core-returns-in-Or
plan_core-returns-in-Or t c =
    as_planned c.plan_some.result c.args.sources.now c.args.inner.now (core_of c.args.core.now) (disjunction (cores_of c.deref-in-Or.result.now)) c.args.draft.now c.plan_some.new.draft (ap core_of c.in-Or.is ∙ core_of-Or c.in-Or.of ∙ ap (λ xs. disjunction (cores_of xs)) (sym c.deref-in-Or.ensures.value)) c.plan_some.ensures

pub plan_core-returns-in_ok-plan_core-in-Exists : goal.plan_core-returns-in_ok-plan_core-in-Exists
plan_core-returns-in_ok-plan_core-in-Exists t c =
    exists_planned c.plan_drop.result c.args.sources.now c.args.inner.now (core_of c.args.core.now) (core_of c.deref-in-Exists.result.now) c.in-Exists.name.now c.in-Exists.sort.now c.args.draft.now c.plan_core-in-Exists.new.draft c.plan_drop.new.draft
    (ap core_of c.in-Exists.is ∙ ap (λ x. exists c.in-Exists.name.now c.in-Exists.sort.now (core_of x)) (sym c.deref-in-Exists.ensures)) c.in_ok-plan_core-in-Exists.ensures c.plan_drop.ensures

pub plan_some-loop-index-init : goal.plan_some-loop-index-init
plan_some-loop-index-init t c = λ known M s. none_so_far M c.args.draft.now

pub plan_some-loop-index-preserved : goal.plan_some-loop-index-preserved
plan_some-loop-index-preserved t c = λ known M s.
    let own = tree_there c.args.inner.now c.args.of.now c.loop-index.index c.index-of-index.result known c.loop-index-test.true c.index-of-index.is in
    one_more_planned M c.args.of.now c.loop-index.index c.index-of-index.result c.args.draft.now c.loop-index.draft c.plan_with.new.draft c.unite.new.draft c.loop-index.left (omega (arith, c.loop-index-test.true)) c.index-of-index.is (c.loop-index.invariant known M s)
    (λ K can. c.in_ok-plan_with.ensures M K own.0 s own.1 own.2 can) c.in_ok-unite.ensures

pub plan_some-returns : goal.plan_some-returns
plan_some-returns t c = some_planned c.args.sources.now c.args.inner.now c.args.of.now c.loop-index.index c.loop-index.left c.args.draft.now c.loop-index.draft c.loop-index-test.false c.loop-index.invariant

pub plan_with-returns-in_ok-plan_core : goal.plan_with-returns-in_ok-plan_core
plan_with-returns-in_ok-plan_core t c = λ M K tree s there known can.
    c.in_ok-plan_core.ensures M K s
    (subst (λ ts. AreInner ts (core_of c.args.core.now)) (sym c.deref.ensures.value)
    (inner_known (get_or c.args.trees.now c.args.index c.index-trees-index.result) (core_of c.args.core.now) (tree_read c.args.trees.now c.args.index tree c.index-trees-index.result there ∙ known))) can

pub plan_with-returns-else-index-trees : goal.plan_with-returns-else-index-trees
plan_with-returns-else-index-trees t c = λ M K tree s there known can. absurd (none_past c.args.trees.now c.args.index tree (omega (arith, c.if-index-trees.false)) there)

pub plan_all-returns : goal.plan_all-returns
plan_all-returns t c =
    let first : Taking = record { result = None; variables = c.new.result; tests = c.in_ok-parts.parts.tests; settled = false } in
    all_planned c.plan_each-2.result c.args.sources.now c.args.inner.now c.args.of.now c.in_ok-parts.parts first c.plan_each.new.taking c.take_tests.new.taking c.plan_each-2.new.taking c.args.draft.now c.plan_each.new.draft c.take_tests.new.draft c.plan_each-2.new.draft
    c.in_ok-parts.ensures refl (ap (map variable_of) c.new.ensures) refl refl c.in_ok-plan_each.ensures c.in_ok-take_tests.ensures c.plan_each-2.ensures

pub plan_each-loop-turn-init : goal.plan_each-loop-turn-init
plan_each-loop-turn-init t c = λ M s.
    subst (λ es. TakesTurns c.args.turns.kind M 0 c.args.of.now c.args.elements.items es c.args.draft.now c.args.draft.now c.args.taking.now c.args.taking.now) (sym c.new-left.ensures) (no_turns c.args.turns.kind M c.args.of.now c.args.elements.items c.args.draft.now c.args.taking.now)

pub plan_each-loop-turn-preserved : goal.plan_each-loop-turn-preserved
plan_each-loop-turn-preserved t c = λ M s. (c.in_ok-plan_next.ensures M s).next _ _ _ _ (c.loop-turn.invariant M s)

pub plan_each-returns : goal.plan_each-returns
plan_each-returns t c = λ M s.
    let n : c.len-count.result ≡ length c.args.elements.items = c.len-count.ensures ∙ c.args.elements.ok.0 in
    let all : c.loop-turn._turn ≡ length c.args.elements.items = omega (arith, c.loop-turn-test.false, c.loop-turn.auto._turn-end) in
    record {
      left = c.loop-turn.left;
      takes = subst (λ turns. TakesTurns c.args.turns.kind M turns c.args.of.now c.args.elements.items c.loop-turn.left c.args.draft.now c.loop-turn.draft c.args.taking.now c.loop-turn.taking) all (c.loop-turn.invariant M s);
    }

pub plan_next-returns-in-None : goal.plan_next-returns-in-None
plan_next-returns-in-None t c = λ M s.
    idles_next c.args.turns.kind M c.args.of.now c.args.left.now c.take_next.new.self c.args.draft.now c.args.taking.now (first_or_0 (goes_first c.turn-turn.result c.args.taking.now.variables) c.args.left.now)
    (subst (TakesAt (first_or_0 (goes_first c.turn-turn.result c.args.taking.now.variables) c.args.left.now) c.args.left.now c.take_next.new.self) c.in-None.is c.in_ok-take_next.ensures)

pub plan_next-returns-in_ok-plan_at-in-Some : goal.plan_next-returns-in_ok-plan_at-in-Some
plan_next-returns-in_ok-plan_at-in-Some t c =
    element_turned c.take.result c.args.turns.kind c.args.turns.sources.now c.args.of.now c.args.left.now c.take_next.new.self c.args.draft.now c.plan_at.new.draft c.take.new.draft c.in-Some.element c.args.taking.now c.take.new.self
    (subst (λ turn. TakesAt (first_or_0 (goes_first turn c.args.taking.now.variables) c.args.left.now) c.args.left.now c.take_next.new.self (Some c.in-Some.element)) c.turn-turn.ensures
    (subst (TakesAt (first_or_0 (goes_first c.turn-turn.result c.args.taking.now.variables) c.args.left.now) c.args.left.now c.take_next.new.self) c.in-Some.is c.in_ok-take_next.ensures))
    (λ M K core f s is taken inner can. c.in_ok-plan_at-in-Some.ensures M K core f s is taken (subst (λ ts. AreInner ts f) (sym c.deref.ensures.value) inner) can)
    (subst (λ vs. OnOk c.take.result (TakesElement c.args.turns.kind (map variable_of vs) c.args.taking.now c.take.new.self c.plan_at.new.draft c.take.new.draft)) c.as_slice-variables.ensures c.take.ensures)
