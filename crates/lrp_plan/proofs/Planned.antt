-- The steps of each kind of core form, from the steps of its parts.
use Rattle.std.proofs.Common.{◌≡◌, ◌≤◌, ℕ, zero, suc, Bool, true, false, cond, List, [], ◌∷◌, length, take, Option, None, map, Result, Ok, Err, refl, sym, ap, subst, ◌∙◌, arith}
use Rattle.std.specs.Result.{OnOk}
use Rattle.std.proofs.lemmas.Bool.{false≢true}
use Rattle.lrp_core.specs.Cores.{core_of, cores_of}
use Rattle.lrp_core.specs.FreeVariables.{variable_of}
use Rattle.lrp_core.specs.declared.core_forms.Core.{Core}
use Rattle.lrp_model.specs.Texts.{Text, Identifier}
use Rattle.lrp_model.specs.Formulas.{Form, Forms, atom, test, sorted, negation, conjunction, disjunction, implication, exists, forall, no_forms, form}
use Rattle.lrp_model.specs.Rows.{rows_of}
use Rattle.lrp_model.specs.Variables.{is_among}
use Rattle.lrp_model.specs.Satisfaction.{Structure}
use Rattle.lrp_model.specs.Core.{AreCore}
use Rattle.lrp_theory.specs.Divides.{IsCommon}
use Rattle.lrp_model.specs.Periods.{periods, periods_each, test_periods}
use Rattle.lrp_model.specs.Steps.{scan_of, leaf, sort_texts, complement, drop_of}
use Rattle.lrp_model.specs.Conjunctions.{is_test, tests_in, ranked, nothing_taken, take_positives, take_tests, take_negations, State}
use Rattle.lrp_model.specs.Plans.{plan_of, positives_in, negations_in}
use Rattle.lrp_model.specs.declared.relations.Sort.{Sort}
use Rattle.lrp_model.specs.declared.formulas.Term.{Term}
use Rattle.lrp_model.specs.declared.formulas.Test.{Test}
use Rattle.lrp_plan.specs.declared.drafts.Draft.{Draft}
use Rattle.lrp_plan.specs.declared.drafts.PlannedOperand.{PlannedOperand}
use Rattle.lrp_plan.specs.declared.elements.Split.{Split}
use Rattle.lrp_limits.specs.declared.facts.Facts.{Facts}
use Rattle.lrp_plan.specs.declared.sources.Sources.{Sources}
use Rattle.lrp_plan.specs.declared.taking.Taking.{Taking}
use Rattle.lrp_limits.specs.Facts.{AreFacts}
use Rattle.lrp_plan.specs.Drafts.{Extends, AreTests}
use Rattle.lrp_plan.specs.Taking.{IsSoFar}
use Rattle.lrp_core.specs.declared.variable_trees.VariableTree.{VariableTree}
use Rattle.lrp_plan.specs.Elements.{AreInner, CanPlan, MakesSteps, EachCanPlan, IsElement, IsDenied, IsMakingAt, IsSplitOf, TakesTests, TakesEach}
use Rattle.lrp_plan.specs.declared.elements.Kind.TheVariants.{Positive, Negation}
use Rattle.lrp_plan.specs.Sources.{AreSources}
use Rattle.lrp_limits.proofs.Keeping.{common_both}
use Rattle.lrp_plan.proofs.Turns.{zip_length}
use Rattle.lrp_plan.proofs.Unions.{SomeSoFar}

-- what was promised of a core form's steps
abbrev pub Planned : {T E : Type 0} → Result T E → Sources → List VariableTree → Form → Draft → Draft → Type 0
Planned r sources trees f old new = OnOk r ((M : Structure) (K : ℕ) → AreSources M sources → AreInner trees f → CanPlan M K f → Extends M K (plan_of f) old new)

pub atom_made : {T E : Type 0} (r : Result T E) (sources : Sources) (name own : Identifier) (terms copies : List Term) (facts : Facts) (old new : Draft) → own ≡ name → copies ≡ terms → ((M : Structure) → AreSources M sources → AreFacts (rows_of M.relations name) facts)
    → OnOk r ((M : Structure) (K : ℕ) → AreFacts (rows_of M.relations own) facts → IsCommon (periods (atom own copies) M.relations) K → Extends M K (scan_of own copies) old new) → OnOk r ((M : Structure) (K : ℕ) → AreSources M sources → MakesSteps M K (atom name terms) old new)
atom_made (Ok x) sources name own terms copies facts old new g k facts_are h = λ M K s c.
    let i : atom own copies ≡ atom name terms = ap (λ n. atom n copies) g ∙ ap (atom name) k in
    subst (λ y. Extends M K (plan_of y) old new) i (h M K (subst (λ n. AreFacts (rows_of M.relations n) facts) (sym g) (facts_are M s)) (subst (λ y. IsCommon (periods y M.relations) K) (sym i) c.divides))
atom_made (Err x) sources name own terms copies facts old new g k facts_are h = tt

pub test_made : {T E : Type 0} (r : Result T E) (t own : Test) (old new : Draft) → own ≡ t → OnOk r ((M : Structure) (K : ℕ) → IsCommon (test_periods own) K → Extends M K (leaf own) old new) → OnOk r ((M : Structure) (K : ℕ) → MakesSteps M K (test t) old new)
test_made (Ok x) t own old new g h = λ M K c.
    let i : test own ≡ test t = ap test g in
    subst (λ y. Extends M K (plan_of y) old new) i (h M K (subst (λ y. IsCommon (periods y M.relations) K) (sym i) c.divides))
test_made (Err x) t own old new g h = tt

pub sorted_made : {T E : Type 0} (r : Result T E) (sources : Sources) (v own : Identifier) (s like : Sort) (texts : List Text) (old new : Draft) → own ≡ v → like ≡ s → ((M : Structure) → AreSources M sources → texts ≡ M.domain s)
    → OnOk r ((M : Structure) (K : ℕ) → texts ≡ M.domain like → Extends M K (sort_texts like own) old new) → OnOk r ((M : Structure) (K : ℕ) → AreSources M sources → MakesSteps M K (sorted s v) old new)
sorted_made (Ok x) sources v own s like texts old new g k are h = λ M K src c.
    let i : sorted like own ≡ sorted s v = ap (λ z. sorted z own) k ∙ ap (sorted s) g in
    subst (λ y. Extends M K (plan_of y) old new) i (h M K (are M src ∙ ap (λ z. M.domain z) (sym k)))
sorted_made (Err x) sources v own s like texts old new g k are h = tt

pub drop_made : {T E : Type 0} (r : Result T E) (v own : Identifier) (s : Sort) (old new : Draft) → own ≡ v → OnOk r ((M : Structure) (K : ℕ) → Extends M K (drop_of own s) old new) → OnOk r ((M : Structure) (K : ℕ) → Extends M K (drop_of v s) old new)
drop_made r v own s old new g h = subst (λ n. OnOk r ((M : Structure) (K : ℕ) → Extends M K (drop_of n s) old new)) g h

-- a formula with no part
pub leaf_planned : {T E : Type 0} (r : Result T E) (sources : Sources) (trees : List VariableTree) (f g : Form) (old new : Draft) → f ≡ g → OnOk r ((M : Structure) (K : ℕ) → AreSources M sources → MakesSteps M K g old new) → Planned r sources trees f old new
leaf_planned (Ok x) sources trees f g old new e h = λ M K s known c. subst (λ y. Extends M K (plan_of y) old new) (sym e) (h M K s (subst (CanPlan M K) e c))
leaf_planned (Err x) sources trees f g old new e h = tt

-- the same, where nothing is read of the sources
pub test_planned : {T E : Type 0} (r : Result T E) (sources : Sources) (trees : List VariableTree) (f g : Form) (old new : Draft) → f ≡ g → OnOk r ((M : Structure) (K : ℕ) → MakesSteps M K g old new) → Planned r sources trees f old new
test_planned (Ok x) sources trees f g old new e h = λ M K s known c. subst (λ y. Extends M K (plan_of y) old new) (sym e) (h M K (subst (CanPlan M K) e c))
test_planned (Err x) sources trees f g old new e h = tt

pub not_planned : {T E : Type 0} (r : Result T E) (sources : Sources) (trees : List VariableTree) (f g : Form) (old mid new : Draft) → f ≡ negation g → ((M : Structure) (K : ℕ) → AreSources M sources → AreInner trees g → CanPlan M K g → Extends M K (plan_of g) old mid)
    → OnOk r ((M : Structure) (K : ℕ) → Extends M K complement mid new) → Planned r sources trees f old new
not_planned (Ok x) sources trees f g old mid new e h k = λ M K s known c.
    let d : CanPlan M K (negation g) = subst (CanPlan M K) e c in
    subst (λ y. Extends M K (plan_of y) old new) (sym e) (record { follows = λ planned p. (k M K).follows (plan_of g M planned) ((h M K s (subst (AreInner trees) e known) (record { core = d.core; divides = d.divides })).follows planned p) })
not_planned (Err x) sources trees f g old mid new e h k = tt

pub exists_planned : {T E : Type 0} (r : Result T E) (sources : Sources) (trees : List VariableTree) (f g : Form) (v : Identifier) (s : Sort) (old mid new : Draft) → f ≡ exists v s g → ((M : Structure) (K : ℕ) → AreSources M sources → AreInner trees g → CanPlan M K g → Extends M K (plan_of g) old mid)
    → OnOk r ((M : Structure) (K : ℕ) → Extends M K (drop_of v s) mid new) → Planned r sources trees f old new
exists_planned (Ok x) sources trees f g v s old mid new e h k = λ M K src known c.
    let d : CanPlan M K (exists v s g) = subst (CanPlan M K) e c in
    subst (λ y. Extends M K (plan_of y) old new) (sym e) (record {
      follows = λ planned p. (k M K).follows (plan_of g M planned) ((h M K src (subst (AreInner trees) e known) (record { core = d.core; divides = d.divides })).follows planned p);
    })
exists_planned (Err x) sources trees f g v s old mid new e h k = tt

pub as_planned : {T E : Type 0} (r : Result T E) (sources : Sources) (trees : List VariableTree) (f g : Form) (old new : Draft) → f ≡ g → Planned r sources trees g old new → Planned r sources trees f old new
as_planned r sources trees f g old new e h = subst (λ y. Planned r sources trees y old new) (sym e) h

-- ---- `or`

pub take_all_of : {X : Type 0} (xs : List X) (i : ℕ) → length xs ≤ i → take i xs ≡ xs
take_all_of [] zero h = refl
take_all_of [] (suc i) h = refl
take_all_of (x ∷ xs) zero h = absurd (omega arith)
take_all_of (x ∷ xs) (suc i) h = ap (λ ys. x ∷ ys) (take_all_of xs i (omega arith))

pub some_planned : (sources : Sources) (trees : List VariableTree) (fs : List Core) (i : ℕ) (left : Option PlannedOperand) (old now : Draft) → length fs ≤ i → (AreInner trees (disjunction (cores_of fs)) → (M : Structure) → AreSources M sources → SomeSoFar M (cores_of (take i fs)) old now left)
    → (M : Structure) (K : ℕ) → AreSources M sources → AreInner trees (disjunction (cores_of fs)) → CanPlan M K (disjunction (cores_of fs)) → Extends M K (plan_of (disjunction (cores_of fs))) old now
some_planned sources trees fs i left old now le h M K s known c = record {
  follows = λ planned d.
      let e : take i fs ≡ fs = take_all_of fs i le in
      (subst (λ xs. SomeSoFar M (cores_of xs) old now left) e (h known M s)).follows K planned (record { cores = c.core.1; divide = c.divides }) d;
}

-- ---- `and`

each_can : (M : Structure) (K : ℕ) (fs : List Core) → AreCore (cores_of fs) → IsCommon (periods_each (cores_of fs) M.relations) K → EachCanPlan M K fs
each_can M K [] c d = tt
each_can M K (f ∷ fs) c d =
    let b = (common_both (periods (core_of f) M.relations) (periods_each (cores_of fs) M.relations) K).0 d in
    (record { core = c.0; divides = b.0 }, each_can M K fs c.1 b.1)

tests_are_tests : (fs : Forms) → AreTests (tests_in fs)
tests_are_tests no_forms = tt
tests_are_tests (form (test t) fs) = by_test t (is_test t) refl (tests_are_tests fs)
  where
    by_test : (t : Test) (b : Bool) → is_test t ≡ b → AreTests (tests_in fs) → AreTests (cond b (t ∷ tests_in fs) (tests_in fs))
    by_test t true e h = (e, h)
    by_test t false e h = h
tests_are_tests (form (atom name terms) fs) = tests_are_tests fs
tests_are_tests (form (sorted s v) fs) = tests_are_tests fs
tests_are_tests (form (negation f) fs) = tests_are_tests fs
tests_are_tests (form (conjunction gs) fs) = tests_are_tests fs
tests_are_tests (form (disjunction gs) fs) = tests_are_tests fs
tests_are_tests (form (implication f g) fs) = tests_are_tests fs
tests_are_tests (form (exists v s f) fs) = tests_are_tests fs
tests_are_tests (form (forall v s f) fs) = tests_are_tests fs

pub all_planned : {T E : Type 0} (r : Result T E) (sources : Sources) (trees : List VariableTree) (fs : List Core) (split : Split) (first second third : Taking) (fourth : Taking) (old a b new : Draft) → ((M : Structure) → AreSources M sources → AreInner trees (conjunction (cores_of fs)) → IsSplitOf M fs split)
    → first.result ≡ None → map variable_of first.variables ≡ [] → first.tests ≡ split.tests → first.settled ≡ false
    → ((M : Structure) → AreSources M sources → TakesEach Positive M (length split.positives.items) fs split.positives.items old a first second)
    → TakesTests (length second.tests) a b second third
    → OnOk r ((M : Structure) → AreSources M sources → TakesEach Negation M (length split.negations.items) fs split.negations.items b new third fourth) → Planned r sources trees (conjunction (cores_of fs)) old new
all_planned (Err x) sources trees fs split first second third fourth old a b new is e v t u ps ts ns = tt
all_planned (Ok x) sources trees fs split first second third fourth old a b new is e v t u ps ts ns = λ M K src known c. record {
  follows = λ planned d.
      let can : EachCanPlan M K fs = each_can M K fs c.core.1 c.divides in
      let split_is : IsSplitOf M fs split = is M src known in
      let s0 : State = record { steps = planned; taken = nothing_taken; positives = ranked M (positives_in (cores_of fs)); tests = tests_in (cores_of fs); negations = negations_in (cores_of fs) } in
      let at : IsMakingAt M K fs old split.positives.items split.negations.items first s0 = record {
        made = d;
        took = record { result = subst (λ o. IsSoFar M.relations K planned o nothing_taken) (sym e) refl; variables = record { each = λ w. ap (λ vs. is_among vs w) v }; remain = t ∙ split_is.checks; tests = subst AreTests (sym (t ∙ split_is.checks)) (tests_are_tests (cores_of fs)); settled = λ y. absurd (false≢true (sym u ∙ y)) };
        positives = split_is.ranks;
        negations = split_is.denials;
      } in
      let p = ps M src in
      let s1 : State = take_positives (length s0.positives) M s0 in
      let at1 : IsMakingAt M K fs a p.left split.negations.items second s1 = subst (λ n. IsMakingAt M K fs a p.left split.negations.items second (take_positives n M s0)) (zip_length (IsElement fs) split.positives.items s0.positives split_is.ranks) (p.takes.follows K split.negations.items s0 can at) in
      let s2 : State = take_tests (length s1.tests) M s1 in
      let at2 : IsMakingAt M K fs b p.left split.negations.items third s2 = subst (λ n. IsMakingAt M K fs b p.left split.negations.items third (take_tests n M s1)) (ap length at1.took.remain) (ts.follows M K fs p.left split.negations.items s1 at1) in
      let n = ns M src in
      let at3 : IsMakingAt M K fs new p.left n.left fourth (take_negations (length s2.negations) M s2) = subst (λ k. IsMakingAt M K fs new p.left n.left fourth (take_negations k M s2)) (zip_length (IsDenied fs) split.negations.items s2.negations at2.negations) (n.takes.follows K p.left s2 can at2) in
      at3.made;
}
