-- The elements of an `and` of the program, against those of the rules.
use Rattle.std.specs.Prelude.{◌≡◌, ℕ, ◌+◌, List, [], Option, Some, None, map, remove, slice_get}
use Rattle.std.specs.List.{AllZip, AllByRecursion}
use Rattle.lrp_core.specs.Cores.{core_of, cores_of}
use Rattle.lrp_core.specs.FreeVariables.{variable_of}
use Rattle.lrp_core.specs.VariableTrees.{trees_of, inner_trees}
use Rattle.lrp_core.specs.declared.core_forms.Core.{Core}
use Rattle.lrp_core.specs.declared.variable_trees.VariableTree.{VariableTree}
use Rattle.lrp_core.specs.declared.variable_trees.VariableTree.TheViews.{out-VariableTree}
use Rattle.lrp_model.specs.Formulas.{Form, negation}
use Rattle.lrp_model.specs.Variables.{Variable, free}
use Rattle.lrp_model.specs.Satisfaction.{Structure}
use Rattle.lrp_model.specs.Conjunctions.{Element as PlanElement, State, ranked, tests_in, take_positives, take_tests, take_negations}
use Rattle.lrp_model.specs.Plans.{plan_of, positives_in, negations_in}
use Rattle.lrp_plan.specs.declared.elements.Element.{Element}
use Rattle.lrp_plan.specs.declared.elements.Kind.{Kind}
use Rattle.lrp_plan.specs.declared.elements.Kind.TheVariants.{Positive, Negation}
use Rattle.lrp_plan.specs.declared.elements.Split.{Split}
use Rattle.lrp_plan.specs.declared.drafts.Draft.{Draft}
use Rattle.lrp_plan.specs.declared.taking.Taking.{Taking}
use Rattle.lrp_model.specs.Core.{IsCore}
use Rattle.lrp_theory.specs.Divides.{IsCommon}
use Rattle.lrp_model.specs.Periods.{periods}
use Rattle.lrp_plan.specs.Drafts.{IsDraft, Extends}
use Rattle.lrp_plan.specs.Taking.{HaveSame, IsTaking}

-- the variables of an element, and the trees of the elements in it
abbrev pub element_variables : Element → List Variable
element_variables e = map variable_of (out-VariableTree e.tree.now).variables

abbrev pub element_inner : Element → List VariableTree
element_inner e = (out-VariableTree e.tree.now).inner.items

-- the element at this place was taken out of the list, or there is none
abbrev pub TakesAt : ℕ → List Element → List Element → Option Element → Type 0
TakesAt i old new None = (old ≡ []) × (new ≡ [])
TakesAt i old new (Some e) = (slice_get old i ≡ Some e) × (new ≡ remove old i)

-- the formula of an element of a kind, by the one whose steps are made for it
abbrev pub element_of : Kind → Form → Form
element_of Positive f = f
element_of Negation f = negation f

-- these are the trees of the elements in a formula
abbrev pub AreInner : List VariableTree → Form → Type 0
AreInner ts f = trees_of ts ≡ inner_trees f

-- an element of the list of core forms, with the rule that makes its steps
pub record IsElement (fs : List Core) (e : Element) (p : PlanElement) : Type 0 where
  pub core : Core
  pub stands : slice_get fs e.index ≡ Some core
  pub formula : p.formula ≡ core_of core
  pub rule : p.rule ≡ plan_of p.formula
  pub variables : HaveSame (element_variables e) (free p.formula)
  pub inner : AreInner (element_inner e) p.formula

-- a negation of the list, with the rule that makes the steps of what it denies
pub record IsDenied (fs : List Core) (e : Element) (p : PlanElement) : Type 0 where
  pub core : Core
  pub stands : slice_get fs e.index ≡ Some core
  pub formula : core_of core ≡ negation p.formula
  pub rule : p.rule ≡ plan_of p.formula
  pub variables : HaveSame (element_variables e) (free p.formula)
  pub inner : AreInner (element_inner e) p.formula

-- where the making of an `and` stands
pub record IsMakingAt (M : Structure) (K : ℕ) (fs : List Core) (draft : Draft) (ps ns : List Element) (taking : Taking) (s : State) : Type 0 where
  pub made : IsDraft M.relations K draft s.steps
  pub took : IsTaking M.relations K s.steps taking s.taken s.tests
  pub positives : AllZip (IsElement fs) ps s.positives
  pub negations : AllZip (IsDenied fs) ns s.negations

-- a core form whose periods all divide K
pub record CanPlan (M : Structure) (K : ℕ) (f : Form) : Type 0 where
  pub core : IsCore f
  pub divides : IsCommon (periods f M.relations) K

-- the steps of a formula with no part, after those before
abbrev pub MakesSteps : Structure → ℕ → Form → Draft → Draft → Type 0
MakesSteps M K f old new = CanPlan M K f → Extends M K (plan_of f) old new

abbrev pub EachCanPlan : Structure → ℕ → List Core → Type 0
EachCanPlan M K fs = AllByRecursion (λ core. CanPlan M K (core_of core)) fs

-- the `and`'s positives, ranked, its tests and its negations
pub record IsSplitOf (M : Structure) (fs : List Core) (split : Split) : Type 0 where
  pub ranks : AllZip (IsElement fs) split.positives.items (ranked M (positives_in (cores_of fs)))
  pub checks : split.tests ≡ tests_in (cores_of fs)
  pub denials : AllZip (IsDenied fs) split.negations.items (negations_in (cores_of fs))

-- a number of turns of positives, of tests and of negations
pub record TakesPositives (M : Structure) (turns : ℕ) (fs : List Core) (ps qs : List Element) (before after : Draft) (old new : Taking) : Type 0 where
  pub follows : (K : ℕ) (ns : List Element) (s : State) → EachCanPlan M K fs → IsMakingAt M K fs before ps ns old s → IsMakingAt M K fs after qs ns new (take_positives turns M s)

pub record TakesTests (turns : ℕ) (before after : Draft) (old new : Taking) : Type 0 where
  pub follows : (M : Structure) (K : ℕ) (fs : List Core) (ps ns : List Element) (s : State) → IsMakingAt M K fs before ps ns old s → IsMakingAt M K fs after ps ns new (take_tests turns M s)

pub record TakesNegations (M : Structure) (turns : ℕ) (fs : List Core) (ns qs : List Element) (before after : Draft) (old new : Taking) : Type 0 where
  pub follows : (K : ℕ) (ps : List Element) (s : State) → EachCanPlan M K fs → IsMakingAt M K fs before ps ns old s → IsMakingAt M K fs after ps qs new (take_negations turns M s)

-- a number of turns of elements of a kind
abbrev pub TakesTurns : Kind → Structure → ℕ → List Core → List Element → List Element → Draft → Draft → Taking → Taking → Type 0
TakesTurns Positive M turns fs es left before after old new = TakesPositives M turns fs es left before after old new
TakesTurns Negation M turns fs es left before after old new = TakesNegations M turns fs es left before after old new

-- all turns, whatever is left of the elements then
pub record TakesEach (kind : Kind) (M : Structure) (turns : ℕ) (fs : List Core) (es : List Element) (before after : Draft) (old new : Taking) : Type 0 where
  pub left : List Element
  pub takes : TakesTurns kind M turns fs es left before after old new

-- one turn after those that were made
pub record TakesNext (kind : Kind) (M : Structure) (fs : List Core) (qs rs : List Element) (mid after : Draft) (now new : Taking) : Type 0 where
  pub next : (turns : ℕ) (es : List Element) (before : Draft) (old : Taking) → TakesTurns kind M turns fs es qs before mid old now → TakesTurns kind M (turns + 1) fs es rs before after old new

pub record TurnsTest (mid after : Draft) (now new : Taking) : Type 0 where
  pub next : (turns : ℕ) (before : Draft) (old : Taking) → TakesTests turns before mid old now → TakesTests (turns + 1) before after old new
