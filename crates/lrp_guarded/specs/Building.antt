-- How the program makes the steps of core forms under guards.
use Rattle.std.specs.Prelude.{◌≡◌, ◌==◌, ℕ, Bool, true, false, not, cond, ◌&&◌, List, [], Option, Some, None}
use Rattle.lrp_core.specs.declared.core_forms.Core.{Core}
use Rattle.lrp_model.specs.Formulas.{Form, atom, test, sorted, negation, conjunction, disjunction, implication, exists, forall}
use Rattle.lrp_model.specs.Variables.{Variable, free, are_among, variables_of_test}
use Rattle.lrp_model.specs.Steps.{Steps, formula_at, join, union}
use Rattle.lrp_model.specs.Conjunctions.{is_test}
use Rattle.lrp_model.specs.declared.formulas.Test.{Test}
use Rattle.lrp_plan_laws.specs.Binding.{is_leaf, is_guarded_by}
use Rattle.lrp_plan_laws.specs.Projections.{PlanGround as Ground, project, projected}
use Rattle.lrp_plan_laws.specs.GuardedConjunctions.{GuardedPart as Part, Standing, part_steps, is_whole_guard, go_on_from, take_up, take_off}
use Rattle.lrp_plan_laws.specs.GuardedPlans.{build, member}
use Rattle.lrp_plan.specs.declared.drafts.PlannedOperand.{PlannedOperand}
use Rattle.lrp_plan.specs.Drafts.{IsPlannedOperand, IsDraft, with_head_step}
use Rattle.lrp_plan.specs.Sources.{AreSources}
use Rattle.lrp_plan.specs.declared.drafts.Draft.{Draft}
use Rattle.lrp_plan.specs.declared.sources.Sources.{Sources}
use Rattle.lrp_limits.specs.Multiples.{IsPeriod, IsLeastWithinLimit}
use Rattle.lrp_model.specs.Periods.{periods}
use Rattle.lrp_theory.specs.Divides.{IsCommon}
use Rattle.lrp_plan.specs.Elements.{CanPlan}
use Rattle.lrp_guarded.specs.Making.{AreDataSorts, IsMaking, MakesFrom}
use Rattle.lrp_guarded.specs.Standing.{StandsInList as Stands, IsGuard, bringing}
use Rattle.lrp_guarded.specs.declared.builder.Role.{Role}
use Rattle.lrp_guarded.specs.declared.builder.Role.TheVariants.{Positive, Negation}
use Rattle.lrp_guarded.specs.declared.making.Making.{Making}
use Rattle.lrp_guarded.specs.declared.standing.Standing.{Standing as ProgramStanding}

abbrev pub is_positive : Role → Bool
is_positive Positive = true
is_positive Negation = false

-- a core form with the rule that makes its steps
abbrev pub part_of_form : Form → Part
part_of_form f = record { formula = f; rule = build f [] }

-- where the elements stand in this list, what was done follows the rules
pub record FollowsIn (fs : List Core) (step : Ground → Standing → Standing) (before after : Making) (old new : ProgramStanding) : Type 0 where
  pub follows : (over : Ground) (K : ℕ) (at : Standing) → Stands over K fs before old at → Stands over K fs after new (step over at)

-- what a negation wants is brought
abbrev pub prepared : Bool → Form → Ground → Standing → Standing
prepared true f over at = at
prepared false f over at = bringing f over at

-- a positive taken in, or the formula of a negation taken off
abbrev pub element_step : Bool → Part → Ground → Standing → Standing
element_step true p over at =
    let steps = part_steps over at.taken p at.steps in
    cond (is_whole_guard over at.taken at.steps p.formula) (go_on_from over.structure (free p.formula) steps at) (take_up over.structure (free p.formula) steps at)
element_step false p over at = take_off over p (prepared false p.formula over at)

pub record BuildsElement (positive : Bool) (f : Form) (before after : Making) (old new : ProgramStanding) : Type 0 where
  pub follows : (over : Ground) (K : ℕ) (fs : List Core) (at : Standing) → CanPlan over.structure K f → Stands over K fs before old at → Stands over K fs after new (element_step positive (part_of_form f) over at)

-- a member of an `or` was made
pub record BuildsMember (f : Form) (guard : Option PlannedOperand) (old new : Making) : Type 0 where
  pub follows : (over : Ground) (K : ℕ) (steps : Steps) (g : Option ℕ) → CanPlan over.structure K f → IsMaking over K old steps → IsGuard over K steps guard g → IsMaking over K new (member (part_of_form f) over g steps)

-- the number of a projection, where the step guards the formula
abbrev pub projected_for : Bool → Form → Ground → ℕ → Steps → Option ℕ
projected_for guards f over i steps = cond guards (Some (projected over (free f) i steps)) None

abbrev pub project_for : Bool → Form → Ground → ℕ → Steps → Steps
project_for guards f over i steps = cond guards (project over (free f) i steps) steps

-- the projection of a step for a formula was made, where it guards it
pub record Projects (of : PlannedOperand) (f : Form) (old new : Making) (guard : Option PlannedOperand) : Type 0 where
  pub follows : (over : Ground) (K : ℕ) (steps : Steps) (i : ℕ) → IsMaking over K old steps → IsPlannedOperand over.structure.relations K steps i of
      → IsMaking over K new (project_for (is_guarded_by (free (formula_at steps i)) f) f over i steps)
      × IsGuard over K (project_for (is_guarded_by (free (formula_at steps i)) f) f over i steps) guard (projected_for (is_guarded_by (free (formula_at steps i)) f) f over i steps)

-- the steps and the number of the own guard of a member
abbrev pub own_steps : Form → Ground → Option ℕ → Steps → Steps
own_steps f over None steps = steps
own_steps f over (Some i) steps = project_for (is_guarded_by (free (formula_at steps i)) f) f over i steps

abbrev pub own_number : Form → Ground → Option ℕ → Steps → Option ℕ
own_number f over None steps = None
own_number f over (Some i) steps = projected_for (is_guarded_by (free (formula_at steps i)) f) f over i steps

-- the own guard of a member was made, where there is a guard
pub record OwnGuard (f : Form) (guard : Option PlannedOperand) (old new : Making) (own : Option PlannedOperand) : Type 0 where
  pub follows : (over : Ground) (K : ℕ) (steps : Steps) (g : Option ℕ) → IsMaking over K old steps → IsGuard over K steps guard g
      → IsMaking over K new (own_steps f over g steps) × IsGuard over K (own_steps f over g steps) own (own_number f over g steps)

-- the same of the result so far, for a formula with parts
abbrev pub is_wanted : Bool → Form → Steps → ℕ → Bool
is_wanted some f steps i = some && (not (is_leaf f) && is_guarded_by (free (formula_at steps i)) f)

pub record Guards (some : Bool) (of : PlannedOperand) (f : Form) (old new : Making) (guard : Option PlannedOperand) : Type 0 where
  pub follows : (over : Ground) (K : ℕ) (steps : Steps) (i : ℕ) → IsMaking over K old steps → IsPlannedOperand over.structure.relations K steps i of
      → IsMaking over K new (project_for (is_wanted some f steps i) f over i steps)
      × IsGuard over K (project_for (is_wanted some f steps i) f over i steps) guard (projected_for (is_wanted some f steps i) f over i steps)

-- there is a guard, and it is this step
abbrev pub is_this : Option PlannedOperand → PlannedOperand → Bool
is_this None step = false
is_this (Some guard) step = guard.number == step.number

-- the guard was joined, unless there is none or it is this step
pub record JoinsGuard (guard own : Option PlannedOperand) (old new : Making) : Type 0 where
  pub none : guard ≡ None → new ≡ old
  pub same : (o : PlannedOperand) → guard ≡ Some o → is_this own o ≡ true → new ≡ old
  pub some : (o : PlannedOperand) → guard ≡ Some o → is_this own o ≡ false → MakesFrom o (λ over i. join i [] over.structure) old new

-- a `union` with an earlier step, where there is one
pub record UnitesMembers (left : Option PlannedOperand) (old new : Making) : Type 0 where
  pub none : left ≡ None → new ≡ old
  pub some : (o : PlannedOperand) → left ≡ Some o → MakesFrom o (λ over i. union i over.structure) old new

-- the comparison or the equality that a core form is, where all of its variables are among these
abbrev pub selected_test : List Variable → Form → Option Test
selected_test vs (test t) = cond (is_test t && are_among (variables_of_test t) vs) (Some t) None
selected_test vs (atom name terms) = None
selected_test vs (sorted s v) = None
selected_test vs (negation f) = None
selected_test vs (conjunction fs) = None
selected_test vs (disjunction fs) = None
selected_test vs (implication f g) = None
selected_test vs (exists v s f) = None
selected_test vs (forall v s f) = None

-- the steps of a core form under guards, and then the last one, of a formula with this period
pub record IsGuardedDraft (sources : Sources) (f : Form) (k : ℕ) (draft : Draft) : Type 0 where
  pub follows : (over : Ground) (K : ℕ) (g : Form) → AreSources over.structure sources → sources.database.now ≡ over.structure.relations → AreDataSorts over.sorts → CanPlan over.structure K f → IsPeriod K → IsLeastWithinLimit (periods g over.structure.relations) k → IsCommon (periods g over.structure.relations) K
      → IsDraft over.structure.relations K draft (with_head_step g over.structure (build f [] over None []))
