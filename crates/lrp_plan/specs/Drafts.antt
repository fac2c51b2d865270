-- How the steps that the planner has made so far follow the plan, with reaches up to 2^62 + 1.
use Rattle.std.specs.Prelude.{◌≡◌, ℕ, ◌+◌, ◌≤◌, pos, true, List, [], ◌∷◌, ◌++◌, length, Option, Some, None}
use Rattle.std.specs.List.{AllZip, AllByRecursion}
use Rattle.lrp_model.specs.Formulas.{Form}
use Rattle.lrp_model.specs.Satisfaction.{Structure}
use Rattle.lrp_theory.specs.Divides.{IsCommon}
use Rattle.lrp_model.specs.Periods.{periods}
use Rattle.lrp_model.specs.Steps.{PlanStep, Steps, Rule, formula_at, reach_at, made, union}
use Rattle.lrp_model.specs.Conjunctions.{is_test}
use Rattle.lrp_model.specs.declared.formulas.Test.{Test}
use Rattle.lrp_model.specs.declared.plans.StepKind.{StepKind}
use Rattle.lrp_model.specs.declared.plans.StepKind.TheVariants.{Extend}
use Rattle.lrp_model.specs.declared.plans.Step.{Step}
use Rattle.lrp_model.specs.declared.relations.Relation.{Relation}
use Rattle.lrp_plan.specs.declared.drafts.PlannedOperand.{PlannedOperand}
use Rattle.lrp_plan.specs.declared.drafts.Draft.{Draft}
use Rattle.lrp_limits.specs.Capped.{capped}
use Rattle.lrp_limits.specs.Multiples.{IsPeriod, IsLeastWithinLimit}

-- one step more, of this kind, period and reach
pub record AddsStep (kind : StepKind) (k reach : ℕ) (old new : Draft) : Type 0 where
  pub steps : new.steps ≡ old.steps ++ record { kind = kind; period = pos k; reach = pos reach } ∷ []
  pub number : new.last.number ≡ old.last.number + 1
  pub period : new.last.period.number ≡ k
  pub far : new.last.reach ≡ reach

-- what is read of step i of the plan; all periods that the step's formula names divide K
pub record IsPlannedOperand (db : List Relation) (K : ℕ) (planned : Steps) (i : ℕ) (o : PlannedOperand) : Type 0 where
  pub within : i ≤ length planned
  pub number : o.number ≡ i
  pub period : IsLeastWithinLimit (periods (formula_at planned i) db) o.period.number
  pub reach : o.reach ≡ capped (reach_at planned i)
  pub divides : IsCommon (periods (formula_at planned i) db) K

-- a step of the plan, with its reach up to 2^62 + 1
pub record IsDraftOf (step : Step) (planned : PlanStep) : Type 0 where
  pub kind : step.kind ≡ planned.kind
  pub period : step.period ≡ pos planned.period
  pub reach : step.reach ≡ pos (capped planned.reach)

-- the steps so far are those of the plan so far, for a query of period K
pub record IsDraft (db : List Relation) (K : ℕ) (draft : Draft) (planned : Steps) : Type 0 where
  pub whole : IsPeriod K
  pub steps : AllZip IsDraftOf draft.steps planned
  pub last : IsPlannedOperand db K planned (length planned) draft.last

-- the steps of a rule were made
pub record Extends (M : Structure) (K : ℕ) (rule : Rule) (old new : Draft) : Type 0 where
  pub follows : (planned : Steps) → IsDraft M.relations K old planned → IsDraft M.relations K new (rule M planned)

-- those of a rule that reads an earlier step too
pub record ExtendsBoth (M : Structure) (K : ℕ) (left : PlannedOperand) (rule : ℕ → Rule) (old new : Draft) : Type 0 where
  pub follows : (planned : Steps) (i : ℕ) → IsDraft M.relations K old planned → IsPlannedOperand M.relations K planned i left → IsDraft M.relations K new (rule i M planned)

-- comparisons of times and equalities, which name no period
abbrev pub AreTests : List Test → Type 0
AreTests ts = AllByRecursion (λ t. is_test t ≡ true) ts

-- the last step, over the one before it
abbrev pub with_head_step : Form → Rule
with_head_step f M steps = made M (Extend (length steps)) f steps

-- a `union` with an earlier step, where there is one
pub record Unites (left : Option PlannedOperand) (old new : Draft) : Type 0 where
  pub none : left ≡ None → new ≡ old
  pub some : (o : PlannedOperand) → left ≡ Some o → (M : Structure) (K : ℕ) → ExtendsBoth M K o union old new
