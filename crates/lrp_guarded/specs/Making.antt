-- How the steps made so far, with the columns of each, follow the rules.
use Rattle.std.specs.Prelude.{◌≡◌, ℕ, true, List, [], map}
use Rattle.std.specs.List.{AllZip, AllByRecursion}
use Rattle.lrp_core.specs.FreeVariables.{variable_of, each_once}
use Rattle.lrp_core.specs.declared.variables.Variable.{Variable as ProgramVariable}
use Rattle.lrp_model.specs.Variables.{Variable, free}
use Rattle.lrp_model.specs.Sorts.{is_data}
use Rattle.lrp_model.specs.declared.relations.Sort.{Sort}
use Rattle.lrp_model.specs.Steps.{PlanStep, Steps}
use Rattle.lrp_plan_laws.specs.Projections.{PlanGround as Ground, drop_variable}
use Rattle.lrp_plan.specs.declared.drafts.Draft.{Draft}
use Rattle.lrp_plan.specs.declared.drafts.PlannedOperand.{PlannedOperand}
use Rattle.lrp_plan.specs.Drafts.{IsDraft, IsPlannedOperand}
use Rattle.lrp_plan.specs.Sources.{AreSources}
use Rattle.lrp_guarded.specs.declared.making.Making.{Making}

-- the variables of a step, in the order of its columns
abbrev pub HasColumns : List ProgramVariable → PlanStep → Type 0
HasColumns vs step = map variable_of vs ≡ each_once (free step.formula)

-- there is a sort that texts have, and each is a data sort
pub record AreDataSorts (sorts : List Sort) : Type 0 where
  pub some : sorts ≡ [] → ⊥
  pub data_ones : AllByRecursion (λ s. is_data s ≡ true) sorts

-- the steps so far are these, for a query of period K
pub record IsMaking (over : Ground) (K : ℕ) (making : Making) (steps : Steps) : Type 0 where
  pub sources : AreSources over.structure making.sources.now
  pub database : making.sources.now.database.now ≡ over.structure.relations
  pub sorts : AreDataSorts over.sorts
  pub draft : IsDraft over.structure.relations K making.draft steps
  pub columns : AllZip HasColumns making.columns.items steps

-- the steps of a rule were made
pub record Makes (rule : Ground → Steps → Steps) (old new : Making) : Type 0 where
  pub follows : (over : Ground) (K : ℕ) (steps : Steps) → IsMaking over K old steps → IsMaking over K new (rule over steps)

-- those of a rule that reads a step
pub record MakesFrom (of : PlannedOperand) (rule : Ground → ℕ → Steps → Steps) (old new : Making) : Type 0 where
  pub follows : (over : Ground) (K : ℕ) (steps : Steps) (i : ℕ) → IsMaking over K old steps → IsPlannedOperand over.structure.relations K steps i of → IsMaking over K new (rule over i steps)

-- steps that were made, and one of them or before them by its number
pub record IsMadeTo (over : Ground) (K : ℕ) (made : Making) (steps : Steps) (number : ℕ) (at : PlannedOperand) : Type 0 where
  pub making : IsMaking over K made steps
  pub last : IsPlannedOperand over.structure.relations K steps number at

-- the steps of a rule that reads a step were made, and this is the step of this number then
pub record MakesTo (of : PlannedOperand) (rule : Ground → ℕ → Steps → Steps) (number : Ground → ℕ → Steps → ℕ) (old new : Making) (last : PlannedOperand) : Type 0 where
  pub follows : (over : Ground) (K : ℕ) (steps : Steps) (i : ℕ) → IsMaking over K old steps → IsPlannedOperand over.structure.relations K steps i of → IsMadeTo over K new (rule over i steps) (number over i steps) last

-- the step that drops a variable of a step was made
pub record DropsFrom (of : PlannedOperand) (v : Variable) (old new : Draft) : Type 0 where
  pub follows : (over : Ground) (K : ℕ) (steps : Steps) (i : ℕ) → AreDataSorts over.sorts → IsDraft over.structure.relations K old steps → IsPlannedOperand over.structure.relations K steps i of → IsDraft over.structure.relations K new (drop_variable over v i steps)
