-- Steps that drop variables: the projection of a step to some of its variables.
use Rattle.std.specs.Prelude.{ℕ, suc, not, List, [], ◌∷◌, length, filter}
use Rattle.lrp_model.specs.Texts.{Identifier}
use Rattle.lrp_model.specs.Formulas.{Form, Forms, disjunction, exists, no_forms, form}
use Rattle.lrp_model.specs.Variables.{Variable, time_variable, data_variable, same_variable, is_among, free}
use Rattle.lrp_model.specs.Satisfaction.{Structure}
use Rattle.lrp_model.specs.Steps.{Steps, formula_at, made}
use Rattle.lrp_model.specs.declared.relations.Sort.{Sort}
use Rattle.lrp_model.specs.declared.relations.Sort.TheVariants.{Time}
use Rattle.lrp_model.specs.declared.plans.StepKind.TheVariants.{DropTime, DropData}

-- what a plan is made over: the relations with the texts of each sort, and the sorts that texts have
pub record PlanGround : Type 0 where
  pub structure : Structure
  pub sorts : List Sort

-- the formula for some text of one of these sorts
abbrev pub for_each_sort : List Sort → Identifier → Form → Forms
for_each_sort [] v f = no_forms
for_each_sort (s ∷ sorts) v f = form (exists v s f) (for_each_sort sorts v f)

-- the step of this number for some integer, or for some text of whatever sort
abbrev pub drop_variable : PlanGround → Variable → ℕ → Steps → Steps
drop_variable over (time_variable v) of steps = made over.structure (DropTime of v) (exists v Time (formula_at steps of)) steps
drop_variable over (data_variable v) of steps = made over.structure (DropData of v) (disjunction (for_each_sort over.sorts v (formula_at steps of))) steps

-- the step of this number without these variables, one dropped after the other
abbrev pub drop_each : PlanGround → List Variable → ℕ → Steps → Steps
drop_each over [] of steps = steps
drop_each over (v ∷ vs) of steps = drop_each over vs (suc (length steps)) (drop_variable over v of steps)

-- each variable where it stands first
abbrev pub distinct_variables : List Variable → List Variable
distinct_variables [] = []
distinct_variables (v ∷ vs) = v ∷ filter (λ w. not (same_variable v w)) (distinct_variables vs)

-- the variables of a step, in the order of its columns
abbrev pub columns_at : Steps → ℕ → List Variable
columns_at steps s = distinct_variables (free (formula_at steps s))

-- those of its variables that are not wanted
abbrev pub unwanted : List Variable → Steps → ℕ → List Variable
unwanted wanted steps s = filter (λ v. not (is_among wanted v)) (columns_at steps s)

-- the projection of a step to the wanted variables
abbrev pub project : PlanGround → List Variable → ℕ → Steps → Steps
project over wanted of steps = drop_each over (unwanted wanted steps of) of steps

-- the number of the last of these drops, or of the step itself where there is none to drop
abbrev pub last_drop : List Variable → ℕ → Steps → ℕ
last_drop [] of steps = of
last_drop (v ∷ vs) of steps = length steps

-- the number of the projection
abbrev pub projected : PlanGround → List Variable → ℕ → Steps → ℕ
projected over wanted of steps = last_drop (unwanted wanted steps of) of (project over wanted of steps)
