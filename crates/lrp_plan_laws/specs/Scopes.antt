-- The variables that occur together in one part of a formula.
use Rattle.std.specs.Prelude.{◌≤◌, List, ◌∷◌, length, flat_map, Contains}
use Rattle.std.specs.List.{AllByRecursion}
use Rattle.lrp_model.specs.Texts.{Identifier, AreDistinct}
use Rattle.lrp_model.specs.Formulas.{Form, Forms, Question, atom, test, sorted, negation, conjunction, disjunction, implication, exists, forall, no_forms, form}
use Rattle.lrp_model.specs.Variables.{Variable, time_variable, data_variable, bound_by, free}
use Rattle.lrp_model.specs.Steps.{PlanStep, Steps, formula_at}
use Rattle.lrp_model.specs.Caps.{step_variables}
use Rattle.lrp_plan_laws.specs.Made.{operands}

-- at most 8 different names are such: this depends on the set alone, so it holds of each part of it too
abbrev pub AtMostEight : (Identifier → Type 0) → Type 0
AtMostEight is = (names : List Identifier) → AreDistinct names → AllByRecursion is names → length names ≤ 8

-- at most 8 variables for integers and at most 8 for texts, and none of one name
pub record IsNarrow (vs : List Variable) : Type 0 where
  pub times : AtMostEight (λ n. Contains vs (time_variable n))
  pub texts : AtMostEight (λ n. Contains vs (data_variable n))
  pub kinds : (n : Identifier) → Contains vs (time_variable n) → Contains vs (data_variable n) → ⊥

-- what holds of the free variables of a formula and of each formula in it, where a quantifier's formula counts the quantifier's variable as free
abbrev mutual
  pub EachScope : (List Variable → Type 0) → Form → Type 0
  EachScope fits (atom name terms) = fits (free (atom name terms))
  EachScope fits (test t) = fits (free (test t))
  EachScope fits (sorted s v) = fits (free (sorted s v))
  EachScope fits (negation f) = EachScope fits f
  EachScope fits (conjunction fs) = fits (free (conjunction fs)) × EachOfScope fits fs
  EachScope fits (disjunction fs) = fits (free (disjunction fs)) × EachOfScope fits fs
  EachScope fits (implication f g) = fits (free (implication f g)) × (EachScope fits f × EachScope fits g)
  EachScope fits (exists v s f) = fits (bound_by s v ∷ free f) × EachScope fits f
  EachScope fits (forall v s f) = fits (bound_by s v ∷ free f) × EachScope fits f

  pub EachOfScope : (List Variable → Type 0) → Forms → Type 0
  EachOfScope fits no_forms = Unit {0}
  EachOfScope fits (form f fs) = EachScope fits f × EachOfScope fits fs

-- the variables of the steps that a step reads
abbrev pub read_variables : Steps → PlanStep → List Variable
read_variables steps step = flat_map (λ l. free (formula_at steps l)) (operands step.kind)

-- the variables of a step, and those of the steps that it reads together
pub record IsNarrowStep (steps : Steps) (q : Question) (step : PlanStep) : Type 0 where
  pub own : IsNarrow (step_variables q.head step)
  pub read : IsNarrow (read_variables steps step)
