-- What a step of a plan is made of: the steps that it reads, its formula, the variables that it relies on, its period and its reach.
use Rattle.std.specs.Prelude.{◌≡◌, ◌≢◌, ◌↔◌, ℕ, ◌-◌, ◌<◌, List, [], ◌∷◌, ◌++◌, length, Contains}
use Rattle.std.specs.List.{AllByRecursion}
use Rattle.lrp_model.specs.Texts.{Identifier}
use Rattle.lrp_model.specs.Formulas.{Form, Question, atom, test, sorted, negation, conjunction, disjunction, exists, no_forms, form}
use Rattle.lrp_model.specs.Variables.{Variable, data_variable, variables_of_test, free}
use Rattle.lrp_model.specs.Satisfaction.{Structure}
use Rattle.lrp_model.specs.Periods.{period}
use Rattle.lrp_model.specs.Reach.{step_reach}
use Rattle.lrp_model.specs.Steps.{PlanStep, Steps, formula_at, reach_at, tests_as_forms}
use Rattle.lrp_model.specs.declared.relations.Sort.{Sort}
use Rattle.lrp_model.specs.declared.relations.Sort.TheVariants.{Time, Data, Named}
use Rattle.lrp_model.specs.Core.{guarded, has_named_sort}
use Rattle.lrp_model.specs.declared.relations.Relation.{Relation}
use Rattle.lrp_model.specs.declared.plans.StepKind.{StepKind}
use Rattle.lrp_model.specs.declared.plans.StepKind.TheVariants.{Scan, Leaf, Sort as SortStep, Join, Select, Union, Minus, Complement, DropTime, DropData, Extend}

-- the number of a step before step s
abbrev pub IsEarlier : ℕ → ℕ → Type 0
IsEarlier s l = (0 < l) × (l < s)

-- the steps that a step reads
abbrev pub operands : StepKind → List ℕ
operands (Scan name terms) = []
operands (Leaf t) = []
operands (SortStep v s texts) = []
operands (Join left right tests) = left ∷ right ∷ []
operands (Select of t) = of ∷ []
operands (Union left right) = left ∷ right ∷ []
operands (Minus left right) = left ∷ right ∷ []
operands (Complement of) = of ∷ []
operands (DropTime of v) = of ∷ []
operands (DropData of v) = of ∷ []
operands (Extend of) = of ∷ []

-- a sort of texts
abbrev pub IsDataSort : Sort → Type 0
IsDataSort Time = ⊥
IsDataSort Data = Unit {0}
IsDataSort (Named name) = Unit {0}

-- the step that the step `head` reads, and the formula of `head`
pub record HeadStep : Type 0 where
  pub of : ℕ
  pub formula : Form

-- the second list has the variables of the first, but for this one of texts
abbrev pub AreWithout : Identifier → List Variable → List Variable → Type 0
AreWithout v vs ws = (w : Variable) → Contains ws w ↔ (Contains vs w × (w ≢ data_variable v))

-- the formula of a step is what its kind makes of the formulas of the steps that it reads; that of `head` is given, a sort step has the texts of its sort, and of a drop of texts it is said apart what it says
abbrev pub IsStepFormula : Structure → HeadStep → (ℕ → Form) → StepKind → Form → Type 0
IsStepFormula M head at (Scan name terms) f = f ≡ atom name terms
IsStepFormula M head at (Leaf t) f = f ≡ test t
IsStepFormula M head at (SortStep v s texts) f = (f ≡ sorted s v) × (texts ≡ M.domain s)
IsStepFormula M head at (Join left right tests) f = f ≡ conjunction (form (at left) (form (at right) (tests_as_forms tests)))
IsStepFormula M head at (Select of t) f = f ≡ conjunction (form (at of) (form (test t) no_forms))
IsStepFormula M head at (Union left right) f = f ≡ disjunction (form (at left) (form (at right) no_forms))
IsStepFormula M head at (Minus left right) f = f ≡ conjunction (form (at left) (form (negation (at right)) no_forms))
IsStepFormula M head at (Complement of) f = f ≡ negation (at of)
IsStepFormula M head at (DropTime of v) f = f ≡ exists v Time (at of)
IsStepFormula M head at (DropData of v) f = AreWithout v (free (at of)) (free f)
IsStepFormula M head at (Extend of) f = (of ≡ head.of) × (f ≡ head.formula)

-- each variable of the first list is one of the second
abbrev pub AreAmong : List Variable → List Variable → Type 0
AreAmong vs ws = (v : Variable) → Contains vs v → Contains ws v

-- the variables that a step relies on: those of its tests, and at a `minus` those that are taken off, are among the variables of the steps that it reads
abbrev pub HasVariables : (ℕ → Form) → StepKind → Type 0
HasVariables at (Join left right tests) = AllByRecursion (λ t. AreAmong (variables_of_test t) (free (at left) ++ free (at right))) tests
HasVariables at (Select of t) = AreAmong (variables_of_test t) (free (at of))
HasVariables at (Minus left right) = AreAmong (free (at right)) (free (at left))
HasVariables at kind = Unit {0}

-- step s of these steps is made of earlier ones, and has the period of its formula and the reach of its kind
pub record IsMade (M : Structure) (head : HeadStep) (steps : Steps) (s : ℕ) (step : PlanStep) : Type 0 where
  pub earlier : AllByRecursion (IsEarlier s) (operands step.kind)
  pub formula : IsStepFormula M head (formula_at steps) step.kind step.formula
  pub variables : HasVariables (formula_at steps) step.kind
  pub period : step.period ≡ period M.relations step.formula
  pub reach : step.reach ≡ step_reach M.relations (reach_at steps) step.period step.kind

-- the step `head` of a query reads the step before it; its formula is the body, with the head's sort elements where sorts are named
abbrev pub head_step : Steps → List Relation → Question → HeadStep
head_step steps db q = record { of = length steps - 1; formula = guarded (has_named_sort db) q.head q.body }
