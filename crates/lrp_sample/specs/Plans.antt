-- The plan of the sample: its steps, and how much they need.
use Rattle.std.specs.Prelude.{ℕ, ◌≤◌, pos, List, [], ◌∷◌, map, codes}
use Rattle.lrp_model.specs.Texts.{Identifier}
use Rattle.lrp_model.specs.Periods.{period}
use Rattle.lrp_model.specs.Steps.{Steps}
use Rattle.lrp_model.specs.Plans.{plan, scaled_reach, IsWithinLimits}
use Rattle.lrp_model.specs.Caps.{ManyAt}
use Rattle.lrp_model.specs.Order.{InWindow}
use Rattle.lrp_model.specs.Rows.{Tuple}
use Rattle.lrp_model.specs.Satisfaction.{IsAnswer}
use Rattle.lrp_model.specs.declared.formulas.Op.TheVariants.{Le}
use Rattle.lrp_model.specs.declared.formulas.DataTerm.TheVariants.{Var as data_var}
use Rattle.lrp_model.specs.declared.formulas.Term.TheVariants.{Time as time_term, Data as data_term}
use Rattle.lrp_model.specs.declared.formulas.Test.TheVariants.{Compare}
use Rattle.lrp_model.specs.declared.plans.StepKind.{StepKind}
use Rattle.lrp_model.specs.declared.plans.StepKind.TheVariants.{Scan, Leaf, Join, Minus, DropTime, DropData, Extend}
use Rattle.lrp_sample.specs.Trees.{time, sample_relations, sample_question}

-- how many trips a sample has
pub record IsSampleSize (size : ℕ) : Type 0 where
  pub some : 1 ≤ size
  pub most : size ≤ 500

-- the steps of its plan
abbrev pub sample_steps : ℕ → ℕ → Steps
sample_steps seed size = plan (sample_relations seed size) sample_question

-- and their kinds
abbrev pub planned_kinds : ℕ → ℕ → List StepKind
planned_kinds seed size = map (λ step. step.kind) (sample_steps seed size)

-- trip(D, A, L)
abbrev scan : Identifier → Identifier → Identifier → StepKind
scan d a l = Scan (codes "trip") (time_term (time d 0) ∷ time_term (time a 0) ∷ data_term (data_var l) ∷ [])

-- the trips, less those that arrive at most 15 minutes before some trip leaves
abbrev pub sample_kinds : List StepKind
sample_kinds =
    scan (codes "t") (codes "u") (codes "l")
    ∷ scan (codes "v") (codes "w") (codes "k")
    ∷ Leaf (Compare (time (codes "u") 0) Le (time (codes "v") 0))
    ∷ Join 2 3 (Compare (time (codes "v") 0) Le (time (codes "u") 15) ∷ [])
    ∷ DropData 4 (codes "k")
    ∷ DropTime 5 (codes "w")
    ∷ DropTime 6 (codes "v")
    ∷ Minus 1 7
    ∷ DropTime 8 (codes "u")
    ∷ Extend 9 ∷ []

-- its period
abbrev pub sample_period : ℕ → ℕ → ℕ
sample_period seed size = period (sample_relations seed size) sample_question.body

-- its reach, doubled once and once more for the one time column of the head
abbrev pub sample_reach : ℕ → ℕ → ℕ
sample_reach seed size = scaled_reach (sample_steps seed size) sample_question

-- neither is above the limit
abbrev pub IsSampleWithinLimits : ℕ → ℕ → Type 0
IsSampleWithinLimits seed size = IsWithinLimits (sample_steps seed size) (sample_relations seed size) sample_question

-- no step of the plan has more inhabited cells than the cap
abbrev pub HasAtMostCells : ℕ → ℕ → ℕ → Type 0
HasAtMostCells seed size cap = (s : ℕ) → ManyAt (sample_steps seed size) (sample_relations seed size) sample_question cap s → ⊥

-- an answer of the sample within the minutes 0 to 1439
pub record IsOfFirstDay (seed size : ℕ) (tuple : Tuple) : Type 0 where
  pub is : IsAnswer (sample_relations seed size) sample_question tuple
  pub inside : InWindow (pos 0) (pos 1439) tuple
