-- The cap of a step: the cells that a table's set inhabits are those of the step's formula.
use Rattle.std.proofs.Common.{◌≡◌, ◌↔◌, ℕ, List, Some, Contains, sym, subst}
use Rattle.std.specs.Prelude.{MatchOption}
use Rattle.std.specs.List.{AllByRecursion}
use Rattle.lrp_model.specs.Texts.{Text}
use Rattle.lrp_model.specs.Formulas.{Form, Question}
use Rattle.lrp_model.specs.Variables.{Variable, data_variable}
use Rattle.lrp_model.specs.Satisfaction.{Structure, Assignment, Satisfies, structure}
use Rattle.lrp_model.specs.Domains.{constants}
use Rattle.lrp_model.specs.Cells.{FormCell, LiesIn, IsInhabited, Agree, Differ, Many, ManyCells}
use Rattle.lrp_model.specs.Caps.{ManyAt, step_variables}
use Rattle.lrp_model.specs.Steps.{PlanStep, Steps, step_at}
use Rattle.lrp_model.specs.declared.relations.Relation.{Relation}
use Rattle.lrp_tables.specs.Caps.{Inhabits}
use Rattle.lrp_tables.proofs.Mapped.{many_map}
use Rattle.lrp_eval.specs.Running.{HasConstants, SameVariables}
use Rattle.lrp_eval.proofs.Denotes.{Set}
use Rattle.lrp_eval.proofs.Named.{all_of}
use Rattle.lrp_plan_laws.proofs.Members.{all_by}

all_from : {X : Type 0} (p : X → Type 0) (xs ys : List X) → ((x : X) → Contains ys x → Contains xs x) → AllByRecursion p xs → AllByRecursion p ys
all_from p xs ys s h = all_by p ys (λ x c. all_of p xs x h (s x c))

-- ---- cells over names

pub constants_of : (domain : List Text) (K : ℕ) (vs : List Variable) (env : Assignment) (cell : FormCell) → AllByRecursion (LiesIn K domain env cell) vs → HasConstants domain vs env
constants_of domain K vs env cell h v c = let l : LiesIn K domain env cell (data_variable v) = all_of (LiesIn K domain env cell) vs (data_variable v) h c in subst (λ t. Contains domain t) (sym l.1) l.0

cap_is : (domain : List Text) (M : Structure) (vs ws : List Variable) (set : Set) (f : Form) (K cap : ℕ) → SameVariables vs ws → ((env : Assignment) → HasConstants domain vs env → set env ↔ Satisfies f M env)
    → Many (Differ vs) (Inhabits domain K vs set) cap ↔ ManyCells M K domain ws f cap
cap_is domain M vs ws set f K cap s means = (
  many_map (λ c. c) (Differ vs) (Differ ws) (Inhabits domain K vs set) (IsInhabited M K domain ws f)
      (λ c h. record { witness = h.witness; inside = all_from (LiesIn K domain h.witness c) vs ws (λ v. (s v).1) h.inside; satisfies = (means h.witness (constants_of domain K vs h.witness c h.inside)).0 h.member })
      (λ a b h k d agree. d (all_from (Agree a b) ws vs (λ v. (s v).0) agree)) cap,
  many_map (λ c. c) (Differ ws) (Differ vs) (IsInhabited M K domain ws f) (Inhabits domain K vs set)
      (λ c h.
      let i : AllByRecursion (LiesIn K domain h.witness c) vs = all_from (LiesIn K domain h.witness c) ws vs (λ v. (s v).0) h.inside in
      record { witness = h.witness; inside = i; member = (means h.witness (constants_of domain K vs h.witness c i)).1 h.satisfies })
      (λ a b h k d agree. d (all_from (Agree a b) vs ws (λ v. (s v).1) agree)) cap,
)

-- a set inhabits more than cap cells exactly where the step has more
pub many_at : (planned : Steps) (db : List Relation) (q : Question) (vs : List Variable) (set : Set) (step : PlanStep) (s cap : ℕ) → step_at planned s ≡ Some step → SameVariables vs (step_variables q.head step)
    → ((env : Assignment) → HasConstants (constants db q) vs env → set env ↔ Satisfies step.formula (structure db q) env)
    → Many (Differ vs) (Inhabits (constants db q) step.period vs set) cap ↔ ManyAt planned db q cap s
many_at planned db q vs set step s cap e same means =
    subst (λ o. Many (Differ vs) (Inhabits (constants db q) step.period vs set) cap ↔ MatchOption o ⊥ (λ t. ManyCells (structure db q) t.period (constants db q) (step_variables q.head t) t.formula cap)) (sym e)
    (cap_is (constants db q) (structure db q) vs (step_variables q.head step) set step.formula step.period cap same means)
