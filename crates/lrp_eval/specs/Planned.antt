-- Which plans are run.
use Rattle.std.specs.Prelude.{◌≡◌, ◌↔◌, length, ℕ, ◌≤◌, ◌^◌, ◌≤ℤ◌, pos, List}
use Rattle.std.specs.FinMap as finite
use Rattle.std.specs.List.{AllByRecursion}
use Rattle.lrp_model.specs.Formulas.{Question}
use Rattle.lrp_model.specs.Caps.{IsFirstMany, ManyAt}
use Rattle.lrp_model.specs.Periods.{period}
use Rattle.lrp_model.specs.Plans.{query_reach, scaled_reach, IsPlan}
use Rattle.lrp_model.specs.Steps.{Steps}
use Rattle.lrp_model.specs.Rows.{Datum}
use Rattle.lrp_model.specs.Domains.{constants}
use Rattle.lrp_model.specs.Satisfaction.{IsAnswer}
use Rattle.lrp_model.specs.TestPoints.{points}
use Rattle.lrp_model.specs.declared.plans.Plan.{Plan}
use Rattle.lrp_model.specs.declared.relations.Relation.{Relation}
use Rattle.lrp_store.specs.Stores.{HasReach}
use Rattle.lrp_store.specs.Tables.{AreNumbered, InAnswer}
use Rattle.lrp_tables.specs.declared.table.Table.{Table}
use Rattle.lrp_tables.specs.Columns.{head_times, head_texts}
use Rattle.lrp_plan_laws.specs.Rising.{period_at}
use Rattle.lrp_plan_laws.specs.Settled.{IsSettled, IsSoundPlan}
use Rattle.lrp_eval.specs.Counts.{HasCells}
use Rattle.lrp_eval.specs.declared.evaluation.EvalFault.{EvalFault}
use Rattle.lrp_eval.specs.declared.evaluation.EvalFault.TheVariants.{TooManyCells, Memory}

-- a sound plan, with these steps, of a settled query whose points have periods of at least 1; neither the query's period nor the plan's reach, doubled for the answers, is above 2^62
pub record IsPlanOf (planned : Steps) (db : List Relation) (q : Question) (p : Plan) : Type 0 where
  pub settled : IsSettled db q
  pub sound : IsSoundPlan planned db q
  pub points : AllByRecursion (λ at. pos 1 ≤ℤ at.period) (points q.body)
  pub is : IsPlan p planned db q
  pub period : period db q.body ≤ 2 ^ 62
  pub reach : scaled_reach planned q ≤ 2 ^ 62

-- a sound plan of some query
pub record IsSomePlan (db : List Relation) (p : Plan) : Type 0 where
  pub planned : Steps
  pub query : Question
  pub is : IsPlanOf planned db query p

-- the first step with too many cells, in each query that has the plan with whatever steps; or no memory
abbrev pub IsEvalCause : List Relation → Plan → ℕ → EvalFault → Type 0
IsEvalCause db p cap (TooManyCells step) = (planned : Steps) (q : Question) → IsPlanOf planned db q p → IsFirstMany planned db q cap step
IsEvalCause db p cap Memory = Unit {0}

-- the table has just the answers of the query, in the columns of its head; it has the period and the number of cells of the last step and no more than its reach, and no step has more than cap cells
pub record HasAnswers (planned : Steps) (db : List Relation) (q : Question) (cap : ℕ) (table : Table) : Type 0 where
  pub times : table.vars.times ≡ head_times q.head
  pub texts : table.vars.texts ≡ head_texts q.head
  pub answers : (tuple : List Datum) → InAnswer q.head (constants db q) table.store tuple ↔ IsAnswer db q tuple
  pub numbered : AreNumbered (constants db q) table.store
  pub period : table.store.period ≡ period_at planned (length planned)
  pub reach : HasReach table.store (query_reach planned)
  pub cells : HasCells planned db q (length planned) (finite.len table.store.tables)
  pub few : (s : ℕ) → ManyAt planned db q cap s → ⊥
