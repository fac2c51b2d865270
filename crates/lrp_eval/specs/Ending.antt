-- Plans whose last steps are run in parts.
use Rattle.std.specs.Prelude.{◌≡◌, ◌≢◌, ◌↔◌, ◌+◌, ℕ, ℤ, pos, List, [], ◌∷◌, length, Contains}
use Rattle.lrp_model.specs.DataTexts.{IsDomain}
use Rattle.lrp_model.specs.Texts.{Ascends, Text}
use Rattle.lrp_model.specs.Formulas.{Question}
use Rattle.lrp_model.specs.Caps.{ManyAt}
use Rattle.lrp_model.specs.Plans.{query_reach}
use Rattle.lrp_model.specs.Sorts.{time_count}
use Rattle.lrp_model.specs.Domains.{constants}
use Rattle.lrp_model.specs.Satisfaction.{Assignment, Satisfies, structure}
use Rattle.lrp_model.specs.Steps.{Steps, formula_at}
use Rattle.lrp_model.specs.declared.plans.Plan.{Plan}
use Rattle.lrp_model.specs.declared.relations.Column.{Column}
use Rattle.lrp_model.specs.declared.relations.Relation.{Relation}
use Rattle.lrp_store.specs.Stores.{HasReach, IsStore, StoreView}
use Rattle.lrp_store.specs.Tables.{AreNumbered}
use Rattle.lrp_tables.specs.declared.table.Table.{Table}
use Rattle.lrp_tables.specs.Columns.{head_times, head_texts}
use Rattle.lrp_tables.specs.Tables.{HasAssignment, named_variables}
use Rattle.lrp_plan_laws.specs.Rising.{period_at}
use Rattle.lrp_periods.specs.Operations.{CanExtendInParts}
use Rattle.lrp_periods.specs.Parts.{AreParts, ArePartsOf, HasSome, IsPeriodPart, part_texts, part_times}
use Rattle.lrp_periods.specs.Sets.{IsExtensionOf}
use Rattle.lrp_periods.specs.Nearest.{HasNoFarther}
use Rattle.lrp_answers.specs.declared.answer.Answer.{Answer}
use Rattle.lrp_eval.specs.Grouped.{HaveFew}
use Rattle.lrp_eval.specs.Planned.{HasAnswers, IsPlanOf}
use Rattle.lrp_eval.specs.Running.{AreRun, AreRunBySome, HasConstants}
use Rattle.lrp_eval.specs.declared.endings.Asked.{Asked}
use Rattle.lrp_eval.specs.declared.endings.Ending.{Ending}
use Rattle.lrp_eval.specs.declared.endings.Ending.TheVariants.{Whole, Parts, Nearest}
use Rattle.lrp_eval.specs.declared.endings.Wanted.{Wanted}
use Rattle.lrp_eval.specs.declared.endings.Wanted.TheVariants.{Table as WantedTable, First}
use Rattle.lrp_eval.specs.declared.groups.Group.{Group}

-- the parts together have just the assignments that satisfy the last step's formula, over the head's columns in order; no bound is above the last reach, and no step has more than cap cells
pub record AreLastParts (planned : Steps) (db : List Relation) (q : Question) (cap : ℕ) (parts : List Table) : Type 0 where
  pub parts_are : AreParts (constants db q) (pos (period_at planned (length planned))) parts
  pub times : part_times parts ≡ head_times q.head
  pub texts : part_texts parts ≡ head_texts q.head
  pub means : (env : Assignment) → HasConstants (constants db q) (named_variables (head_times q.head) (head_texts q.head)) env → HasSome (constants db q) parts env ↔ Satisfies (formula_at planned (length planned)) (structure db q) env
  pub reach : (part : Table) → Contains parts part → HasReach part.store (query_reach planned)
  pub few : (s : ℕ) → ManyAt planned db q cap s → ⊥

-- the head is one time column; each assignment of the part satisfies the last step's formula, and where one satisfies it, the part has a number no farther; no bound is above the last reach, and no step has more than cap cells
pub record IsLastNearest (planned : Steps) (db : List Relation) (q : Question) (cap : ℕ) (table : Table) : Type 0 where
  pub part : IsPeriodPart (constants db q) (head_times q.head) (head_texts q.head) (pos (period_at planned (length planned))) table
  pub line : length (head_times q.head) ≡ 1
  pub texts : head_texts q.head ≡ []
  pub sound : (env : Assignment) → HasAssignment table (constants db q) env → Satisfies (formula_at planned (length planned)) (structure db q) env
  pub near : (env : Assignment) → Satisfies (formula_at planned (length planned)) (structure db q) env → HasNoFarther (head_times q.head) table.store env
  pub reach : HasReach table.store (query_reach planned)
  pub few : (s : ℕ) → ManyAt planned db q cap s → ⊥

-- a valid table that has the answers, such parts, or such a part
abbrev pub IsEnding : Steps → List Relation → Question → ℕ → Ending → Type 0
IsEnding planned db q cap (Whole table) = IsStore table.store × HasAnswers planned db q cap table
IsEnding planned db q cap (Parts parts) = AreLastParts planned db q cap parts
IsEnding planned db q cap (Nearest table) = IsLastNearest planned db q cap table

-- what serves where this is wanted
abbrev pub IsWanted : Wanted → Ending → Type 0
IsWanted wanted (Whole table) = Unit {0}
IsWanted wanted (Parts parts) = wanted ≢ WantedTable
IsWanted wanted (Nearest table) = wanted ≡ First

-- in each query that has the plan, whose first steps have these tables, the parts are such
abbrev pub IsPlanEnded : List Relation → Plan → ℕ → List Table → List Table → Type 0
IsPlanEnded db p cap tables parts = (planned : Steps) (q : Question) → IsPlanOf planned db q p → AreRun planned db q cap tables → AreLastParts planned db q cap parts

-- the part is such
abbrev pub IsEndedNearest : List Relation → Plan → ℕ → List Table → Table → Type 0
IsEndedNearest db p cap tables part = (planned : Steps) (q : Question) → IsPlanOf planned db q p → AreRun planned db q cap tables → IsLastNearest planned db q cap part

-- the plan ends so
abbrev pub IsEndedEarly : List Relation → Plan → ℕ → List Table → Ending → Type 0
IsEndedEarly db p cap tables ending = (planned : Steps) (q : Question) → IsPlanOf planned db q p → AreRun planned db q cap tables → IsEnding planned db q cap ending

-- these are the tables of the first steps of the plan, whose domain this is
pub record CanEndEarly (cap : ℕ) (domain : List Text) (asked : Asked) (tables : List Table) : Type 0 where
  pub domain_is : domain ≡ asked.plan.now.domain
  pub run : AreRunBySome asked.database.now asked.plan.now cap tables

-- of a group
abbrev pub IsNearestHeld : ℕ → Group → Table → Type 0
IsNearestHeld cap g part = IsEndedNearest g.database.now g.plan.now cap g.tables.now part

abbrev pub AreLastHeld : ℕ → Group → List Table → Type 0
AreLastHeld cap g parts = IsPlanEnded g.database.now g.plan.now cap g.tables.now parts

-- ---- parts over the head's columns

-- a domain in order, and parts of a small period whose variables are the head's
pub record CanStandOver (domain : List Text) (period : ℤ) (columns : List Column) (parts : List Table) : Type 0 where
  pub ascends : Ascends domain
  pub extend : CanExtendInParts domain period parts columns

-- over the head's columns, in order, parts of the assignments that the old ones have, whose further columns are free; they inhabit no more than cap cells
pub record AreOverHead (cap : ℕ) (domain : List Text) (period : ℤ) (columns : List Column) (old new : List Table) : Type 0 where
  pub parts_are : ArePartsOf domain (head_times columns) (head_texts columns) period (IsExtensionOf domain (head_texts columns) (HasSome domain old)) new
  pub few : HaveFew cap domain period new

-- ---- tables as answers

-- a query has the plan, and its answers are those of the table
pub record HasAnswersOfSome (p : Plan) (table : Table) : Type 0 where
  pub planned : Steps
  pub database : List Relation
  pub query : Question
  pub cap : ℕ
  pub is : IsPlanOf planned database query p
  pub answers : HasAnswers planned database query cap table

-- a query has the plan, which ends so
pub record IsEndingOfSome (p : Plan) (ending : Ending) : Type 0 where
  pub planned : Steps
  pub database : List Relation
  pub query : Question
  pub cap : ℕ
  pub is : IsPlanOf planned database query p
  pub ends : IsEnding planned database query cap ending

-- a store over the columns of the plan's head, whose numbers of texts are of its domain
pub record CanStandUnder (p : Plan) (store : StoreView) : Type 0 where
  pub valid : IsStore store
  pub times : time_count p.head.columns ≡ store.shape.times
  pub columns : length p.head.columns ≡ store.shape.times + store.shape.texts
  pub numbered : AreNumbered p.domain store

-- an answer with the plan's head and domain, and this store
pub record IsAnswerUnder (p : Plan) (store : StoreView) (a : Answer) : Type 0 where
  pub head : a.head ≡ p.head
  pub domain : a.domain ≡ p.domain
  pub store_is : a.store ≡ store
  pub valid : IsStore a.store
  pub known : IsDomain a.domain

-- one such answer
pub record IsOneUnder (p : Plan) (store : StoreView) (parts : List Answer) : Type 0 where
  pub answer : Answer
  pub alone : parts ≡ answer ∷ []
  pub under : IsAnswerUnder p store answer
