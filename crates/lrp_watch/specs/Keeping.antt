-- Which tables of a plan's parts are kept from edit to edit.
use Rattle.std.specs.Prelude.{◌≡◌, ◌≢◌, ◌⊎◌, ◌<◌, ◌≤◌, ℕ, List, ◌++◌, length, Contains, Option, Some, None, slice_get}
use Rattle.std.specs.List.{AllByRecursion}
use Rattle.lrp_model.specs.Rows.{rows_of}
use Rattle.lrp_model.specs.Texts.{Identifier}
use Rattle.lrp_model.specs.declared.plans.Plan.{Plan}
use Rattle.lrp_model.specs.declared.plans.Step.{Step}
use Rattle.lrp_model.specs.declared.plans.StepKind.{StepKind}
use Rattle.lrp_model.specs.declared.plans.StepKind.TheVariants.{Scan}
use Rattle.lrp_model.specs.declared.formulas.Term.{Term}
use Rattle.lrp_model.specs.declared.relations.Relation.{Relation}
use Rattle.lrp_edits.specs.declared.edits.Edit.{Edit}
use Rattle.lrp_eval.specs.Known.{AreKnownOver}
use Rattle.lrp_eval.specs.Planned.{IsSomePlan}
use Rattle.lrp_eval.specs.declared.known.PartTable.{PartTable}
use Rattle.lrp_eval.specs.declared.known.PlanPart.{PlanPart}
use Rattle.lrp_plan_laws.specs.Made.{operands}
use Rattle.lrp_watch.specs.declared.keeping.Kept.{Kept}

-- ---- parts that can be kept

-- the step is not a scan of this relation
abbrev pub IsNoScanOf : Identifier → StepKind → Type 0
IsNoScanOf name kind = (terms : List Term) → kind ≡ Scan name terms → ⊥

-- the number stands for no step, or for one after the first `before`
abbrev pub IsOtherThan : ℕ → ℕ → Type 0
IsOtherThan number before = (number ≡ 0) ⊎ (before < number)

-- the step reads only steps after the first `before`, and no row of this relation
pub record IsAloneStep (name : Identifier) (before : ℕ) (kind : StepKind) : Type 0 where
  pub scans : IsNoScanOf name kind
  pub reads : (l : ℕ) → Contains (operands kind) l → IsOtherThan l before

-- each step of the part does
abbrev pub AreAloneSteps : Identifier → PlanPart → List Step → Type 0
AreAloneSteps name part steps = (i : ℕ) (step : Step) → part.before ≤ i → i < part.until → slice_get steps i ≡ Some step → IsAloneStep name part.before step.kind

-- the part has some steps, of which none is the last one of the plan, and they are the same ones in another plan
pub record AreSameSteps (part : PlanPart) (old new : List Step) : Type 0 where
  pub some : part.before < part.until
  pub inside : part.until < length old
  pub same : (i : ℕ) → part.before ≤ i → i < part.until → slice_get new i ≡ slice_get old i

-- a table was kept, and its part is the same in both plans and reads no row of the edited relation
pub record IsStillKept (tables : List PartTable) (edited : Identifier) (old new : List Step) (table : PartTable) : Type 0 where
  pub held : Contains tables table
  pub same : AreSameSteps table.part old new
  pub alone : AreAloneSteps edited table.part new

-- tables that are still kept are so with another one, if it was kept
abbrev pub AreStillKeptWith : Identifier → List Step → List Step → PartTable → List PartTable → List PartTable → Type 0
AreStillKeptWith edited old new table before after = (tables : List PartTable) → Contains tables table → AllByRecursion (IsStillKept tables edited old new) before → AllByRecursion (IsStillKept tables edited old new) after

-- ---- what is kept

-- all other relations have the same rows
abbrev pub IsChangedAt : Identifier → List Relation → List Relation → Type 0
IsChangedAt name old new = (other : Identifier) → other ≢ name → rows_of new other ≡ rows_of old other

-- the tables are known for a plan over the relations
pub record HasKnownTables (cap : ℕ) (db : List Relation) (k : Kept) : Type 0 where
  pub plan : IsSomePlan db k.plan
  pub known : AreKnownOver db k.plan cap k.tables

-- over relations of which the one that is told was then edited to these
pub record IsKeptAs (cap : ℕ) (db : List Relation) (k : Kept) : Type 0 where
  pub old : List Relation
  pub known : HasKnownTables cap old k
  pub changed : IsChangedAt k.edited old db

-- if anything is kept
abbrev pub IsKeptBefore : ℕ → List Relation → Option Kept → Type 0
IsKeptBefore cap db None = Unit {0}
IsKeptBefore cap db (Some k) = IsKeptAs cap db k

-- for an edit that is made next
abbrev pub IsKeptOver : ℕ → List Relation → Option Edit → Option Kept → Type 0
IsKeptOver cap db next None = Unit {0}
IsKeptOver cap db next (Some k) = HasKnownTables cap db k × ((e : Edit) × (next ≡ Some e) × (k.edited ≡ e.relation))

-- the plan is kept with the tables that were known and those that were made
abbrev pub IsKeptFor : Plan → List PartTable → List PartTable → Option Edit → Option Kept → Type 0
IsKeptFor plan known made next None = Unit {0}
IsKeptFor plan known made next (Some k) = (k.plan ≡ plan) × (k.tables ≡ known ++ made) × ((e : Edit) × (next ≡ Some e) × (k.edited ≡ e.relation))
