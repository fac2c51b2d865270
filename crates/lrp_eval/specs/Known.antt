-- Tables of a plan's steps that are known before it is run.
use Rattle.std.specs.Prelude.{◌≡◌, ◌<◌, ◌≤◌, ◌+◌, ℕ, suc, List, length}
use Rattle.std.specs.List.{AllByRecursion}
use Rattle.lrp_model.specs.Formulas.{Question}
use Rattle.lrp_model.specs.Caps.{ManyAt}
use Rattle.lrp_model.specs.Steps.{Steps}
use Rattle.lrp_model.specs.declared.relations.Relation.{Relation}
use Rattle.lrp_model.specs.declared.plans.Plan.{Plan}
use Rattle.lrp_tables.specs.declared.table.Table.{Table}
use Rattle.lrp_eval.specs.Planned.{IsPlanOf}
use Rattle.lrp_eval.specs.Running.{AreRun, IsStepTable}
use Rattle.lrp_eval.specs.Together.{AreRunTogether}
use Rattle.lrp_eval.specs.declared.following.Together.{Together}
use Rattle.lrp_eval.specs.declared.known.PartTable.{PartTable}
use Rattle.lrp_eval.specs.declared.known.PlanPart.{PlanPart}

-- the table is that of the part's last step, and no step of the part has more than cap cells
pub record IsKnownPart (planned : Steps) (db : List Relation) (q : Question) (cap : ℕ) (known : PartTable) : Type 0 where
  pub run : IsStepTable planned db q cap known.part.until known.table
  pub few : (s : ℕ) → known.part.before < s → s ≤ known.part.until → ManyAt planned db q cap s → ⊥

-- each of the tables is
abbrev pub AreKnownParts : Steps → List Relation → Question → ℕ → List PartTable → Type 0
AreKnownParts planned db q cap = AllByRecursion (IsKnownPart planned db q cap)

-- in each query that has the plan
abbrev pub IsKnownPartOver : List Relation → Plan → ℕ → PartTable → Type 0
IsKnownPartOver db p cap known = (planned : Steps) (q : Question) → IsPlanOf planned db q p → IsKnownPart planned db q cap known

abbrev pub AreKnownOver : List Relation → Plan → ℕ → List PartTable → Type 0
AreKnownOver db p cap known = (planned : Steps) (q : Question) → IsPlanOf planned db q p → AreKnownParts planned db q cap known

-- after this number of tables a part comes whose table is known, in each query that has the plan
abbrev pub IsKnownNext : List Relation → Plan → ℕ → List ℕ → ℕ → Together → Type 0
IsKnownNext db p cap readers count made = (planned : Steps) (q : Question) → IsPlanOf planned db q p → (tables : List Table) → length tables ≡ count → AreRunTogether planned db q cap readers tables made.between made.table

-- the tables of parts that are known, with those of more parts, are known where these are the tables of the plan's first steps
abbrev pub AreKnownThen : List Table → List PartTable → List PartTable → Type 0
AreKnownThen tables old new = (planned : Steps) (db : List Relation) (q : Question) (cap : ℕ) → AreRun planned db q cap tables → AreKnownParts planned db q cap old → AreKnownParts planned db q cap new

-- so they are with the table of this part, where it is known
abbrev pub AreKnownWith : PlanPart → Table → List PartTable → List PartTable → Type 0
AreKnownWith part table old new = (planned : Steps) (db : List Relation) (q : Question) (cap : ℕ) → IsKnownPart planned db q cap (record { part = part; table = table }) → AreKnownParts planned db q cap old → AreKnownParts planned db q cap new
