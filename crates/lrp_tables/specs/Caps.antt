-- How many cells a set of assignments inhabits.
use Rattle.std.specs.Prelude.{ℕ, List}
use Rattle.std.specs.List.{AllByRecursion}
use Rattle.lrp_model.specs.Texts.{Text, Identifier}
use Rattle.lrp_model.specs.Satisfaction.{Assignment}
use Rattle.lrp_model.specs.Variables.{Variable}
use Rattle.lrp_model.specs.Cells.{FormCell, LiesIn, Differ, Many}
use Rattle.lrp_tables.specs.Tables.{named_variables}

-- some assignment of the set lies in the cell: it gives each of the variables the cell's residue modulo the period, or its text, which is one of the domain
pub record Inhabits (domain : List Text) (period : ℕ) (variables : List Variable) (set : Assignment → Type 0) (cell : FormCell) : Type 0 where
  pub witness : Assignment
  pub inside : AllByRecursion (LiesIn period domain witness cell) variables
  pub member : set witness

-- the set inhabits more than cap cells of this period over these variables
abbrev pub InhabitsMoreThan : ℕ → List Text → ℕ → List Identifier → List Identifier → (Assignment → Type 0) → Type 0
InhabitsMoreThan cap domain period times texts set = Many (Differ (named_variables times texts)) (Inhabits domain period (named_variables times texts) set) cap
