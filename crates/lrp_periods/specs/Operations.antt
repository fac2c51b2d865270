-- What the operations on tables in parts ask of what they are given.
use Rattle.std.specs.Prelude.{◌≡◌, ◌+◌, ◌≤◌, ◌^◌, ℕ, ℤ, nat_abs, List, Contains, Result, Err, IfOk, OnOk}
use Rattle.std.specs.List.{AllByRecursion}
use Rattle.lrp_model.specs.Reach.{test_reach}
use Rattle.lrp_model.specs.Texts.{Ascends, Text}
use Rattle.lrp_model.specs.declared.formulas.Term.{Term}
use Rattle.lrp_model.specs.declared.formulas.Test.{Test}
use Rattle.lrp_model.specs.declared.relations.Column.{Column}
use Rattle.lrp_model.specs.declared.relations.Relation.{Relation}
use Rattle.lrp_store.specs.Stores.{IsStore}
use Rattle.lrp_tables.specs.declared.table.StepFault.{StepFault}
use Rattle.lrp_tables.specs.declared.table.StepFault.TheVariants.{TooManyCells}
use Rattle.lrp_tables.specs.declared.table.Table.{Table}
use Rattle.lrp_tables.specs.Calls.{AreVariablesOf, CanBeCarried, CanMeet, tests_reach}
use Rattle.lrp_tables.specs.Caps.{InhabitsMoreThan}
use Rattle.lrp_tables.specs.Columns.{joint}
use Rattle.lrp_tables.specs.Steps.{CanExtend, CanScan}
use Rattle.lrp_tables.specs.Tables.{IsTableOf}
use Rattle.lrp_periods.specs.Parts.{AreParts, HasSome, IsPeriodPart, IsSmallPeriod, part_times, part_texts}

-- a relation and terms that can be scanned in a small period
pub record CanScanInParts (domain : List Text) (period : ℤ) (relation : Relation) (terms : List Term) : Type 0 where
  pub period_is : IsSmallPeriod period
  pub scan : CanScan domain period relation terms

-- a table that is a part over its own variables
pub record CanBePart (domain : List Text) (period : ℤ) (part : Table) : Type 0 where
  pub period_is : IsSmallPeriod period
  pub part_is : IsPeriodPart domain part.vars.times part.vars.texts period part

-- parts of tables that can stand side by side
pub record CanCombineInParts (domain : List Text) (period : ℤ) (lefts rights : List Table) : Type 0 where
  pub period_is : IsSmallPeriod period
  pub lefts_are : AreParts domain period lefts
  pub rights_are : AreParts domain period rights
  pub columns : (left right : Table) → Contains lefts left → Contains rights right → CanMeet left right

-- such parts, and tests of their variables
pub record CanJoinInParts (domain : List Text) (period : ℤ) (lefts rights : List Table) (tests : List Test) : Type 0 where
  pub parts : CanCombineInParts domain period lefts rights
  pub carried : AllByRecursion (CanBeCarried (joint (part_times lefts) (part_times rights)) (joint (part_texts lefts) (part_texts rights)) period) tests
  pub tests_small : tests_reach tests + nat_abs period ≤ 2 ^ 62

-- parts, and a test of their variables
pub record CanSelectInParts (domain : List Text) (period : ℤ) (parts : List Table) (test : Test) : Type 0 where
  pub period_is : IsSmallPeriod period
  pub parts_are : AreParts domain period parts
  pub carried : CanBeCarried (part_times parts) (part_texts parts) period test
  pub test_small : test_reach test + nat_abs period ≤ 2 ^ 62

-- parts of two tables, of which the first has the variables of the second
pub record CanMinusInParts (domain : List Text) (period : ℤ) (lefts rights : List Table) : Type 0 where
  pub period_is : IsSmallPeriod period
  pub ascends : Ascends domain
  pub lefts_are : AreParts domain period lefts
  pub rights_are : AreParts domain period rights
  pub columns : (left right : Table) → Contains lefts left → Contains rights right → AreVariablesOf left right

-- parts of one table
pub record AreOperand (domain : List Text) (period : ℤ) (parts : List Table) : Type 0 where
  pub period_is : IsSmallPeriod period
  pub parts_are : AreParts domain period parts

-- parts of one table, and a head that has their variables
pub record CanExtendInParts (domain : List Text) (period : ℤ) (parts : List Table) (columns : List Column) : Type 0 where
  pub operand : AreOperand domain period parts
  pub columns_are : (part : Table) → Contains parts part → CanExtend domain columns part

-- a table of the parts' assignments in cells of this period, where they inhabit no more than cap cells, and `TooManyCells` where they inhabit more
pub record IsWholeResult (cap : ℕ) (domain : List Text) (period : ℤ) (parts : List Table) (result : Result Table StepFault) : Type 0 where
  pub valid : IfOk result (λ made. IsStore made.store)
  pub table : IfOk result (IsTableOf domain (part_times parts) (part_texts parts) (nat_abs period) (HasSome domain parts))
  pub few : OnOk result (InhabitsMoreThan cap domain (nat_abs period) (part_times parts) (part_texts parts) (HasSome domain parts) → ⊥)
  pub many : result ≡ Err TooManyCells → InhabitsMoreThan cap domain (nat_abs period) (part_times parts) (part_texts parts) (HasSome domain parts)
