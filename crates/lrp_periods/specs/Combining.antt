-- What is asked of parts that are put together one by one.
use Rattle.std.specs.Prelude.{◌≡◌, ◌+◌, ◌≤◌, ◌^◌, ℕ, ℤ, nat_abs, List, Contains, length, pos, ◌<◌, Some, slice_get}
use Rattle.std.specs.FinMap as finite
use Rattle.std.specs.List.{AllByRecursion}
use Rattle.lrp_theory.specs.Divides.{Divides}
use Rattle.lrp_model.specs.Reach.{test_reach}
use Rattle.lrp_model.specs.Texts.{Ascends, Identifier, Text}
use Rattle.lrp_model.specs.Satisfaction.{Assignment}
use Rattle.lrp_model.specs.declared.formulas.Test.{Test}
use Rattle.lrp_tables.specs.declared.table.Table.{Table}
use Rattle.lrp_tables.specs.Calls.{AreVariablesOf, CanBeCarried, CanMeet, test_period, tests_reach}
use Rattle.lrp_tables.specs.Columns.{joint}
use Rattle.lrp_periods.specs.Parts.{AreParts, IsPeriodPart, IsSmallPeriod, part_times, part_texts}
use Rattle.lrp_periods.specs.Periods.{IsOwnPeriod}
use Rattle.lrp_periods.specs.declared.joins.Rights.{Rights}

-- a part over its own variables
abbrev pub IsSomePart : List Text → ℤ → Table → Type 0
IsSomePart domain period part = IsPeriodPart domain part.vars.times part.vars.texts period part

-- each table is a part over these variables
abbrev pub AreAllParts : List Text → List Identifier → List Identifier → ℤ → List Table → Type 0
AreAllParts domain times texts period parts = (part : Table) → Contains parts part → IsPeriodPart domain times texts period part

-- the assignment is one of those that are made of a part
pub record IsMadeOfSome (each : Table → Assignment → Type 0) (parts : List Table) (env : Assignment) : Type 0 where
  pub part : Table
  pub listed : Contains parts part
  pub made : each part env

-- parts and a further one, over the same variables
pub record CanAddPart (domain : List Text) (period : ℤ) (old : List Table) (made : Table) : Type 0 where
  pub period_is : IsSmallPeriod period
  pub old_are : AreAllParts domain made.vars.times made.vars.texts period old
  pub made_is : IsSomePart domain period made

-- at the place is a part of this period
pub record IsPlaceWith (parts : List Table) (period : ℤ) (place : ℕ) : Type 0 where
  pub within : place < length parts
  pub part : Table
  pub at : slice_get parts place ≡ Some part
  pub period_is : pos part.store.period ≡ period

-- tests of variables of these names, and a multiple of their periods
pub record AreJoinTests (times texts : List Identifier) (with : Rights) : Type 0 where
  pub period_is : IsSmallPeriod with.period
  pub own : IsOwnPeriod with.period with.own
  pub multiples : AllByRecursion (λ test. Divides (test_period test) with.own) with.tests.now
  pub carried : AllByRecursion (CanBeCarried times texts with.period) with.tests.now
  pub small : tests_reach with.tests.now + nat_abs with.period ≤ 2 ^ 62

-- two parts that can stand side by side, and tests of their variables
pub record CanJoinPair (domain : List Text) (left right : Table) (with : Rights) : Type 0 where
  pub left_is : IsSomePart domain with.period left
  pub right_is : IsSomePart domain with.period right
  pub columns : CanMeet left right
  pub tests : AreJoinTests (joint left.vars.times right.vars.times) (joint left.vars.texts right.vars.texts) with

-- a part that can stand beside each of the others, and tests of their variables; the old parts are over these
pub record CanAddJoins (domain : List Text) (left : Table) (with : Rights) (old : List Table) : Type 0 where
  pub left_is : IsSomePart domain with.period left
  pub rights_are : AreParts domain with.period with.tables.now
  pub columns : (right : Table) → Contains with.tables.now right → CanMeet left right
  pub tests : AreJoinTests (joint left.vars.times (part_times with.tables.now)) (joint left.vars.texts (part_texts with.tables.now)) with
  pub old_are : AreAllParts domain (joint left.vars.times (part_times with.tables.now)) (joint left.vars.texts (part_texts with.tables.now)) with.period old

-- a part, and a test of its variables
pub record CanSelectPart (domain : List Text) (period : ℤ) (part : Table) (test : Test) : Type 0 where
  pub period_is : IsSmallPeriod period
  pub part_is : IsSomePart domain period part
  pub carried : CanBeCarried part.vars.times part.vars.texts period test
  pub small : test_reach test + nat_abs period ≤ 2 ^ 62

-- two parts, of which the first has the variables of the second
pub record CanTakeAway (domain : List Text) (period : ℤ) (left right : Table) : Type 0 where
  pub period_is : IsSmallPeriod period
  pub ascends : Ascends domain
  pub left_is : IsSomePart domain period left
  pub right_is : IsSomePart domain period right
  pub columns : AreVariablesOf left right

-- a part, and parts of whose variables it has each
pub record CanTakeAll (domain : List Text) (period : ℤ) (left : Table) (rights : List Table) : Type 0 where
  pub period_is : IsSmallPeriod period
  pub ascends : Ascends domain
  pub left_is : IsSomePart domain period left
  pub rights_are : AreParts domain period rights
  pub columns : (right : Table) → Contains rights right → AreVariablesOf left right

-- two parts that can stand side by side
pub record CanStandBeside (domain : List Text) (period : ℤ) (left right : Table) : Type 0 where
  pub period_is : IsSmallPeriod period
  pub left_is : IsSomePart domain period left
  pub right_is : IsSomePart domain period right
  pub columns : CanMeet left right

-- a table over the same variables and of this period that has no assignment
pub record IsNothingOver (table : Table) (period : ℕ) (made : Table) : Type 0 where
  pub vars_are : made.vars ≡ table.vars
  pub period_is : made.store.period ≡ period
  pub none : made.store.tables ≡ finite.empty
