-- Tables in parts: several tables over the same variables, each in cells of a period of its own.
use Rattle.std.specs.Prelude.{◌≡◌, ◌⊎◌, ◌<◌, ◌≤◌, ◌^◌, ◌≤ℤ◌, ℤ, pos, nat_abs, List, [], ◌∷◌, length, Contains}
use Rattle.lrp_theory.specs.Divides.{Divides}
use Rattle.lrp_model.specs.Texts.{Identifier, Text}
use Rattle.lrp_model.specs.Satisfaction.{Assignment}
use Rattle.lrp_store.specs.Stores.{HasReach, IsStore}
use Rattle.lrp_store.specs.Tables.{AreNumbered}
use Rattle.lrp_tables.specs.declared.table.Table.{Table}
use Rattle.lrp_tables.specs.Tables.{HasAssignment}

-- the names of the time columns of all parts, and those of their data columns
abbrev pub part_times : List Table → List Identifier
part_times [] = []
part_times (part ∷ parts) = part.vars.times

abbrev pub part_texts : List Table → List Identifier
part_texts [] = []
part_texts (part ∷ parts) = part.vars.texts

-- one of the parts has the assignment
pub record HasSome (domain : List Text) (parts : List Table) (env : Assignment) : Type 0 where
  pub part : Table
  pub listed : Contains parts part
  pub has : HasAssignment part domain env

-- the period of a step in parts is from 1 to 2^56
pub record IsSmallPeriod (period : ℤ) : Type 0 where
  pub low : pos 1 ≤ℤ period
  pub high : nat_abs period ≤ 2 ^ 56

-- a table over these variables, whose period divides this one; its numbers of texts are of the domain, and its bounds are small
pub record IsPeriodPart (domain : List Text) (times texts : List Identifier) (period : ℤ) (part : Table) : Type 0 where
  pub valid : IsStore part.store
  pub times_are : part.vars.times ≡ times
  pub texts_are : part.vars.texts ≡ texts
  pub divides : Divides (pos part.store.period) period
  pub numbered : AreNumbered domain part.store
  pub reach : HasReach part.store (2 ^ 59)

-- from 1 to 16 such tables, over the same variables
pub record AreParts (domain : List Text) (period : ℤ) (parts : List Table) : Type 0 where
  pub some : 0 < length parts
  pub few : length parts ≤ 16
  pub each : (part : Table) → Contains parts part → IsPeriodPart domain (part_times parts) (part_texts parts) period part

-- parts over these variables that together have just the assignments of the set
pub record ArePartsOf (domain : List Text) (times texts : List Identifier) (period : ℤ) (set : Assignment → Type 0) (made : List Table) : Type 0 where
  pub parts : AreParts domain period made
  pub times_are : part_times made ≡ times
  pub texts_are : part_texts made ≡ texts
  pub sound : (env : Assignment) → HasSome domain made env → set env
  pub whole : (env : Assignment) → set env → HasSome domain made env

-- one part that has just the assignments of the set
pub record IsPartOfSet (domain : List Text) (times texts : List Identifier) (period : ℤ) (set : Assignment → Type 0) (made : Table) : Type 0 where
  pub part : IsPeriodPart domain times texts period made
  pub sound : (env : Assignment) → HasAssignment made domain env → set env
  pub whole : (env : Assignment) → set env → HasAssignment made domain env

-- each of the new tables is a part over these variables, where each old one is; together they have the old ones' assignments and those of the set
pub record ArePartsAdded (domain : List Text) (times texts : List Identifier) (period : ℤ) (set : Assignment → Type 0) (old new : List Table) : Type 0 where
  pub few : length old ≤ 16 → length new ≤ 16
  pub each : ((part : Table) → Contains old part → IsPeriodPart domain times texts period part) → (part : Table) → Contains new part → IsPeriodPart domain times texts period part
  pub sound : (env : Assignment) → HasSome domain new env → HasSome domain old env ⊎ set env
  pub from_old : (env : Assignment) → HasSome domain old env → HasSome domain new env
  pub from_set : (env : Assignment) → set env → HasSome domain new env
