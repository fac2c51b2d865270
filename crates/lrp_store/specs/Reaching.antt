-- How far stored bounds reach.
use Rattle.std.specs.Prelude.{ℕ, ℤ, ◌≤◌, List, Option, Contains}
use Rattle.lrp_zone.specs.Zones.{greatest_of}

-- no bound of one of the tables has a greater magnitude
abbrev pub AreTablesWithin : ℕ → List (List (Option ℤ)) → Type 0
AreTablesWithin reach tables = (table : List (Option ℤ)) → Contains tables table → greatest_of table ≤ reach
