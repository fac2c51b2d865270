-- Answers whose text can be written: their zones have room.
use Rattle.std.specs.Prelude.{◌≢◌, ℕ, zero, suc, ◌+◌, ◌<◌, ◌/◌, ◌^◌, ◌≤◌, ℤ, List, Option, Contains}
use Rattle.lrp_theory.specs.Entries.{AtMost, entry}
use Rattle.lrp_matrix.specs.Matrices.{MatrixView, IsClosed, HaveSameIntegers}
use Rattle.lrp_model.specs.declared.tuples.Cell.{Cell}
use Rattle.lrp_zone.specs.Zones.{ZoneView, columns_of}
use Rattle.lrp_store.specs.Least.{matrix_of}
use Rattle.lrp_store.specs.Stores.{StoreView, tables_at, zone_of}

-- the greatest number of which so many are at most 2^62; with none of them, this one
abbrev pub greatest_share : ℕ → ℕ → ℕ
greatest_share zero period = period
greatest_share (suc n) period = 2 ^ 62 / suc n

-- that of a zone's columns
abbrev pub greatest_in : ZoneView → ℕ
greatest_in z = greatest_share (columns_of z) z.period

-- the bounds that all integers within the zone's bounds meet are at most h
abbrev pub HasSmallBounds : ZoneView → ℕ → Type 0
HasSmallBounds z h = (m : MatrixView) → IsClosed m → HaveSameIntegers (matrix_of z) m → (i j : ℕ) → i < columns_of z + 1 → j < columns_of z + 1 → i ≢ j → AtMost h (entry m.cells i j)

-- the period and the bounds of each zone are at most that number
abbrev pub IsRoomy : StoreView → Type 0
IsRoomy s = (cell : Cell) (table : List (Option ℤ)) → Contains (tables_at s cell) table → ((zone_of s cell table).period ≤ greatest_in (zone_of s cell table)) × HasSmallBounds (zone_of s cell table) (greatest_in (zone_of s cell table))
