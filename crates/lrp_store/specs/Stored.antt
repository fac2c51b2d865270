-- The stored bounds of a zone as a list, and the table that they stand for.
use Rattle.std.specs.Prelude.{◌≡◌, ℕ, ℤ, ◌+◌, ◌*◌, ◌/◌, ◌%◌, ◌<◌, ◌≤◌, ◌^◌, ◌==◌, List, [], ◌∷◌, length, map, Option, Some, None, is_some, count_by, if◌then◌else◌}
use Rattle.std.specs.Int.{w64, cast_signed, from_le_bytes}
use Rattle.std.specs.List.{range_with_len}
use Rattle.lrp_theory.specs.Entries.{AtMost}
use Rattle.lrp_model.specs.declared.relations.Bound.{Bound}
use Rattle.lrp_zone.specs.Given.{bound_at}
use Rattle.lrp_store.specs.declared.stored.Entry.{Entry}

-- the bound at a place of the table, which has nine rows of nine
abbrev pub placed : ℕ → ℤ → Bound
placed place most = record { left = place / 9; right = place % 9; most = most }

-- the bound of an entry
abbrev pub bound_with : Entry → Bound
bound_with e = placed e.place (cast_signed w64 (from_le_bytes w64 e.most))

-- the bounds of the entries, in order
abbrev pub bounds_of : List Entry → List Bound
bounds_of entries = map bound_with entries

-- the place of a bound in the table
abbrev pub table_place : Bound → ℕ
table_place b = 9 * b.left + b.right

-- the bound that is listed for a place
abbrev pub listed_at : List Bound → ℕ → Option ℤ
listed_at [] place = None
listed_at (b ∷ bs) place = if table_place b == place then Some b.most else listed_at bs place

-- the table of the listed bounds
unfoldable pub table_of : List Bound → List (Option ℤ)
table_of bs = map (listed_at bs) (range_with_len 0 81)

-- each listed bound is on the nine nodes, and no other is listed for its place
pub record AreListed (bs : List Bound) : Type 0 where
  pub left : (i : ℕ) → i < length bs → (bound_at bs i).left < 9
  pub right : (i : ℕ) → i < length bs → (bound_at bs i).right < 9
  pub few : length bs ≤ 81
  pub one : (i : ℕ) → i < length bs → listed_at bs (table_place (bound_at bs i)) ≡ Some (bound_at bs i).most

-- the magnitude of each listed bound is at most the limit
pub record AreStorable (bs : List Bound) : Type 0 where
  pub each : (i : ℕ) → i < length bs → AtMost (2 ^ 62) (Some (bound_at bs i).most)

-- how many bounds a table has
abbrev pub count_of : List (Option ℤ) → ℕ
count_of table = count_by is_some table
