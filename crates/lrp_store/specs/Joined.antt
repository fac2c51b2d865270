-- Zones of one column that go on where the last one of their cell's list ends, and are joined to it.
use Rattle.std.specs.Prelude.{◌≡◌, ◌≢◌, ◌⊎◌, ℕ, ℤ, ◌-◌, ◌≤◌, List, [], ◌∷◌, ◌++◌, Option, Some, None, length, max, pos, replicate, slice_get, ◌+ℤ◌, ◌≤ℤ◌, neg_ℤ}
use Rattle.lrp_theory.specs.Entries.{entry, IsBelow}
use Rattle.lrp_model.specs.declared.relations.Bound.{Bound}
use Rattle.lrp_model.specs.declared.tuples.Cell.{Cell}
use Rattle.lrp_zone.specs.Zones.{ZoneView, IsZone, IsMember, reach_of}
use Rattle.lrp_zone.specs.Pairs.{IsOfCell, IsWithin}
use Rattle.lrp_store.specs.Stored.{placed, table_of}
use Rattle.lrp_store.specs.Stores.{StoreView, tables_at, zone_of}

-- u holds just the tuples of v and of w, and is of their cell; its reach is no greater than theirs
pub record IsUnion (v w u : ZoneView) : Type 0 where
  pub valid : IsZone u
  pub cell : IsOfCell v u
  pub left : IsWithin v u
  pub right : IsWithin w u
  pub one : (xs : List ℤ) → IsMember u xs → IsMember v xs ⊎ IsMember w xs
  pub reach : reach_of u ≤ max (reach_of v) (reach_of w)

-- where one bound is on a column and the other one on zero less the column, no more than k lies between the numbers of the one and of the other
pub record AreNear (k : ℕ) (high low : Option ℤ) : Type 0 where
  pub near : (a b : ℤ) → high ≡ Some a → low ≡ Some b → neg_ℤ b ≤ℤ (a +ℤ pos k)

-- z begins and ends no sooner than the zone with these bounds on zero less its column and on the column, and no number of the cell lies between them
pub record GoesOn (low high : Option ℤ) (z : ZoneView) : Type 0 where
  pub begins : IsBelow (entry z.bounds 0 1) low
  pub ends : IsBelow high (entry z.bounds 1 0)
  pub near : AreNear z.period high (entry z.bounds 0 1)

-- the bound at a place, if there is one
abbrev pub if_listed : ℕ → Option ℤ → List Bound
if_listed place None = []
if_listed place (Some most) = placed place most ∷ []

-- the bounds on zero less a column and on the column
abbrev pub line_list : Option ℤ → Option ℤ → List Bound
line_list low high = if_listed 1 low ++ if_listed 9 high

-- their table
abbrev pub line_table : Option ℤ → Option ℤ → List (Option ℤ)
line_table low high = table_of (line_list low high)

-- the table is that of the last zone of a cell's list and z together; the list does not begin with the whole cell
pub record JoinsLast (s : StoreView) (cell : Cell) (z : ZoneView) (table : List (Option ℤ)) : Type 0 where
  pub last : List (Option ℤ)
  pub is : slice_get (tables_at s cell) (length (tables_at s cell) - 1) ≡ Some last
  pub first : slice_get (tables_at s cell) 0 ≢ Some (replicate 81 None)
  pub union : IsUnion (zone_of s cell last) z (zone_of s cell table)
