-- The part of a cell that breaks one bound of a zone.
use Rattle.std.specs.Prelude.{◌≡◌, ℕ, ◌+◌, ◌<◌, ◌≤◌, List, Option, Some, None, pos, ◌+ℤ◌, ◌-ℤ◌, neg_ℤ}
use Rattle.std.specs.Prelude.{ℤ}
use Rattle.lrp_theory.specs.Bounds.{Within}
use Rattle.lrp_theory.specs.Entries.{entry, node}
use Rattle.lrp_zone.specs.Zones.{ZoneView, IsMember, IsInCell, reach_of}
use Rattle.lrp_zone.specs.Pairs.{IsOfCell}

-- w holds the tuples of z's cell that break its bound at (i, j)
pub record IsPiece (z : ZoneView) (i j : ℕ) (w : ZoneView) : Type 0 where
  pub cell : IsOfCell z w
  pub to : (xs : List ℤ) → IsMember w xs → IsInCell z xs × (Within (node xs i -ℤ node xs j) (entry z.bounds i j) → ⊥)
  pub from : (xs : List ℤ) → IsInCell z xs → (Within (node xs i -ℤ node xs j) (entry z.bounds i j) → ⊥) → IsMember w xs
  pub reach : reach_of w ≤ reach_of z + z.period

-- where a difference of the cell breaks the bound, the reverse difference is at most this
abbrev pub broken_by : ℕ → Option ℤ → Option ℤ
broken_by k None = None
broken_by k (Some a) = Some (neg_ℤ (a +ℤ pos k))

-- no bound but the one at (i, j)
pub record IsSingle (bounds : List (Option ℤ)) (i j : ℕ) (bound : Option ℤ) : Type 0 where
  pub here : entry bounds i j ≡ bound
  pub others : (p q : ℕ) → p < 9 → q < 9 → (p ≡ i → q ≡ j → ⊥) → entry bounds p q ≡ None
