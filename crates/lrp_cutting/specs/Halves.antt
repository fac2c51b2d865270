-- The part of a zone that meets one more bound.
use Rattle.std.specs.Prelude.{ℕ, ℤ, ◌≤◌, ◌≢◌, ◌^◌, List, max, nat_abs, pos, neg_ℤ, ◌-ℤ◌, ◌≤ℤ◌}
use Rattle.lrp_theory.specs.Divides.{Divides}
use Rattle.lrp_theory.specs.Entries.{node}
use Rattle.lrp_model.specs.declared.relations.Bound.{Bound}
use Rattle.lrp_zone.specs.Zones.{ZoneView, IsZone, IsMember, columns_of, reach_of}
use Rattle.lrp_zone.specs.Pairs.{IsOfCell}

-- the tuple xs meets the bound
abbrev pub IsWithinBound : Bound → List ℤ → Type 0
IsWithinBound b xs = (node xs b.left -ℤ node xs b.right) ≤ℤ b.most

-- the bound stands between two different columns of z, is tight there, and can be stored
pub record CanBeStored (z : ZoneView) (b : Bound) : Type 0 where
  pub left : b.left ≤ columns_of z
  pub right : b.right ≤ columns_of z
  pub apart : b.left ≢ b.right
  pub tight : Divides (pos z.period) (b.most -ℤ (node z.residues b.left -ℤ node z.residues b.right))
  pub small : nat_abs b.most ≤ 2 ^ 62

-- w holds the tuples of z that meet the bound
pub record IsHalf (z : ZoneView) (b : Bound) (w : ZoneView) : Type 0 where
  pub valid : IsZone w
  pub cell : IsOfCell z w
  pub to : (xs : List ℤ) → IsMember w xs → IsMember z xs × IsWithinBound b xs
  pub from : (xs : List ℤ) → IsMember z xs → IsWithinBound b xs → IsMember w xs
  pub reach : reach_of w ≤ max (reach_of z) (nat_abs b.most)

-- no tuple of z meets the bound
pub record HasNoHalf (z : ZoneView) (b : Bound) : Type 0 where
  pub none : (xs : List ℤ) → IsMember z xs → IsWithinBound b xs → ⊥

-- the bound that the tuples of a cell of period k meet where they break b
abbrev pub other_side : ℕ → Bound → Bound
other_side k b = record { left = b.right; right = b.left; most = neg_ℤ b.most -ℤ pos k }
