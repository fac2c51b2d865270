-- A store whose zones were brought to a larger period.
use Rattle.std.specs.Prelude.{◌≡◌, ℕ, ◌+◌, ◌-◌, ◌≤◌, ◌^◌, pos}
use Rattle.lrp_theory.specs.Divides.{Divides}
use Rattle.lrp_zone.specs.Zones.{columns_of, reach_of}
use Rattle.lrp_store.specs.Stores.{StoreView, IsStore, IsPadded, InStore, HoldsJust, HasReach}
use Rattle.lrp_tables.specs.declared.pieces.Piece.{Piece}

-- a zone of as many columns as a store's tuples have times, which can be brought to the store's period
pub record CanBeBrought (piece : Piece) (out : StoreView) : Type 0 where
  pub valid : IsStore out
  pub columns : columns_of piece.zone ≡ out.shape.times
  pub texts : IsPadded 0 out.shape.texts piece.cell.texts
  pub multiple : Divides (pos piece.zone.period) (pos out.period)
  pub reach : reach_of piece.zone + out.period ≤ 2 ^ 62

-- the same tuples in cells of this period, in zones whose reach is at most the greatest old one and the period less 1
pub record IsAligned (old : StoreView) (period : ℕ) (new : StoreView) : Type 0 where
  pub shape : new.shape ≡ old.shape
  pub period_is : new.period ≡ period
  pub same : HoldsJust (InStore old) new
  pub reach : (high : ℕ) → HasReach old high → HasReach new (high + (period - 1))
