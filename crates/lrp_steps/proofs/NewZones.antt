-- A zone was added as far as it was new, and its tuples are those of a set.
use Rattle.std.proofs.Common.{◌≡◌, ℕ, ◌≤◌, ◌∙◌, List, take, Result, OnOk, ap, arith, of_z, subst, sym, to_z}
use Rattle.std.specs.FinMap as finite
use Rattle.std.specs.Int.{w64}
use Rattle.std.specs.Prelude.{ℤ, nat_abs, pos}
use Rattle.lrp_model.specs.declared.tuples.Cell.{Cell}
use Rattle.lrp_model.specs.declared.tuples.Shape.{Shape}
use Rattle.lrp_zone.specs.Zones.{ZoneView, IsZone, greatest_of}
use Rattle.lrp_store.specs.Stores.{StoreView, IsStore}
use Rattle.lrp_store.specs.Growing.{IsAdded, IsTupleOf}
use Rattle.lrp_store.proofs.Grown.{Set}
use Rattle.lrp_store.proofs.Held.{zone_held}
use Rattle.lrp_tables.proofs.Adding.{IsZoneOf}
use Rattle.lrp_tables.proofs.Gathering.{added_as}
use Rattle.lrp_tables.proofs.Passing.{begun_store}
use Rattle.lrp_tables.specs.Pieces.{IsPieceOf}
use Rattle.lrp_tables.specs.declared.pieces.Piece.{Piece}
use Rattle.lrp_steps.proofs.Steps.{store_period}
use Rattle.lrp_systems.proofs.Taken.{add_ok}

-- a store that was begun with another one's period and no more columns is a store
pub begun_like : (s out : StoreView) (shape : Shape) (period : ℤ) → IsStore s → out ≡ record { shape = shape; period = nat_abs (to_z w64 (of_z w64 period)); tables = finite.empty; spare = 0 } → period ≡ pos s.period → shape.times ≤ s.shape.times → shape.texts ≤ s.shape.texts → IsStore out
begun_like s out shape period is e p times texts =
    let same : nat_abs (to_z w64 (of_z w64 period)) ≡ s.period = store_period s.period period is.period_low is.period_high p in
    begun_store out shape s.period (e ∙ ap (λ n. record { shape = shape; period = n; tables = finite.empty; spare = 0 }) same) (let l : s.shape.times ≤ 8 = is.times in omega (arith, l, times)) (let l : s.shape.texts ≤ 8 = is.texts in omega (arith, l, texts)) is.period_low is.period_high

-- each zone of a store is one
pub piece_zone : (s : StoreView) → IsStore s → (piece : Piece) → IsPieceOf s piece → IsZone piece.zone
piece_zone s is piece of = subst IsZone (sym of.zone) (zone_held s is piece.cell of.table of.held)

module _ (set : Set) (s : StoreView) (is : IsStore s) (c : Cell) (z : ZoneView) (high : ℕ) (of : IsZoneOf set s c z high) (cap : ℕ) (new : StoreView) where
  to_set : (xs : List ℤ) (ns : List ℕ) → IsTupleOf z (take s.shape.texts c.texts) xs ns → set xs ns
  to_set xs ns h = subst (λ ms. set xs ms) h.same (of.to xs h.member)

  from_set : (xs : List ℤ) (ns : List ℕ) → set xs ns → IsTupleOf z (take s.shape.texts c.texts) xs ns
  from_set xs ns h = let b = of.from xs ns h in record { member = b.0; same = b.1 }

  -- then the set was added
  pub new_added : {T E : Type 0} (r : Result T E) → OnOk r (IsAdded (IsTupleOf z (take s.shape.texts c.texts)) cap (greatest_of z.bounds) s new) → OnOk r (IsAdded set cap high s new)
  new_added r ok = add_ok r _ _ (λ a. added_as cap (IsTupleOf z (take s.shape.texts c.texts)) set (greatest_of z.bounds) high of.low s new is to_set from_set a) ok
