-- The tuples of stores, taken into one.
use Rattle.std.specs.Prelude.{◌≡◌, ◌⊎◌, ◌-◌, ◌^◌, ℕ, ℤ, List, length, MatchOption, Option, Some}
use Rattle.lrp_cutting.specs.Settling.{IsLike}
use Rattle.lrp_holdings.specs.Holdings.{HoldingsView, held_at}
use Rattle.lrp_zone.specs.Zones.{reach_of}
use Rattle.lrp_tables.specs.Passes.{IsMadeFrom}
use Rattle.lrp_tables.specs.Pieces.{InPiece}
use Rattle.lrp_tables.specs.declared.pieces.Piece.{Piece}
use Rattle.lrp_store.specs.Growing.{IsAdded}
use Rattle.lrp_store.specs.Stores.{HasReach, InStore, IsStore, StoreView}
use Rattle.lrp_parts.specs.Derivations.{HoldsIn, Levels}

-- a tuple stays what it is
pub record StaysSame (times : List ℤ) (texts : List ℕ) (new_times : List ℤ) (new_texts : List ℕ) : Type 0 where
  pub times_are : new_times ≡ times
  pub texts_are : new_texts ≡ texts

-- new is a store with the tuples of old and those of the set, in zones of no greater reach than those of old and of the set
pub record HasTakenSet (set : List ℤ → List ℕ → Type 0) (reach : ℕ → Type 0) (old new : StoreView) : Type 0 where
  pub valid : IsStore new
  pub shape : new.shape ≡ old.shape
  pub period : new.period ≡ old.period
  pub to : (times : List ℤ) (texts : List ℕ) → InStore new times texts → InStore old times texts ⊎ set times texts
  pub kept : (times : List ℤ) (texts : List ℕ) → InStore old times texts → InStore new times texts
  pub from : (times : List ℤ) (texts : List ℕ) → set times texts → InStore new times texts
  pub within : (high : ℕ) → reach high → HasReach old high → HasReach new high

-- those of a store
abbrev pub HasTaken : StoreView → StoreView → StoreView → Type 0
HasTaken from old new = HasTakenSet (InStore from) (HasReach from) old new

-- a tuple of some value that is held
pub record InSomeHeld (held : List ℕ → Option StoreView → Type 0) (times : List ℤ) (texts : List ℕ) : Type 0 where
  pub keys : List ℕ
  pub store : StoreView
  pub is : held keys (Some store)
  pub inside : InStore store times texts

-- each value that is held has at most this reach
abbrev pub HeldHaveReach : (List ℕ → Option StoreView → Type 0) → ℕ → Type 0
HeldHaveReach held high = (keys : List ℕ) (s : StoreView) → held keys (Some s) → HasReach s high

-- those of all values that are held
abbrev pub HasTakenSome : (List ℕ → Option StoreView → Type 0) → StoreView → StoreView → Type 0
HasTakenSome held old new = HasTakenSet (InSomeHeld held) (HeldHaveReach held) old new

-- a value is held as one of no keys
pub record IsValue (value : Option StoreView) (keys : List ℕ) (held : Option StoreView) : Type 0 where
  pub is : held ≡ value

-- those of one value
abbrev pub HasTakenValue : Option StoreView → StoreView → StoreView → Type 0
HasTakenValue value old new = HasTakenSome (IsValue value) old new

-- those that the last level holds, those of a slot, and those of a zone
abbrev pub HasTakenLast : Levels → StoreView → StoreView → Type 0
HasTakenLast levels old new = HasTakenSome (HoldsIn levels (length levels - 1)) old new

abbrev pub HasTakenSlot : HoldingsView (Option StoreView) → ℕ → StoreView → StoreView → Type 0
HasTakenSlot h slot old new = MatchOption (held_at h slot) (new ≡ old) (λ held. HasTakenValue held.value old new)

abbrev pub HasTakenPiece : Piece → StoreView → StoreView → Type 0
HasTakenPiece piece old new = IsAdded (IsMadeFrom StaysSame (InPiece old.shape.texts piece)) (2 ^ 32 - 1) (reach_of piece.zone) old new

-- a store with the shape and the period of each value that is held
pub record IsLikeHeld (held : List ℕ → Option StoreView → Type 0) (s : StoreView) : Type 0 where
  pub valid : IsStore s
  pub each : (keys : List ℕ) (store : StoreView) → held keys (Some store) → IsLike store s

-- with those of one value, and of each that the last level holds
abbrev pub IsLikeValue : Option StoreView → StoreView → Type 0
IsLikeValue value s = IsLikeHeld (IsValue value) s

abbrev pub IsLikeLast : Levels → StoreView → Type 0
IsLikeLast levels s = IsLikeHeld (HoldsIn levels (length levels - 1)) s
