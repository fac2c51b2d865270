-- The first spot of all stores that are held.
use Rattle.std.specs.Prelude.{◌≡◌, ℕ, List, Option, Some, None, IfSome}
use Rattle.lrp_model.specs.declared.tuples.Spot.{Spot}
use Rattle.lrp_store.specs.Least.{IsSpotOf}
use Rattle.lrp_store.specs.Stores.{StoreView}
use Rattle.lrp_packed.specs.Leading.{IsFirstSpot, IsNotLater}

-- some store that is held has the spot
pub record IsHeldSpot (held : List ℕ → Option StoreView → Type 0) (spot : Spot) : Type 0 where
  pub keys : List ℕ
  pub store : StoreView
  pub is : held keys (Some store)
  pub inside : IsSpotOf store spot

-- the spot is the first one of them all, and none is where there is none
pub record IsFirstOfHeld (held : List ℕ → Option StoreView → Type 0) (first : Option Spot) : Type 0 where
  pub found : IfSome first (IsHeldSpot held)
  pub leads : (spot : Spot) → IsHeldSpot held spot → IsNotLater first (Some spot)

-- the first spot of a store, and none of no store
abbrev pub IsFirstOfSome : Option StoreView → Option Spot → Type 0
IsFirstOfSome None first = first ≡ None
IsFirstOfSome (Some store) first = IsFirstSpot store first
