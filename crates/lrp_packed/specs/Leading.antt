-- First spots of stores, and which of two stores has the nearer one.
use Rattle.std.specs.Prelude.{◌≢◌, Option, Some, None}
use Rattle.std.specs.declared.cmp.Ordering.TheVariants.{Greater}
use Rattle.lrp_model.specs.declared.tuples.Spot.{Spot}
use Rattle.lrp_store.specs.Least.{IsFoundSpot, IsSpotOf, held_cmp}
use Rattle.lrp_store.specs.Stores.{StoreView}
use Rattle.lrp_packed.specs.Entries.{CellZone}

-- the first spot, if there is one, does not come after the other; what is no spot comes after each one
abbrev pub IsNotLater : Option Spot → Option Spot → Type 0
IsNotLater own None = Unit {0}
IsNotLater None (Some other) = ⊥
IsNotLater (Some own) (Some other) = held_cmp own.times own.texts other.times other.texts ≢ Greater

-- the spot is the first one of the store, and none is where the store has none
pub record IsFirstSpot (s : StoreView) (first : Option Spot) : Type 0 where
  pub found : IsFoundSpot s first
  pub leads : (spot : Spot) → IsSpotOf s spot → IsNotLater first (Some spot)

-- some spot of the store does not come after this one
pub record HasNearer (s : StoreView) (other : Spot) : Type 0 where
  pub spot : Spot
  pub is : IsSpotOf s spot
  pub near : held_cmp spot.times spot.texts other.times other.texts ≢ Greater

-- so it is with each spot of the other store
abbrev pub leads_store : StoreView → StoreView → Type 0
leads_store s other = (spot : Spot) → IsSpotOf other spot → HasNearer s spot

-- a cell without bounds stands for the spot that has its residues as times
abbrev pub spot_in : CellZone → Spot
spot_in z = record { times = z.0.residues; texts = z.0.texts }
