-- Spots of an answer that can be written: their texts are known, and their times have a magnitude of at most 2^62.
use Rattle.std.specs.Prelude.{◌≡◌, Bool, true, false, List, length, take}
use Rattle.std.specs.List.{AllByRecursion}
use Rattle.lrp_calendar.specs.Moments.{IsCivilMinute}
use Rattle.lrp_model.specs.PrintedPages.{IsSmall}
use Rattle.lrp_model.specs.declared.tuples.Spot.{Spot}
use Rattle.lrp_answers.specs.declared.answer.Answer.{Answer}
use Rattle.lrp_outputs.specs.Spots.{HasKnownTexts}

-- its times have a magnitude of at most 2^62
abbrev pub HasTimes : Answer → Spot → Type 0
HasTimes a spot = AllByRecursion IsSmall (take a.store.shape.times spot.times)

-- it has eight places of each kind
abbrev pub HasPlaces : Spot → Type 0
HasPlaces spot = (length spot.times ≡ 8) × (length spot.texts ≡ 8)

-- the line of the spot and its token can be written
abbrev pub IsKnownSpot : Answer → Spot → Type 0
IsKnownSpot a spot = (HasKnownTexts a spot × HasTimes a spot) × HasPlaces spot

-- where times are civil ones, those of the spots are minutes of the years 1 to 9999
abbrev pub HasCivilTimes : Answer → Spot → Type 0
HasCivilTimes a spot = AllByRecursion IsCivilMinute (take a.store.shape.times spot.times)

abbrev pub HaveCivilTimes : Bool → Answer → List Spot → Type 0
HaveCivilTimes false a spots = Unit {0}
HaveCivilTimes true a spots = AllByRecursion (HasCivilTimes a) spots
