-- The answers of a query: those of all whole choices of its disjuncts.
use Rattle.std.specs.Prelude.{◌≡◌, ℕ, ℤ, ◌-◌, ◌<◌, List, length, Option, Some, slice_get}
use Rattle.lrp_model.specs.Texts.{Text}
use Rattle.lrp_store.specs.Stores.{StoreView}
use Rattle.lrp_store.specs.Tables.{StoreHolds}
use Rattle.lrp_parts.specs.Derivations.{Ground, HoldsIn, HoldsNothingFor, IsDerivedBut, IsDerivedFrom, Levels}
use Rattle.lrp_kept.specs.declared.disjuncts.Disjunct.{Disjunct}

-- for each disjunct what is derived of it
pub record AreDerived (g : Ground) (ds : List Disjunct) (all : List Levels) : Type 0 where
  pub count : length all ≡ length ds
  pub each : (i : ℕ) (d : Disjunct) (levels : Levels) → slice_get ds i ≡ Some d → slice_get all i ≡ Some levels → IsDerivedFrom g d levels

-- for each disjunct what is derived of it without the row under a key, and nothing for that key
pub record AreDerivedBut (g : Ground) (ds : List Disjunct) (key : ℕ) (all : List Levels) : Type 0 where
  pub count : length all ≡ length ds
  pub each : (i : ℕ) (d : Disjunct) (levels : Levels) → slice_get ds i ≡ Some d → slice_get all i ≡ Some levels → IsDerivedBut g d key levels
  pub none : (i : ℕ) (levels : Levels) → slice_get all i ≡ Some levels → HoldsNothingFor key levels

-- the same, with something for that key maybe
pub record RemainWithout (g : Ground) (ds : List Disjunct) (key : ℕ) (all : List Levels) : Type 0 where
  pub count : length all ≡ length ds
  pub each : (i : ℕ) (d : Disjunct) (levels : Levels) → slice_get ds i ≡ Some d → slice_get all i ≡ Some levels → IsDerivedBut g d key levels

-- what the last levels of the first of these hold
abbrev pub HoldsAmong : List Levels → ℕ → List ℕ → Option StoreView → Type 0
HoldsAmong all count keys value = (i : ℕ) × (levels : Levels) × (i < count) × (slice_get all i ≡ Some levels) × HoldsIn levels (length levels - 1) keys value

-- the times and the texts are an answer of some whole choice
pub record IsChoiceAnswerIn (all : List Levels) (domain : List Text) (times : List ℤ) (texts : List Text) : Type 0 where
  pub number : ℕ
  pub levels : Levels
  pub at : slice_get all number ≡ Some levels
  pub keys : List ℕ
  pub store : StoreView
  pub held : HoldsIn levels (length levels - 1) keys (Some store)
  pub has : StoreHolds domain store times texts

-- the store holds the answers of all whole choices, and no others
pub record HoldsAll (all : List Levels) (domain : List Text) (s : StoreView) : Type 0 where
  pub to : (times : List ℤ) (texts : List Text) → StoreHolds domain s times texts → IsChoiceAnswerIn all domain times texts
  pub from : (times : List ℤ) (texts : List Text) → IsChoiceAnswerIn all domain times texts → StoreHolds domain s times texts
