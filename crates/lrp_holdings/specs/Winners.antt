-- Tournaments over slots: each slot has a winner, the one whose value comes first among its own and the winners of the two slots after twice its number.
use Rattle.std.specs.Prelude.{◌≡◌, ◌≢◌, ◌⊎◌, ℕ, ◌+◌, ◌*◌, ◌<◌, ◌≤◌, List, length, Option, Some, None, IsSome, slice_index_or}
use Rattle.std.specs.Option.{option_map}
use Rattle.slab.specs.Slab.{Slab, get}
use Rattle.lrp_holdings.specs.Holdings.{Held, HoldingsView, held_at}
use Rattle.lrp_holdings.specs.declared.chains.Holding.{Holding}

-- the winner of a slot, if there is one
abbrev pub winner_at : List (Option ℕ) → ℕ → Option ℕ
winner_at winners slot = slice_index_or winners slot None

-- there is a winner for a slot, and all others are as they were
pub record HasRoomForMatch (slot : ℕ) (old new : List (Option ℕ)) : Type 0 where
  pub room : slot < length new
  pub same : (s : ℕ) → winner_at new s ≡ winner_at old s
  pub more : length old ≤ length new

-- the value in a slot
abbrev pub value_numbered : {V : Type 0} → Slab (Holding V) → ℕ → Option V
value_numbered slots slot = option_map (λ h. h.value) (get slots slot)

module _ {V : Type 0} (leads : V → V → Type 0) (value : ℕ → Option V) where
  -- where the other slot has a value, there is a first slot, whose value, if it has one, does not come after it
  abbrev pub Covers : Option ℕ → Option ℕ → Type 0
  Covers first other = (t : ℕ) (w : V) → other ≡ Some t → value t ≡ Some w → IsSome first × ((s : ℕ) (v : V) → first ≡ Some s → value s ≡ Some v → leads v w)

  -- where the other slot has a value, the first one has one that does not come after it
  abbrev pub LeadsAt : Option ℕ → Option ℕ → Type 0
  LeadsAt first other = (t : ℕ) (w : V) → other ≡ Some t → value t ≡ Some w → (s : ℕ) × (v : V) × (first ≡ Some s) × (value s ≡ Some v) × leads v w

  -- the slot itself, where it has a value
  pub record IsOwn (slot : ℕ) (first : Option ℕ) : Type 0 where
    pub is : first ≡ Some slot
    pub held : IsSome (value slot)

  -- it is the slot itself or the winner of one of those after it, and comes first among them
  pub record IsMatchWith (winners : List (Option ℕ)) (slot : ℕ) (first : Option ℕ) : Type 0 where
    pub one : IsOwn slot first ⊎ (first ≡ None) ⊎ (first ≡ winner_at winners (2 * slot + 1)) ⊎ (first ≡ winner_at winners (2 * slot + 2))
    pub own : Covers first (Some slot)
    pub left : Covers first (winner_at winners (2 * slot + 1))
    pub right : Covers first (winner_at winners (2 * slot + 2))

  -- each slot's winner is that of its match, but maybe the one of this slot
  abbrev pub AreMatchedBut : Option ℕ → List (Option ℕ) → Type 0
  AreMatchedBut but winners = (slot : ℕ) → but ≢ Some slot → slot < length winners → IsMatchWith winners slot (winner_at winners slot)

  abbrev pub AreMatched : List (Option ℕ) → Type 0
  AreMatched winners = (slot : ℕ) → slot < length winners → IsMatchWith winners slot (winner_at winners slot)

-- each slot has a match, and each match its winner
pub record HasWinners {V : Type 0} (leads : V → V → Type 0) (slots : Slab (Holding V)) (winners : List (Option ℕ)) : Type 0 where
  pub matched : AreMatched leads (value_numbered slots) winners
  pub within : (slot : ℕ) → IsSome (get slots slot) → slot < length winners

-- the value is held, and comes after no other one
pub record IsFirstHeld {V : Type 0} (leads : V → V → Type 0) (h : HoldingsView V) (first : V) : Type 0 where
  pub slot : ℕ
  pub owners : List ℕ
  pub held : held_at h slot ≡ Some (record { owners = owners; value = first })
  pub leads_all : (k : ℕ) (other : Held V) → held_at h k ≡ Some other → leads first other.value
