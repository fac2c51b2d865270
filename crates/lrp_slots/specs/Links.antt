-- How lists stand in slots: each slot has the key of the slot that follows. No public clause cites this module.
use Rattle.std.specs.Prelude.{◌≡◌, ◌≢◌, ℕ, zero, suc, ◌+◌, ◌-◌, ◌<◌, ◌≤◌, ◌==◌, List, [], ◌∷◌, ◌++◌, Option, Some, None, true, false, map, length, sum_by, IsSome, All, cond, if◌then◌else◌}
use Rattle.std.specs.List.{AllByRecursion}
use Rattle.std.specs.List.Sorted.{IsStrictlySortedBy}
use Rattle.std.specs.Map.{lookup, keys_of, values_of}
use Rattle.std.specs.BTreeMap.{is_at, insert_entry}
use Rattle.std.specs.FinMap as finite
use Rattle.slab.specs.Slab.{Slab, get, slab_len, HasRoomFor}
use Rattle.lrp_model.specs.declared.tuples.Cell.{Cell}
use Rattle.lrp_slots.specs.Lists.{cell_cmp}
use Rattle.lrp_slots.specs.declared.chains.Link.{Link}
use Rattle.lrp_slots.specs.declared.chains.Chain.{Chain}

-- the chain at a cell
abbrev pub chain_at : List (Cell × Chain) → Cell → Option Chain
chain_at entries cell = lookup (is_at (cell_cmp cell)) entries

-- how many slots all chains have
abbrev pub slots_of : List (Cell × Chain) → ℕ
slots_of entries = sum_by (λ (chain : Chain). chain.count) (values_of entries)

-- a chain, unless nothing is left of it
abbrev pub if_some : Chain → Option Chain
if_some chain = if chain.count == 0 then None else Some chain

-- the chain with one slot more at its end
abbrev pub extended : Option Chain → ℕ → Chain
extended None key = record { first = key; last = key; count = 1; in_line = true }
extended (Some chain) key = record { first = chain.first; last = key; count = chain.count + 1; in_line = if chain.in_line then chain.last + 1 == key else false }

-- the chain stands at the cell, and the chains of the other cells are as they were; the cells ascend
pub record IsLengthened (old new : List (Cell × Chain)) (cell : Cell) (chain : Chain) : Type 0 where
  pub inserted : new ≡ insert_entry cell_cmp old cell chain
  pub updates : (other : Cell) → chain_at new other ≡ cond (is_at (cell_cmp cell) other) (Some chain) (chain_at old other)
  pub ascending : IsStrictlySortedBy cell_cmp (keys_of new)

-- the slot is the last one of a chain
abbrev pub IsLastSlot : Option Chain → ℕ → Type 0
IsLastSlot None key = ⊥
IsLastSlot (Some chain) key = key ≡ chain.last

-- each number differs from each later one
abbrev pub AreDistinctSlots : List ℕ → Type 0
AreDistinctSlots [] = Unit {0}
AreDistinctSlots (key ∷ keys) = AllByRecursion (λ other. other ≢ key) keys × AreDistinctSlots keys

module _ {V : Type 0} where
  -- the key that follows, and 0 at a slot with no value, of which a chain has none
  abbrev pub next_of : Option (Link V) → ℕ
  next_of None = 0
  next_of (Some link) = link.next

  -- the value in a slot, if there is one
  abbrev pub value_at : Option (Link V) → List V
  value_at None = []
  value_at (Some link) = link.value ∷ []

  -- so many keys, from one on along the links
  abbrev pub keys_from : (ℕ → Option (Link V)) → ℕ → ℕ → List ℕ
  keys_from slots zero key = []
  keys_from slots (suc n) key = key ∷ keys_from slots n (next_of (slots key))

  -- the key that is so many links after one
  abbrev pub key_after : (ℕ → Option (Link V)) → ℕ → ℕ → ℕ
  key_after slots zero key = key
  key_after slots (suc n) key = key_after slots n (next_of (slots key))

  -- the values under these keys
  abbrev pub values_at : (ℕ → Option (Link V)) → List ℕ → List V
  values_at slots [] = []
  values_at slots (key ∷ keys) = value_at (slots key) ++ values_at slots keys

  -- the keys of a chain
  abbrev pub chain_keys : (ℕ → Option (Link V)) → Chain → List ℕ
  chain_keys slots chain = keys_from slots chain.count chain.first

  -- the values of a chain
  abbrev pub chain_values : (ℕ → Option (Link V)) → Chain → List V
  chain_values slots chain = values_at slots (chain_keys slots chain)

  -- the values of a chain, if there is one
  abbrev pub list_of : (ℕ → Option (Link V)) → Option Chain → List V
  list_of slots None = []
  list_of slots (Some chain) = chain_values slots chain

  -- each key has a value
  abbrev pub AreHeld : (ℕ → Option (Link V)) → List ℕ → Type 0
  AreHeld slots keys = AllByRecursion (λ key. IsSome (slots key)) keys

  -- the cells, each with the values of its chain
  abbrev pub values_of_chains : (ℕ → Option (Link V)) → List (Cell × Chain) → List (Cell × List V)
  values_of_chains slots entries = map (λ e. (e.0, chain_values slots e.1)) entries

  -- each key of each chain has a value
  abbrev pub AreHeldChains : (ℕ → Option (Link V)) → List (Cell × Chain) → Type 0
  AreHeldChains slots entries = All (λ e. AreHeld slots (chain_keys slots e.1)) entries

  -- a chain has at least one slot, comes to each slot once, ends where it says, and has its slots in line where it says so
  pub record IsWhole (slots : ℕ → Option (Link V)) (chain : Chain) : Type 0 where
    pub some : 0 < chain.count
    pub held : AreHeld slots (chain_keys slots chain)
    pub apart : AreDistinctSlots (chain_keys slots chain)
    pub last : key_after slots (chain.count - 1) chain.first ≡ chain.last
    pub line : chain.in_line ≡ true → (i : ℕ) → i < chain.count → key_after slots i chain.first ≡ chain.first + i

  -- the lists of the cells
  abbrev pub lists_of : (ℕ → Option (Link V)) → List (Cell × Chain) → finite.FinMap cell_cmp (List V)
  lists_of slots entries = finite.from_entries (values_of_chains slots entries)

  -- each slot with a value stands in one chain, at one place; the cells ascend
  pub record AreLinked (slab : Slab (Link V)) (entries : List (Cell × Chain)) : Type 0 where
    pub owner : ℕ → Cell
    pub whole : (cell : Cell) (chain : Chain) → chain_at entries cell ≡ Some chain → IsWhole (get slab) chain
    pub owned : (cell : Cell) (chain : Chain) → chain_at entries cell ≡ Some chain → AllByRecursion (λ key. owner key ≡ cell) (chain_keys (get slab) chain)
    pub all : slots_of entries ≡ slab_len slab
    pub fits : slab_len slab ≤ slab.capacity
    pub ascending : IsStrictlySortedBy cell_cmp (keys_of entries)

  -- one slot has another successor, and no more changes
  pub record Joins (old new : Slab (Link V)) (key next : ℕ) : Type 0 where
    pub joined : next_of (get new key) ≡ next
    pub values : (k : ℕ) → value_at (get new k) ≡ value_at (get old k)
    pub others : (k : ℕ) → k ≢ key → get new k ≡ get old k
    pub len : slab_len new ≡ slab_len old
    pub vacant : new.vacant_key ≡ old.vacant_key
    pub capacity : new.capacity ≡ old.capacity

  -- one slot has another value
  pub record Sets (old new : Slab (Link V)) (key : ℕ) (value : V) : Type 0 where
    pub set : value_at (get new key) ≡ value ∷ []
    pub nexts : (k : ℕ) → next_of (get new k) ≡ next_of (get old k)
    pub others : (k : ℕ) → k ≢ key → get new k ≡ get old k
    pub len : slab_len new ≡ slab_len old
    pub capacity : new.capacity ≡ old.capacity

  -- a value took the vacant slot, which follows the last slot of a chain, if there is one
  pub record Pushes (old new : Slab (Link V)) (held : Option Chain) (value : V) : Type 0 where
    pub vacant : get old old.vacant_key ≡ None
    pub added : value_at (get new old.vacant_key) ≡ value ∷ []
    pub joined : (key : ℕ) → IsLastSlot held key → next_of (get new key) ≡ old.vacant_key
    pub values : (k : ℕ) → k ≢ old.vacant_key → value_at (get new k) ≡ value_at (get old k)
    pub others : (k : ℕ) → k ≢ old.vacant_key → (IsLastSlot held k → ⊥) → get new k ≡ get old k
    pub len : slab_len new ≡ slab_len old + 1
    pub capacity : new.capacity ≡ old.capacity

  -- the value at a place of a chain left its slot, and the slots before and after it were joined
  pub record TakesOut (old new : Slab (Link V)) (chain : Chain) (place : ℕ) (value : V) (rest : Chain) : Type 0 where
    pub front : List ℕ
    pub key : ℕ
    pub back : List ℕ
    pub place_of : length front ≡ place
    pub were : chain_keys (get old) chain ≡ front ++ key ∷ back
    pub are : chain_keys (get new) rest ≡ front ++ back
    pub count : rest.count + 1 ≡ chain.count
    pub last : 0 < rest.count → key_after (get new) (rest.count - 1) rest.first ≡ rest.last
    pub broken : rest.in_line ≡ false
    pub was : value_at (get old key) ≡ value ∷ []
    pub gone : get new key ≡ None
    pub values : (k : ℕ) → k ≢ key → value_at (get new k) ≡ value_at (get old k)
    pub others : (k : ℕ) → AllByRecursion (λ other. other ≢ k) (chain_keys (get old) chain) → get new k ≡ get old k
    pub len : slab_len new + 1 ≡ slab_len old
    pub room : HasRoomFor new 1
    pub capacity : new.capacity ≡ old.capacity
