-- Chains of the places at which owners of values stand, linked in both directions.
use Rattle.std.specs.Prelude.{◌≡◌, ◌≢◌, ℕ, ◌+◌, ◌<◌, ◌≤◌, List, length, map, Contains, ◌^◌, Option, Some, None, IsSome, IfSome, slice_get, slice_set, slice_index_or}
use Rattle.std.specs.Option.{option_map}
use Rattle.slab.specs.Slab.{Slab, get, slab_len}
use Rattle.lrp_holdings.specs.declared.chains.OwnerLink.{OwnerLink}
use Rattle.lrp_holdings.specs.declared.chains.Owner.{Owner}
use Rattle.lrp_holdings.specs.declared.chains.Holding.{Holding}
use Rattle.lrp_holdings.specs.Holdings.{Held}

-- an owner that no chain has
abbrev pub loose_owner : ℕ → Owner
loose_owner number = record { number = number; before = None; next = None }

-- the first link of an owner's chain
abbrev pub first_of : List (Option OwnerLink) → ℕ → Option OwnerLink
first_of chains number = slice_index_or chains number None

abbrev pub with_next : Option OwnerLink → Owner → Owner
with_next next o = record { number = o.number; before = o.before; next = next }

abbrev pub with_before : Option OwnerLink → Owner → Owner
with_before before o = record { number = o.number; before = before; next = o.next }

-- one owner of a list is changed
pub record IsSetAt (f : Owner → Owner) (old new : List Owner) (place : ℕ) : Type 0 where
  pub there : (o : Owner) → slice_get old place ≡ Some o → slice_get new place ≡ Some (f o)
  pub others : (i : ℕ) → i ≢ place → slice_get new i ≡ slice_get old i
  pub size : length new ≡ length old

-- where the link of an owner is the first of its chain, the chain begins after it
pub record IsLedTo (owner : Owner) (old new : List (Option OwnerLink)) : Type 0 where
  pub first : owner.before ≡ None → new ≡ slice_set old owner.number owner.next
  pub later : (link : OwnerLink) → owner.before ≡ Some link → new ≡ old

-- more owners may have a chain, and all chains begin as they did
pub record HasRoomForFirst (old new : List (Option OwnerLink)) : Type 0 where
  pub more : length old ≤ length new
  pub same : (number : ℕ) → first_of new number ≡ first_of old number

-- the links at which owners stand are linked: each chain begins where nothing is before, `before` is the inverse of `next`, and who goes back comes to the beginning
pub record AreChained (Stands : OwnerLink → Owner → Type 0) (chains : List (Option OwnerLink)) : Type 0 where
  pub serial : OwnerLink → ℕ
  pub room : (l : OwnerLink) (o : Owner) → Stands l o → o.number < length chains
  pub first_to : (l : OwnerLink) (o : Owner) → Stands l o → o.before ≡ None → first_of chains o.number ≡ Some l
  pub first_from : (n : ℕ) (l : OwnerLink) → first_of chains n ≡ Some l → (o : Owner) × Stands l o × (o.number ≡ n) × (o.before ≡ None)
  pub next : (l : OwnerLink) (o : Owner) (m : OwnerLink) → Stands l o → o.next ≡ Some m → (p : Owner) × Stands m p × (p.number ≡ o.number) × (p.before ≡ Some l)
  pub before : (l : OwnerLink) (o : Owner) (m : OwnerLink) → Stands l o → o.before ≡ Some m → (p : Owner) × Stands m p × (p.number ≡ o.number) × (p.next ≡ Some l) × (serial m < serial l)

module _ {V : Type 0} where
  -- the owner at a place of a slot's list
  abbrev pub owner_in : Option (Holding V) → ℕ → Option Owner
  owner_in None place = None
  owner_in (Some holding) place = slice_get holding.owners.items place

  abbrev pub owner_at : (ℕ → Option (Holding V)) → OwnerLink → Option Owner
  owner_at slots link = owner_in (slots link.slot) link.place

  -- so many owners that their places are numbers of 32 bits
  abbrev pub IsShort : Option (Holding V) → Type 0
  IsShort slot = IfSome slot (λ h. length h.owners.items < 2 ^ 32)

  -- the value in a slot and the numbers of its owners, if there is one
  abbrev pub held_in : Option (Holding V) → Option (Held V)
  held_in slot = option_map (λ h. record { owners = map (λ (o : Owner). o.number) h.owners.items; value = h.value }) slot

  -- links may have changed, but no value and no owner
  pub record IsRelinked (old new : Slab (Holding V)) : Type 0 where
    pub held : (slot : ℕ) → held_in (get new slot) ≡ held_in (get old slot)
    pub len : slab_len new ≡ slab_len old
    pub capacity : new.capacity ≡ old.capacity

  -- the owner at a link, if there is one, is changed
  pub record IsChanged (f : Owner → Owner) (old new : Slab (Holding V)) (link : Option OwnerLink) : Type 0 where
    pub there : (l : OwnerLink) (o : Owner) → link ≡ Some l → owner_at (get old) l ≡ Some o → owner_at (get new) l ≡ Some (f o)
    pub others : (m : OwnerLink) → link ≢ Some m → owner_at (get new) m ≡ owner_at (get old) m
    pub same : IsRelinked old new

  -- all links are chained
  abbrev pub AreAllChained : Slab (Holding V) → List (Option OwnerLink) → Type 0
  AreAllChained slots chains = AreChained (λ m o. owner_at (get slots) m ≡ Some o) chains

  -- all but those of the slot whose place is lower
  abbrev pub AreChainedFrom : Slab (Holding V) → List (Option OwnerLink) → ℕ → ℕ → Type 0
  AreChainedFrom slots chains slot place = AreChained (λ m o. (owner_at (get slots) m ≡ Some o) × (m.slot ≡ slot → place ≤ m.place)) chains

  -- all but those of the slot whose place is not lower
  abbrev pub AreChainedBelow : Slab (Holding V) → List (Option OwnerLink) → ℕ → ℕ → Type 0
  AreChainedBelow slots chains slot place = AreChained (λ m o. (owner_at (get slots) m ≡ Some o) × (m.slot ≡ slot → m.place < place)) chains

  -- these are no one's next, and their owners can have chains
  pub record AreLoose (slots : Slab (Holding V)) (chains : List (Option OwnerLink)) (slot place : ℕ) : Type 0 where
    pub first : (m : OwnerLink) (o : Owner) → m.slot ≡ slot → place ≤ m.place → owner_at (get slots) m ≡ Some o → o.before ≡ None
    pub room : (m : OwnerLink) (o : Owner) → m.slot ≡ slot → place ≤ m.place → owner_at (get slots) m ≡ Some o → o.number < length chains

  -- one value is let go
  pub record IsLetGo (old new : Slab (Holding V)) (slot : ℕ) : Type 0 where
    pub gone : held_in (get new slot) ≡ None
    pub others : (k : ℕ) → k ≢ slot → held_in (get new k) ≡ held_in (get old k)
    pub len : slab_len new + 1 ≡ slab_len old
    pub capacity : new.capacity ≡ old.capacity

  -- each value that the owner holds is let go, and no other
  pub record IsReleasedFrom (number : ℕ) (old new : Slab (Holding V)) : Type 0 where
    pub to : (slot : ℕ) (h : Held V) → held_in (get new slot) ≡ Some h → (held_in (get old slot) ≡ Some h) × (Contains h.owners number → ⊥)
    pub from : (slot : ℕ) (h : Held V) → held_in (get old slot) ≡ Some h → (Contains h.owners number → ⊥) → held_in (get new slot) ≡ Some h
    pub capacity : new.capacity ≡ old.capacity

  -- all links are chained, and each value has a slot below the capacity
  pub record IsHeldInChains (slots : Slab (Holding V)) (chains : List (Option OwnerLink)) : Type 0 where
    pub chained : AreAllChained slots chains
    pub within : (slot : ℕ) → IsSome (get slots slot) → slot < slots.capacity
    pub short : (slot : ℕ) → IsShort (get slots slot)
