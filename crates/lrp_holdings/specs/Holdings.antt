-- Values that are held by numbered owners.
use Rattle.std.specs.Prelude.{◌≡◌, ◌≢◌, ℕ, List, [], Contains, Option, Some, None, refl, slice_index_or}
use Rattle.std.specs.Coded.{Coded, code_by, coded×, coded_ℕ, coded_list, coded_option}

-- a value and its owners, in order
pub record Held (V : Type 0) : Type 0 where
  pub owners : List ℕ
  pub value : V

-- what each slot has, from slot 0 on
pub record HoldingsView (V : Type 0) : Type 0 where
  pub slots : List (Option (Held V))

-- it is stored as the list of its slots, each as the pair of its parts
abbrev pub held_code : {V : Type 0} → Coded V → Coded (Held V)
held_code {V} code = code_by (List ℕ × V) (coded× (coded_list coded_ℕ) code) (λ h. (h.owners, h.value)) (λ p. record { owners = p.0; value = p.1 }) (λ _. refl)

abbrev pub holdings_code : {V : Type 0} → Coded V → Coded (HoldingsView V)
holdings_code {V} code = code_by (List (Option (Held V))) (coded_list (coded_option (held_code code))) (λ h. h.slots) (λ s. record { slots = s }) (λ _. refl)

module _ {V : Type 0} where
  -- none where there is no value
  abbrev pub owners_in : Option (Held V) → List ℕ
  owners_in None = []
  owners_in (Some h) = h.owners

  -- what a slot has
  abbrev pub held_at : HoldingsView V → ℕ → Option (Held V)
  held_at h slot = slice_index_or h.slots slot None

  -- the owners of the value in a slot
  abbrev pub owners_at : HoldingsView V → ℕ → List ℕ
  owners_at h slot = owners_in (held_at h slot)

  -- some slot has the value with these owners
  abbrev pub Holds : HoldingsView V → List ℕ → V → Type 0
  Holds h owners value = (slot : ℕ) × (held_at h slot ≡ Some (record { owners = owners; value = value }))

  -- a free slot has the value, and no other slot is changed
  pub record IsHeldToo (numbers : List ℕ) (value : V) (old new : HoldingsView V) : Type 0 where
    pub slot : ℕ
    pub free : held_at old slot ≡ None
    pub there : held_at new slot ≡ Some (record { owners = numbers; value = value })
    pub others : (k : ℕ) → k ≢ slot → held_at new k ≡ held_at old k

  -- each value that the owner holds is let go, and no other
  pub record IsReleased (number : ℕ) (old new : HoldingsView V) : Type 0 where
    pub to : (slot : ℕ) (h : Held V) → held_at new slot ≡ Some h → (held_at old slot ≡ Some h) × (Contains h.owners number → ⊥)
    pub from : (slot : ℕ) (h : Held V) → held_at old slot ≡ Some h → (Contains h.owners number → ⊥) → held_at new slot ≡ Some h
