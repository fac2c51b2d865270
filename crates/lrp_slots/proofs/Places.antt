-- The places of the keys that are remembered.
use Rattle.std.proofs.Common.{◌≡◌, ℕ, zero, suc, ◌<◌, ◌⊎◌, inl, inr, List, [], ◌∷◌, length, map, refl, sym, ap, arith}
use Rattle.std.specs.Prelude.{All, Contains, slice_index_or, slice_set}
use Rattle.std.proofs.lemmas.List.Elements.{All-contains, All-from_get_or, All-map, All-set, All-weaker}
use Rattle.lrp_model.specs.declared.tuples.Cell.{Cell}
use Rattle.lrp_slots.specs.declared.narrow.Narrow.{Narrow}
use Rattle.lrp_slots.specs.Narrow.{wide}

-- the cell of a key is the one that is put, or was remembered
abbrev pub IsOneOf : List Cell → Cell → Narrow → Type 0
IsOneOf old cell key = (wide key ≡ cell) ⊎ Contains old (wide key)

-- the cell of a key at a place is remembered
pub wide_held : (keys : List Narrow) (i : ℕ) (key d : Narrow) → i < length keys → key ≡ slice_index_or keys i d → Contains (map wide keys) (wide key)
wide_held [] i key d lt e = absurd (omega arith)
wide_held (x ∷ keys) zero key d lt e = (0, omega arith, ap wide (sym e))
wide_held (x ∷ keys) (suc i) key d lt e = let h = wide_held keys i key d (omega arith) e in (suc h.0, (let l = h.1 in omega (arith, l)), h.2)

-- so each of them is one of those
all_old : (keys : List Narrow) (cell : Cell) (d : Narrow) → All (IsOneOf (map wide keys) cell) keys
all_old keys cell d = All-from_get_or (IsOneOf (map wide keys) cell) keys d (λ i lt. inr (wide_held keys i (slice_index_or keys i d) d lt refl))

-- and so is another one that is put at a place
pub all_put : (keys : List Narrow) (i : ℕ) (key : Narrow) → All (IsOneOf (map wide keys) (wide key)) (slice_set keys i key)
all_put keys i key = All-set (IsOneOf (map wide keys) (wide key)) keys i key (inl refl) (all_old keys (wide key) key)

-- as many places as before
pub set_some : (keys : List Narrow) (i : ℕ) (key : Narrow) → 0 < length keys → 0 < length (slice_set keys i key)
set_some [] i key lt = lt
set_some (x ∷ keys) zero key lt = lt
set_some (x ∷ keys) (suc i) key lt = omega arith

-- what is remembered where each key is one of these
pub remembered : (old : List Cell) (cell : Cell) (keys : List Narrow) → All (IsOneOf old cell) keys → (other : Cell) → Contains (map wide keys) other → (other ≡ cell) ⊎ Contains old other
remembered old cell keys all other held = All-contains (λ c. (c ≡ cell) ⊎ Contains old c) (map wide keys) other (All-map (λ c. (c ≡ cell) ⊎ Contains old c) wide keys all) held

-- keys that are all the one that is put
pub all_new : (old : List Cell) (key : Narrow) (keys : List Narrow) → All (λ k. k ≡ key) keys → All (IsOneOf old (wide key)) keys
all_new old key keys all = All-weaker (λ k. k ≡ key) (IsOneOf old (wide key)) (λ k e. inl (ap wide e)) keys all
