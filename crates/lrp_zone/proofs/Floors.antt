-- Bounds that are tightened to a residue.
use Rattle.std.proofs.Common.{◌≡◌, ℕ, ◌+◌, ◌-◌, ◌^◌, ◌<◌, ◌≤◌, Option, Some, None, to_z, of_z, arith, refl, sym, subst, inl, inr, ◌⊎◌}
use Rattle.std.specs.Int.{w128}
use Rattle.std.specs.Prelude.{ℤ, pos, nat_abs, ◌+ℤ◌, ◌-ℤ◌, ◌≤ℤ◌, ◌<ℤ◌, neg_ℤ}
use Rattle.std.proofs.lemmas.Int.{ints, by_lt_z}
use Rattle.lrp_theory.specs.Bounds.{Within}
use Rattle.lrp_theory.specs.Divides.{Divides}
use Rattle.lrp_theory.specs.Entries.{AtMost}
use Rattle.lrp_theory.proofs.Modulo.{Divides-+, Divides-is, Divides-self}
use Rattle.lrp_theory.proofs.Floor.{Agrees}
use Rattle.lrp_zone.specs.Zones.{IsTight}
use Rattle.lrp_zone.specs.Tight.{CanTighten, IsTightened, IsStored}
use Rattle.lrp_theory.specs.Residues.{IsFloor}

-- what tightening a number gives is its floor
pub floor_of : (k w a r l u b : ℤ) → r ≤ℤ b → Divides l (r -ℤ u) → ((c : ℤ) → c ≤ℤ b → Divides l (c -ℤ u) → c ≤ℤ r) → l ≡ k → u ≡ w → b ≡ a → IsFloor k w a r
floor_of k w a r l u b below tight greatest e f g = rw (← e, ← f, ← g) (record { below = below; tight = tight; greatest = greatest })

-- a floor is less than k below its number
pub floor_above : (k w a v : ℤ) → pos 1 ≤ℤ k → IsFloor k w a v → (a -ℤ k) <ℤ v
floor_above k w a v one f = by_lt_z (a -ℤ k) v
    (λ lt. lt)
    (λ le. let g : (v +ℤ k) ≤ℤ v = f.greatest (v +ℤ k) (omega (arith, ints)) (Divides-is k ((v -ℤ w) +ℤ k) _ (omega (arith, ints)) (Divides-+ k _ _ f.tight (Divides-self k))) in absurd (omega (arith, ints)))

-- a number of the residue is its own floor
pub floor_own : (k w a v : ℤ) → Divides k (a -ℤ w) → IsFloor k w a v → v ≡ a
floor_own k w a v d f = let g : a ≤ℤ v = f.greatest a (omega (arith, ints)) d in let l : v ≤ℤ a = f.below in omega (arith, ints)

-- a floor tightens a bound
pub tightened_some : (k w a r v : ℤ) (e : Option ℤ) → e ≡ Some a → v ≡ r → IsFloor k w a r → IsTightened k w e (Some v)
tightened_some k w a r v e q h s = rw (q, h) (record { none = λ n. cc; some = λ b n. let d : a ≡ b = cc in (r, refl, subst (λ y. IsFloor k w y r) d s) })

-- the tightened bound implies the bound
pub tightened_below : (k w : ℤ) (e f : Option ℤ) (d : ℤ) → IsTightened k w e f → Within d f → Within d e
tightened_below k w None f d h g = tt
tightened_below k w (Some a) f d h g =
    let r : (u : ℤ) × (f ≡ Some u) × IsFloor k w a u = h.some a refl in
    let l : d ≤ℤ r.0 = subst (λ y. Within d y) r.1 g in
    let m : r.0 ≤ℤ a = r.2.below in
    omega (arith, ints)

-- of a difference of the residue the bound implies the tightened one
pub below_tightened : (k w : ℤ) (e f : Option ℤ) (d : ℤ) → IsTightened k w e f → Divides k (d -ℤ w) → Within d e → Within d f
below_tightened k w None f d h fit g = subst (λ y. Within d y) (sym (h.none refl)) tt
below_tightened k w (Some a) f d h fit g =
    let r : (u : ℤ) × (f ≡ Some u) × IsFloor k w a u = h.some a refl in
    subst (λ y. Within d y) (sym r.1) (r.2.greatest d g fit)

-- a tightened bound has the residue
pub tightened_agrees : (k w : ℤ) (e f : Option ℤ) → IsTightened k w e f → Agrees k w f
tightened_agrees k w None f h = subst (λ y. Agrees k w y) (sym (h.none refl)) tt
tightened_agrees k w (Some a) f h = let r : (u : ℤ) × (f ≡ Some u) × IsFloor k w a u = h.some a refl in subst (λ y. Agrees k w y) (sym r.1) r.2.tight

-- a stored bound is tight
pub stored_tight : (k w : ℤ) (e f : Option ℤ) → IsStored k w e f → IsTight k w f
stored_tight k w e None h = tt
stored_tight k w e (Some v) h = let g : Agrees k w (Some v) = tightened_agrees k w e (Some v) h.tightened in let s : AtMost (2 ^ 62) (Some v) = h.small in (g, s)

-- a tight bound is stored as it is
pub stored_own : (k w a : ℤ) (f : Option ℤ) → Divides k (a -ℤ w) → IsStored k w (Some a) f → f ≡ Some a
stored_own k w a f d h =
    let r : (u : ℤ) × (f ≡ Some u) × IsFloor k w a u = h.tightened.some a refl in
    let s : r.0 ≡ a = floor_own k w a r.0 d r.2 in
    subst (λ v. f ≡ Some v) s r.1

-- tightening adds less than the period to a magnitude
pub tightened_small : (h k : ℕ) (w : ℤ) (e f : Option ℤ) → 0 < k → IsTightened (pos k) w e f → AtMost h e → AtMost (h + (k - 1)) f
tightened_small h k w None f low t s = subst (λ y. AtMost (h + (k - 1)) y) (sym (t.none refl)) tt
tightened_small h k w (Some a) f low t s =
    let r : (v : ℤ) × (f ≡ Some v) × IsFloor (pos k) w a v = t.some a refl in
    subst (λ y. AtMost (h + (k - 1)) y) (sym r.1) (size r.0 r.2 s)
  where
    size : (v : ℤ) → IsFloor (pos k) w a v → (neg_ℤ (pos h) ≤ℤ a) × (a ≤ℤ pos h) → (neg_ℤ (pos (h + (k - 1))) ≤ℤ v) × (v ≤ℤ pos (h + (k - 1)))
    size v g b =
        let b0 : neg_ℤ (pos h) ≤ℤ a = b.0 in
        let b1 : a ≤ℤ pos h = b.1 in
        let t : v ≤ℤ a = g.below in
        let l : (a -ℤ pos k) <ℤ v = floor_above (pos k) w a v (omega (arith, ints)) g in
        (omega (arith, ints), omega (arith, ints))

-- a bound that has room stays within the limit
pub room_small : (k : ℕ) (w : ℤ) (e f : Option ℤ) → 0 < k → k ≤ 2 ^ 62 → ((a : ℤ) → e ≡ Some a → CanTighten (pos k) w a) → IsTightened (pos k) w e f → AtMost (2 ^ 62) f
room_small k w None f low high fits t = subst (λ y. AtMost (2 ^ 62) y) (sym (t.none refl)) tt
room_small k w (Some a) f low high fits t =
    let r : (v : ℤ) × (f ≡ Some v) × IsFloor (pos k) w a v = t.some a refl in
    subst (λ y. AtMost (2 ^ 62) y) (sym r.1) (size r.0 r.2 (fits a refl).room)
  where
    size : (v : ℤ) → IsFloor (pos k) w a v → (Divides (pos k) (a -ℤ w) × (nat_abs a ≤ 2 ^ 62)) ⊎ (nat_abs a + nat_abs (pos k) ≤ 2 ^ 62) → (neg_ℤ (pos (2 ^ 62)) ≤ℤ v) × (v ≤ℤ pos (2 ^ 62))
    size v g (inl o) = let s : nat_abs a ≤ 2 ^ 62 = o.1 in let e : v ≡ a = floor_own (pos k) w a v o.0 g in (omega (arith, ints), omega (arith, ints))
    size v g (inr o) =
        let l : (a -ℤ pos k) <ℤ v = floor_above (pos k) w a v (omega (arith, ints)) g in
        let t : v ≤ℤ a = g.below in
        (omega (arith, ints), omega (arith, ints))

-- ---- numbers in words of memory

-- a number of that size keeps its value in a word
pub word : (r : ℤ) → neg_ℤ (pos (2 ^ 64)) ≤ℤ r → r ≤ℤ pos (2 ^ 64) → to_z w128 (of_z w128 r) ≡ r
word r h g = omega (arith, ints)

-- the floor of a number of 64 bits has 65 at most
pub floor_small : (k : ℕ) (w a v : ℤ) → 0 < k → k ≤ 2 ^ 62 → (neg_ℤ (pos (2 ^ 63)) ≤ℤ a) × (a ≤ℤ pos (2 ^ 63)) → IsFloor (pos k) w a v → (neg_ℤ (pos (2 ^ 64)) ≤ℤ v) × (v ≤ℤ pos (2 ^ 64))
floor_small k w a v low high s f =
    let b : (a -ℤ pos k) <ℤ v = floor_above (pos k) w a v (omega (arith, ints)) f in
    let t : v ≤ℤ a = f.below in
    let s0 : neg_ℤ (pos (2 ^ 63)) ≤ℤ a = s.0 in
    let s1 : a ≤ℤ pos (2 ^ 63) = s.1 in
    (omega (arith, ints), omega (arith, ints))

-- the magnitude of a bound that is there
pub at_most_some : (h : ℕ) (e : Option ℤ) (a : ℤ) → e ≡ Some a → AtMost h e → (neg_ℤ (pos h) ≤ℤ a) × (a ≤ℤ pos h)
at_most_some h e a q s = subst (λ f. AtMost h f) q s
