-- Thresholds: their number, and the bounds that their sides are.
use Rattle.std.proofs.Common.{◌≡◌, ℕ, ◌+◌, ◌<◌, ◌≤◌, ◌⊎◌, ◌^◌, inl, inr, List, [], ◌∷◌, Bool, true, false, Option, Some, None, arith, refl, sym, subst, ap}
use Rattle.std.specs.Prelude.{ℤ, pos, neg_ℤ, nat_abs, ◌-ℤ◌, Contains, map, flat_map, ◌==◌}
use Rattle.std.specs.List.{range_with_len, list_any}
use Rattle.std.specs.Ordering.{int_eq}
use Rattle.std.proofs.lemmas.Int.{ints}
use Rattle.std.proofs.lemmas.List.Elements.{Contains-append_cases, Contains-append_left}
use Rattle.std.proofs.lemmas.Map.Views.{Contains-from_any}
use Rattle.std.proofs.lemmas.Bool.Decides.{Decides-int_eq, nat_tests}
use Rattle.lrp_theory.specs.Divides.{Divides}
use Rattle.lrp_theory.specs.Entries.{entry, node, AtMost}
use Rattle.lrp_theory.proofs.Modulo.{Divides--, Divides-neg, Divides-self, Divides-is}
use Rattle.lrp_model.specs.declared.relations.Bound.{Bound}
use Rattle.lrp_model.specs.Cuts.{threshold, distinct}
use Rattle.lrp_zone.specs.Zones.{ZoneView, IsZone, IsTight, columns_of, reach_of}
use Rattle.lrp_zone.specs.Pairs.{IsOfCell}
use Rattle.lrp_zone.proofs.Reaches.{reach_small}
use Rattle.lrp_cutting.specs.declared.pairs.NodePair.{NodePair}
use Rattle.lrp_cutting.specs.Differences.{AreOfCell}
use Rattle.lrp_cutting.specs.Halves.{CanBeStored, other_side}
use Rattle.lrp_cutting.specs.Thresholds.{bound_there, stored_bounds, bound_list, thresholds_of, all_thresholds}
use Rattle.lrp_cutting.specs.Cutting.{IsPairOf}
use Rattle.lrp_cutting.proofs.Lists.{in_none, in_one, one_in, in_cons, later, in_flat, in_range}

-- ---- number
-- the integers of a list are among those that are each once
any_or : (b : Bool) → (b ≡ true) ⊎ (b ≡ false)
any_or true = inl refl
any_or false = inr refl

exact : (x y : ℤ) → int_eq x y ≡ true → x ≡ y
exact x y h = (Decides-int_eq x y).0 h

pub in_distinct : (zs : List ℤ) (q : ℤ) → Contains zs q → Contains (distinct zs) q
in_distinct [] q h = h
in_distinct (z ∷ zs) q h = elim (any_or (list_any (int_eq z) zs)) [
  | inl e ↦ rw e (elim (in_cons z zs q h) [
    | inl same ↦ in_distinct zs q (subst (λ y. Contains zs y) same (Contains-from_any exact z zs e))
    | inr m ↦ in_distinct zs q m
  ])
  | inr e ↦ rw e (elim (in_cons z zs q h) [
    | inl same ↦ subst (λ y. Contains (z ∷ distinct zs) y) same (Contains-append_left (z ∷ []) (distinct zs) z (one_in z))
    | inr m ↦ later z (distinct zs) q (in_distinct zs q m)
  ])
]

-- the bound at a place
abbrev bound : ℕ → ℕ → ℤ → Bound
bound i j a = record { left = i; right = j; most = a }

there : (i j : ℕ) (e : Option ℤ) (a : ℤ) → e ≡ Some a → Contains (bound_there i j e) (bound i j a)
there i j e a q = rw q (one_in (bound i j a))

-- a stored bound is listed
in_bounds : (c : ZoneView) (i j : ℕ) (a : ℤ) → i ≤ columns_of c → j ≤ columns_of c → entry c.bounds i j ≡ Some a → Contains (stored_bounds c) (bound i j a)
unfolding stored_bounds
in_bounds c i j a il jl q =
    in_flat (λ p. flat_map (λ r. bound_there p r (entry c.bounds p r)) (range_with_len 0 (columns_of c + 1))) (range_with_len 0 (columns_of c + 1)) i (bound i j a) (in_range (columns_of c + 1) i (omega arith))
    (in_flat (λ r. bound_there i r (entry c.bounds i r)) (range_with_len 0 (columns_of c + 1)) j (bound i j a) (in_range (columns_of c + 1) j (omega arith)) (there i j (entry c.bounds i j) a q))

same_number : (i : ℕ) → (i == i) ≡ true
same_number i = grind (arith, nat_tests)

other_number : (i j : ℕ) → i < j → (j == i) ≡ false
other_number i j l = grind (arith, nat_tests)

own_side : (k : ℤ) (i j : ℕ) (a : ℤ) → Contains (threshold k i j (bound i j a)) a
own_side k i j a = rw (same_number i, same_number j) (one_in a)

turned_side : (k : ℤ) (i j : ℕ) (b : ℤ) → i < j → Contains (threshold k i j (bound j i b)) (neg_ℤ b -ℤ k)
turned_side k i j b l = rw (other_number i j l, same_number j, same_number i) (one_in (neg_ℤ b -ℤ k))

listed_is : (e : Option ℤ) (t : ℤ) → Contains (bound_list e) t → e ≡ Some t
listed_is None t h = absurd (in_none t h)
listed_is (Some a) t h = ap Some (in_one a t h)

mapped_is : (k : ℕ) (e : Option ℤ) (t : ℤ) → Contains (map (λ b. neg_ℤ b -ℤ pos k) (bound_list e)) t → (b : ℤ) × (e ≡ Some b) × (t ≡ neg_ℤ b -ℤ pos k)
mapped_is k None t h = absurd (in_none t h)
mapped_is k (Some b) t h = (b, refl, sym (in_one (neg_ℤ b -ℤ pos k) t h))

-- a threshold of one cutter is given by a bound of its, or by the bound in the other direction
pub threshold_is : (k : ℕ) (p : NodePair) (c : ZoneView) (t : ℤ) → Contains (thresholds_of k p c) t → (entry c.bounds p.left p.right ≡ Some t) ⊎ ((b : ℤ) × (entry c.bounds p.right p.left ≡ Some b) × (t ≡ neg_ℤ b -ℤ pos k))
threshold_is k p c t h = elim (Contains-append_cases (bound_list (entry c.bounds p.left p.right)) (map (λ b. neg_ℤ b -ℤ pos k) (bound_list (entry c.bounds p.right p.left))) t h) [
  | inl a ↦ inl (listed_is (entry c.bounds p.left p.right) t a)
  | inr b ↦ inr (mapped_is k (entry c.bounds p.right p.left) t b)
]

-- a threshold of all cutters is one of some cutter
pub some_cutter : (k : ℕ) (p : NodePair) (cutters : List ZoneView) (t : ℤ) → Contains (all_thresholds k p cutters) t → (c : ZoneView) × Contains cutters c × Contains (thresholds_of k p c) t
some_cutter k p [] t h = absurd (in_none t h)
some_cutter k p (d ∷ ds) t h = elim (Contains-append_cases (thresholds_of k p d) (all_thresholds k p ds) t h) [
  | inl a ↦ (d, Contains-append_left (d ∷ []) ds d (one_in d), a)
  | inr b ↦ (let r : (c : ZoneView) × Contains ds c × Contains (thresholds_of k p c) t = some_cutter k p ds t b in (r.0, later d ds r.0 r.1, r.2))
]

mapped : (f : ZoneView → List Bound) (cs : List ZoneView) (c : ZoneView) → Contains cs c → Contains (map f cs) (f c)
mapped f [] c h = absurd (in_none c h)
mapped f (d ∷ ds) c h = elim (in_cons d ds c h) [
  | inl e ↦ subst (λ y. Contains (f d ∷ map f ds) (f y)) e (Contains-append_left (f d ∷ []) (map f ds) (f d) (one_in (f d)))
  | inr m ↦ later (f d) (map f ds) (f c) (mapped f ds c m)
]

pub pair_of : (z c : ZoneView) (p : NodePair) → IsOfCell z c → IsPairOf z p → IsPairOf c p
pair_of z c p cell is = record { rising = is.rising; high = rw cell.residues is.high }

-- a threshold that a cutter gives is one of the listed bounds of the cutters
pub counted : (z : ZoneView) (p : NodePair) (cutters : List ZoneView) → AreOfCell z cutters → IsPairOf z p → (t : ℤ) → Contains (all_thresholds z.period p cutters) t
    → Contains (flat_map (λ bounds. flat_map (threshold (pos z.period) p.left p.right) bounds) (map stored_bounds cutters)) t
counted z p cutters cells is t h =
    let r : (c : ZoneView) × Contains cutters c × Contains (thresholds_of z.period p c) t = some_cutter z.period p cutters t h in
    let q : IsPairOf r.0 p = pair_of z r.0 p (cells.each r.0 r.1) is in
    let up : p.left < p.right = q.rising in
    let high : p.right ≤ columns_of r.0 = q.high in
    in_flat (λ bounds. flat_map (threshold (pos z.period) p.left p.right) bounds) (map stored_bounds cutters) (stored_bounds r.0) t (mapped stored_bounds cutters r.0 r.1) (elim (threshold_is z.period p r.0 t r.2) [
      | inl e ↦ in_flat (threshold (pos z.period) p.left p.right) (stored_bounds r.0) (bound p.left p.right t) t (in_bounds r.0 p.left p.right t (omega arith) high e) (own_side (pos z.period) p.left p.right t)
      | inr w ↦ in_flat (threshold (pos z.period) p.left p.right) (stored_bounds r.0) (bound p.right p.left w.0) t (in_bounds r.0 p.right p.left w.0 high (omega arith) w.1)
          (subst (λ y. Contains (threshold (pos z.period) p.left p.right (bound p.right p.left w.0)) y) (sym w.2) (turned_side (pos z.period) p.left p.right w.0 up))
    ])

-- ---- sides
tight_some : (k : ℕ) (w : ℤ) (e : Option ℤ) (a : ℤ) → e ≡ Some a → IsTight (pos k) w e → Divides (pos k) (a -ℤ w)
tight_some k w e a q h = let t : IsTight (pos k) w (Some a) = subst (λ x. IsTight (pos k) w x) q h in t.0

small_some : (h : ℕ) (e : Option ℤ) (a : ℤ) → e ≡ Some a → AtMost h e → nat_abs a ≤ h
small_some h e a q s = let t : AtMost h (Some a) = subst (λ x. AtMost h x) q s in omega (arith, ints)

-- the other side of a bound with a magnitude of at most h
other_small : (h k : ℕ) (a : ℤ) → nat_abs a ≤ h → nat_abs (neg_ℤ a -ℤ pos k) ≤ h + k
other_small h k a l = omega (arith, ints)

-- the other side of a tight bound is tight
other_tight : (k : ℕ) (a x y : ℤ) → Divides (pos k) (a -ℤ (x -ℤ y)) → Divides (pos k) ((neg_ℤ a -ℤ pos k) -ℤ (y -ℤ x))
other_tight k a x y d = Divides-is (pos k) (neg_ℤ (a -ℤ (x -ℤ y)) -ℤ pos k) _ (omega (arith, ints)) (Divides-- (pos k) _ _ (Divides-neg (pos k) _ d) (Divides-self (pos k)))

module _ (z : ZoneView) (c : ZoneView) (cell : IsOfCell z c) (valid : IsZone c) (h : ℕ) (low : reach_of c + z.period ≤ h) (high : h ≤ 2 ^ 62) where
  -- a stored bound of a cutter, and its other side
  pub own_stored : (i j : ℕ) (a : ℤ) → i ≤ columns_of z → j ≤ columns_of z → (i ≡ j → ⊥) → entry c.bounds i j ≡ Some a → CanBeStored z (bound i j a) × CanBeStored z (other_side z.period (bound i j a)) × (nat_abs a ≤ h) × (nat_abs (neg_ℤ a -ℤ pos z.period) ≤ h)
  own_stored i j a il jl ne q =
      let ic : i ≤ columns_of c = rw cell.residues il in
      let jc : j ≤ columns_of c = rw cell.residues jl in
      let tight : Divides (pos c.period) (a -ℤ (node c.residues i -ℤ node c.residues j)) = tight_some c.period (node c.residues i -ℤ node c.residues j) (entry c.bounds i j) a q (valid.shape.tight i j ic jc) in
      let d : Divides (pos z.period) (a -ℤ (node z.residues i -ℤ node z.residues j)) = subst (λ k. Divides (pos k) (a -ℤ (node z.residues i -ℤ node z.residues j))) cell.period (subst (λ rs. Divides (pos c.period) (a -ℤ (node rs i -ℤ node rs j))) cell.residues tight) in
      let small : nat_abs a ≤ reach_of c = small_some (reach_of c) (entry c.bounds i j) a q ((reach_small c (reach_of c) (omega arith)).each i j (omega arith) (omega arith)) in
      let far : nat_abs (neg_ℤ a -ℤ pos z.period) ≤ reach_of c + z.period = other_small (reach_of c) z.period a small in (
        record { left = il; right = jl; apart = ne; tight = d; small = omega arith },
        record { left = jl; right = il; apart = λ e. ne (sym e); tight = other_tight z.period a (node z.residues i) (node z.residues j) d; small = omega arith },
        omega arith,
        omega arith,
      )
