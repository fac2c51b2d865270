-- Parts that no threshold of cutters divides: halves of them along the cutters' bounds, and parts of parts.
use Rattle.std.proofs.Common.{◌≡◌, ℕ, ◌+◌, ◌<◌, ◌≤◌, ◌⊎◌, inl, inr, List, [], ◌∷◌, length, arith, sym, subst}
use Rattle.std.specs.Prelude.{ℤ, pos, neg_ℤ, ◌-ℤ◌, ◌+ℤ◌, ◌≤ℤ◌, ◌↔◌, Contains, map}
use Rattle.std.proofs.lemmas.Int.{ints, by_lt_z}
use Rattle.std.proofs.lemmas.List.Elements.{Contains-append_left, Contains-append_right}
use Rattle.lrp_theory.specs.Divides.{Divides}
use Rattle.lrp_theory.specs.Entries.{entry, node}
use Rattle.lrp_theory.proofs.Modulo.{Divides--, Divides-is, multiple_below}
use Rattle.lrp_model.specs.declared.relations.Bound.{Bound}
use Rattle.lrp_zone.specs.Zones.{ZoneView, IsZone, IsMember, columns_of}
use Rattle.lrp_zone.specs.Pairs.{IsOfCell}
use Rattle.lrp_cutting.specs.declared.pairs.NodePair.{NodePair}
use Rattle.lrp_cutting.specs.Halves.{IsWithinBound, CanBeStored, IsHalf, other_side}
use Rattle.lrp_cutting.specs.Leaving.{IsStoredBound, IsUndivided, LieAlike}
use Rattle.lrp_cutting.specs.Thresholds.{all_thresholds, bound_list, thresholds_of}
use Rattle.lrp_cutting.proofs.Lists.{below_or, from_flat, head_in, in_flat, in_map, one_in}

-- ---- both sides of a bound
-- a difference of the cell that is above a tight bound is so by a period
above_by_period : (k d t : ℤ) → pos 1 ≤ℤ k → Divides k (d -ℤ t) → (d ≤ℤ t) ⊎ ((t +ℤ k) ≤ℤ d)
above_by_period k d t one div = by_lt_z t d
    (λ lt. by_lt_z (d -ℤ t) k
    (λ less. let none : (d -ℤ t) ≤ℤ pos 0 = multiple_below k (d -ℤ t) div one less in absurd (omega (arith, ints)))
    (λ far. inr (omega (arith, ints))))
    (λ le. inl le)

-- a tuple of the cell meets a bound that is tight, or its other side
pub either_side : (z : ZoneView) (b : Bound) (xs : List ℤ) → IsZone z → CanBeStored z b → IsMember z xs → IsWithinBound b xs ⊎ IsWithinBound (other_side z.period b) xs
either_side z b xs valid can m =
    let low : 0 < z.period = valid.shape.period_low in
    let i : Divides (pos z.period) (node xs b.left -ℤ node z.residues b.left) = m.cell.each b.left can.left in
    let j : Divides (pos z.period) (node xs b.right -ℤ node z.residues b.right) = m.cell.each b.right can.right in
    let d : Divides (pos z.period) (((node xs b.left -ℤ node z.residues b.left) -ℤ (node xs b.right -ℤ node z.residues b.right)) -ℤ (b.most -ℤ (node z.residues b.left -ℤ node z.residues b.right))) =
    Divides-- (pos z.period) _ _ (Divides-- (pos z.period) _ _ i j) can.tight in
    elim (above_by_period (pos z.period) (node xs b.left -ℤ node xs b.right) b.most (omega (arith, ints)) (Divides-is (pos z.period) _ _ (omega (arith, ints)) d)) [
      | inl a ↦ inl a
      | inr a ↦ inr (omega (arith, ints))
    ]

-- no tuple meets a bound and its other side
pub not_both : (k : ℕ) (b : Bound) (xs : List ℤ) → 0 < k → IsWithinBound b xs → IsWithinBound (other_side k b) xs → ⊥
not_both k b xs low h g = absurd (omega (arith, ints))

-- ---- tuples that lie alike
-- they lie alike for fewer cutters
pub alike_fewer : (z : ZoneView) (cutters fewer : List ZoneView) (xs ys : List ℤ) → ((w : ZoneView) → Contains fewer w → Contains cutters w) → LieAlike z cutters xs ys → LieAlike z fewer xs ys
alike_fewer z cutters fewer xs ys of a = record {
  each = λ p is t l.
      let f : (w : ZoneView) × Contains fewer w × Contains (thresholds_of z.period p w) t = from_flat (thresholds_of z.period p) fewer t l in
      a.each p is t (in_flat (thresholds_of z.period p) cutters f.0 t (of f.0 f.1) f.2);
}

-- the other way round
pub alike_back : (z : ZoneView) (cutters : List ZoneView) (xs ys : List ℤ) → LieAlike z cutters xs ys → LieAlike z cutters ys xs
alike_back z cutters xs ys a = record { each = λ p is t l. (let s = a.each p is t l in (s.1, s.0)) }

-- and in another zone of the cell
pub alike_moved : (z w : ZoneView) (cutters : List ZoneView) (xs ys : List ℤ) → IsOfCell z w → LieAlike z cutters xs ys → LieAlike w cutters xs ys
alike_moved z w cutters xs ys cell a = record {
  each = λ p is t l. a.each p (record { rising = is.rising; high = subst (λ rs. p.right ≤ length rs) cell.residues is.high }) t (subst (λ k. Contains (all_thresholds k p cutters) t) cell.period l);
}

-- so they are on the same side of each stored bound of a cutter
module _ (z c : ZoneView) (b : Bound) (zone : IsZone z) (cell : IsOfCell z c) (valid : IsZone c) (is : IsStoredBound c b) (can : CanBeStored z b) (xs ys : List ℤ) (a : LieAlike z (c ∷ []) xs ys) where
  left_high : b.left ≤ columns_of z
  left_high = subst (λ rs. b.left ≤ length rs) cell.residues is.left

  right_high : b.right ≤ columns_of z
  right_high = subst (λ rs. b.right ≤ length rs) cell.residues is.right

  in_bounds : Contains (bound_list (entry c.bounds b.left b.right)) b.most
  in_bounds = subst (λ e. Contains (bound_list e) b.most) (sym is.is) (one_in b.most)

  is_lower : b.left < b.right → IsWithinBound b xs ↔ IsWithinBound b ys
  is_lower lt =
      let p : NodePair = record { left = b.left; right = b.right } in
      a.each p (record { rising = lt; high = right_high }) b.most
      (in_flat (thresholds_of z.period p) (c ∷ []) c b.most (head_in c []) (Contains-append_left (bound_list (entry c.bounds b.left b.right)) (map (λ n. neg_ℤ n -ℤ pos z.period) (bound_list (entry c.bounds b.right b.left))) b.most in_bounds))

  is_upper : b.right < b.left → IsWithinBound (other_side z.period b) xs ↔ IsWithinBound (other_side z.period b) ys
  is_upper lt =
      let p : NodePair = record { left = b.right; right = b.left } in
      let t : ℤ = neg_ℤ b.most -ℤ pos z.period in
      a.each p (record { rising = lt; high = left_high }) t
      (in_flat (thresholds_of z.period p) (c ∷ []) c t (head_in c []) (Contains-append_right (bound_list (entry c.bounds b.right b.left)) (map (λ n. neg_ℤ n -ℤ pos z.period) (bound_list (entry c.bounds b.left b.right))) t (in_map (λ n. neg_ℤ n -ℤ pos z.period) (bound_list (entry c.bounds b.left b.right)) b.most in_bounds)))

module _ (z c : ZoneView) (b : Bound) (zone : IsZone z) (cell : IsOfCell z c) (valid : IsZone c) (is : IsStoredBound c b) (can : CanBeStored z b) where
  -- what is on one side of a tuple's bound is so for those alike
  pub same_inner : (xs ys : List ℤ) → IsMember z xs → IsMember z ys → LieAlike z (c ∷ []) xs ys → IsWithinBound b xs → IsWithinBound b ys
  same_inner xs ys mx my a h = by_order (below_other b.left b.right)
    where
      below_other : (i j : ℕ) → (i < j) ⊎ ((j < i) ⊎ (i ≡ j))
      below_other i j = elim (below_or i j) [ inl lt ↦ inl lt | inr ge ↦ elim (below_or j i) [ inl lt ↦ inr (inl lt) | inr le ↦ inr (inr (omega arith)) ] ]

      by_order : (b.left < b.right) ⊎ ((b.right < b.left) ⊎ (b.left ≡ b.right)) → IsWithinBound b ys
      by_order (inl lt) = (is_lower z c b zone cell valid is can xs ys a lt).0 h
      by_order (inr (inl gt)) = elim (either_side z b ys zone can my) [
        | inl i ↦ i
        | inr o ↦ absurd (not_both z.period b xs zone.shape.period_low h ((is_upper z c b zone cell valid is can xs ys a gt).1 o))
      ]
      by_order (inr (inr e)) = absurd (can.apart e)

  pub same_outer : (xs ys : List ℤ) → IsMember z xs → IsMember z ys → LieAlike z (c ∷ []) xs ys → IsWithinBound (other_side z.period b) xs → IsWithinBound (other_side z.period b) ys
  same_outer xs ys mx my a o = elim (either_side z b ys zone can my) [
    | inl i ↦ absurd (not_both z.period b xs zone.shape.period_low (same_inner ys xs my mx (alike_back z (c ∷ []) xs ys a) i) o)
    | inr k ↦ k
  ]

-- ---- parts that no threshold divides
-- the whole zone
pub whole_undivided : (z : ZoneView) (cutters : List ZoneView) → IsUndivided z cutters z
whole_undivided z cutters = record { each = λ xs ys m n a. n }

-- a part that fewer cutters do not divide
pub undivided_more : (z : ZoneView) (cutters fewer : List ZoneView) (w : ZoneView) → ((v : ZoneView) → Contains fewer v → Contains cutters v) → IsUndivided z fewer w → IsUndivided z cutters w
undivided_more z cutters fewer w of u = record { each = λ xs ys m n a. u.each xs ys m n (alike_fewer z cutters fewer xs ys of a) }

-- a part of a part
pub part_of_part : (z w : ZoneView) (cutters met : List ZoneView) (v : ZoneView) → IsOfCell z w → ((c : ZoneView) → Contains met c → Contains cutters c) → ((xs : List ℤ) → IsMember v xs → IsMember w xs) → IsUndivided z cutters w → IsUndivided w met v → IsUndivided z cutters v
part_of_part z w cutters met v cell of inside whole own = record {
  each = λ xs ys m n a. own.each xs ys m (whole.each xs ys (inside xs m) n a) (alike_moved z w met xs ys cell (alike_fewer z cutters met xs ys of a));
}

-- a half of such a part along a bound on whose side the tuples that lie alike are together
pub half_undivided : (z rest half : ZoneView) (cutters : List ZoneView) (b : Bound) → ((xs : List ℤ) → IsMember rest xs → IsMember z xs) → IsUndivided z cutters rest → IsHalf rest b half
    → ((xs ys : List ℤ) → IsMember z xs → IsMember z ys → LieAlike z cutters xs ys → IsWithinBound b xs → IsWithinBound b ys) → IsUndivided z cutters half
half_undivided z rest half cutters b inside whole is same = record {
  each = λ xs ys m n a.
      let p : IsMember rest xs × IsWithinBound b xs = is.to xs m in
      is.from ys (whole.each xs ys p.0 n a) (same xs ys (inside xs p.0) n a p.1);
}
