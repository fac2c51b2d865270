-- The piece of a cell that breaks one bound.
use Rattle.std.proofs.Common.{◌≡◌, ℕ, ◌+◌, ◌-◌, ◌*◌, ◌<◌, ◌≤◌, ◌≢◌, ◌^◌, List, Option, Some, None, Bool, true, false, cond, eqb, arith, refl, sym, ap, subst, ◌∙◌, replicate, length, inl, inr, ◌⊎◌}
use Rattle.std.specs.Prelude.{ℤ, pos, nat_abs, ◌+ℤ◌, ◌-ℤ◌, ◌≤ℤ◌, neg_ℤ}
use Rattle.std.proofs.lemmas.Int.{ints, by_lt_z}
use Rattle.std.proofs.lemmas.Bool.Decides.{nat_tests}
use Rattle.std.proofs.lemmas.List.{get_or-replicate}
use Rattle.lrp_theory.specs.Bounds.{Within}
use Rattle.lrp_theory.specs.Divides.{Divides}
use Rattle.lrp_theory.specs.Entries.{entry, node, AtMost}
use Rattle.lrp_theory.proofs.Modulo.{multiple_below, Divides--, Divides-neg, Divides-is, Divides-zero, Divides-self}
use Rattle.lrp_theory.proofs.Multiples.{Divides-multiple}
use Rattle.lrp_theory.proofs.Lists.{listed}
use Rattle.lrp_zone.specs.Zones.{ZoneView, IsTight, IsShape, IsZone, HasMember, columns_of, reach_of}
use Rattle.lrp_zone.specs.Pieces.{broken_by, IsSingle, IsPiece}
use Rattle.lrp_zone.proofs.Cases.{place_or}
use Rattle.lrp_zone.proofs.Members.{list_member, period_one}
use Rattle.lrp_zone.proofs.Reaches.{reach_small, small_reach}

-- one bound written into a free table stands there alone
pub single_of : (free bounds : List (Option ℤ)) (i j : ℕ) (b : Option ℤ) → i < 9 → j < 9 → free ≡ replicate 81 None → entry bounds i j ≡ b
    → ((p q : ℕ) → q < 9 → (p ≡ i → q ≡ j → ⊥) → entry bounds p q ≡ entry free p q) → IsSingle bounds i j b
single_of free bounds i j b il jl e here others = record {
  here = here;
  others = λ p q pl ql ne. others p q ql ne ∙ (let small : 9 * p + q < 81 = omega arith in rw e (get_or-replicate 81 (9 * p + q) None None small));
}

-- a difference of two values of the cell is equal to a tight bound modulo the period
apart : (k x y r s a : ℤ) → Divides k (x -ℤ r) → Divides k (y -ℤ s) → Divides k (a -ℤ (r -ℤ s)) → Divides k ((x -ℤ y) -ℤ a)
apart k x y r s a p q t = Divides-is k (((x -ℤ r) -ℤ (y -ℤ s)) -ℤ (a -ℤ (r -ℤ s))) ((x -ℤ y) -ℤ a) (omega (arith, ints)) (Divides-- k _ _ (Divides-- k _ _ p q) t)

-- a difference that breaks a tight bound breaks it by the period
breaks : (k d a : ℤ) → pos 1 ≤ℤ k → Divides k (d -ℤ a) → ((d ≤ℤ a) → ⊥) → (a +ℤ k) ≤ℤ d
breaks k d a one h bad = by_lt_z (d -ℤ a) k (λ lt. let z : (d -ℤ a) ≤ℤ pos 0 = multiple_below k (d -ℤ a) h one lt in absurd (bad (omega (arith, ints)))) (λ le. omega (arith, ints))

-- the reverse bound is tight
flip : (k a r s : ℤ) → Divides k (a -ℤ (r -ℤ s)) → Divides k (neg_ℤ (a +ℤ k) -ℤ (s -ℤ r))
flip k a r s h = Divides-is k (neg_ℤ (a -ℤ (r -ℤ s)) -ℤ k) (neg_ℤ (a +ℤ k) -ℤ (s -ℤ r)) (omega (arith, ints)) (Divides-- k _ k (Divides-neg k _ h) (Divides-self k))

-- a multiple of the period is no less than its factor
times_low : (k t : ℕ) → 0 < k → t ≤ k * t
times_low k t h = let e : k ≡ 1 + (k - 1) = omega arith in rw e (omega arith)

module _ (z : ZoneView) (valid : IsZone z) (i j : ℕ) (il : i ≤ columns_of z) (jl : j ≤ columns_of z) (small : reach_of z + z.period ≤ 2 ^ 62) (a : ℤ) (stored : entry z.bounds i j ≡ Some a)
    (bs : List (Option ℤ)) (single : IsSingle bs j i (Some (neg_ℤ (a +ℤ pos z.period)))) where
  -- the zone of the reverse bound alone
  abbrev piece : ZoneView
  piece = record { period = z.period; residues = z.residues; bounds = bs }

  -- the period is at least 1
  one : pos 1 ≤ℤ pos z.period
  one = period_one z valid.shape

  -- the broken bound is tight
  tight_a : Divides (pos z.period) (a -ℤ (node z.residues i -ℤ node z.residues j))
  tight_a = let w : IsTight (pos z.period) (node z.residues i -ℤ node z.residues j) (Some a) = subst (λ e. IsTight (pos z.period) (node z.residues i -ℤ node z.residues j) e) stored (valid.shape.tight i j il jl) in w.0

  -- its magnitude is at most the reach
  size_a : (neg_ℤ (pos (reach_of z)) ≤ℤ a) × (a ≤ℤ pos (reach_of z))
  size_a = subst (λ e. AtMost (reach_of z) e) stored ((reach_small z (reach_of z) (omega arith)).each i j (omega arith) (omega arith))

  -- it stands off the diagonal
  differ : i ≢ j
  differ e = let n : entry z.bounds i j ≡ None = subst (λ k. entry z.bounds i k ≡ None) e (valid.shape.diagonal i il) in cc

  -- there are at most eight columns
  columns_low : columns_of z ≤ 8
  columns_low = valid.shape.columns

  -- what holds of the new bound and of no bound holds at each place
  at_place : (P : ℕ → ℕ → Option ℤ → Type 0) → P j i (Some (neg_ℤ (a +ℤ pos z.period))) → ((p q : ℕ) → P p q None) → (p q : ℕ) → p ≤ columns_of z → q ≤ columns_of z → P p q (entry bs p q)
  at_place P here free p q pl ql = elim (place_or p q j i) [
    | inl e ↦ subst (λ r. P r q (entry bs r q)) (sym e.0) (subst (λ s. P j s (entry bs j s)) (sym e.1) (subst (λ f. P j i f) (sym single.here) here))
    | inr ne ↦ subst (λ f. P p q f) (sym (single.others p q (let c = columns_low in omega arith) (let c = columns_low in omega arith) ne)) (free p q)
  ]

  -- the piece keeps a zone's parts
  pub shape_piece : IsShape piece
  shape_piece = record {
    period_low = valid.shape.period_low;
    period_high = valid.shape.period_high;
    columns = valid.shape.columns;
    residues = valid.shape.residues;
    tight = at_place (λ p q f. IsTight (pos z.period) (node z.residues p -ℤ node z.residues q) f)
        (let s = size_a in let s0 : neg_ℤ (pos (reach_of z)) ≤ℤ a = s.0 in let s1 : a ≤ℤ pos (reach_of z) = s.1 in
        (flip (pos z.period) a (node z.residues i) (node z.residues j) tight_a, (omega (arith, ints), omega (arith, ints))))
        (λ p q. tt);
    diagonal = λ p pl. single.others p p (let c = columns_low in omega arith) (let c = columns_low in omega arith) (λ e f. differ (sym f ∙ e));
    outside = record { none = λ p q pl ql o. single.others p q pl ql (outer p q o) };
  }
    where
      outer : (p q : ℕ) → (columns_of z + 1 ≤ p) ⊎ (columns_of z + 1 ≤ q) → p ≡ j → q ≡ i → ⊥
      outer p q (inl o) e f = omega arith
      outer p q (inr o) e f = omega arith

  -- the residues, with column i moved up by enough periods, are a tuple of it
  pub has_piece : HasMember piece
  has_piece =
      let r : ℕ → ℤ = node z.residues in
      let t : ℕ = nat_abs ((a +ℤ pos z.period) +ℤ (r j -ℤ r i)) in
      let y : ℕ → ℤ = λ m. r m +ℤ cond (eqb m i) (pos (z.period * t)) (pos 0) in
      record {
        member = listed y (columns_of z);
        is = list_member piece y
            (λ p q pl ql. at_place (λ p q f. Within (y p -ℤ y q) f) (far r t (times_low z.period t valid.shape.period_low) refl (eqb j i) (eqb i i) (other_test j i (λ e. differ (sym e))) (own_test i)) (λ p q. tt) p q (omega arith) (omega arith))
            (λ m ml. fits (r m) t (eqb m i));
      }
    where
      own_test : (i : ℕ) → eqb i i ≡ true
      own_test i = grind (arith, nat_tests)

      other_test : (j i : ℕ) → j ≢ i → eqb j i ≡ false
      other_test j i ne = grind (arith, nat_tests)

      far : (r : ℕ → ℤ) (t : ℕ) → t ≤ z.period * t → t ≡ nat_abs ((a +ℤ pos z.period) +ℤ (r j -ℤ r i)) → (p q : Bool) → p ≡ false → q ≡ true
          → ((r j +ℤ cond p (pos (z.period * t)) (pos 0)) -ℤ (r i +ℤ cond q (pos (z.period * t)) (pos 0))) ≤ℤ neg_ℤ (a +ℤ pos z.period)
      far r t l e p q f g = rw (f, g) (omega (arith, ints))

      fits : (r : ℤ) (t : ℕ) (b : Bool) → Divides (pos z.period) ((r +ℤ cond b (pos (z.period * t)) (pos 0)) -ℤ r)
      fits r t true = Divides-is (pos z.period) (pos (z.period * t)) _ (omega (arith, ints)) (Divides-multiple z.period t)
      fits r t false = Divides-is (pos z.period) (pos 0) _ (omega (arith, ints)) (Divides-zero (pos z.period))

  -- the piece holds the tuples that break the bound
  pub piece_is : length bs ≡ 81 → IsPiece z i j piece
  piece_is size = record {
    cell = record { period = refl; residues = refl };
    to = λ xs m. (
      record { count = m.cell.count; each = m.cell.each },
      (λ h.
          let b : (node xs j -ℤ node xs i) ≤ℤ neg_ℤ (a +ℤ pos z.period) = subst (λ e. Within (node xs j -ℤ node xs i) e) single.here (m.meets j i jl il) in
          let g : (node xs i -ℤ node xs j) ≤ℤ a = subst (λ e. Within (node xs i -ℤ node xs j) e) stored h in
          let o = one in omega (arith, ints)),
    );
    from = λ xs c bad. record {
      cell = record { count = c.count; each = c.each };
      meets = at_place (λ p q f. Within (node xs p -ℤ node xs q) f)
          (let l : (a +ℤ pos z.period) ≤ℤ (node xs i -ℤ node xs j) = breaks (pos z.period) (node xs i -ℤ node xs j) a one
          (apart (pos z.period) (node xs i) (node xs j) (node z.residues i) (node z.residues j) a (c.each i il) (c.each j jl) tight_a)
          (λ h. bad (subst (λ e. Within (node xs i -ℤ node xs j) e) (sym stored) h)) in omega (arith, ints))
          (λ p q. tt);
    };
    reach = small_reach piece (reach_of z + z.period) valid.shape.columns size shape_piece.outside (record {
      each = λ p q pl ql. at_place (λ p q f. AtMost (reach_of z + z.period) f)
          (let g = size_a in let g0 : neg_ℤ (pos (reach_of z)) ≤ℤ a = g.0 in let g1 : a ≤ℤ pos (reach_of z) = g.1 in (omega (arith, ints), omega (arith, ints)))
          (λ p q. tt) p q (omega arith) (omega arith);
    });
  }

-- a bound that can be broken is there
some_broken : (k : ℕ) (f e : Option ℤ) → e ≡ broken_by k f → (e ≡ None → ⊥) → (a : ℤ) × (f ≡ Some a)
some_broken k None e q n = absurd (n q)
some_broken k (Some a) e q n = (a, refl)

-- by the stored bound f, and what breaks it, e
module _ (z : ZoneView) (valid : IsZone z) (i j : ℕ) (il : i ≤ columns_of z) (jl : j ≤ columns_of z) (small : reach_of z + z.period ≤ 2 ^ 62) (f e : Option ℤ) (stored : f ≡ entry z.bounds i j) (broken : e ≡ broken_by z.period f) (some : e ≡ None → ⊥)
    (bs : List (Option ℤ)) (single : IsSingle bs j i e) where
  -- the stored bound
  found : (a : ℤ) × (f ≡ Some a)
  found = some_broken z.period f e broken some

  -- the reverse bound stands alone in the table
  here : IsSingle bs j i (Some (neg_ℤ (found.0 +ℤ pos z.period)))
  here = subst (λ y. IsSingle bs j i y) (broken ∙ ap (broken_by z.period) found.1) single

  -- the piece keeps a zone's parts
  pub broken_shape : IsShape (record z { bounds = bs })
  broken_shape = shape_piece z valid i j il jl small found.0 (sym stored ∙ found.1) bs here

  -- it has a tuple
  pub broken_some : HasMember (record z { bounds = bs })
  broken_some = has_piece z valid i j il jl small found.0 (sym stored ∙ found.1) bs here

  -- it holds the tuples that break the bound
  pub broken_is : (w : ZoneView) → IsZone w → w ≡ record z { bounds = bs } → IsPiece z i j w
  broken_is w zone h = rw h (piece_is z valid i j il jl small found.0 (sym stored ∙ found.1) bs here (subst IsZone h zone).size)

-- what breaks a bound fits in a word
pub broken_small : (z : ZoneView) (i j : ℕ) (f : Option ℤ) → i ≤ columns_of z → j ≤ columns_of z → reach_of z + z.period ≤ 2 ^ 62 → f ≡ entry z.bounds i j → AtMost (2 ^ 62 - z.period) f
broken_small z i j f il jl small e = rw e ((reach_small z (2 ^ 62 - z.period) (omega arith)).each i j (omega arith) (omega arith))
