-- A zone whose columns are put among those of a longer tuple.
use Rattle.std.proofs.Common.{◌≡◌, ℕ, zero, suc, ◌+◌, ◌*◌, ◌<◌, ◌≤◌, ◌≢◌, List, map, Option, None, cond, eqb, replicate, arith, refl, sym, ap, subst, ◌∙◌, length, inl, inr, ◌⊎◌}
use Rattle.std.specs.Prelude.{ℤ, pos, ◌-ℤ◌}
use Rattle.std.proofs.lemmas.Int.{ints}
use Rattle.std.proofs.lemmas.Bool.Decides.{eqb_tells}
use Rattle.std.proofs.lemmas.List.{get_or-replicate, get_or-map, length-map}
use Rattle.lrp_theory.specs.Bounds.{Within}
use Rattle.lrp_theory.specs.Divides.{Divides}
use Rattle.lrp_theory.specs.Entries.{entry, node, AtMost}
use Rattle.lrp_theory.proofs.Modulo.{Divides-is, Divides-zero}
use Rattle.lrp_theory.proofs.Lists.{listed}
use Rattle.lrp_zone.specs.Zones.{ZoneView, IsTight, IsShape, IsZone, IsMember, HasMember, IsResidue, columns_of, reach_of}
use Rattle.lrp_zone.specs.Spread.{target, ArePlaces, IsSpreadTo, IsSpread}
use Rattle.lrp_zone.proofs.Cases.{place_or}
use Rattle.lrp_zone.proofs.Members.{list_member}
use Rattle.lrp_zone.proofs.Reaches.{reach_small, small_reach}

-- in a free table no bound has moved
pub spread_none : (places : List ℕ) (bounds out : List (Option ℤ)) (n : ℕ) → out ≡ replicate 81 None → IsSpreadTo places bounds n 0 0 out
spread_none places bounds out n e = record {
  here = λ p q pl ql h. absurd (none p q h);
  one = λ r s rl sl. inl (let small : 9 * r + s < 81 = omega arith in rw e (get_or-replicate 81 (9 * r + s) None None small));
}
  where
    none : (p q : ℕ) → (p < 0) ⊎ ((p ≡ 0) × (q < 0)) → ⊥
    none p q (inl h) = omega arith
    none p q (inr h) = omega (arith, h.1)

-- one more bound is put at its place
pub spread_more : (places : List ℕ) (bounds old new : List (Option ℤ)) (n i j a b : ℕ) (e : Option ℤ) → n ≤ length places + 1 → i < n → j < n → ArePlaces places 8 → a ≡ target places i → b ≡ target places j → e ≡ entry bounds i j
    → entry new a b ≡ e → ((p q : ℕ) → q < 9 → (p ≡ a → q ≡ b → ⊥) → entry new p q ≡ entry old p q) → IsSpreadTo places bounds n i j old → IsSpreadTo places bounds n i (j + 1) new
spread_more places bounds old new n i j a b e nl il jl are ea eb ee here others h = record {
  here = λ p q pl ql c. elim (place_or p q i j) [
    | inl s ↦ subst (λ r. entry new (target places r) (target places q) ≡ entry bounds r q) (sym s.0) (subst (λ r. entry new (target places i) (target places r) ≡ entry bounds i r) (sym s.1)
        (subst (λ r. entry new r (target places j) ≡ entry bounds i j) ea (subst (λ r. entry new a r ≡ entry bounds i j) eb (here ∙ ee))))
    | inr ne ↦ others (target places p) (target places q) (let t : target places q ≤ 8 = are.high q (omega arith) in omega arith)
        (λ f g. ne (are.differ p i (omega arith) (omega arith) (f ∙ ea)) (are.differ q j (omega arith) (omega arith) (g ∙ eb)))
        ∙ h.here p q pl ql (before p q c ne)
  ];
  one = λ r s rl sl. elim (place_or r s a b) [
    | inl f ↦ inr (i, j, il, jl, sym ea ∙ sym f.0, sym eb ∙ sym f.1, subst (λ x. entry new x s ≡ entry bounds i j) (sym f.0) (subst (λ x. entry new a x ≡ entry bounds i j) (sym f.1) (here ∙ ee)))
    | inr ne ↦ kept r s (others r s sl ne) (h.one r s rl sl)
  ];
}
  where
    before : (p q : ℕ) → (p < i) ⊎ ((p ≡ i) × (q < j + 1)) → (p ≡ i → q ≡ j → ⊥) → (p < i) ⊎ ((p ≡ i) × (q < j))
    before p q (inl c) ne = inl c
    before p q (inr c) ne = inr (c.0, (let l : q < j + 1 = c.1 in let d : q ≢ j = ne c.0 in omega arith))

    kept : (r s : ℕ) → entry new r s ≡ entry old r s → (entry old r s ≡ None) ⊎ ((p : ℕ) × (q : ℕ) × (p < n) × (q < n) × (target places p ≡ r) × (target places q ≡ s) × (entry old r s ≡ entry bounds p q))
        → (entry new r s ≡ None) ⊎ ((p : ℕ) × (q : ℕ) × (p < n) × (q < n) × (target places p ≡ r) × (target places q ≡ s) × (entry new r s ≡ entry bounds p q))
    kept r s f (inl o) = inl (f ∙ o)
    kept r s f (inr o) = inr (o.0, o.1, o.2, o.3, o.4, o.5, f ∙ o.6)

-- the values at the places
pub node_map : (places : List ℕ) (xs : List ℤ) (p : ℕ) → p ≤ length places → node (map (node xs) places) p ≡ node xs (target places p)
node_map places xs zero h = refl
node_map places xs (suc i) h = get_or-map (node xs) places i 0 (pos 0) (omega arith)

module _ (z : ZoneView) (valid : IsZone z) (places : List ℕ) (rs : List ℤ) (bs : List (Option ℤ)) (count : length places ≡ columns_of z) (columns : length rs ≤ 8) (are : ArePlaces places (length rs))
    (residues : (p : ℕ) → p ≤ length rs → IsResidue z.period (node rs p)) (own : (p : ℕ) → p ≤ columns_of z → node rs (target places p) ≡ node z.residues p)
    (made : IsSpreadTo places z.bounds (length places + 1) (length places + 1) 0 bs) where
  -- the zone of the longer tuples
  abbrev long : ZoneView
  long = record { period = z.period; residues = rs; bounds = bs }

  -- the places are in range
  high : (p : ℕ) → p ≤ columns_of z → target places p ≤ length rs
  high p pl = are.high p (omega arith)

  -- what holds of each moved bound and of no bound holds at each place
  at_place : (P : ℕ → ℕ → Option ℤ → Type 0) → ((p q : ℕ) → p ≤ columns_of z → q ≤ columns_of z → P (target places p) (target places q) (entry z.bounds p q)) → ((r s : ℕ) → P r s None) → (r s : ℕ) → r ≤ length rs → s ≤ length rs → P r s (entry bs r s)
  at_place P moved free r s rl sl = by (made.one r s (omega arith) (omega arith))
    where
      by : (entry bs r s ≡ None) ⊎ ((p : ℕ) × (q : ℕ) × (p < length places + 1) × (q < length places + 1) × (target places p ≡ r) × (target places q ≡ s) × (entry bs r s ≡ entry z.bounds p q)) → P r s (entry bs r s)
      by (inl o) = subst (λ e. P r s e) (sym o) (free r s)
      by (inr o) = subst (λ e. P r s e) (sym o.6) (subst (λ a. P a s (entry z.bounds o.0 o.1)) o.4 (subst (λ b. P (target places o.0) b (entry z.bounds o.0 o.1)) o.5
          (moved o.0 o.1 (let l : o.0 < length places + 1 = o.2 in omega arith) (let l : o.1 < length places + 1 = o.3 in omega arith))))

  -- it keeps a zone's parts
  pub shape_long : IsShape long
  shape_long = record {
    period_low = valid.shape.period_low;
    period_high = valid.shape.period_high;
    columns = columns;
    residues = residues;
    tight = at_place (λ r s e. IsTight (pos z.period) (node rs r -ℤ node rs s) e) (λ p q pl ql. rw (own p pl, own q ql) (valid.shape.tight p q pl ql)) (λ r s. tt);
    diagonal = λ p pl. diagonal_at p (made.one p p (omega arith) (omega arith));
    outside = record { none = λ r s rl sl o. outer r s o (made.one r s rl sl) };
  }
    where
      outer : (r s : ℕ) → (length rs + 1 ≤ r) ⊎ (length rs + 1 ≤ s) → (entry bs r s ≡ None) ⊎ ((p : ℕ) × (q : ℕ) × (p < length places + 1) × (q < length places + 1) × (target places p ≡ r) × (target places q ≡ s) × (entry bs r s ≡ entry z.bounds p q)) → entry bs r s ≡ None
      outer r s o (inl e) = e
      outer r s (inl o) (inr f) = let l : f.0 < length places + 1 = f.2 in let h : target places f.0 ≤ length rs = are.high f.0 (omega arith) in let e : target places f.0 ≡ r = f.4 in absurd (omega arith)
      outer r s (inr o) (inr f) = let l : f.1 < length places + 1 = f.3 in let h : target places f.1 ≤ length rs = are.high f.1 (omega arith) in let e : target places f.1 ≡ s = f.5 in absurd (omega arith)

      diagonal_at : (r : ℕ) → (entry bs r r ≡ None) ⊎ ((p : ℕ) × (q : ℕ) × (p < length places + 1) × (q < length places + 1) × (target places p ≡ r) × (target places q ≡ r) × (entry bs r r ≡ entry z.bounds p q)) → entry bs r r ≡ None
      diagonal_at r (inl o) = o
      diagonal_at r (inr o) =
          let pl : o.0 ≤ columns_of z = (let l : o.0 < length places + 1 = o.2 in omega arith) in
          let same : o.0 ≡ o.1 = are.differ o.0 o.1 (omega arith) (let l : o.1 < length places + 1 = o.3 in omega arith) (o.4 ∙ sym o.5) in
          o.6 ∙ subst (λ q. entry z.bounds o.0 q ≡ None) same (valid.shape.diagonal o.0 pl)

  -- the values of the first m nodes of ys at their places, and residues elsewhere
  abbrev lookup : List ℤ → ℕ → ℕ → ℤ
  lookup ys zero r = node rs r
  lookup ys (suc m) r = cond (eqb (target places m) r) (node ys m) (lookup ys m r)

  -- those values have the residues
  lookup_fits : (ys : List ℤ) → IsMember z ys → (m r : ℕ) → m ≤ columns_of z + 1 → Divides (pos z.period) (lookup ys m r -ℤ node rs r)
  lookup_fits ys h zero r l = Divides-is (pos z.period) (pos 0) _ (omega (arith, ints)) (Divides-zero (pos z.period))
  lookup_fits ys h (suc m) r l = elim (eqb_tells (target places m) r) [
    | inl w ↦ rw w.0 (let e : target places m ≡ r = w.1 in subst (λ s. Divides (pos z.period) (node ys m -ℤ node rs s)) e (rw (own m (omega arith)) (h.cell.each m (omega arith))))
    | inr w ↦ rw w.0 (lookup_fits ys h m r (omega arith))
  ]

  -- and at the places they are those of ys
  lookup_at : (ys : List ℤ) (m p : ℕ) → m ≤ columns_of z + 1 → p < m → lookup ys m (target places p) ≡ node ys p
  lookup_at ys zero p l h = absurd (omega arith)
  lookup_at ys (suc m) p l h = elim (eqb_tells (target places m) (target places p)) [
    | inl w ↦ rw w.0 (let e : m ≡ p = are.differ m p (omega arith) (omega arith) w.1 in ap (node ys) e)
    | inr w ↦ rw w.0 (lookup_at ys m p (omega arith) (let d : p ≢ m = (λ e. w.1 (ap (target places) (sym e))) in omega arith))
  ]

  -- so they are a tuple of it
  pub has_long : HasMember long
  has_long =
      let ys : List ℤ = valid.some.member in
      let y : ℕ → ℤ = lookup ys (columns_of z + 1) in
      record {
        member = listed y (length rs);
        is = list_member long y
            (λ r s rl sl. at_place (λ r s e. Within (y r -ℤ y s) e) (λ p q pl ql. rw (lookup_at ys (columns_of z + 1) p (omega arith) (omega arith), lookup_at ys (columns_of z + 1) q (omega arith) (omega arith)) (valid.some.is.meets p q pl ql)) (λ r s. tt) r s (omega arith) (omega arith))
            (λ m ml. lookup_fits ys valid.some.is (columns_of z + 1) m (omega arith));
      }

  -- it holds the tuples whose values at the places are a tuple of z
  spread_is : length bs ≡ 81 → IsSpread z places rs long
  spread_is size = record {
    period = refl;
    residues = refl;
    to = λ xs m. record {
      cell = record {
        count = length-map places (node xs) ∙ count;
        each = λ p pl. rw (node_map places xs p (omega arith), ← own p pl) (m.cell.each (target places p) (high p pl));
      };
      meets = λ p q pl ql. rw (node_map places xs p (omega arith), node_map places xs q (omega arith), ← made.here p q (omega arith) (omega arith) (inl (omega arith))) (m.meets (target places p) (target places q) (high p pl) (high q ql));
    };
    from = λ xs c m. record {
      cell = record { count = c.count; each = c.each };
      meets = at_place (λ r s e. Within (node xs r -ℤ node xs s) e) (λ p q pl ql. rw (← node_map places xs p (omega arith), ← node_map places xs q (omega arith)) (m.meets p q pl ql)) (λ r s. tt);
    };
    reach = small_reach long (reach_of z) columns size shape_long.outside (record {
      each = λ r s rl sl. at_place (λ r s e. AtMost (reach_of z) e) (λ p q pl ql. (reach_small z (reach_of z) (omega arith)).each p q (omega arith) (omega arith)) (λ r s. tt) r s (omega arith) (omega arith);
    });
  }

  -- the same for a zone that is this one
  pub spread_to : (w : ZoneView) → IsZone w → w ≡ long → IsSpread z places rs w
  spread_to w zone h = rw h (spread_is (subst IsZone h zone).size)
