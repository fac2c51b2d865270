-- Inclusion and intersection of two zones of one cell.
use Rattle.std.proofs.Common.{◌≡◌, ℕ, ◌+◌, ◌*◌, ◌<◌, ◌≤◌, ◌≢◌, List, Option, Some, None, arith, refl, sym, subst, ◌∙◌, get_or, length, max, inl, inr, ◌⊎◌}
use Rattle.std.specs.Prelude.{ℤ, pos, ◌-ℤ◌, ◌≤ℤ◌, IfSome, IfNone}
use Rattle.lrp_theory.specs.Bounds.{Within, Meets}
use Rattle.lrp_theory.specs.Divides.{Divides}
use Rattle.lrp_theory.specs.Entries.{entry, node, AtMost, IsClosure, AreBelow, IsLesser}
use Rattle.lrp_theory.proofs.Lists.{listed, difference}
use Rattle.lrp_theory.proofs.Floor.{reached_in_cell}
use Rattle.lrp_theory.proofs.Below.{within_less}
use Rattle.lrp_zone.specs.Zones.{ZoneView, IsTight, IsShape, IsZone, IsMember, HasMember, columns_of, reach_of}
use Rattle.lrp_zone.specs.Pairs.{IsOfCell, IsWithin, IsMeet, HaveNoCommon}
use Rattle.lrp_zone.proofs.Cases.{eq_or}
use Rattle.lrp_zone.proofs.Members.{tight_all, period_one, list_member, member_meets}
use Rattle.lrp_zone.proofs.Reaches.{reach_small, small_reach}

-- a zone of the cell of z differs from it in its bounds alone
pub same_cell : (z w : ZoneView) → IsOfCell z w → record z { bounds = w.bounds } ≡ w
same_cell z w c = rw (c.period, c.residues) refl

module _ (z : ZoneView) (sz : IsShape z) (bounds least : List (Option ℤ)) (closure : IsClosure (columns_of z + 1) (entry z.bounds) (entry least)) where
  -- the closed bounds tell which zones hold this one
  below_within : IsShape (record z { bounds = bounds }) → AreBelow (columns_of z + 1) least bounds → IsWithin z (record z { bounds = bounds })
  below_within sw below = record { each = λ xs h. record { cell = record { count = h.cell.count; each = h.cell.each }; meets = λ i j il jl. place xs h i j il jl (eq_or i j) } }
    where
      place : (xs : List ℤ) → IsMember z xs → (i j : ℕ) → i ≤ columns_of z → j ≤ columns_of z → (i ≡ j) ⊎ (i ≢ j) → Within (node xs i -ℤ node xs j) (entry bounds i j)
      place xs h i j il jl (inl e) = subst (λ f. Within (node xs i -ℤ node xs j) f) (sym (subst (λ k. entry bounds i k ≡ None) e (sw.diagonal i il))) tt
      place xs h i j il jl (inr ne) = (below.each i j (omega arith) (omega arith) ne).below _ ((closure.least i j (omega arith) (omega arith) ne).met (node xs) (member_meets z xs h))

  -- and the zones that hold this one have greater bounds than the closed ones
  within_below : IsWithin z (record z { bounds = bounds }) → AreBelow (columns_of z + 1) least bounds
  within_below h = record {
    each = λ i j ilt jlt ne. record {
      below = λ d k.
          let r : (x : ℕ → ℤ) × Meets (columns_of z + 1) (entry z.bounds) x × (d ≤ℤ (x i -ℤ x j)) = (closure.least i j ilt jlt ne).reached d k in
          let s : (y : ℕ → ℤ) × Meets (columns_of z + 1) (entry z.bounds) y × ((m : ℕ) → Divides (pos z.period) (y m -ℤ node z.residues m)) × (d ≤ℤ (y i -ℤ y j)) =
          reached_in_cell (columns_of z + 1) (pos z.period) (node z.residues) (entry z.bounds) i j d (period_one z sz) (tight_all z sz) r.0 r.1 r.2 in
          let m : IsMember (record z { bounds = bounds }) (listed s.0 (columns_of z)) = h.each (listed s.0 (columns_of z)) (list_member z s.0 s.1 (λ m l. s.2 m)) in
          within_less d (s.0 i -ℤ s.0 j) (entry bounds i j) s.3 (subst (λ e. Within e (entry bounds i j)) (difference s.0 (columns_of z) i j (omega arith) (omega arith)) (m.meets i j (omega arith) (omega arith)));
    };
  }

-- for copies of the two tables
pub inclusion : (z w : ZoneView) (cells other least : List (Option ℤ)) → IsZone z → IsZone w → IsOfCell z w → cells ≡ z.bounds → other ≡ w.bounds → IsClosure (columns_of z + 1) (entry cells) (entry least)
    → (AreBelow (columns_of z + 1) least other → IsWithin z w) × (IsWithin z w → AreBelow (columns_of z + 1) least other)
inclusion z w cells other least vz vw c e f closure =
    let own : IsClosure (columns_of z + 1) (entry z.bounds) (entry least) = subst (λ b. IsClosure (columns_of z + 1) (entry b) (entry least)) e closure in
    let shape : IsShape (record z { bounds = w.bounds }) = subst IsShape (sym (same_cell z w c)) vw.shape in
    rw f (subst (λ v. (AreBelow (columns_of z + 1) least w.bounds → IsWithin z v) × (IsWithin z v → AreBelow (columns_of z + 1) least w.bounds)) (same_cell z w c) (below_within z vz.shape w.bounds least own shape, within_below z vz.shape w.bounds least own))

-- the lesser of two tight bounds is tight
pub lesser_tight : (k w : ℤ) (e f g : Option ℤ) → IsLesser e f g → IsTight k w f → IsTight k w g → IsTight k w e
lesser_tight k w e f g l a b = elim l.one [ inl q ↦ rw q a | inr q ↦ rw q b ]

-- the lesser of no bounds is no bound
lesser_none : (e f g : Option ℤ) → IsLesser e f g → f ≡ None → g ≡ None → e ≡ None
lesser_none e f g l a b = elim l.one [ inl q ↦ q ∙ a | inr q ↦ q ∙ b ]

-- the lesser of two small bounds is small
lesser_small : (h : ℕ) (e f g : Option ℤ) → IsLesser e f g → AtMost h f → AtMost h g → AtMost h e
lesser_small h e f g l a b = elim l.one [ inl q ↦ rw q a | inr q ↦ rw q b ]

-- a difference that meets two bounds meets the lesser
pub lesser_met : (d : ℤ) (e f g : Option ℤ) → IsLesser e f g → Within d f → Within d g → Within d e
lesser_met d e f g l a b = elim l.one [ inl q ↦ rw q a | inr q ↦ rw q b ]

module _ (z : ZoneView) (w : List (Option ℤ)) (sz : IsShape z) (sw : IsShape (record z { bounds = w })) (bounds : List (Option ℤ)) (least : (p : ℕ) → p < 81 → IsLesser (get_or bounds p None) (get_or z.bounds p None) (get_or w p None)) where
  -- the lesser bound stands at each place
  lesser_at : (i j : ℕ) → i < 9 → j < 9 → IsLesser (entry bounds i j) (entry z.bounds i j) (entry w i j)
  lesser_at i j il jl = least (9 * i + j) (omega arith)

  -- there are at most eight columns
  low : (i : ℕ) → i ≤ columns_of z → i < 9
  low i l = let c : columns_of z ≤ 8 = sz.columns in omega arith

  -- the lesser bounds keep a zone's parts
  meet_shape : IsShape (record z { bounds = bounds })
  meet_shape = record {
    period_low = sz.period_low;
    period_high = sz.period_high;
    columns = sz.columns;
    residues = sz.residues;
    tight = λ i j il jl. lesser_tight _ _ _ _ _ (lesser_at i j (low i il) (low j jl)) (sz.tight i j il jl) (sw.tight i j il jl);
    diagonal = λ i il. lesser_none _ _ _ (lesser_at i i (low i il) (low i il)) (sz.diagonal i il) (sw.diagonal i il);
    outside = record { none = λ i j il jl o. lesser_none _ _ _ (lesser_at i j il jl) (sz.outside.none i j il jl o) (sw.outside.none i j il jl o) };
  }

  -- what meets the lesser bounds meets both
  meet_to : (xs : List ℤ) → IsMember (record z { bounds = bounds }) xs → IsMember z xs × IsMember (record z { bounds = w }) xs
  meet_to xs h = (
    record { cell = record { count = h.cell.count; each = h.cell.each }; meets = λ i j il jl. ((lesser_at i j (low i il) (low j jl)).below _ (h.meets i j il jl)).0 },
    record { cell = record { count = h.cell.count; each = h.cell.each }; meets = λ i j il jl. ((lesser_at i j (low i il) (low j jl)).below _ (h.meets i j il jl)).1 },
  )

  -- what meets both meets the lesser bounds
  meet_from : (xs : List ℤ) → IsMember z xs → IsMember (record z { bounds = w }) xs → IsMember (record z { bounds = bounds }) xs
  meet_from xs h k = record {
    cell = record { count = h.cell.count; each = h.cell.each };
    meets = λ i j il jl. lesser_met _ _ _ _ (lesser_at i j (low i il) (low j jl)) (h.meets i j il jl) (k.meets i j il jl);
  }

  -- the reach does not grow
  meet_reach : length bounds ≡ 81 → reach_of (record z { bounds = bounds }) ≤ max (reach_of z) (reach_of (record z { bounds = w }))
  meet_reach size =
      let h : ℕ = max (reach_of z) (reach_of (record z { bounds = w })) in
      small_reach (record z { bounds = bounds }) h sz.columns size meet_shape.outside
      (record {
        each = λ i j il jl. lesser_small h _ _ _ (lesser_at i j (low i (omega arith)) (low j (omega arith)))
            ((reach_small z h (max_left (reach_of z) (reach_of (record z { bounds = w })))).each i j il jl) ((reach_small (record z { bounds = w }) h (max_right (reach_of z) (reach_of (record z { bounds = w })))).each i j il jl);
      })
    where
      max_left : (m n : ℕ) → m ≤ max m n
      max_left m n = omega arith

      max_right : (m n : ℕ) → n ≤ max m n
      max_right m n = omega arith

  -- the lesser bounds give the intersection
  meet_is : length bounds ≡ 81 → IsMeet z (record z { bounds = w }) (record z { bounds = bounds })
  meet_is size = record { cell = record { period = refl; residues = refl }; to = meet_to; from = meet_from; reach = meet_reach size }

  -- where it is empty, the zones have no tuple in common
  meet_none : (HasMember (record z { bounds = bounds }) → ⊥) → HaveNoCommon z (record z { bounds = w })
  meet_none empty = record { none = λ xs h k. empty (record { member = xs; is = meet_from xs h k }) }

module _ (z w : ZoneView) (vz : IsZone z) (vw : IsZone w) (c : IsOfCell z w) (bounds : List (Option ℤ)) (least : (p : ℕ) → p < 81 → IsLesser (get_or bounds p None) (get_or z.bounds p None) (get_or w.bounds p None)) where
  -- the other bounds stand in the same cell
  other_shape : IsShape (record z { bounds = w.bounds })
  other_shape = subst IsShape (sym (same_cell z w c)) vw.shape

  -- the same for two zones of one cell
  pub shape_meet : IsShape (record z { bounds = bounds })
  shape_meet = meet_shape z w.bounds vz.shape other_shape bounds least

  -- the intersection as the result of a call
  pub met : (r : Option ZoneView) → IfSome r IsZone → IfSome r (λ y. y ≡ record z { bounds = bounds }) → IfSome r (λ y. IsMeet z w y)
  met None zone h = tt
  met (Some y) zone h = rw h (subst (λ v. IsMeet z v (record z { bounds = bounds })) (same_cell z w c) (meet_is z w.bounds vz.shape other_shape bounds least (subst IsZone h zone).size))

  -- and where there is none
  pub met_none : (r : Option ZoneView) → IfNone r (HasMember (record z { bounds = bounds }) → ⊥) → IfNone r (HaveNoCommon z w)
  met_none None h = subst (λ v. HaveNoCommon z v) (same_cell z w c) (meet_none z w.bounds vz.shape other_shape bounds least h)
  met_none (Some y) h = tt
