-- Settled zones of one column lie apart: between two of them is an integer of their cell.
use Rattle.std.proofs.Common.{◌≡◌, ◌≢◌, ◌<◌, ◌≤◌, ◌^◌, ◌∙◌, ◌⊎◌, inl, inr, ℕ, zero, suc, List, [], ◌∷◌, Option, Some, None, refl, sym, ap, subst, arith, length, get_or}
use Rattle.std.specs.Prelude.{ℤ, pos, neg_ℤ, ◌-ℤ◌, ◌+ℤ◌, ◌≤ℤ◌, ◌<ℤ◌, Contains}
use Rattle.std.proofs.lemmas.Int.{ints}
use Rattle.lrp_theory.specs.Bounds.{Within}
use Rattle.lrp_theory.specs.Divides.{Divides}
use Rattle.lrp_theory.specs.Entries.{node, AtMost}
use Rattle.lrp_theory.proofs.Modulo.{Divides--, Divides-is, Divides-self, small_multiple}
use Rattle.lrp_zone.specs.Zones.{ZoneView, IsZone, IsInCell, IsMember, IsTight, columns_of}
use Rattle.lrp_zone.specs.Pairs.{IsOfCell}
use Rattle.lrp_store.specs.Least.{IsRoom}
use Rattle.lrp_store.specs.Settled.{AreIntervals, InSome, LiesBelow}
use Rattle.lrp_answer_text.proofs.Closed.{closed_at, closed_attained, closed_met, closed_reached, closed_small}
use Rattle.lrp_answer_text.proofs.Made.{made, made_cell, made_is, from_made, to_made}

-- one integer comes before another, or does not
before_or : (x y : ℤ) → (x <ℤ y) ⊎ (y ≤ℤ x)
before_or x y = grind (arith, ints)

-- tuples of one column
pub single : (xs : List ℤ) → length xs ≡ 1 → xs ≡ node xs 1 ∷ []
single [] e = absurd (omega arith)
single (x ∷ []) e = refl
single (x ∷ y ∷ ys) e = absurd (omega arith)

-- the two bounds of an interval from x to y
abbrev ends : ℤ → ℤ → ℕ → ℕ → Option ℤ
ends x y (suc zero) zero = Some y
ends x y zero (suc zero) = Some (neg_ℤ x)
ends x y _ _ = None

-- a zone of one column
module _ (z : ZoneView) (is : IsZone z) (one : columns_of z ≡ 1) where
  abbrev pub Has : ℤ → Type 0
  Has x = IsMember z (x ∷ [])

  pub has_of : (xs : List ℤ) → IsMember z xs → Has (node xs 1)
  has_of xs h = subst (IsMember z) (single xs (h.cell.count ∙ one)) h

  -- its numbers have the residue
  residue_of : (x : ℤ) → Has x → Divides (pos z.period) (x -ℤ node z.residues 1)
  residue_of x h = h.cell.each 1 (omega (arith, one))

  -- the greatest is the closed bound from above
  pub top_is : (x : ℤ) → Has x → ((y : ℤ) → Has y → y ≤ℤ x) → closed_at z is 1 0 ≡ Some x
  top_is x h greatest = by (closed_at z is 1 0) refl
    where
      by : (e : Option ℤ) → closed_at z is 1 0 ≡ e → closed_at z is 1 0 ≡ Some x
      by None e =
          let r = closed_reached z is 1 0 (omega (arith, one)) (omega arith) (λ f. omega arith) (x +ℤ pos 1) (subst (λ f. Within (x +ℤ pos 1) f) (sym e) tt) in
          let low : (x +ℤ pos 1) ≤ℤ (node r.0 1 -ℤ pos 0) = r.2 in
          let high : node r.0 1 ≤ℤ x = greatest (node r.0 1) (has_of r.0 r.1) in
          absurd (omega (arith, ints))
      by (Some b) e =
          let r = closed_attained z is 1 0 b (omega (arith, one)) (omega arith) (λ f. omega arith) e in
          let same : node r.0 1 -ℤ pos 0 ≡ b = r.2 in
          let high : node r.0 1 ≤ℤ x = greatest (node r.0 1) (has_of r.0 r.1) in
          let met : (x -ℤ pos 0) ≤ℤ b = subst (λ f. Within (x -ℤ pos 0) f) e (closed_met z is 1 0 (omega (arith, one)) (omega arith) (λ f. omega arith) (x ∷ []) h) in
          let b_is : b ≡ x = omega (arith, ints) in
          e ∙ ap Some b_is

  -- the least is the closed bound from below
  pub bottom_is : (x : ℤ) → Has x → ((y : ℤ) → Has y → x ≤ℤ y) → closed_at z is 0 1 ≡ Some (neg_ℤ x)
  bottom_is x h least = by (closed_at z is 0 1) refl
    where
      by : (e : Option ℤ) → closed_at z is 0 1 ≡ e → closed_at z is 0 1 ≡ Some (neg_ℤ x)
      by None e =
          let r = closed_reached z is 0 1 (omega arith) (omega (arith, one)) (λ f. omega arith) (neg_ℤ x +ℤ pos 1) (subst (λ f. Within (neg_ℤ x +ℤ pos 1) f) (sym e) tt) in
          let low : (neg_ℤ x +ℤ pos 1) ≤ℤ (pos 0 -ℤ node r.0 1) = r.2 in
          let high : x ≤ℤ node r.0 1 = least (node r.0 1) (has_of r.0 r.1) in
          absurd (omega (arith, ints))
      by (Some b) e =
          let r = closed_attained z is 0 1 b (omega arith) (omega (arith, one)) (λ f. omega arith) e in
          let same : pos 0 -ℤ node r.0 1 ≡ b = r.2 in
          let high : x ≤ℤ node r.0 1 = least (node r.0 1) (has_of r.0 r.1) in
          let met : (pos 0 -ℤ x) ≤ℤ b = subst (λ f. Within (pos 0 -ℤ x) f) e (closed_met z is 0 1 (omega arith) (omega (arith, one)) (λ f. omega arith) (x ∷ []) h) in
          let b_is : b ≡ neg_ℤ x = omega (arith, ints) in
          e ∙ ap Some b_is

-- two of the zones, which are maximal intervals in ascending order
module _ (zones : List ZoneView) (intervals : AreIntervals zones) (v w : ZoneView) (i j : ℕ) (il : i < j) (jl : j < length zones) (v_at : (d : ZoneView) → get_or zones i d ≡ v) (w_at : (d : ZoneView) → get_or zones j d ≡ w)
    (v_is : IsZone v) (w_is : IsZone w) (one : columns_of v ≡ 1) (other : columns_of w ≡ 1) (cell : IsOfCell v w) (h k : ℕ) (v_room : IsRoom v h) (w_room : IsRoom w k) where
  in_order : LiesBelow v w
  in_order = let b = intervals.ascending i j v il jl in subst (λ y. LiesBelow v y) (w_at v) (subst (λ x. LiesBelow x (get_or zones j v)) (v_at v) b)

  v_in : Contains zones v
  v_in = (i, omega arith, v_at v)

  w_in : Contains zones w
  w_in = (j, jl, w_at w)

  some : 0 < v.period
  some = v_is.shape.period_low

  -- multiples of the period that are small
  between : (x y : ℤ) → Divides (pos v.period) (y -ℤ x) → x ≤ℤ y → y <ℤ (x +ℤ pos v.period) → y ≡ x
  between x y d low high =
      let n : 0 < v.period = some in
      let z : y -ℤ x ≡ pos 0 = small_multiple v.period (y -ℤ x) d (omega (arith, ints)) (omega (arith, ints)) in
      omega (arith, ints)

  w_residue : (y : ℤ) → Has w w_is other y → Divides (pos v.period) (y -ℤ node v.residues 1)
  w_residue y m = subst (λ p. Divides (pos p) (y -ℤ node v.residues 1)) cell.period (subst (λ rs. Divides (pos w.period) (y -ℤ node rs 1)) cell.residues (residue_of w w_is other y m))

  module _ (x y : ℤ) (hx : Has v v_is one x) (hy : Has w w_is other y) (near : y ≤ℤ (x +ℤ pos v.period)) where
    less : x <ℤ y
    less = in_order x y hx hy

    apart : (a b : ℤ) → Divides (pos v.period) (a -ℤ node v.residues 1) → Divides (pos v.period) (b -ℤ node v.residues 1) → Divides (pos v.period) (a -ℤ b)
    apart a b da db = Divides-is (pos v.period) ((a -ℤ node v.residues 1) -ℤ (b -ℤ node v.residues 1)) (a -ℤ b) (omega (arith, ints)) (Divides-- (pos v.period) (a -ℤ node v.residues 1) (b -ℤ node v.residues 1) da db)

    dx : Divides (pos v.period) (x -ℤ node v.residues 1)
    dx = residue_of v v_is one x hx

    dy : Divides (pos v.period) (y -ℤ node v.residues 1)
    dy = w_residue y hy

    -- they are neighbours
    next : y ≡ x +ℤ pos v.period
    next = elim (before_or y (x +ℤ pos v.period)) [
      | inl l ↦ let e : y ≡ x = between x y (apart y x dy dx) (omega (arith, ints, less)) l in absurd (omega (arith, ints, less, e))
      | inr l ↦ omega (arith, ints, near, l)
    ]

    -- the one is the last of its zone, and the other the first
    last : (a : ℤ) → Has v v_is one a → a ≤ℤ x
    last a ha = elim (before_or x a) [
      | inl l ↦ let b : a <ℤ y = in_order a y ha hy in let e : a ≡ x = between x a (apart a x (residue_of v v_is one a ha) dx) (omega (arith, ints, l)) (omega (arith, ints, b, next)) in absurd (omega (arith, ints, l, e))
      | inr l ↦ l
    ]

    front : (b : ℤ) → Has w w_is other b → y ≤ℤ b
    front b hb = elim (before_or b y) [
      | inl l ↦ let c : x <ℤ b = in_order x b hx hb in let e : b ≡ x = between x b (apart b x (w_residue b hb) dx) (omega (arith, ints, c)) (omega (arith, ints, l, next)) in absurd (omega (arith, ints, c, e))
      | inr l ↦ l
    ]

    small_x : AtMost (2 ^ 62) (Some x)
    small_x = subst (AtMost (2 ^ 62)) (top_is v v_is one x hx last) (closed_small v v_is h v_room 1 0 (omega (arith, one)) (omega arith) (λ e. omega arith))

    small_y : AtMost (2 ^ 62) (Some (neg_ℤ y))
    small_y = subst (AtMost (2 ^ 62)) (bottom_is w w_is other y hy front) (closed_small w w_is k w_room 0 1 (omega arith) (omega (arith, other)) (λ e. omega arith))

    -- so both are a zone of the cell
    tight : (p q : ℕ) → p ≤ columns_of v → q ≤ columns_of v → p ≢ q → IsTight (pos v.period) (node v.residues p -ℤ node v.residues q) (ends x y p q)
    tight zero zero pl ql ne = absurd (ne refl)
    tight (suc zero) zero pl ql ne =
        (Divides-is (pos v.period) (y -ℤ node v.residues 1) (y -ℤ (node v.residues 1 -ℤ pos 0)) (omega (arith, ints)) dy, (omega (arith, ints, small_y.1), omega (arith, ints, small_y.0)))
    tight zero (suc zero) pl ql ne =
        (Divides-is (pos v.period) ((node v.residues 1 -ℤ node v.residues 1) -ℤ (x -ℤ node v.residues 1)) (neg_ℤ x -ℤ (pos 0 -ℤ node v.residues 1)) (omega (arith, ints)) (Divides-- (pos v.period) (node v.residues 1 -ℤ node v.residues 1) (x -ℤ node v.residues 1) nought dx), (omega (arith, ints, small_x.1), omega (arith, ints, small_x.0)))
      where
        nought : Divides (pos v.period) (node v.residues 1 -ℤ node v.residues 1)
        nought = Divides-is (pos v.period) (pos v.period -ℤ pos v.period) (node v.residues 1 -ℤ node v.residues 1) (omega (arith, ints)) (Divides-- (pos v.period) (pos v.period) (pos v.period) (Divides-self (pos v.period)) (Divides-self (pos v.period)))
    tight (suc zero) (suc zero) pl ql ne = absurd (ne refl)
    tight (suc (suc p)) q pl ql ne = absurd (omega (arith, one))
    tight p (suc (suc q)) pl ql ne = absurd (omega (arith, one))

    abbrev both : ZoneView
    both = made v v_is (ends x y) tight

    in_cell : (a : ℤ) → Divides (pos v.period) (a -ℤ node v.residues 1) → IsInCell v (a ∷ [])
    in_cell a d = record { count = sym one; each = each }
      where
        each : (p : ℕ) → p ≤ columns_of v → Divides (pos v.period) (node (a ∷ []) p -ℤ node v.residues p)
        each zero l = Divides-is (pos v.period) (pos v.period -ℤ pos v.period) (pos 0 -ℤ pos 0) (omega (arith, ints)) (Divides-- (pos v.period) (pos v.period) (pos v.period) (Divides-self (pos v.period)) (Divides-self (pos v.period)))
        each (suc zero) l = d
        each (suc (suc p)) l = absurd (omega (arith, one))

    in_both : (a : ℤ) → Divides (pos v.period) (a -ℤ node v.residues 1) → x ≤ℤ a → a ≤ℤ y → IsMember both (a ∷ [])
    in_both a d low high = to_made v v_is (ends x y) tight (a ∷ []) (in_cell a d) meets
      where
        meets : (p q : ℕ) → p ≤ columns_of v → q ≤ columns_of v → p ≢ q → Within (node (a ∷ []) p -ℤ node (a ∷ []) q) (ends x y p q)
        meets zero zero pl ql ne = tt
        meets (suc zero) zero pl ql ne = omega (arith, ints)
        meets zero (suc zero) pl ql ne = omega (arith, ints)
        meets (suc zero) (suc zero) pl ql ne = absurd (ne refl)
        meets (suc (suc p)) q pl ql ne = absurd (omega (arith, one))
        meets p (suc (suc q)) pl ql ne = absurd (omega (arith, one))

    x_in : IsMember both (x ∷ [])
    x_in = in_both x dx (omega (arith, ints)) (omega (arith, ints, less))

    y_in : IsMember both (y ∷ [])
    y_in = in_both y dy (omega (arith, ints, less)) (omega (arith, ints))

    -- all that it has is in the two
    both_within : (xs : List ℤ) → IsMember both xs → InSome zones xs
    both_within xs m =
        let a = node xs 1 in
        let e : xs ≡ a ∷ [] = single xs (m.cell.count ∙ one) in
        let d : Divides (pos v.period) (a -ℤ node v.residues 1) = m.cell.each 1 (omega (arith, one)) in
        let high : (a -ℤ pos 0) ≤ℤ y = from_made v v_is (ends x y) tight xs m 1 0 (omega (arith, one)) (omega arith) (λ f. omega arith) in
        let low : (pos 0 -ℤ a) ≤ℤ neg_ℤ x = from_made v v_is (ends x y) tight xs m 0 1 (omega arith) (omega (arith, one)) (λ f. omega arith) in
        subst (InSome zones) (sym e) (elim (before_or a y) [
          | inl l ↦ (let s : a ≡ x = between x a (apart a x d dx) (omega (arith, ints, low)) (omega (arith, ints, l, next)) in record { zone = v; listed = v_in; inside = subst (λ b. IsMember v (b ∷ [])) (sym s) hx })
          | inr l ↦ (let s : a ≡ y = omega (arith, ints, l, high) in record { zone = w; listed = w_in; inside = subst (λ b. IsMember w (b ∷ [])) (sym s) hy })
        ])

    -- which cannot be, since the intervals are maximal
    not_near : ⊥
    not_near =
        let u = intervals.maximal both v v_in (made_is v v_is (ends x y) tight (x ∷ []) x_in) (made_cell v v_is (ends x y) tight) both_within in
        let at = u.1 in
        let ux : IsMember u.0 (x ∷ []) = u.2.each (x ∷ []) x_in in
        let uy : IsMember u.0 (y ∷ []) = u.2.each (y ∷ []) y_in in
        elim (number_or at.0 i) [
          | inl less ↦ (let b = intervals.ascending at.0 i u.0 less (omega arith) in let c : x <ℤ x = (subst (λ z. LiesBelow z v) at.2 (subst (λ z. LiesBelow (get_or zones at.0 u.0) z) (v_at u.0) b)) x x ux hx in absurd (omega (arith, ints)))
          | inr more ↦ elim more [
            | inl same ↦ (let e : u.0 ≡ v = sym at.2 ∙ ap (λ n. get_or zones n u.0) same ∙ v_at u.0 in let c : y <ℤ y = in_order y y (subst (λ z. IsMember z (y ∷ [])) e uy) hy in absurd (omega (arith, ints)))
            | inr above ↦ (let b = intervals.ascending i at.0 u.0 above at.1 in let c : x <ℤ x = (subst (λ z. LiesBelow v z) at.2 (subst (λ z. LiesBelow z (get_or zones at.0 u.0)) (v_at u.0) b)) x x hx ux in absurd (omega (arith, ints)))
          ]
        ]
      where
        number_or : (m n : ℕ) → (m < n) ⊎ ((m ≡ n) ⊎ (n < m))
        number_or m n = grind arith

  -- between them is the next number of the cell
  pub far_apart : (x y : ℤ) → Has v v_is one x → Has w w_is other y → (x +ℤ pos v.period) <ℤ y
  far_apart x y hx hy = elim (before_or (x +ℤ pos v.period) y) [ inl l ↦ l | inr near ↦ absurd (not_near x y hx hy near) ]
