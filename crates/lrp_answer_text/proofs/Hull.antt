-- The hull of zones of one cell: where bounds hold their set, it is their set.
use Rattle.std.proofs.Common.{◌≡◌, ◌≢◌, ◌<◌, ◌≤◌, ◌+◌, ◌^◌, ◌∙◌, ◌⊎◌, inl, inr, ℕ, zero, suc, List, [], ◌∷◌, Option, Some, None, refl, sym, ap, subst, arith, length}
use Rattle.std.specs.Prelude.{ℤ, pos, ◌-ℤ◌, ◌+ℤ◌, ◌≤ℤ◌, Contains}
use Rattle.std.specs.Int.{int_max}
use Rattle.std.specs.List.{AllByRecursion}
use Rattle.std.proofs.lemmas.Int.{ints}
use Rattle.lrp_theory.specs.Bounds.{Within}
use Rattle.lrp_theory.specs.Divides.{Divides}
use Rattle.lrp_theory.specs.Entries.{node, AtMost}
use Rattle.lrp_theory.proofs.Modulo.{Divides--, Divides-is}
use Rattle.lrp_model.specs.Rows.{MeetsBound}
use Rattle.lrp_model.specs.declared.relations.Bound.{Bound}
use Rattle.lrp_zone.specs.Zones.{ZoneView, IsZone, IsInCell, IsMember, IsTight, columns_of}
use Rattle.lrp_zone.specs.Pairs.{IsOfCell}
use Rattle.lrp_zone.proofs.Cases.{eq_or}
use Rattle.lrp_store.specs.Least.{IsRoom}
use Rattle.lrp_store.specs.Settled.{InSome, AreOneZone}
use Rattle.lrp_answer_text.specs.AnswerText.{shortest}
use Rattle.lrp_answer_text.proofs.Closed.{closed_at, closed_attained, closed_met, closed_reached, closed_small}
use Rattle.lrp_answer_text.proofs.Lists.{all_in, below_or, head_in, in_all, in_cons, in_one, later, one_in}
use Rattle.lrp_answer_text.proofs.Made.{made, made_cell, made_is, from_made, to_made}

-- ---- the greatest of closed bounds

abbrev greater : Option ℤ → Option ℤ → Option ℤ
greater None e = None
greater (Some a) None = None
greater (Some a) (Some b) = Some (int_max a b)

max_left : (a b : ℤ) → a ≤ℤ int_max a b
max_left a b = grind (arith, ints)

max_right : (a b : ℤ) → b ≤ℤ int_max a b
max_right a b = grind (arith, ints)

max_one : (a b : ℤ) → (a ≡ int_max a b) ⊎ (b ≡ int_max a b)
max_one a b = grind (arith, ints)

greater_left : (e f : Option ℤ) (d : ℤ) → Within d e → Within d (greater e f)
greater_left None f d h = tt
greater_left (Some a) None d h = tt
greater_left (Some a) (Some b) d h = let m : a ≤ℤ int_max a b = max_left a b in omega (arith, ints)

greater_right : (e f : Option ℤ) (d : ℤ) → Within d f → Within d (greater e f)
greater_right None f d h = tt
greater_right (Some a) None d h = tt
greater_right (Some a) (Some b) d h = let m : b ≤ℤ int_max a b = max_right a b in omega (arith, ints)

greater_one : (e f : Option ℤ) → (e ≡ greater e f) ⊎ (f ≡ greater e f)
greater_one None f = inl refl
greater_one (Some a) None = inr refl
greater_one (Some a) (Some b) = elim (max_one a b) [ inl e ↦ inl (ap Some e) | inr e ↦ inr (ap Some e) ]

-- the closed bound of a zone
abbrev closed_of : ZoneView → ℕ → ℕ → Option ℤ
closed_of y i j = shortest y.bounds (columns_of y + 1) i j

-- the greatest of all
abbrev widest : ZoneView → List ZoneView → ℕ → ℕ → Option ℤ
widest z [] i j = closed_of z i j
widest z (y ∷ ys) i j = greater (closed_of z i j) (widest y ys i j)

record IsWidest (zones : List ZoneView) (i j : ℕ) (e : Option ℤ) : Type 0 where
  above : (y : ZoneView) → Contains zones y → (d : ℤ) → Within d (closed_of y i j) → Within d e
  zone : ZoneView
  listed : Contains zones zone
  is : closed_of zone i j ≡ e

widest_is : (z : ZoneView) (ys : List ZoneView) (i j : ℕ) → IsWidest (z ∷ ys) i j (widest z ys i j)
widest_is z [] i j = record { above = λ y k d w. subst (λ v. Within d (closed_of v i j)) (sym (in_one z y k)) w; zone = z; listed = one_in z; is = refl }
widest_is z (y ∷ ys) i j =
    let r = widest_is y ys i j in
    let over : (v : ZoneView) → Contains (z ∷ y ∷ ys) v → (d : ℤ) → Within d (closed_of v i j) → Within d (greater (closed_of z i j) (widest y ys i j)) = λ v k d w. elim (in_cons z (y ∷ ys) v k) [
      | inl e ↦ greater_left (closed_of z i j) (widest y ys i j) d (subst (λ u. Within d (closed_of u i j)) (sym e) w)
      | inr m ↦ greater_right (closed_of z i j) (widest y ys i j) d (r.above v m d w)
    ] in
    elim (greater_one (closed_of z i j) (widest y ys i j)) [
      | inl e ↦ record { above = over; zone = z; listed = head_in z (y ∷ ys); is = e }
      | inr e ↦ record { above = over; zone = r.zone; listed = later z (y ∷ ys) r.zone r.listed; is = r.is ∙ e }
    ]

-- a closed bound is tight
closed_tight : (y : ZoneView) (is : IsZone y) (h : ℕ) → IsRoom y h → (i j : ℕ) → i ≤ columns_of y → j ≤ columns_of y → i ≢ j → (e : Option ℤ) → closed_at y is i j ≡ e → IsTight (pos y.period) (node y.residues i -ℤ node y.residues j) e
closed_tight y is h room i j il jl ne None e = tt
closed_tight y is h room i j il jl ne (Some b) e =
    let r = closed_attained y is i j b il jl ne e in
    let small : AtMost (2 ^ 62) (Some b) = subst (AtMost (2 ^ 62)) e (closed_small y is h room i j il jl ne) in
    let same : node r.0 i -ℤ node r.0 j ≡ b = r.2 in
    (Divides-is (pos y.period) ((node r.0 i -ℤ node y.residues i) -ℤ (node r.0 j -ℤ node y.residues j)) (b -ℤ (node y.residues i -ℤ node y.residues j)) (omega (arith, ints)) (Divides-- (pos y.period) (node r.0 i -ℤ node y.residues i) (node r.0 j -ℤ node y.residues j) (r.1.cell.each i il) (r.1.cell.each j jl)), small)

-- past the last column stands nothing
node_past : (xs : List ℤ) (i : ℕ) → length xs < i → node xs i ≡ pos 0
node_past xs zero l = refl
node_past [] (suc i) l = refl
node_past (x ∷ xs) (suc zero) l = absurd (omega arith)
node_past (x ∷ xs) (suc (suc i)) l = node_past xs (suc i) (omega arith)

-- ---- the hull

module _ (z : ZoneView) (ys : List ZoneView) (valid : (y : ZoneView) → Contains (z ∷ ys) y → IsZone y) (cells : (y : ZoneView) → Contains (z ∷ ys) y → IsOfCell z y) (room : (y : ZoneView) → Contains (z ∷ ys) y → (h : ℕ) × IsRoom y h) where
  pub z_is : IsZone z
  z_is = valid z (head_in z ys)

  columns_same : (y : ZoneView) → Contains (z ∷ ys) y → columns_of y ≡ columns_of z
  columns_same y k = ap (λ rs. length rs) (cells y k).residues

  pub tight : (i j : ℕ) → i ≤ columns_of z → j ≤ columns_of z → i ≢ j → IsTight (pos z.period) (node z.residues i -ℤ node z.residues j) (widest z ys i j)
  tight i j il jl ne =
      let w = widest_is z ys i j in
      let n : columns_of w.zone ≡ columns_of z = columns_same w.zone w.listed in
      let r = room w.zone w.listed in
      let t : IsTight (pos w.zone.period) (node w.zone.residues i -ℤ node w.zone.residues j) (widest z ys i j) = closed_tight w.zone (valid w.zone w.listed) r.0 r.1 i j (omega arith) (omega arith) ne (widest z ys i j) w.is in
      let u : IsTight (pos z.period) (node w.zone.residues i -ℤ node w.zone.residues j) (widest z ys i j) = subst (λ p. IsTight (pos p) (node w.zone.residues i -ℤ node w.zone.residues j) (widest z ys i j)) (cells w.zone w.listed).period t in
      subst (λ rs. IsTight (pos z.period) (node rs i -ℤ node rs j) (widest z ys i j)) (cells w.zone w.listed).residues u

  abbrev pub hull : ZoneView
  hull = made z z_is (widest z ys) tight

  pub in_cell : (y : ZoneView) → Contains (z ∷ ys) y → (xs : List ℤ) → IsMember y xs → IsInCell z xs
  in_cell y k xs h = record {
    count = h.cell.count ∙ columns_same y k;
    each = λ i il.
        let n : columns_of y ≡ columns_of z = columns_same y k in
        subst (λ p. Divides (pos p) (node xs i -ℤ node z.residues i)) (cells y k).period (subst (λ rs. Divides (pos y.period) (node xs i -ℤ node rs i)) (cells y k).residues (h.cell.each i (omega arith)));
  }

  in_hull : (y : ZoneView) → Contains (z ∷ ys) y → (xs : List ℤ) → IsMember y xs → IsMember hull xs
  in_hull y k xs h =
      let n : columns_of y ≡ columns_of z = columns_same y k in
      to_made z z_is (widest z ys) tight xs (in_cell y k xs h) (λ i j il jl ne. (widest_is z ys i j).above y k (node xs i -ℤ node xs j) (closed_met y (valid y k) i j (omega arith) (omega arith) ne xs h))

  hull_is : IsZone hull
  hull_is = made_is z z_is (widest z ys) tight z_is.some.member (in_hull z (head_in z ys) z_is.some.member z_is.some.is)

  -- where all of it is in the zones, they are one zone
  pub is_one : ((xs : List ℤ) → IsMember hull xs → InSome (z ∷ ys) xs) → (w : ZoneView) × IsOfCell z w × AreOneZone (z ∷ ys) w
  is_one whole = (hull, made_cell z z_is (widest z ys) tight, record { is = hull_is; within = λ xs s. in_hull s.zone s.listed xs s.inside; whole = whole })

  -- ---- bounds that all tuples of the zones meet

  module _ (bounds : List Bound) (met : (xs : List ℤ) → InSome (z ∷ ys) xs → AllByRecursion (MeetsBound xs) bounds) where
    met_at : (b : Bound) → Contains bounds b → (y : ZoneView) → Contains (z ∷ ys) y → (xs : List ℤ) → IsMember y xs → (node xs b.left -ℤ node xs b.right) ≤ℤ b.most
    met_at b m y k xs h = in_all (MeetsBound xs) bounds (met xs (record { zone = y; listed = k; inside = h })) b m

    -- a column, or zero in its place
    record Stands (i : ℕ) : Type 0 where
      at : ℕ
      low : at ≤ columns_of z
      same : (xs : List ℤ) → length xs ≡ columns_of z → node xs i ≡ node xs at

    stands : (i : ℕ) → Stands i
    stands i = elim (below_or (columns_of z) i) [
      | inl l ↦ record { at = 0; low = omega arith; same = λ xs e. node_past xs i (omega arith) }
      | inr l ↦ record { at = i; low = l; same = λ xs e. refl }
    ]

    hull_met : (b : Bound) → Contains bounds b → (xs : List ℤ) → IsMember hull xs → (node xs b.left -ℤ node xs b.right) ≤ℤ b.most
    hull_met b m xs h =
        let l = stands b.left in
        let r = stands b.right in
        let el : node xs b.left ≡ node xs l.at = l.same xs h.cell.count in
        let er : node xs b.right ≡ node xs r.at = r.same xs h.cell.count in
        elim (eq_or l.at r.at) [
          | inl e ↦ (
              let ws = z_is.some.member in
              let some : (node ws b.left -ℤ node ws b.right) ≤ℤ b.most = met_at b m z (head_in z ys) ws z_is.some.is in
              let sl : node ws b.left ≡ node ws l.at = l.same ws z_is.some.is.cell.count in
              let sr : node ws b.right ≡ node ws r.at = r.same ws z_is.some.is.cell.count in
              let one : node xs l.at ≡ node xs r.at = ap (λ k. node xs k) e in
              let two : node ws l.at ≡ node ws r.at = ap (λ k. node ws k) e in
              omega (arith, ints)
              )
          | inr ne ↦ by l r ne el er (widest_is z ys l.at r.at) (widest z ys l.at r.at) refl
        ]
      where
        by : (l : Stands b.left) (r : Stands b.right) → l.at ≢ r.at → node xs b.left ≡ node xs l.at → node xs b.right ≡ node xs r.at → IsWidest (z ∷ ys) l.at r.at (widest z ys l.at r.at) → (e : Option ℤ) → widest z ys l.at r.at ≡ e → (node xs b.left -ℤ node xs b.right) ≤ℤ b.most
        by l r ne el er w None e =
            let n : columns_of w.zone ≡ columns_of z = columns_same w.zone w.listed in
            let ll : l.at ≤ columns_of z = l.low in
            let rl : r.at ≤ columns_of z = r.low in
            let c = closed_reached w.zone (valid w.zone w.listed) l.at r.at (omega arith) (omega arith) ne (b.most +ℤ pos 1) (subst (λ f. Within (b.most +ℤ pos 1) f) (sym (w.is ∙ e)) tt) in
            let far : (b.most +ℤ pos 1) ≤ℤ (node c.0 l.at -ℤ node c.0 r.at) = c.2 in
            let some : (node c.0 b.left -ℤ node c.0 b.right) ≤ℤ b.most = met_at b m w.zone w.listed c.0 c.1 in
            let sl : node c.0 b.left ≡ node c.0 l.at = l.same c.0 (c.1.cell.count ∙ n) in
            let sr : node c.0 b.right ≡ node c.0 r.at = r.same c.0 (c.1.cell.count ∙ n) in
            absurd (omega (arith, ints))
        by l r ne el er w (Some d) e =
            let n : columns_of w.zone ≡ columns_of z = columns_same w.zone w.listed in
            let ll : l.at ≤ columns_of z = l.low in
            let rl : r.at ≤ columns_of z = r.low in
            let c = closed_attained w.zone (valid w.zone w.listed) l.at r.at d (omega arith) (omega arith) ne (w.is ∙ e) in
            let same : node c.0 l.at -ℤ node c.0 r.at ≡ d = c.2 in
            let some : (node c.0 b.left -ℤ node c.0 b.right) ≤ℤ b.most = met_at b m w.zone w.listed c.0 c.1 in
            let sl : node c.0 b.left ≡ node c.0 l.at = l.same c.0 (c.1.cell.count ∙ n) in
            let sr : node c.0 b.right ≡ node c.0 r.at = r.same c.0 (c.1.cell.count ∙ n) in
            let here : (node xs l.at -ℤ node xs r.at) ≤ℤ d = subst (λ f. Within (node xs l.at -ℤ node xs r.at) f) e (from_made z z_is (widest z ys) tight xs h l.at r.at ll rl ne) in
            omega (arith, ints)

    -- its tuples meet them too
    pub hull_meets : (xs : List ℤ) → IsMember hull xs → AllByRecursion (MeetsBound xs) bounds
    hull_meets xs h = all_in (MeetsBound xs) bounds (λ b m. hull_met b m xs h)
