-- Zones of one column: intervals of a cell, ascending and more than a period apart, are the maximal ones.
use Rattle.std.proofs.Common.{◌≡◌, ℕ, ◌<◌, inl, inr, List, [], ◌∷◌, Option, Some, None, length, get_or, arith, refl, sym, subst, ◌∙◌, ap}
use Rattle.std.specs.Prelude.{ℤ, pos, ◌-ℤ◌, ◌+ℤ◌, ◌≤ℤ◌, ◌<ℤ◌, Contains, AllPairs}
use Rattle.std.proofs.lemmas.Int.{ints}
use Rattle.std.proofs.lemmas.List.{get_or_default}
use Rattle.lrp_theory.specs.Bounds.{Within}
use Rattle.lrp_theory.specs.Divides.{Divides}
use Rattle.lrp_theory.specs.Entries.{entry, node}
use Rattle.lrp_theory.proofs.Modulo.{Divides-+, Divides-self, Divides-is}
use Rattle.lrp_zone.specs.Zones.{ZoneView, IsZone, IsMember, IsTight, columns_of}
use Rattle.lrp_zone.specs.Pairs.{IsOfCell, IsWithin}
use Rattle.lrp_store.specs.Settled.{InSome, AreIntervals}
use Rattle.lrp_zone.proofs.Lines.{in_line, line_cell, line_high, line_low}
use Rattle.lrp_cutting.specs.Intervals.{IsFarBelow}
use Rattle.lrp_cutting.proofs.Lists.{below_or}

pub less_high : (x y : ℤ) (e : Option ℤ) → x ≤ℤ y → Within (y -ℤ pos 0) e → Within (x -ℤ pos 0) e
less_high x y None l h = tt
less_high x y (Some a) l h = omega (arith, ints)

pub more_low : (x y : ℤ) (e : Option ℤ) → x ≤ℤ y → Within (pos 0 -ℤ x) e → Within (pos 0 -ℤ y) e
more_low x y None l h = tt
more_low x y (Some a) l h = omega (arith, ints)

-- between two numbers of a zone each number of the cell is in it
pub between : (z : ZoneView) (x g y : ℤ) → IsZone z → columns_of z ≡ 1 → IsMember z (x ∷ []) → IsMember z (y ∷ []) → x ≤ℤ g → g ≤ℤ y → Divides (pos z.period) (g -ℤ node z.residues 1) → IsMember z (g ∷ [])
between z x g y valid one mx my low high div = in_line z g valid one div (less_high g y _ high (line_high z y one my)) (more_low x g _ low (line_low z x one mx))

-- a zone of one column that ends has its end as a number
pub end_in : (z : ZoneView) (x a : ℤ) → IsZone z → columns_of z ≡ 1 → IsMember z (x ∷ []) → entry z.bounds 1 0 ≡ Some a → (x ≤ℤ a) × IsMember z (a ∷ [])
end_in z x a valid one m e =
    let below : (x -ℤ pos 0) ≤ℤ a = subst (λ f. Within (x -ℤ pos 0) f) e (line_high z x one m) in
    let tight : IsTight (pos z.period) (node z.residues 1 -ℤ pos 0) (Some a) = subst (λ f. IsTight (pos z.period) (node z.residues 1 -ℤ pos 0) f) e (valid.shape.tight 1 0 (omega (arith, one)) (omega arith)) in
    let div : Divides (pos z.period) (a -ℤ node z.residues 1) = Divides-is (pos z.period) _ _ (omega (arith, ints)) tight.0 in
    let le : x ≤ℤ a = omega (arith, ints) in
    (le, in_line z a valid one div (subst (λ f. Within (a -ℤ pos 0) f) (sym e) (omega (arith, ints))) (more_low x a _ le (line_low z x one m)))

module _ (zones : List ZoneView) (each : (w : ZoneView) → Contains zones w → IsZone w × (columns_of w ≡ 1)) (far : AllPairs IsFarBelow zones) where
  -- the zone with a number
  abbrev at : ℕ → ZoneView → ZoneView
  at k d = get_or zones k d

  far_at : (k l : ℕ) (u v : ZoneView) → k < l → l < length zones → get_or zones k u ≡ u → get_or zones l v ≡ v → IsFarBelow u v
  far_at k l u v kl ll eu ev =
      let a : get_or zones k u ≡ u = eu in
      let b : get_or zones l u ≡ v = get_or_default zones l u v ll ∙ ev in
      subst (λ y. IsFarBelow u y) b (subst (λ x. IsFarBelow x (get_or zones l u)) a (far k l u kl ll))

  module _ (w : ZoneView) (valid : IsZone w) (one : columns_of w ≡ 1) (inside : (xs : List ℤ) → IsMember w xs → InSome zones xs)
      (same : (v : ZoneView) → Contains zones v → IsOfCell v w) where
    -- no zone that lies within the set has numbers of two of them
    no_two : (k l : ℕ) (u v : ZoneView) (x y : ℤ) → k < l → l < length zones → get_or zones k u ≡ u → get_or zones l v ≡ v → IsMember u (x ∷ []) → IsMember v (y ∷ []) → IsMember w (x ∷ []) → IsMember w (y ∷ []) → (e : Option ℤ) → entry u.bounds 1 0 ≡ e → ⊥
    no_two k l u v x y kl ll eu ev mu mv wx wy None e =
        let cu : Contains zones u = (k, lt, eu) in
        let f : (x +ℤ pos u.period) <ℤ y = (far_at k l u v kl ll eu ev).far x y mu mv in
        let c : IsOfCell u w = same u cu in
        let div : Divides (pos u.period) (y -ℤ node u.residues 1) = subst (λ p. Divides (pos p) (y -ℤ node u.residues 1)) c.period (subst (λ rs. Divides (pos w.period) (y -ℤ node rs 1)) c.residues (line_cell w y one wy)) in
        let in_u : IsMember u (y ∷ []) = in_line u y (each u cu).0 (each u cu).1 div (subst (λ o. Within (y -ℤ pos 0) o) (sym e) tt) (more_low x y _ (omega (arith, ints)) (line_low u x (each u cu).1 mu)) in
        let g : (y +ℤ pos u.period) <ℤ y = (far_at k l u v kl ll eu ev).far y y in_u mv in
        absurd (omega (arith, ints))
      where
        lt : k < length zones
        lt = omega arith
    no_two k l u v x y kl ll eu ev mu mv wx wy (Some a) e =
        let kt : k < length zones = omega arith in
        let cu : Contains zones u = (k, kt, eu) in
        let c : IsOfCell u w = same u cu in
        let low : 0 < u.period = (each u cu).0.shape.period_low in
        let top : (x ≤ℤ a) × IsMember u (a ∷ []) = end_in u x a (each u cu).0 (each u cu).1 mu e in
        let f : (a +ℤ pos u.period) <ℤ y = (far_at k l u v kl ll eu ev).far a y top.1 mv in
        let du : Divides (pos u.period) (a -ℤ node u.residues 1) = line_cell u a (each u cu).1 top.1 in
        let dg : Divides (pos u.period) ((a +ℤ pos u.period) -ℤ node u.residues 1) = Divides-is (pos u.period) _ _ (omega (arith, ints)) (Divides-+ (pos u.period) _ _ du (Divides-self (pos u.period))) in
        let dw : Divides (pos w.period) ((a +ℤ pos u.period) -ℤ node w.residues 1) = subst (λ p. Divides (pos p) ((a +ℤ pos u.period) -ℤ node w.residues 1)) (sym c.period) (subst (λ rs. Divides (pos u.period) ((a +ℤ pos u.period) -ℤ node rs 1)) (sym c.residues) dg) in
        let s : InSome zones ((a +ℤ pos u.period) ∷ []) = inside _ (between w x (a +ℤ pos u.period) y valid one wx wy (omega (arith, ints, top.0)) (omega (arith, ints)) dw) in
        elim (below_or s.listed.0 k) [
          | inl less ↦ (let h : ((a +ℤ pos u.period) +ℤ pos s.zone.period) <ℤ x = (far_at s.listed.0 k s.zone u less kt s.listed.2 eu).far _ x s.inside mu in absurd (omega (arith, ints, top.0)))
          | inr more ↦ elim (below_or k s.listed.0) [
            | inl less ↦ (let h : (a +ℤ pos u.period) <ℤ (a +ℤ pos u.period) = (far_at k s.listed.0 u s.zone less s.listed.1 eu s.listed.2).far a _ top.1 s.inside in absurd (omega (arith, ints)))
            | inr back ↦ (let eq : s.listed.0 ≡ k = omega arith in
                let z : s.zone ≡ u = sym s.listed.2 ∙ ap (λ i. get_or zones i s.zone) eq ∙ get_or_default zones k s.zone u kt ∙ eu in
                let h : ((a +ℤ pos u.period) -ℤ pos 0) ≤ℤ a = subst (λ o. Within ((a +ℤ pos u.period) -ℤ pos 0) o) e (line_high u (a +ℤ pos u.period) (each u cu).1 (subst (λ q. IsMember q ((a +ℤ pos u.period) ∷ [])) z s.inside)) in
                absurd (omega (arith, ints)))
          ]
        ]

    -- so it lies within one of them
    one_of : (xs : List ℤ) → length xs ≡ 1 → (x : ℤ) × (xs ≡ x ∷ [])
    one_of [] h = absurd (omega arith)
    one_of (x ∷ []) h = (x, refl)
    one_of (x ∷ y ∷ ys) h = absurd (omega arith)

    same_zone : (x y : ℤ) (s : InSome zones (x ∷ [])) (t : InSome zones (y ∷ [])) → IsMember w (x ∷ []) → IsMember w (y ∷ []) → s.zone ≡ t.zone
    same_zone x y s t wx wy = elim (below_or s.listed.0 t.listed.0) [
      | inl less ↦ absurd (no_two s.listed.0 t.listed.0 s.zone t.zone x y less t.listed.1 s.listed.2 t.listed.2 s.inside t.inside wx wy (entry s.zone.bounds 1 0) refl)
      | inr more ↦ elim (below_or t.listed.0 s.listed.0) [
        | inl less ↦ absurd (no_two t.listed.0 s.listed.0 t.zone s.zone y x less s.listed.1 t.listed.2 s.listed.2 t.inside s.inside wy wx (entry t.zone.bounds 1 0) refl)
        | inr back ↦ (let eq : s.listed.0 ≡ t.listed.0 = omega arith in sym s.listed.2 ∙ ap (λ i. get_or zones i s.zone) eq ∙ get_or_default zones t.listed.0 s.zone t.zone t.listed.1 ∙ t.listed.2)
      ]
    ]

    pub within_one : (u : ZoneView) × Contains zones u × IsWithin w u
    within_one =
        let m : (x : ℤ) × (valid.some.member ≡ x ∷ []) = one_of valid.some.member (valid.some.is.cell.count ∙ one) in
        let wx : IsMember w (m.0 ∷ []) = subst (λ l. IsMember w l) m.1 valid.some.is in
        let s : InSome zones (m.0 ∷ []) = inside (m.0 ∷ []) wx in (
          s.zone,
          s.listed,
          record {
            each = λ ys my.
                let n : (y : ℤ) × (ys ≡ y ∷ []) = one_of ys (my.cell.count ∙ one) in
                let wy : IsMember w (n.0 ∷ []) = subst (λ l. IsMember w l) n.1 my in
                let t : InSome zones (n.0 ∷ []) = inside (n.0 ∷ []) wy in
                subst (λ l. IsMember s.zone l) (sym n.1) (subst (λ z. IsMember z (n.0 ∷ [])) (sym (same_zone m.0 n.0 s t wx wy)) t.inside);
          },
        )

  pub intervals : ((q v : ZoneView) → Contains zones q → Contains zones v → IsOfCell q v) → AreIntervals zones
  intervals cell = record {
    ascending = λ i j d il jl. λ x y a b. (let l : (x +ℤ pos (get_or zones i d).period) <ℤ y = (far i j d il jl).far x y a b in omega (arith, ints));
    maximal = λ w v lv valid c inside. within_one w valid (ap length c.residues ∙ (each v lv).1) inside (λ q lq. record { period = c.period ∙ (cell q v lq lv).period; residues = c.residues ∙ (cell q v lq lv).residues });
  }
