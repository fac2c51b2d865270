-- Zones of one period and of the same residues, with small bounds: what tests settle.
use Rattle.std.proofs.Common.{◌≡◌, ℕ, ◌+◌, ◌*◌, ◌≤◌, ◌^◌, inl, inr, List, [], ◌∷◌, ◌++◌, length, arith, sym, subst, ◌∙◌, ap}
use Rattle.std.specs.Prelude.{ℤ, pos, Contains}
use Rattle.std.proofs.lemmas.Int.{ints}
use Rattle.std.proofs.lemmas.List.Elements.{Contains-append_cases}
use Rattle.lrp_zone.specs.Zones.{ZoneView, columns_of, reach_of}
use Rattle.lrp_cutting.specs.Differences.{AreOfCell, IsDifference, greatest_reach}
use Rattle.lrp_cutting.proofs.Lists.{in_none, in_one, reach_below}
use Rattle.lrp_cutting.proofs.SettlingLaws.{same_cell}

eight_times : (n r h : ℕ) → n ≤ 8 → r ≤ h → n * r ≤ 8 * h
eight_times n r h a b = grind arith

pub alike_reach : (n r p : ℕ) → n ≤ 8 → r ≤ 2 ^ 57 → p ≤ 2 ^ 57 → n * r + p ≤ 2 ^ 62
alike_reach n r p a b c = let t : n * r ≤ 8 * 2 ^ 57 = eight_times n r (2 ^ 57) a b in omega arith

module _ (z : ZoneView) (zones : List ZoneView) (cells : AreOfCell z zones) where
  pub alike_cells : (w : ZoneView) → Contains zones w → AreOfCell w zones
  alike_cells w l = record { each = λ v k. same_cell z w v (cells.each w l) (cells.each v k) }

  pub alike_room : columns_of z ≤ 8 → z.period ≤ 2 ^ 57 → greatest_reach zones ≤ 2 ^ 57 → (w : ZoneView) → Contains zones w → columns_of w * reach_of w + w.period ≤ 2 ^ 62
  alike_room few low small w l =
      let n : columns_of w ≡ columns_of z = ap length (cells.each w l).residues in
      let p : w.period ≡ z.period = (cells.each w l).period in
      let r : reach_of w ≤ greatest_reach zones = reach_below zones w l in
      alike_reach (columns_of w) (reach_of w) w.period (omega (arith, n)) (omega arith) (omega arith)

-- pieces of a zone are alike
pub pieces_cell : (z : ZoneView) (cutters made : List ZoneView) → IsDifference z cutters made → AreOfCell z made
pieces_cell z cutters made d = record { each = λ w l. (d.zones w l).1 }

-- ---- by the period and the residues alone
pub record AreAlike (k : ℤ) (rs : List ℤ) (h : ℕ) (zones : List ZoneView) : Type 0 where
  pub period : (z : ZoneView) → Contains zones z → pos z.period ≡ k
  pub residues : (z : ZoneView) → Contains zones z → z.residues ≡ rs
  pub reach : (z : ZoneView) → Contains zones z → reach_of z + z.period ≤ h

same_nat : (a b : ℕ) (k : ℤ) → pos a ≡ k → pos b ≡ k → a ≡ b
same_nat a b k p q = let e : pos a ≡ pos b = p ∙ sym q in omega (arith, ints)

pub alike_none : (k : ℤ) (rs : List ℤ) (h : ℕ) → AreAlike k rs h []
alike_none k rs h = record { period = λ z l. absurd (in_none z l); residues = λ z l. absurd (in_none z l); reach = λ z l. absurd (in_none z l) }

pub alike_push : (k : ℤ) (rs : List ℤ) (h : ℕ) (zones : List ZoneView) (z : ZoneView) → AreAlike k rs h zones → pos z.period ≡ k → z.residues ≡ rs → reach_of z + z.period ≤ h → AreAlike k rs h (zones ++ z ∷ [])
alike_push k rs h zones z a p r s = record {
  period = λ w l. elim (Contains-append_cases zones (z ∷ []) w l) [ inl i ↦ a.period w i | inr i ↦ subst (λ y. pos y.period ≡ k) (in_one z w i) p ];
  residues = λ w l. elim (Contains-append_cases zones (z ∷ []) w l) [ inl i ↦ a.residues w i | inr i ↦ subst (λ y. y.residues ≡ rs) (in_one z w i) r ];
  reach = λ w l. elim (Contains-append_cases zones (z ∷ []) w l) [ inl i ↦ a.reach w i | inr i ↦ subst (λ y. reach_of y + y.period ≤ h) (in_one z w i) s ];
}

pub alike_each : (k : ℤ) (rs : List ℤ) (h : ℕ) (zones : List ZoneView) → AreAlike k rs h zones → (z : ZoneView) → Contains zones z → AreOfCell z zones
alike_each k rs h zones a z l = record { each = λ w i. record { period = same_nat w.period z.period k (a.period w i) (a.period z l); residues = a.residues w i ∙ sym (a.residues z l) } }

pub alike_small : (k : ℤ) (rs : List ℤ) (zones : List ZoneView) → length rs ≤ 8 → AreAlike k rs (2 ^ 55) zones → (z : ZoneView) → Contains zones z → columns_of z * reach_of z + z.period ≤ 2 ^ 62
alike_small k rs zones few a z l =
    let n : columns_of z ≡ length rs = ap length (a.residues z l) in
    let r : reach_of z + z.period ≤ 2 ^ 55 = a.reach z l in
    alike_reach (columns_of z) (reach_of z) z.period (omega (arith, n)) (omega arith) (omega arith)
