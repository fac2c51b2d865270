-- Zones of integers are of one cell, and have room where they are cut and settled.
use Rattle.std.proofs.Common.{◌≡◌, ℕ, ◌+◌, ◌*◌, ◌≤◌, ◌^◌, ◌⊎◌, inl, inr, List, [], ◌∷◌, ◌++◌, Contains, Option, Some, length, sym, subst, ap, ◌∙◌, arith}
use Rattle.std.specs.Prelude.{pos, IfOk, IfSome, Ok, Result}
use Rattle.std.proofs.lemmas.Int.{ints}
use Rattle.std.proofs.lemmas.List.Elements.{Contains-append_cases}
use Rattle.lrp_zone.specs.Zones.{ZoneView, columns_of, reach_of}
use Rattle.lrp_cutting.specs.Differences.{AreOfCell, IsDifference, greatest_reach}
use Rattle.lrp_cutting.proofs.Lists.{greatest_below, in_none, in_one, reach_below}
use Rattle.lrp_table_tests.specs.Integers.{AreOfIntegers, IsOfIntegers}

pub none_of : (h : ℕ) → AreOfIntegers h []
none_of h = record { each = λ z c. absurd (in_none z c) }

pub with_one : (h : ℕ) (zs : List ZoneView) (z : ZoneView) → AreOfIntegers h zs → IsOfIntegers h z → AreOfIntegers h (zs ++ z ∷ [])
with_one h zs z all one = record {
  each = λ w c. elim (Contains-append_cases zs (z ∷ []) w c) [
    | inl k ↦ all.each w k
    | inr k ↦ subst (λ y. IsOfIntegers h y) (in_one z w k) one
  ];
}

pub of_cell : (h k : ℕ) (z : ZoneView) (zs : List ZoneView) → IsOfIntegers h z → AreOfIntegers k zs → AreOfCell z zs
of_cell h k z zs a b = record {
  each = λ w c. record {
    period = (b.each w c).period ∙ sym a.period;
    residues = (b.each w c).residues ∙ sym a.residues;
  };
}

pub cut_room : (h : ℕ) (z : ZoneView) (zs : List ZoneView) → IsOfIntegers h z → AreOfIntegers h zs → greatest_reach (z ∷ zs) + z.period ≤ h + 1
cut_room h z zs a b =
    let one : z.period ≡ 1 = a.period in
    let own : reach_of z + z.period ≤ h = a.reach in
    let others : greatest_reach zs ≤ h = greatest_below zs h (λ w c. let r : reach_of w + w.period ≤ h = (b.each w c).reach in omega arith) in
    omega arith

pub left_of : (h : ℕ) (z : ZoneView) (zs made : List ZoneView) → IsOfIntegers h z → IsDifference z zs made → greatest_reach made + 1 ≤ h + 2 → AreOfIntegers (h + 2) made
left_of h z zs made a d low = record {
  each = λ w c.
      let cell = (d.zones w c).1 in
      let one : w.period ≡ 1 = cell.period ∙ a.period in
      let r : reach_of w ≤ greatest_reach made = reach_below made w c in
      record { period = one; residues = cell.residues ∙ a.residues; reach = omega arith };
}

pub cut_fits : (z : ZoneView) (zs : List ZoneView) → IsOfIntegers (2 ^ 55) z → AreOfIntegers (2 ^ 55) zs → greatest_reach (z ∷ zs) + z.period ≤ 2 ^ 62
cut_fits z zs a b = let r : greatest_reach (z ∷ zs) + z.period ≤ 2 ^ 55 + 1 = cut_room (2 ^ 55) z zs a b in omega (arith, r)

pub left_found : {E : Type 0} (z : ZoneView) (zs : List ZoneView) (r : Result (List ZoneView) E) (made : List ZoneView) → r ≡ Ok made → IsOfIntegers (2 ^ 55) z → AreOfIntegers (2 ^ 55) zs → IfOk r (λ m. IsDifference z zs m) → IfOk r (λ m. greatest_reach m ≤ greatest_reach (z ∷ zs) + z.period) → AreOfIntegers (2 ^ 55 + 2) made
left_found z zs r made e a b difference reach =
    let d : IsDifference z zs made = subst (λ p. IfOk p (λ m. IsDifference z zs m)) e difference in
    let l : greatest_reach made ≤ greatest_reach (z ∷ zs) + z.period = subst (λ p. IfOk p (λ m. greatest_reach m ≤ greatest_reach (z ∷ zs) + z.period)) e reach in
    let u : greatest_reach (z ∷ zs) + z.period ≤ 2 ^ 55 + 1 = cut_room (2 ^ 55) z zs a b in
    left_of (2 ^ 55) z zs made a d (omega (arith, l, u))

pub settle_room : (h : ℕ) (z : ZoneView) → IsOfIntegers h z → columns_of z * reach_of z + z.period ≤ h
settle_room h z a =
    let one : columns_of z ≡ 1 = ap length a.residues in
    let r : reach_of z + z.period ≤ h = a.reach in
    rw one (omega arith)

-- what was found of such parts
pub found : (h : ℕ) (o : Option ZoneView) (z : ZoneView) → o ≡ Some z → IfSome o (λ y. reach_of y + y.period ≤ h) → IfSome o (λ y. pos y.period ≡ pos 1) → IfSome o (λ y. y.residues ≡ pos 0 ∷ []) → IsOfIntegers h z
found h o z e reach period residues =
    let r : reach_of z + z.period ≤ h = subst (λ p. IfSome p (λ y. reach_of y + y.period ≤ h)) e reach in
    let k : pos z.period ≡ pos 1 = subst (λ p. IfSome p (λ y. pos y.period ≡ pos 1)) e period in
    record {
      period = omega (arith, ints, k);
      residues = subst (λ p. IfSome p (λ y. y.residues ≡ pos 0 ∷ [])) e residues;
      reach = r;
    }

-- the zones of a list are of one cell
pub of_cells : (h : ℕ) (zs : List ZoneView) → AreOfIntegers h zs → (z : ZoneView) → Contains zs z → AreOfCell z zs
of_cells h zs all z c = of_cell h h z zs (all.each z c) all

pub settle_rooms : (h : ℕ) (zs : List ZoneView) → AreOfIntegers h zs → h ≤ 2 ^ 62 → (z : ZoneView) → Contains zs z → columns_of z * reach_of z + z.period ≤ 2 ^ 62
settle_rooms h zs all low z c = let r : columns_of z * reach_of z + z.period ≤ h = settle_room h z (all.each z c) in omega (arith, r, low)
