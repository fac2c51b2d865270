-- Zones of one column: what their members are, by a number alone.
use Rattle.std.proofs.Common.{◌≡◌, ℕ, zero, suc, ◌≤◌, [], ◌∷◌, arith, sym, subst}
use Rattle.std.specs.Prelude.{ℤ, pos, ◌-ℤ◌}
use Rattle.std.proofs.lemmas.Int.{ints}
use Rattle.lrp_theory.specs.Bounds.{Within}
use Rattle.lrp_theory.specs.Divides.{Divides}
use Rattle.lrp_theory.specs.Entries.{entry, node}
use Rattle.lrp_theory.proofs.Modulo.{Divides-zero, Divides-is}
use Rattle.lrp_zone.specs.Zones.{ZoneView, IsZone, IsMember, columns_of}

-- a number of the cell that meets both bounds is in a zone of one column
pub in_line : (z : ZoneView) (g : ℤ) → IsZone z → columns_of z ≡ 1 → Divides (pos z.period) (g -ℤ node z.residues 1) → Within (g -ℤ pos 0) (entry z.bounds 1 0) → Within (pos 0 -ℤ g) (entry z.bounds 0 1) → IsMember z (g ∷ [])
in_line z g valid one div high low = record {
  cell = record { count = sym one; each = λ i il. each i (omega arith) };
  meets = λ i j il jl. meets i j (omega arith) (omega arith);
}
  where
    each : (i : ℕ) → i ≤ 1 → Divides (pos z.period) (node (g ∷ []) i -ℤ node z.residues i)
    each zero l = Divides-is (pos z.period) (pos 0) _ (omega (arith, ints)) (Divides-zero (pos z.period))
    each (suc zero) l = div
    each (suc (suc i)) l = absurd (omega arith)

    meets : (i j : ℕ) → i ≤ 1 → j ≤ 1 → Within (node (g ∷ []) i -ℤ node (g ∷ []) j) (entry z.bounds i j)
    meets zero zero l m = subst (λ e. Within (pos 0 -ℤ pos 0) e) (sym (valid.shape.diagonal 0 (omega arith))) tt
    meets zero (suc zero) l m = low
    meets (suc zero) zero l m = high
    meets (suc zero) (suc zero) l m = subst (λ e. Within (g -ℤ g) e) (sym (valid.shape.diagonal 1 (omega (arith, one)))) tt
    meets (suc (suc i)) j l m = absurd (omega arith)
    meets i (suc (suc j)) l m = absurd (omega arith)

-- the parts of being a member
pub line_cell : (z : ZoneView) (x : ℤ) → columns_of z ≡ 1 → IsMember z (x ∷ []) → Divides (pos z.period) (x -ℤ node z.residues 1)
line_cell z x one m = m.cell.each 1 (omega (arith, one))

pub line_high : (z : ZoneView) (x : ℤ) → columns_of z ≡ 1 → IsMember z (x ∷ []) → Within (x -ℤ pos 0) (entry z.bounds 1 0)
line_high z x one m = m.meets 1 0 (omega (arith, one)) (omega arith)

pub line_low : (z : ZoneView) (x : ℤ) → columns_of z ≡ 1 → IsMember z (x ∷ []) → Within (pos 0 -ℤ x) (entry z.bounds 0 1)
line_low z x one m = m.meets 0 1 (omega arith) (omega (arith, one))
