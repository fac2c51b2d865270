-- Whether a tuple is in a zone, without the law of excluded middle.
use Rattle.std.proofs.Common.{◌≡◌, ◌⊎◌, inl, inr, ⊎_elim, ℕ, zero, suc, ◌≤◌, List, length, refl, sym, ap, subst, arith}
use Rattle.std.specs.Prelude.{ℤ, pos, ◌-ℤ◌}
use Rattle.lrp_theory.specs.Bounds.{Within}
use Rattle.lrp_theory.specs.Divides.{Divides}
use Rattle.lrp_theory.specs.Entries.{entry, node}
use Rattle.lrp_theory.proofs.Decided.{decided_within}
use Rattle.lrp_model.proofs.Decided.{Decided, decided_both, decided_iff, decided_divides}
use Rattle.lrp_zone.specs.Zones.{ZoneView, IsMember, columns_of}

-- a statement on all numbers up to n
decided_upto : (p : ℕ → Type 0) → ((i : ℕ) → Decided (p i)) → (n : ℕ) → Decided ((i : ℕ) → i ≤ n → p i)
decided_upto p d zero = decided_iff (λ h i l. let e : 0 ≡ i = omega arith in subst p e h) (λ h. h 0 (omega arith)) (d 0)
decided_upto p d (suc n) = decided_iff {p = p (suc n) × ((i : ℕ) → i ≤ n → p i)} (λ h i l. ⊎_elim (λ e. subst p (sym e) h.0) (λ m. h.1 i m) (split i n l)) (λ h. (h (suc n) (omega arith), λ i l. h i (omega arith))) (decided_both (d (suc n)) (decided_upto p d n))
  where
    split : (i n : ℕ) → i ≤ suc n → (i ≡ suc n) ⊎ (i ≤ n)
    split zero n h = inr (omega arith)
    split (suc i) zero h = inl (omega arith)
    split (suc i) (suc n) h = ⊎_elim (λ e. inl (ap suc e)) (λ l. inr (omega arith)) (split i n (omega arith))

-- equality of numbers
decided_equal : (m n : ℕ) → Decided (m ≡ n)
decided_equal zero zero = inl refl
decided_equal zero (suc n) = inr (λ e. absurd (omega arith))
decided_equal (suc m) zero = inr (λ e. absurd (omega arith))
decided_equal (suc m) (suc n) = decided_iff (λ e. ap suc e) (λ e. omega arith) (decided_equal m n)

-- the time of a column has the column's residue
abbrev HasResidue : ZoneView → List ℤ → ℕ → Type 0
HasResidue z xs i = Divides (pos z.period) (node xs i -ℤ node z.residues i)

-- the bounds of a row are met
abbrev AreMet : ZoneView → List ℤ → ℕ → Type 0
AreMet z xs i = (j : ℕ) → j ≤ columns_of z → Within (node xs i -ℤ node xs j) (entry z.bounds i j)

-- whether a zone has a tuple
pub decided_member : (z : ZoneView) (xs : List ℤ) → Decided (IsMember z xs)
decided_member z xs =
    decided_iff {p = ((length xs ≡ columns_of z) × ((i : ℕ) → i ≤ columns_of z → HasResidue z xs i)) × ((i : ℕ) → i ≤ columns_of z → AreMet z xs i)}
    (λ h. record { cell = record { count = h.0.0; each = h.0.1 }; meets = λ i j k l. h.1 i k j l }) (λ h. ((h.cell.count, h.cell.each), λ i k j l. h.meets i j k l))
    (decided_both (decided_both (decided_equal (length xs) (columns_of z)) (decided_upto (HasResidue z xs) (λ i. decided_divides (pos z.period) (node xs i -ℤ node z.residues i)) (columns_of z)))
    (decided_upto (AreMet z xs) (λ i. decided_upto (λ j. Within (node xs i -ℤ node xs j) (entry z.bounds i j)) (λ j. decided_within (node xs i -ℤ node xs j) (entry z.bounds i j)) (columns_of z)) (columns_of z)))
