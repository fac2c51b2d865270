-- Two bounds of at most the limit are tight modulo 1.
use Rattle.std.proofs.Common.{◌≡◌, ℕ, zero, suc, ◌+◌, ◌-◌, ◌<◌, ◌≤◌, ◌^◌, inl, List, [], ◌∷◌, Option, Some, arith, length, sym, subst, ◌∙◌}
use Rattle.std.specs.Prelude.{ℤ, pos, nat_abs, IfSome}
use Rattle.std.proofs.lemmas.Int.{ints}
use Rattle.lrp_theory.specs.Divides.{Divides}
use Rattle.lrp_model.specs.declared.relations.Bound.{Bound}
use Rattle.lrp_zone.specs.Zones.{ZoneView, reach_of}
use Rattle.lrp_zone.specs.Pairs.{IsOfCell}
use Rattle.lrp_zone.specs.Given.{IsGiven, AreGiven, IsGivenZone, bound_at}
use Rattle.lrp_table_tests.specs.Integers.{IsOfIntegers}

-- the residue 0 modulo 1
abbrev pub zeros : List ℤ
zeros = pos 0 ∷ []

one_divides : (z : ℤ) → Divides (pos 1) z
one_divides z = record { times = z; is = omega (arith, ints) }

module _ (to from : ℤ) where
  -- at most the first number, and at least the negative of the second
  abbrev pub ends : List Bound
  ends = record { left = 1; right = 0; most = to } ∷ record { left = 0; right = 1; most = from } ∷ []

  given_at : nat_abs to ≤ 2 ^ 62 → nat_abs from ≤ 2 ^ 62 → (i : ℕ) → i < 2 → IsGiven (pos 1) zeros (bound_at ends i)
  given_at t f zero l = record { left = omega arith; right = omega arith; fits = record { room = inl (one_divides _, t) } }
  given_at t f (suc zero) l = record { left = omega arith; right = omega arith; fits = record { room = inl (one_divides _, f) } }
  given_at t f (suc (suc i)) l = absurd (omega arith)

  pub are_given : nat_abs to ≤ 2 ^ 62 → nat_abs from ≤ 2 ^ 62 → AreGiven (pos 1) zeros ends
  are_given t f = record { each = given_at t f }

  small_at : (h : ℕ) → nat_abs to ≤ h → nat_abs from ≤ h → (i : ℕ) → i < 2 → nat_abs (bound_at ends i).most ≤ h
  small_at h t f zero l = t
  small_at h t f (suc zero) l = f
  small_at h t f (suc (suc i)) l = absurd (omega arith)

  pub of_integers : (z : ZoneView) → IsGivenZone (pos 1) zeros ends z → (h : ℕ) → nat_abs to ≤ h → nat_abs from ≤ h → IsOfIntegers (h + 1) z
  of_integers z g h t f =
      let one : z.period ≡ 1 = omega (arith, ints, g.period) in
      let r : reach_of z ≤ h + (z.period - 1) = g.reach h (small_at h t f) in
      record { period = one; residues = g.residues; reach = omega (arith, one, r) }

module _ (to from : ℤ) (a b : Bound) (e : a ≡ record { left = 1; right = 0; most = to }) (f : b ≡ record { left = 0; right = 1; most = from }) where
  pub given_both : nat_abs to ≤ 2 ^ 62 → nat_abs from ≤ 2 ^ 62 → AreGiven (pos 1) zeros (a ∷ b ∷ [])
  given_both t u = subst (λ x. AreGiven (pos 1) zeros (x ∷ b ∷ [])) (sym e) (subst (λ y. AreGiven (pos 1) zeros (record { left = 1; right = 0; most = to } ∷ y ∷ [])) (sym f) (are_given to from t u))

  pub of_both : (o : Option ZoneView) (z : ZoneView) → IfSome o (λ y. IsGivenZone (pos 1) zeros (a ∷ b ∷ []) y) → o ≡ Some z → (h : ℕ) → nat_abs to ≤ h → nat_abs from ≤ h → IsOfIntegers (h + 1) z
  of_both o z some found h t u =
      let g = subst (λ p. IfSome p (λ y. IsGivenZone (pos 1) zeros (a ∷ b ∷ []) y)) found some in
      let first = subst (λ x. IsGivenZone (pos 1) zeros (x ∷ b ∷ []) z) e g in
      let both = subst (λ y. IsGivenZone (pos 1) zeros (record { left = 1; right = 0; most = to } ∷ y ∷ []) z) f first in
      of_integers to from z both h t u

-- zones of integers are of one cell
pub one_cell : (h : ℕ) (z w : ZoneView) → IsOfIntegers h z → IsOfIntegers h w → IsOfCell z w
one_cell h z w a b = record { period = b.period ∙ sym a.period; residues = b.residues ∙ sym a.residues }
