-- Offsets that are equal modulo a period.
use Rattle.std.proofs.Common.{◌≡◌, ℕ, zero, suc, eqb, SFits, to_z, of_z, refl, ◌<◌, ◌*◌, ◌/◌, ◌%◌, ap, sym, subst, ◌∙◌, arith}
use Rattle.std.specs.Prelude.{◌↔◌, ◌==◌, IsTrue, ℤ, pos, negsuc, nat_abs, neg_ℤ, ◌-ℤ◌, ◌*ℤ◌}
use Rattle.std.proofs.Math.IntN.{*ℤ_comm, *ℤ-zero}
use Rattle.std.specs.Int.{w64}
use Rattle.std.proofs.lemmas.Bool.{eq-eqb, eqb-true}
use Rattle.std.proofs.lemmas.Int.{ints, to_z-of_z}
use Rattle.lrp_theory.specs.Divides.{Divides, IsPointMember}
use Rattle.lrp_theory.proofs.Modulo.{Divides-is, Divides-neg, Divides-self, Divides-zero}
use Rattle.lrp_theory.proofs.Multiples.{Divides-trans, no_remainder}

divides_of : (n d : ℕ) → 0 < n → d % n ≡ 0 → Divides (pos n) (pos d)
divides_of n d low r = record { times = pos (d / n); is = ap pos (let e : d ≡ n * (d / n) = omega arith in e) }

forth : (m z w : ℤ) → w ≡ neg_ℤ z → Divides m (pos (nat_abs z)) → Divides m w
forth m (pos n) w e h = Divides-is m (neg_ℤ (pos n)) w (sym e) (Divides-neg m (pos n) h)
forth m (negsuc n) w e h = Divides-is m (pos (suc n)) w (sym e) h

back : (m z w : ℤ) → w ≡ neg_ℤ z → Divides m w → Divides m (pos (nat_abs z))
back m (pos n) w e h = Divides-is m (neg_ℤ w) (pos n) (omega (arith, ints, e)) (Divides-neg m w h)
back m (negsuc n) w e h = Divides-is m w (pos (suc n)) e h

-- a number and its magnitude divide the same
to_magnitude : (k z : ℤ) → Divides k z → Divides (pos (nat_abs k)) z
to_magnitude (pos n) z h = h
to_magnitude (negsuc n) z h = Divides-trans (pos (suc n)) (negsuc n) z (Divides-neg (pos (suc n)) (pos (suc n)) (Divides-self (pos (suc n)))) h

of_magnitude : (k z : ℤ) → Divides (pos (nat_abs k)) z → Divides k z
of_magnitude (pos n) z h = h
of_magnitude (negsuc n) z h = Divides-trans (negsuc n) (pos (suc n)) z (Divides-neg (negsuc n) (negsuc n) (Divides-self (negsuc n))) h

turned : (a b : ℤ) → (b -ℤ a) ≡ neg_ℤ (a -ℤ b)
turned a b = omega (arith, ints)

-- no remainder of the distance
in_step : (k a b : ℤ) → 0 < nat_abs k → nat_abs (a -ℤ b) % nat_abs k ≡ 0 → Divides k (b -ℤ a)
in_step k a b low r = of_magnitude k (b -ℤ a) (forth (pos (nat_abs k)) (a -ℤ b) (b -ℤ a) (turned a b) (divides_of (nat_abs k) (nat_abs (a -ℤ b)) low r))

without_rest : (k a b : ℤ) → 0 < nat_abs k → Divides k (b -ℤ a) → nat_abs (a -ℤ b) % nat_abs k ≡ 0
without_rest k a b low d = no_remainder (nat_abs k) (nat_abs (a -ℤ b)) low (back (pos (nat_abs k)) (a -ℤ b) (b -ℤ a) (turned a b) (to_magnitude k (b -ℤ a) d))

-- the test of the remainder
pub step_decides : (a b k : ℤ) (d m : ℕ) → 0 < m → d ≡ nat_abs (a -ℤ b) → m ≡ nat_abs k → IsTrue (d % m == 0) ↔ IsPointMember a k b
step_decides a b k d m low ed em = (
  (λ t. in_step k a b positive (subst (λ x. x % nat_abs k ≡ 0) ed (subst (λ y. d % y ≡ 0) em (to (d % m) t)))),
  λ h. from (d % m) (subst (λ y. d % y ≡ 0) (sym em) (subst (λ x. x % nat_abs k ≡ 0) (sym ed) (without_rest k a b positive h))),
)
  where
    positive : 0 < nat_abs k
    positive = omega (arith, low, em)

    to : (n : ℕ) → IsTrue (n == 0) → n ≡ 0
    to n t = grind (arith, t)

    from : (n : ℕ) → n ≡ 0 → IsTrue (n == 0)
    from n e = grind (arith, e)

-- a period of 0 leaves the offset alone
pub same_alone : (a b k : ℤ) → 0 ≡ nat_abs k → IsPointMember a k b → a ≡ b
same_alone a b (pos n) e h =
    let z : b -ℤ a ≡ pos n *ℤ h.times = h.is in
    let f : pos n ≡ pos 0 = ap pos (sym e) in
    let g : pos n *ℤ h.times ≡ pos 0 = ap (λ x. x *ℤ h.times) f ∙ *ℤ_comm (pos 0) h.times ∙ *ℤ-zero h.times in
    omega (arith, ints, z, g)
same_alone a b (negsuc n) e h = absurd (let l : 0 ≡ suc n = e in omega (arith, l))

alone_is : (a b k : ℤ) → a ≡ b → IsPointMember a k b
alone_is a b k e = Divides-is k (pos 0) (b -ℤ a) (omega (arith, ints, e)) (Divides-zero k)

-- the test of the offsets
pub same_offsets : (a b k : ℤ) → SFits w64 a → SFits w64 b → 0 ≡ nat_abs k → IsTrue (eqb (of_z w64 a) (of_z w64 b)) ↔ IsPointMember a k b
same_offsets a b k f g none = (
  (λ t. alone_is a b k (sym (to_z-of_z w64 a f) ∙ ap (to_z w64) (eqb-true (of_z w64 a) (of_z w64 b) t) ∙ to_z-of_z w64 b g)),
  λ h. eq-eqb (of_z w64 a) (of_z w64 b) (ap (of_z w64) (same_alone a b k none h)),
)

pub positive : (n : ℕ) → (n ≡ 0 → ⊥) → 0 < n
positive zero h = absurd (h refl)
positive (suc n) h = omega arith
