-- Sets that repeat with two numbers repeat with their greatest common divisor, and so the least of all such numbers divides each.
use Rattle.std.proofs.Common.{◌≡◌, ℕ, zero, suc, ◌<◌, ◌≤◌, ◌⊎◌, inl, inr, arith, ap, subst, ◌∙◌}
use Rattle.std.specs.Prelude.{ℤ, pos, negsuc, ◌+ℤ◌, ◌-ℤ◌, neg_ℤ, ◌≤ℤ◌}
use Rattle.std.proofs.Math.IntN.{◌*ℤ◌, *ℤ_comm, suc_ℤ-*ℤ, pred_ℤ-*ℤ, zero-*ℤ}
use Rattle.std.proofs.lemmas.Int.{ints}
use Rattle.lrp_theory.specs.Divides.{Divides}
use Rattle.lrp_theory.proofs.Congruences.{IsCombined, combined_divisor}
use Rattle.lrp_theory.proofs.Modulo.{multiple_below, times_neg}
use Rattle.lrp_spans.specs.Repeating.{Repeats, IsLeastStep}

module _ (set : ℤ → Type 0) (a : ℕ) (r : Repeats set a) where
  -- by a multiple, in both directions
  pub by_multiple : (c x : ℤ) → set x → set (x +ℤ (c *ℤ pos a))
  by_multiple (pos zero) x s =
      let e : pos zero *ℤ pos a ≡ pos 0 = zero-*ℤ (pos a) in
      subst set (omega (arith, ints)) s
  by_multiple (pos (suc n)) x s =
      let e : pos (suc n) *ℤ pos a ≡ (pos n *ℤ pos a) +ℤ pos a = suc_ℤ-*ℤ (pos n) (pos a) in
      let l : (x +ℤ (pos n *ℤ pos a)) +ℤ pos a ≡ x +ℤ (pos (suc n) *ℤ pos a) = omega (arith, ints) in
      subst set l (r.on _ (by_multiple (pos n) x s))
  by_multiple (negsuc zero) x s =
      let z : pos zero *ℤ pos a ≡ pos 0 = zero-*ℤ (pos a) in
      let e : negsuc zero *ℤ pos a ≡ (pos zero *ℤ pos a) -ℤ pos a = pred_ℤ-*ℤ (pos zero) (pos a) in
      let l : x ≡ (x +ℤ (negsuc zero *ℤ pos a)) +ℤ pos a = omega (arith, ints) in
      r.back _ (subst set l s)
  by_multiple (negsuc (suc n)) x s =
      let e : negsuc (suc n) *ℤ pos a ≡ (negsuc n *ℤ pos a) -ℤ pos a = pred_ℤ-*ℤ (negsuc n) (pos a) in
      let l : x +ℤ (negsuc n *ℤ pos a) ≡ (x +ℤ (negsuc (suc n) *ℤ pos a)) +ℤ pos a = omega (arith, ints) in
      r.back _ (subst set l (by_multiple (negsuc n) x s))

  -- by what it divides
  pub by_divided : (x y : ℤ) → Divides (pos a) (y -ℤ x) → set x → set y
  by_divided x y d s =
      let e : d.times *ℤ pos a ≡ pos a *ℤ d.times = *ℤ_comm d.times (pos a) in
      let i : y -ℤ x ≡ pos a *ℤ d.times = d.is in
      let l : x +ℤ (d.times *ℤ pos a) ≡ y = omega (arith, ints) in
      subst set l (by_multiple d.times x s)

-- with a multiple
pub repeats_multiple : (set : ℤ → Type 0) (a b : ℕ) → 0 < b → Divides (pos a) (pos b) → Repeats set a → Repeats set b
repeats_multiple set a b low d r = record {
  positive = low;
  on = λ x s. by_divided set a r x (x +ℤ pos b) (let e : pos b ≡ (x +ℤ pos b) -ℤ x = omega (arith, ints) in subst (Divides (pos a)) e d) s;
  back = λ x s. by_divided set a r (x +ℤ pos b) x (record { times = neg_ℤ d.times; is = let e : pos a *ℤ neg_ℤ d.times ≡ neg_ℤ (pos a *ℤ d.times) = times_neg (pos a) d.times in let i : pos b ≡ pos a *ℤ d.times = d.is in omega (arith, ints) }) s;
}

-- with the greatest common divisor
pub repeats_combined : (set : ℤ → Type 0) (a b g : ℕ) → IsCombined a b g → Repeats set a → Repeats set b → Repeats set g
repeats_combined set a b g w r q = record {
  positive = w.positive;
  on = λ x s. (
      let i : pos g ≡ (w.first *ℤ pos a) +ℤ (w.second *ℤ pos b) = w.is in
      let l : (x +ℤ (w.first *ℤ pos a)) +ℤ (w.second *ℤ pos b) ≡ x +ℤ pos g = omega (arith, ints) in
      subst set l (by_multiple set b q w.second _ (by_multiple set a r w.first x s)));
  back = λ x s. (
      let i : pos g ≡ (w.first *ℤ pos a) +ℤ (w.second *ℤ pos b) = w.is in
      let m : neg_ℤ w.first *ℤ pos a ≡ neg_ℤ (w.first *ℤ pos a) = neg_times w.first (pos a) in
      let n : neg_ℤ w.second *ℤ pos b ≡ neg_ℤ (w.second *ℤ pos b) = neg_times w.second (pos b) in
      let l : ((x +ℤ pos g) +ℤ (neg_ℤ w.first *ℤ pos a)) +ℤ (neg_ℤ w.second *ℤ pos b) ≡ x = omega (arith, ints) in
      subst set l (by_multiple set b q (neg_ℤ w.second) _ (by_multiple set a r (neg_ℤ w.first) _ s)));
}
  where
    neg_times : (m k : ℤ) → neg_ℤ m *ℤ k ≡ neg_ℤ (m *ℤ k)
    neg_times m k = *ℤ_comm (neg_ℤ m) k ∙ times_neg k m ∙ ap neg_ℤ (*ℤ_comm k m)

-- a positive divisor is at most the number
pub divisor_le : (a b : ℕ) → 0 < b → Divides (pos a) (pos b) → a ≤ b
divisor_le a b low d = elim (order b a) [
  | inl l ↦ (let e : pos b ≤ℤ pos 0 = multiple_below (pos a) (pos b) d (omega (arith, ints)) (omega (arith, ints)) in absurd (omega (arith, ints)))
  | inr h ↦ h
]
  where
    order : (m n : ℕ) → (m < n) ⊎ (n ≤ m)
    order m n = grind arith

-- a step with which the set repeats, and at most each divisor of the period with which it does, divides each number with which it does
pub least_divides : (set : ℤ → Type 0) (k s : ℕ) → Repeats set k → Repeats set s
    → ((g : ℕ) → Repeats set g → Divides (pos g) (pos k) → s ≤ g) → IsLeastStep set s
least_divides set k s whole is least = record {
  is = is;
  least = λ other r. (
      let w = combined_divisor s other is.positive in
      let rw1 : Repeats set w.0 = repeats_combined set s other w.0 w.1 is r in
      let v = combined_divisor w.0 k w.1.positive in
      let rv : Repeats set v.0 = repeats_combined set w.0 k v.0 v.1 rw1 whole in
      let low : s ≤ v.0 = least v.0 rv v.1.right in
      let a : v.0 ≤ w.0 = divisor_le v.0 w.0 w.1.positive v.1.left in
      let b : w.0 ≤ s = divisor_le w.0 s is.positive w.1.left in
      let e : w.0 ≡ s = omega arith in
      subst (λ g. Divides (pos g) (pos other)) e w.1.right);
}
