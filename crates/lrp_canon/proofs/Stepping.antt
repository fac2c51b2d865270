-- Numbers of one residue, period after period, and sets that repeat at both ends.
use Rattle.std.proofs.Common.{◌≡◌, ℕ, zero, suc, ◌+◌, ◌*◌, ◌<◌, ◌≤◌, arith, refl, subst, sym}
use Rattle.std.specs.Prelude.{ℤ, pos, negsuc, nat_abs, ◌+ℤ◌, ◌-ℤ◌, ◌≤ℤ◌, ◌<ℤ◌, neg_ℤ}
use Rattle.std.specs.Int.{int_rem_euclid}
use Rattle.std.proofs.Math.IntN.{◌*ℤ◌}
use Rattle.std.proofs.lemmas.Int.{ints, by_lt_z}
use Rattle.lrp_theory.specs.Divides.{Divides}
use Rattle.lrp_theory.proofs.Modulo.{Divides--, Divides-is, multiple_below, rem_divides, rem_high, rem_low, small_multiple}
use Rattle.lrp_spans.specs.Repeating.{RepeatsAtEnds}
pub use Rattle.lrp_spans.proofs.EndLaws.{at_least}

-- a multiple that is not negative is so many times the period
pub times_of : (k : ℕ) (z : ℤ) → 0 < k → pos 0 ≤ℤ z → Divides (pos k) z → (m : ℕ) × (z ≡ pos (k * m))
times_of k z low g d = by d.times d.is
  where
    by : (t : ℤ) → z ≡ pos k *ℤ t → (m : ℕ) × (z ≡ pos (k * m))
    by (pos m) e = let f : z ≡ pos (k * m) = e in (m, f)
    by (negsuc m) e = let f : z ≡ neg_ℤ (pos (k * suc m)) = e in let p : suc m ≤ k * suc m = at_least k (suc m) low in absurd (omega (arith, ints, p))

-- a number has one residue
pub one_rest : (k : ℕ) (x : ℤ) (q r : ℕ) → q < k → r < k → Divides (pos k) (x -ℤ pos q) → Divides (pos k) (x -ℤ pos r) → q ≡ r
one_rest k x q r ql rl a b =
    let d : Divides (pos k) (pos r -ℤ pos q) = Divides-is (pos k) ((x -ℤ pos q) -ℤ (x -ℤ pos r)) _ (omega (arith, ints)) (Divides-- (pos k) _ _ a b) in
    let z : pos r -ℤ pos q ≡ pos 0 = small_multiple k (pos r -ℤ pos q) d (omega (arith, ints)) (omega (arith, ints)) in
    omega (arith, ints)

-- the residue of a number
pub rest_of : (k : ℕ) (x : ℤ) → 0 < k → (r : ℕ) × (r < k) × Divides (pos k) (x -ℤ pos r)
rest_of k x low =
    let r : ℤ = int_rem_euclid x (pos k) in
    let a : pos 0 ≤ℤ r = rem_low k x low in
    let b : r <ℤ pos k = rem_high k x low in
    let e : pos (nat_abs r) ≡ r = omega (arith, ints) in
    (nat_abs r, omega (arith, ints), subst (λ q. Divides (pos k) (x -ℤ q)) (sym e) (rem_divides (pos k) x r (omega (arith, ints)) refl))

-- numbers of one residue are the same or a period apart
pub same_apart : (k : ℕ) (r x y : ℤ) → 0 < k → Divides (pos k) (x -ℤ r) → Divides (pos k) (y -ℤ r) → x <ℤ y → (x +ℤ pos k) ≤ℤ y
same_apart k r x y low a b l = by_lt_z y (x +ℤ pos k)
    (λ lt. (
    let d : Divides (pos k) (y -ℤ x) = Divides-is (pos k) ((y -ℤ r) -ℤ (x -ℤ r)) _ (omega (arith, ints)) (Divides-- (pos k) _ _ b a) in
    let m : (y -ℤ x) ≤ℤ pos 0 = multiple_below (pos k) (y -ℤ x) d (omega (arith, ints)) (omega (arith, ints)) in
    absurd (omega (arith, ints))))
    (λ le. le)

pub between : (k : ℕ) (r x y : ℤ) → Divides (pos k) (x -ℤ r) → Divides (pos k) (y -ℤ r) → Divides (pos k) (y -ℤ x)
between k r x y a b = Divides-is (pos k) ((y -ℤ r) -ℤ (x -ℤ r)) _ (omega (arith, ints)) (Divides-- (pos k) _ _ b a)

module _ (set : ℤ → Type 0) (k bound : ℕ) (whole : RepeatsAtEnds set bound k) where
  pub far_on : (n : ℕ) (x : ℤ) → pos bound ≤ℤ x → set x → set (x +ℤ pos (k * n))
  far_on zero x l h = let z : k * 0 ≡ 0 = omega arith in let e : x ≡ x +ℤ pos (k * 0) = omega (arith, ints, z) in subst set e h
  far_on (suc n) x l h =
      let z : k * suc n ≡ k + k * n = omega arith in
      let e : (x +ℤ pos k) +ℤ pos (k * n) ≡ x +ℤ pos (k * suc n) = omega (arith, ints, z) in
      subst set e (far_on n (x +ℤ pos k) (omega (arith, ints)) (whole.on x l h))

  pub far_back : (n : ℕ) (x : ℤ) → pos bound ≤ℤ x → set (x +ℤ pos (k * n)) → set x
  far_back zero x l h = let z : k * 0 ≡ 0 = omega arith in let e : x +ℤ pos (k * 0) ≡ x = omega (arith, ints, z) in subst set e h
  far_back (suc n) x l h =
      let z : k * suc n ≡ k + k * n = omega arith in
      let e : x +ℤ pos (k * suc n) ≡ (x +ℤ pos k) +ℤ pos (k * n) = omega (arith, ints, z) in
      whole.back x l (far_back n (x +ℤ pos k) (omega (arith, ints)) (subst set e h))

  pub deep_down : (n : ℕ) (x : ℤ) → x ≤ℤ neg_ℤ (pos bound) → set x → set (x -ℤ pos (k * n))
  deep_down zero x l h = let z : k * 0 ≡ 0 = omega arith in let e : x ≡ x -ℤ pos (k * 0) = omega (arith, ints, z) in subst set e h
  deep_down (suc n) x l h =
      let z : k * suc n ≡ k + k * n = omega arith in
      let e : (x -ℤ pos k) -ℤ pos (k * n) ≡ x -ℤ pos (k * suc n) = omega (arith, ints, z) in
      subst set e (deep_down n (x -ℤ pos k) (omega (arith, ints)) (whole.down x l h))

  pub deep_up : (n : ℕ) (x : ℤ) → x ≤ℤ neg_ℤ (pos bound) → set (x -ℤ pos (k * n)) → set x
  deep_up zero x l h = let z : k * 0 ≡ 0 = omega arith in let e : x -ℤ pos (k * 0) ≡ x = omega (arith, ints, z) in subst set e h
  deep_up (suc n) x l h =
      let z : k * suc n ≡ k + k * n = omega arith in
      let e : x -ℤ pos (k * suc n) ≡ (x -ℤ pos k) -ℤ pos (k * n) = omega (arith, ints, z) in
      whole.up x l (deep_up n (x -ℤ pos k) (omega (arith, ints)) (subst set e h))

  -- a set that repeats by the period from the bound on, and by a step from anywhere on, repeats by the step from the bound on
  pub repeats_from : (step other : ℕ) → RepeatsAtEnds set other step → 0 < k → RepeatsAtEnds set bound step
  repeats_from step other ends low = record {
    on = λ x l h. (
        let n : ℕ = other + nat_abs x in
        let p : n ≤ k * n = at_least k n low in
        let e : (x +ℤ pos (k * n)) +ℤ pos step ≡ (x +ℤ pos step) +ℤ pos (k * n) = omega (arith, ints) in
        far_back n (x +ℤ pos step) (omega (arith, ints)) (subst set e (ends.on (x +ℤ pos (k * n)) (omega (arith, ints, p)) (far_on n x l h))));
    back = λ x l h. (
        let n : ℕ = other + nat_abs x in
        let p : n ≤ k * n = at_least k n low in
        let e : (x +ℤ pos step) +ℤ pos (k * n) ≡ (x +ℤ pos (k * n)) +ℤ pos step = omega (arith, ints) in
        far_back n x l (ends.back (x +ℤ pos (k * n)) (omega (arith, ints, p)) (subst set e (far_on n (x +ℤ pos step) (omega (arith, ints)) h))));
    down = λ x l h. (
        let n : ℕ = other + nat_abs x in
        let p : n ≤ k * n = at_least k n low in
        let e : (x -ℤ pos (k * n)) -ℤ pos step ≡ (x -ℤ pos step) -ℤ pos (k * n) = omega (arith, ints) in
        deep_up n (x -ℤ pos step) (omega (arith, ints)) (subst set e (ends.down (x -ℤ pos (k * n)) (omega (arith, ints, p)) (deep_down n x l h))));
    up = λ x l h. (
        let n : ℕ = other + nat_abs x in
        let p : n ≤ k * n = at_least k n low in
        let e : (x -ℤ pos step) -ℤ pos (k * n) ≡ (x -ℤ pos (k * n)) -ℤ pos step = omega (arith, ints) in
        deep_up n x l (ends.up (x -ℤ pos (k * n)) (omega (arith, ints, p)) (subst set e (deep_down n (x -ℤ pos step) (omega (arith, ints)) h))));
  }

  -- where the set has a number so far down, it has all further ones of its residue
  pub deep_all : (x y : ℤ) → 0 < k → x ≤ℤ neg_ℤ (pos bound) → y ≤ℤ x → Divides (pos k) (x -ℤ y) → set x → set y
  deep_all x y low l le d h =
      let t : (m : ℕ) × (x -ℤ y ≡ pos (k * m)) = times_of k (x -ℤ y) low (omega (arith, ints)) d in
      let f : x -ℤ y ≡ pos (k * t.0) = t.1 in
      let e : x -ℤ pos (k * t.0) ≡ y = omega (arith, ints, f) in
      subst set e (deep_down t.0 x l h)
