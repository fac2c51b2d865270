-- The laws of a ring that the library lacks for ℤ: distribution and association of the product.
use Rattle.std.proofs.Common.{◌≡◌, ℕ, zero, suc, arith, refl, sym, ap, ◌∙◌}
use Rattle.std.specs.Prelude.{ℤ, pos, negsuc, ◌+ℤ◌, ◌-ℤ◌, neg_ℤ}
use Rattle.std.proofs.Math.IntN.{◌*ℤ◌, suc_ℤ, pred_ℤ, +ℤ-suc_ℤ, +ℤ-pred_ℤ, suc_ℤ-*ℤ, pred_ℤ-*ℤ, zero-*ℤ, *ℤ_comm, *ℤ-zero}
use Rattle.std.proofs.lemmas.Int.{ints}

-- m + 0 = m
add_zero : (m : ℤ) → m +ℤ pos 0 ≡ m
add_zero m = omega (arith, ints)

-- (m + n) k = m k + n k
pub distrib_left : (m n k : ℤ) → (m +ℤ n) *ℤ k ≡ (m *ℤ k) +ℤ (n *ℤ k)
distrib_left m (pos zero) k = rw (add_zero m, zero-*ℤ k) (omega (arith, ints))
distrib_left m (pos (suc n)) k =
    let e : m +ℤ pos (suc n) ≡ suc_ℤ (m +ℤ pos n) = +ℤ-suc_ℤ m (pos n) in
    let ih : (m +ℤ pos n) *ℤ k ≡ (m *ℤ k) +ℤ (pos n *ℤ k) = distrib_left m (pos n) k in
    let f : pos (suc n) *ℤ k ≡ (pos n *ℤ k) +ℤ k = suc_ℤ-*ℤ (pos n) k in
    let g : suc_ℤ (m +ℤ pos n) *ℤ k ≡ ((m +ℤ pos n) *ℤ k) +ℤ k = suc_ℤ-*ℤ (m +ℤ pos n) k in
    ap (λ z. z *ℤ k) e ∙ omega (arith, ints)
distrib_left m (negsuc zero) k =
    let e : m +ℤ negsuc zero ≡ pred_ℤ m = +ℤ-pred_ℤ m (pos zero) ∙ ap pred_ℤ (add_zero m) in
    let g : pred_ℤ m *ℤ k ≡ (m *ℤ k) -ℤ k = pred_ℤ-*ℤ m k in
    let f : pred_ℤ (pos zero) *ℤ k ≡ (pos zero *ℤ k) -ℤ k = pred_ℤ-*ℤ (pos zero) k in
    let z : pos zero *ℤ k ≡ pos 0 = zero-*ℤ k in
    ap (λ z. z *ℤ k) e ∙ omega (arith, ints)
distrib_left m (negsuc (suc n)) k =
    let e : m +ℤ negsuc (suc n) ≡ pred_ℤ (m +ℤ negsuc n) = +ℤ-pred_ℤ m (negsuc n) in
    let ih : (m +ℤ negsuc n) *ℤ k ≡ (m *ℤ k) +ℤ (negsuc n *ℤ k) = distrib_left m (negsuc n) k in
    let f : negsuc (suc n) *ℤ k ≡ (negsuc n *ℤ k) -ℤ k = pred_ℤ-*ℤ (negsuc n) k in
    let g : pred_ℤ (m +ℤ negsuc n) *ℤ k ≡ ((m +ℤ negsuc n) *ℤ k) -ℤ k = pred_ℤ-*ℤ (m +ℤ negsuc n) k in
    ap (λ z. z *ℤ k) e ∙ omega (arith, ints)

-- k (m + n) = k m + k n
pub distrib : (k m n : ℤ) → k *ℤ (m +ℤ n) ≡ (k *ℤ m) +ℤ (k *ℤ n)
distrib k m n = *ℤ_comm k (m +ℤ n) ∙ distrib_left m n k ∙ (let e : m *ℤ k ≡ k *ℤ m = *ℤ_comm m k in let f : n *ℤ k ≡ k *ℤ n = *ℤ_comm n k in rw (e, f))

-- k (-m) = -(k m)
pub times_neg : (k m : ℤ) → k *ℤ (neg_ℤ m) ≡ neg_ℤ (k *ℤ m)
times_neg k m =
    let e : k *ℤ (m +ℤ neg_ℤ m) ≡ (k *ℤ m) +ℤ (k *ℤ neg_ℤ m) = distrib k m (neg_ℤ m) in
    let z : m +ℤ neg_ℤ m ≡ pos 0 = omega (arith, ints) in
    let f : k *ℤ (m +ℤ neg_ℤ m) ≡ pos 0 = ap (λ y. k *ℤ y) z ∙ *ℤ-zero k in
    omega (arith, ints)

-- k (m - n) = k m - k n
pub minus_right : (k m n : ℤ) → k *ℤ (m -ℤ n) ≡ (k *ℤ m) -ℤ (k *ℤ n)
minus_right k m n =
    let e : m -ℤ n ≡ m +ℤ neg_ℤ n = omega (arith, ints) in
    let f : k *ℤ (m +ℤ neg_ℤ n) ≡ (k *ℤ m) +ℤ (k *ℤ neg_ℤ n) = distrib k m (neg_ℤ n) in
    let g : k *ℤ neg_ℤ n ≡ neg_ℤ (k *ℤ n) = times_neg k n in
    ap (λ z. k *ℤ z) e ∙ omega (arith, ints)

-- (m - n) k = m k - n k
pub minus_left : (m n k : ℤ) → (m -ℤ n) *ℤ k ≡ (m *ℤ k) -ℤ (n *ℤ k)
minus_left m n k =
    let e : m *ℤ k ≡ k *ℤ m = *ℤ_comm m k in
    let f : n *ℤ k ≡ k *ℤ n = *ℤ_comm n k in
    *ℤ_comm (m -ℤ n) k ∙ minus_right k m n ∙ rw (e, f) refl

-- (-m) k = -(m k)
neg_times : (m k : ℤ) → neg_ℤ m *ℤ k ≡ neg_ℤ (m *ℤ k)
neg_times m k = *ℤ_comm (neg_ℤ m) k ∙ times_neg k m ∙ ap neg_ℤ (*ℤ_comm k m)

-- (n k) l = n (k l), for a natural n
times_assoc_pos : (n : ℕ) (k l : ℤ) → (pos n *ℤ k) *ℤ l ≡ pos n *ℤ (k *ℤ l)
times_assoc_pos zero k l = ap (λ z. z *ℤ l) (zero-*ℤ k) ∙ zero-*ℤ l ∙ sym (zero-*ℤ (k *ℤ l))
times_assoc_pos (suc n) k l =
    ap (λ z. z *ℤ l) (suc_ℤ-*ℤ (pos n) k) ∙ distrib_left (pos n *ℤ k) k l ∙ ap (λ z. z +ℤ (k *ℤ l)) (times_assoc_pos n k l) ∙ sym (suc_ℤ-*ℤ (pos n) (k *ℤ l))

-- (m k) l = m (k l)
pub times_assoc : (m k l : ℤ) → (m *ℤ k) *ℤ l ≡ m *ℤ (k *ℤ l)
times_assoc (pos n) k l = times_assoc_pos n k l
times_assoc (negsuc n) k l =
    let e : negsuc n ≡ neg_ℤ (pos (suc n)) = refl in
    let f : neg_ℤ (pos (suc n)) *ℤ k ≡ neg_ℤ (pos (suc n) *ℤ k) = neg_times (pos (suc n)) k in
    let g : neg_ℤ (pos (suc n) *ℤ k) *ℤ l ≡ neg_ℤ ((pos (suc n) *ℤ k) *ℤ l) = neg_times (pos (suc n) *ℤ k) l in
    let h : neg_ℤ (pos (suc n)) *ℤ (k *ℤ l) ≡ neg_ℤ (pos (suc n) *ℤ (k *ℤ l)) = neg_times (pos (suc n)) (k *ℤ l) in
    ap (λ z. z *ℤ l) f ∙ g ∙ ap neg_ℤ (times_assoc_pos (suc n) k l) ∙ sym h
