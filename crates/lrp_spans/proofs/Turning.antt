-- The numbers of some residues, counted from the first residue on.
use Rattle.std.proofs.Common.{◌≡◌, ℕ, zero, suc, ◌+◌, ◌*◌, ◌/◌, ◌%◌, ◌-◌, ◌<◌, ◌≤◌, ◌⊎◌, inl, inr, List, length, get_or, arith, refl, sym, ap, subst, ◌∙◌}
use Rattle.std.specs.Prelude.{ℤ, pos, negsuc, ◌+ℤ◌, ◌-ℤ◌, ◌≤ℤ◌, neg_ℤ}
use Rattle.std.proofs.Math.IntN.{◌*ℤ◌}
use Rattle.std.proofs.lemmas.Int.{ints}
use Rattle.std.proofs.lemmas.List.{get_or_default}
use Rattle.std.proofs.lemmas.Nat.{mod-mul-add, div-mul-add, div-add-mod'}
use Rattle.lrp_theory.specs.Divides.{Divides}
use Rattle.lrp_theory.proofs.Modulo.{Divides-+, Divides-is}
use Rattle.lrp_theory.proofs.Multiples.{Divides-multiple}
use Rattle.lrp_spans.specs.Repeating.{HasOneOf, AreAscendingResidues, nth}

pub order : (m n : ℕ) → (m < n) ⊎ (n ≤ m)
order m n = grind arith

-- how many periods a number of a residue is away from it, where it is not negative
turns : (k r x : ℤ) (t : ℤ) → x -ℤ r ≡ k *ℤ t → x ≡ r +ℤ (k *ℤ t)
turns k r x t e = omega (arith, ints)

module _ (K : ℕ) (R : List ℕ) (h : AreAscendingResidues K R) (some : 0 < length R) where
  -- the number at a place, by its turn and its residue
  pub nth_at : (q j : ℕ) → j < length R → nth K R (q * length R + j) ≡ get_or R j 0 + K * q
  nth_at q j l = rw (mod-mul-add q (length R) j l, div-mul-add q (length R) j l) refl

  place : (i : ℕ) → i / length R * length R + i % length R ≡ i
  place i = div-add-mod' i (length R)

  pub rest : (i : ℕ) → i % length R < length R
  rest i = omega (arith, some)

  -- the first ones are the residues
  pub nth_first : (j : ℕ) → j < length R → nth K R j ≡ get_or R j 0
  nth_first j l = let e : nth K R (0 * length R + j) ≡ get_or R j 0 + K * 0 = nth_at 0 j l in
      let z : 0 * length R + j ≡ j = omega arith in
      ap (nth K R) (sym z) ∙ e ∙ omega arith

  -- the next ones are a period greater
  pub nth_second : (i : ℕ) → length R ≤ i → i < length R + length R → nth K R i ≡ get_or R (i - length R) 0 + K
  nth_second i low high =
      let e : nth K R (1 * length R + (i - length R)) ≡ get_or R (i - length R) 0 + K * 1 = nth_at 1 (i - length R) (omega (arith, low, high)) in
      let z : 1 * length R + (i - length R) ≡ i = omega (arith, low) in
      ap (nth K R) (sym z) ∙ e ∙ omega arith

  -- so many places further on the numbers are a period greater
  pub nth_turn : (i c : ℕ) → nth K R (i + c * length R) ≡ nth K R i + K * c
  nth_turn i c =
      let q : ℕ = i / length R in
      let j : ℕ = i % length R in
      let e : (q + c) * length R + j ≡ i + c * length R = (let p : q * length R + j ≡ i = place i in omega arith) in
      let f : nth K R ((q + c) * length R + j) ≡ get_or R j 0 + K * (q + c) = nth_at (q + c) j (rest i) in
      let g : K * (q + c) ≡ K * q + K * c = omega arith in
      ap (nth K R) (sym e) ∙ f ∙ omega arith

  -- they ascend
  pub nth_rise : (i : ℕ) → nth K R i < nth K R (i + 1)
  nth_rise i = elim (order (i % length R + 1) (length R)) [ inl l ↦ within l | inr l ↦ past (omega (arith, rest i, l)) ]
    where
      within : i % length R + 1 < length R → nth K R i < nth K R (i + 1)
      within l =
          let e : i / length R * length R + (i % length R + 1) ≡ i + 1 = (let p : i / length R * length R + i % length R ≡ i = place i in omega arith) in
          let f : nth K R (i / length R * length R + (i % length R + 1)) ≡ get_or R (i % length R + 1) 0 + K * (i / length R) = nth_at (i / length R) (i % length R + 1) l in
          let g : nth K R (i + 1) ≡ get_or R (i % length R + 1) 0 + K * (i / length R) = ap (nth K R) (sym e) ∙ f in
          let r : get_or R (i % length R) 0 < get_or R (i % length R + 1) 0 = h.ascending (i % length R) (i % length R + 1) 0 (omega arith) l in
          rw g (omega arith)

      past : i % length R + 1 ≡ length R → nth K R i < nth K R (i + 1)
      past l =
          let e : (i / length R + 1) * length R + 0 ≡ i + 1 = (let p : i / length R * length R + i % length R ≡ i = place i in omega arith) in
          let f : nth K R ((i / length R + 1) * length R + 0) ≡ get_or R 0 0 + K * (i / length R + 1) = nth_at (i / length R + 1) 0 some in
          let g : nth K R (i + 1) ≡ get_or R 0 0 + K * (i / length R + 1) = ap (nth K R) (sym e) ∙ f in
          let b : get_or R (i % length R) 0 < K = h.below (i % length R) (rest i) in
          let m : K * (i / length R + 1) ≡ K * (i / length R) + K = omega arith in
          rw g (omega arith)

  pub nth_less : (i c : ℕ) → nth K R i < nth K R (i + suc c)
  nth_less i zero = nth_rise i
  nth_less i (suc c) =
      let a : nth K R i < nth K R (i + suc c) = nth_less i c in
      let b : nth K R (i + suc c) < nth K R (i + suc c + 1) = nth_rise (i + suc c) in
      let e : i + suc c + 1 ≡ i + suc (suc c) = omega arith in
      let f : nth K R (i + suc c + 1) ≡ nth K R (i + suc (suc c)) = ap (nth K R) e in
      omega (arith, a, b, f)

  pub nth_below : (i k : ℕ) → i < k → nth K R i < nth K R k
  nth_below i k l =
      let e : i + suc (k - suc i) ≡ k = omega arith in
      subst (λ n. nth K R i < nth K R n) e (nth_less i (k - suc i))

  -- equal numbers stand at one place
  pub nth_one : (i k : ℕ) → nth K R i ≡ nth K R k → i ≡ k
  nth_one i k e = elim (order i k) [
    | inl l ↦ (let a : nth K R i < nth K R k = nth_below i k l in absurd (omega (arith, a, e)))
    | inr l ↦ elim (order k i) [
      | inl m ↦ (let a : nth K R k < nth K R i = nth_below k i m in absurd (omega (arith, a, e)))
      | inr m ↦ omega (arith, l, m)
    ]
  ]

  -- what is greater stands further on
  pub nth_after : (i k : ℕ) → nth K R i < nth K R k → i < k
  nth_after i k a = elim (order i k) [
    | inl l ↦ l
    | inr l ↦ elim (order k i) [
      | inl m ↦ (let b : nth K R k < nth K R i = nth_below k i m in absurd (omega (arith, a, b)))
      | inr m ↦ (let e : i ≡ k = omega (arith, l, m) in let f : nth K R i ≡ nth K R k = ap (nth K R) e in absurd (omega (arith, a, f)))
    ]
  ]

  -- each of them has one of the residues
  pub nth_inside : (i : ℕ) → HasOneOf K R (pos (nth K R i))
  nth_inside i = record {
    residue = get_or R (i % length R) 0;
    listed = (i % length R, rest i, get_or_default R (i % length R) (get_or R (i % length R) 0) 0 (rest i));
    is = Divides-is (pos K) (pos (K * (i / length R))) _ (omega (arith, ints)) (Divides-multiple K (i / length R));
  }

  -- and each number of the residues from the first on is one of them
  pub found : (x : ℤ) → HasOneOf K R x → pos 0 ≤ℤ x → (i : ℕ) × (x ≡ pos (nth K R i))
  found x o low = at o.is.times o.is.is
    where
      j : ℕ
      j = o.listed.0

      l : j < length R
      l = o.listed.1

      e : get_or R j 0 ≡ o.residue
      e = get_or_default R j 0 o.residue l ∙ o.listed.2

      at : (t : ℤ) → x -ℤ pos o.residue ≡ pos K *ℤ t → (i : ℕ) × (x ≡ pos (nth K R i))
      at (pos q) is =
          let f : nth K R (q * length R + j) ≡ get_or R j 0 + K * q = nth_at q j l in
          let g : x -ℤ pos o.residue ≡ pos (K * q) = is in
          (q * length R + j, rw f (rw e (omega (arith, ints))))
      at (negsuc q) is =
          let g : x -ℤ pos o.residue ≡ neg_ℤ (pos (K * suc q)) = is in
          let b : get_or R j 0 < K = h.below j l in
          let m : K ≤ K * suc q = omega arith in
          absurd (omega (arith, ints, e))

  -- the set goes over into itself by whole periods
  pub by_period : (x : ℤ) → HasOneOf K R x → (y : ℤ) → Divides (pos K) (y -ℤ x) → HasOneOf K R y
  by_period x o y d = record {
    residue = o.residue;
    listed = o.listed;
    is = Divides-is (pos K) ((y -ℤ x) +ℤ (x -ℤ pos o.residue)) _ (omega (arith, ints)) (Divides-+ (pos K) _ _ d o.is);
  }
