-- The numbers of some residues repeat with a step exactly where each is so much below the one that stands so many places further on.
use Rattle.std.proofs.Common.{◌≡◌, ℕ, zero, suc, ◌+◌, ◌*◌, ◌/◌, ◌%◌, ◌-◌, ◌<◌, ◌≤◌, inl, inr, List, length, get_or, arith, sym, ap, subst, ◌∙◌}
use Rattle.std.specs.Prelude.{ℤ, pos, negsuc, ◌+ℤ◌, ◌-ℤ◌, neg_ℤ}
use Rattle.std.proofs.Math.IntN.{◌*ℤ◌}
use Rattle.std.proofs.Math.Nat.{mul-mod_left}
use Rattle.std.proofs.lemmas.Int.{ints}
use Rattle.std.proofs.lemmas.List.{get_or_default}
use Rattle.lrp_theory.specs.Divides.{Divides}
use Rattle.lrp_theory.proofs.Modulo.{Divides--, Divides-neg, Divides-is, Divides-self}
use Rattle.lrp_theory.proofs.Multiples.{Divides-multiple}
use Rattle.lrp_spans.specs.Repeating.{HasOneOf, AreAscendingResidues, IsLeastStep, IsShift, Repeats, nth}
use Rattle.lrp_spans.proofs.Repeats.{least_divides}
use Rattle.lrp_spans.proofs.Turning.{order, nth_first, nth_turn, nth_rise, nth_below, nth_one, nth_after, nth_inside, found, by_period, rest}

-- a divisor as a natural factor
factor : (g k : ℕ) → 0 < g → 0 < k → Divides (pos g) (pos k) → (m : ℕ) × (m * g ≡ k)
factor g k low high d = by d.times d.is
  where
    by : (t : ℤ) → pos k ≡ pos g *ℤ t → (m : ℕ) × (m * g ≡ k)
    by (pos m) e = let f : pos k ≡ pos (g * m) = e in (m, omega (arith, ints))
    by (negsuc m) e = let f : pos k ≡ neg_ℤ (pos (g * suc m)) = e in absurd (omega (arith, ints))

factor_le : (m p n : ℕ) → m * p ≡ n → 0 < n → p ≤ n
factor_le zero p n e l = absurd (omega arith)
factor_le (suc m) p n e l = omega arith

enough : (p n : ℕ) → 0 < n → p ≤ p * n
enough p zero l = absurd (omega arith)
enough p (suc n) l = omega arith

-- what holds of the first ones and of the next one
pub first_more : (P : ℕ → Type 0) (i : ℕ) → ((k : ℕ) → k < i → P k) → P i → (k : ℕ) → k < i + 1 → P k
first_more P i each here k l = elim (order k i) [
  | inl a ↦ each k a
  | inr a ↦ (let e : i ≡ k = omega (arith, l, a) in subst P e here)
]

-- where there is no residue, the set repeats with 1
pub none_repeat : (K : ℕ) (R : List ℕ) → length R ≡ 0 → IsLeastStep (HasOneOf K R) 1
none_repeat K R e = record {
  is = record { positive = omega arith; on = λ x o. absurd (empty x o); back = λ x o. absurd (empty _ o) };
  least = λ other r. Divides-is (pos 1) (pos (1 * other)) _ (let q : 1 * other ≡ other = omega arith in ap pos q) (Divides-multiple 1 other);
}
  where
    empty : (x : ℤ) → HasOneOf K R x → ⊥
    empty x o = let l : o.listed.0 < length R = o.listed.1 in omega (arith, l, e)

module _ (K : ℕ) (R : List ℕ) (h : AreAscendingResidues K R) (some : 0 < length R) where
  -- the set repeats with the period
  pub repeats_period : Repeats (HasOneOf K R) K
  repeats_period = record {
    positive = h.low;
    on = λ x o. by_period K R h some x o _ (Divides-is (pos K) (pos K) _ (omega (arith, ints)) (Divides-self (pos K)));
    back = λ x o. by_period K R h some (x +ℤ pos K) o x (Divides-is (pos K) (neg_ℤ (pos K)) _ (omega (arith, ints)) (Divides-neg (pos K) (pos K) (Divides-self (pos K))));
  }

  -- a number of the set after one of them is at least the next one
  next : (x i : ℕ) → HasOneOf K R (pos x) → nth K R i < x → nth K R (i + 1) ≤ x
  next x i o l =
      let f = found K R h some (pos x) o (omega (arith, ints)) in
      let e : x ≡ nth K R f.0 = (let p : pos x ≡ pos (nth K R f.0) = f.1 in omega (arith, ints)) in
      let b : i < f.0 = nth_after K R h some i f.0 (omega (arith, e, l)) in
      elim (order (i + 1) f.0) [
        | inl m ↦ (let a : nth K R (i + 1) < nth K R f.0 = nth_below K R h some (i + 1) f.0 m in omega (arith, a, e))
        | inr m ↦ (let q : i + 1 ≡ f.0 = omega (arith, b, m) in let a : nth K R (i + 1) ≡ nth K R f.0 = ap (nth K R) q in omega (arith, a, e))
      ]

  -- a step takes the first number to one of them
  first : (g : ℕ) → Repeats (HasOneOf K R) g → (j : ℕ) × (pos (nth K R 0 + g) ≡ pos (nth K R j))
  first g r = found K R h some (pos (nth K R 0 + g)) (subst (HasOneOf K R) (omega (arith, ints)) (r.on _ (nth_inside K R h some 0))) (omega (arith, ints))

  module _ (g : ℕ) (r : Repeats (HasOneOf K R) g) (places : ℕ) (places_first : nth K R places ≡ nth K R 0 + g) where
    -- and each number too
    pub places_each : (i : ℕ) → nth K R (i + places) ≡ nth K R i + g
    places_each zero = (let z : zero + places ≡ places = omega arith in ap (nth K R) z) ∙ places_first
    places_each (suc i) =
        let ih : nth K R (i + places) ≡ nth K R i + g = places_each i in
        let one : i + 1 ≡ suc i = omega arith in
        let one_e : nth K R (i + 1) ≡ nth K R (suc i) = ap (nth K R) one in
        let two : i + places + 1 ≡ suc i + places = omega arith in
        let two_e : nth K R (i + places + 1) ≡ nth K R (suc i + places) = ap (nth K R) two in
        let up : nth K R i < nth K R (i + 1) = nth_rise K R h some i in
        let up_far : nth K R (i + places) < nth K R (i + places + 1) = nth_rise K R h some (i + places) in
        let o : HasOneOf K R (pos (nth K R (suc i) + g)) = subst (HasOneOf K R) (omega (arith, ints)) (r.on _ (nth_inside K R h some (suc i))) in
        let low : nth K R (i + places + 1) ≤ nth K R (suc i) + g = next (nth K R (suc i) + g) (i + places) o (omega (arith, ih, one_e, up)) in
        let far : ℕ = nth K R (suc i + places) - g in
        let far_is : far + g ≡ nth K R (suc i + places) = omega (arith, two_e, up_far, ih) in
        let back : HasOneOf K R (pos far) = r.back (pos far) (subst (HasOneOf K R) (let q : pos (nth K R (suc i + places)) ≡ pos far +ℤ pos g = omega (arith, ints, far_is) in q) (nth_inside K R h some (suc i + places))) in
        let high : nth K R (i + 1) ≤ far = next far i back (omega (arith, far_is, two_e, up_far, ih)) in
        omega (arith, low, high, far_is, one_e, two_e)

    -- and m steps
    places_times : (m : ℕ) → nth K R (m * places) ≡ nth K R 0 + m * g
    places_times zero = let z : zero * places ≡ 0 = omega arith in let e : nth K R (zero * places) ≡ nth K R 0 = ap (nth K R) z in omega (arith, e)
    places_times (suc m) =
        let ih : nth K R (m * places) ≡ nth K R 0 + m * g = places_times m in
        let e : m * places + places ≡ suc m * places = omega arith in
        let f : nth K R (m * places + places) ≡ nth K R (m * places) + g = places_each (m * places) in
        let q : suc m * g ≡ m * g + g = omega arith in
        ap (nth K R) (sym e) ∙ f ∙ omega (arith, ih, q)

    pub places_low : 0 < places
    places_low = nth_after K R h some 0 places (omega (arith, places_first, r.positive))

    -- where the step divides the period, so many places divide the number of residues
    pub places_divide : (m : ℕ) → m * g ≡ K → m * places ≡ length R
    places_divide m e = nth_one K R h some (m * places) (length R)
        (let a : nth K R (m * places) ≡ nth K R 0 + m * g = places_times m in
        let b : nth K R (0 + 1 * length R) ≡ nth K R 0 + K * 1 = nth_turn K R h some 0 1 in
        let c : 0 + 1 * length R ≡ length R = omega arith in
        let d : nth K R (0 + 1 * length R) ≡ nth K R (length R) = ap (nth K R) c in
        omega (arith, a, b, d, e))

  -- where the residues shift so, all numbers do
  shift_each : (p s : ℕ) → ((i : ℕ) → i < length R → nth K R (i + p) ≡ get_or R i 0 + s) → (i : ℕ) → nth K R (i + p) ≡ nth K R i + s
  shift_each p s each i =
      let q : ℕ = i / length R in
      let j : ℕ = i % length R in
      let e : j + p + q * length R ≡ i + p = omega arith in
      let t : nth K R (j + p + q * length R) ≡ nth K R (j + p) + K * q = nth_turn K R h some (j + p) q in
      let b : nth K R (j + p) ≡ get_or R j 0 + s = each j (rest K R h some i) in
      ap (nth K R) (sym e) ∙ t ∙ omega (arith, b)

  -- and the set repeats with the step
  pub shift_repeats : (p s : ℕ) → 0 < s → ((i : ℕ) → i < length R → nth K R (i + p) ≡ get_or R i 0 + s) → Repeats (HasOneOf K R) s
  shift_repeats p s low each = record {
    positive = low;
    on = λ x o. up x o;
    back = λ x o. down x o;
  }
    where
      far : (i : ℕ) → nth K R (i + p) ≡ nth K R i + s
      far = shift_each p s each

      -- a number of the set has the residue of a first number
      index : (x : ℤ) (o : HasOneOf K R x) → (j : ℕ) × (j < length R) × Divides (pos K) (x -ℤ pos (nth K R j))
      index x o =
          let j : ℕ = o.listed.0 in
          let l : j < length R = o.listed.1 in
          let e : get_or R j 0 ≡ o.residue = get_or_default R j 0 o.residue l ∙ o.listed.2 in
          let f : nth K R j ≡ get_or R j 0 = nth_first K R h some j l in
          (j, l, Divides-is (pos K) (x -ℤ pos o.residue) _ (omega (arith, ints, e, f)) o.is)

      up : (x : ℤ) → HasOneOf K R x → HasOneOf K R (x +ℤ pos s)
      up x o =
          let n = index x o in
          let e : nth K R (n.0 + p) ≡ nth K R n.0 + s = far n.0 in
          by_period K R h some (pos (nth K R (n.0 + p))) (nth_inside K R h some (n.0 + p)) (x +ℤ pos s)
          (Divides-is (pos K) (x -ℤ pos (nth K R n.0)) _ (omega (arith, ints, e)) n.2)

      down : (x : ℤ) → HasOneOf K R (x +ℤ pos s) → HasOneOf K R x
      down x o =
          let n = index (x +ℤ pos s) o in
          let i : ℕ = n.0 + p * length R - p in
          let long : p ≤ p * length R = enough p (length R) some in
          let i_is : i + p ≡ n.0 + p * length R = omega (arith, long) in
          let e : nth K R (i + p) ≡ nth K R i + s = far i in
          let t : nth K R (n.0 + p * length R) ≡ nth K R n.0 + K * p = nth_turn K R h some n.0 p in
          let q : nth K R (i + p) ≡ nth K R (n.0 + p * length R) = ap (nth K R) i_is in
          by_period K R h some (pos (nth K R i)) (nth_inside K R h some i) x
          (Divides-is (pos K) (((x +ℤ pos s) -ℤ pos (nth K R n.0)) -ℤ pos (K * p)) _ (omega (arith, ints, e, t, q)) (Divides-- (pos K) _ _ n.2 (Divides-multiple K p)))

  -- each step that divides the period is a shift by some places
  pub step_is_shift : (g : ℕ) → Repeats (HasOneOf K R) g → Divides (pos g) (pos K) → (p : ℕ) × (0 < p) × (p ≤ length R) × (nth K R p ≡ nth K R 0 + g) × IsShift K R p
  step_is_shift g r d =
      let f = first g r in
      let p : ℕ = f.0 in
      let e : nth K R p ≡ nth K R 0 + g = (let q : pos (nth K R 0 + g) ≡ pos (nth K R p) = f.1 in omega (arith, ints)) in
      let m = factor g K r.positive h.low d in
      let t : m.0 * p ≡ length R = places_divide g r p e m.0 m.1 in (
        p,
        places_low g r p e,
        factor_le m.0 p (length R) t some,
        e,
        record {
          divides = subst (λ n. n % p ≡ 0) t (mul-mod_left m.0 p);
          each = λ i l. (
              let a : nth K R (i + p) ≡ nth K R i + g = places_each g r p e i in
              let b : nth K R i ≡ get_or R i 0 = nth_first K R h some i l in
              omega (arith, a, b, e));
        },
      )

  -- the shift by the fewest places gives the least step
  pub least_step : (p s : ℕ) → Repeats (HasOneOf K R) s → nth K R p ≡ nth K R 0 + s → ((q : ℕ) → 0 < q → q < p → IsShift K R q → ⊥) → IsLeastStep (HasOneOf K R) s
  least_step p s r e none = least_divides (HasOneOf K R) K s repeats_period r (λ g rg d. (
      let w = step_is_shift g rg d in
      let l : p ≤ w.0 = elim (order w.0 p) [ inl m ↦ absurd (none w.0 w.1 m w.4) | inr m ↦ m ] in
      let f : nth K R w.0 ≡ nth K R 0 + g = w.3 in
      elim (order p w.0) [
        | inl m ↦ (let a : nth K R p < nth K R w.0 = nth_below K R h some p w.0 m in omega (arith, a, e, f))
        | inr m ↦ (let q : p ≡ w.0 = omega (arith, l, m) in let a : nth K R p ≡ nth K R w.0 = ap (nth K R) q in omega (arith, a, e, f))
      ]))

  -- the number after all residues is a period more than the first
  around : nth K R (length R) ≡ nth K R 0 + K
  around =
      let b : nth K R (0 + 1 * length R) ≡ nth K R 0 + K * 1 = nth_turn K R h some 0 1 in
      let c : 0 + 1 * length R ≡ length R = omega arith in
      ap (nth K R) (sym c) ∙ b ∙ omega arith

  -- a shift by the fewest places, and its step
  pub shift_is_least : (p s : ℕ) → 0 < p → p < length R → IsShift K R p → s + get_or R 0 0 ≡ get_or R p 0
      → ((q : ℕ) → 0 < q → q < p → IsShift K R q → ⊥) → IsLeastStep (HasOneOf K R) s
  shift_is_least p s low high shift e none =
      let a : nth K R 0 ≡ get_or R 0 0 = nth_first K R h some 0 some in
      let b : nth K R p ≡ get_or R p 0 = nth_first K R h some p high in
      let l : nth K R 0 < nth K R p = nth_below K R h some 0 p low in
      let f : nth K R p ≡ nth K R 0 + s = omega (arith, a, b, e) in
      least_step p s (shift_repeats p s (omega (arith, l, f)) (λ i il. (let q : nth K R (i + p) + nth K R 0 ≡ get_or R i 0 + nth K R p = shift.each i il in omega (arith, q, f)))) f none

  -- where no fewer places shift the residues, the period is the step
  pub period_is_least : ((q : ℕ) → 0 < q → q < length R → IsShift K R q → ⊥) → IsLeastStep (HasOneOf K R) K
  period_is_least none = least_step (length R) K repeats_period around none

  -- the test of one residue
  module _ (p : ℕ) (low : 0 < p) (high : p < length R) (i a : ℕ) (is : a ≡ nth K R (i + p)) where
    pub move_holds : a ≡ get_or R i 0 + (get_or R p 0 - get_or R 0 0) → nth K R (i + p) + nth K R 0 ≡ get_or R i 0 + nth K R p
    move_holds e =
        let b : nth K R 0 ≡ get_or R 0 0 = nth_first K R h some 0 some in
        let d : nth K R p ≡ get_or R p 0 = nth_first K R h some p high in
        let l : get_or R 0 0 < get_or R p 0 = h.ascending 0 p 0 low high in
        omega (arith, is, e, b, d, l)

    pub move_is : nth K R (i + p) + nth K R 0 ≡ get_or R i 0 + nth K R p → a ≡ get_or R i 0 + (get_or R p 0 - get_or R 0 0)
    move_is e =
        let b : nth K R 0 ≡ get_or R 0 0 = nth_first K R h some 0 some in
        let d : nth K R p ≡ get_or R p 0 = nth_first K R h some p high in
        let l : get_or R 0 0 < get_or R p 0 = h.ascending 0 p 0 low high in
        omega (arith, is, e, b, d, l)
