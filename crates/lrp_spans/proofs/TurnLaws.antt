-- The turns of a zone with one column.
use Rattle.std.proofs.Common.{◌≡◌, ℕ, suc, ◌+◌, ◌*◌, ◌<◌, ◌≤◌, ◌^◌, List, [], ◌∷◌, Option, Some, None, length, arith, nat_abs, refl, sym, subst, ap, ◌∙◌}
use Rattle.std.specs.Prelude.{ℤ, pos, negsuc, ◌+ℤ◌, ◌-ℤ◌, ◌≤ℤ◌, ◌<ℤ◌, neg_ℤ}
use Rattle.std.specs.Int.{int_div_euclid, int_rem_euclid}
use Rattle.std.proofs.Math.IntN.{◌*ℤ◌}
use Rattle.std.proofs.lemmas.Int.{ints, by_lt_z}
use Rattle.lrp_theory.specs.Bounds.{Within}
use Rattle.lrp_theory.specs.Divides.{Divides}
use Rattle.lrp_theory.specs.Entries.{AtMost, entry, node}
use Rattle.lrp_theory.proofs.Modulo.{Divides--, Divides-is, Divides-neg, minus_right, rem_divides, rem_high, rem_is, rem_low, small_multiple}
use Rattle.lrp_matrix.specs.Ranges.{Above, negation}
use Rattle.lrp_zone.specs.Zones.{IsMember, IsResidue, IsTight, IsZone, ZoneView, columns_of}
use Rattle.lrp_zone.proofs.Lines.{in_line, line_cell, line_high, line_low}
use Rattle.lrp_spans.specs.declared.spans.Span.{Span}
use Rattle.lrp_spans.specs.Spans.{HasTurn, IsSpanOf, IsTurnOf}
use Rattle.lrp_spans.proofs.EndLaws.{at_least}

-- a multiple has the sign of its factor
times_low : (k : ℕ) (d : ℤ) → pos 0 ≤ℤ d → pos 0 ≤ℤ (pos k *ℤ d)
times_low k (pos n) l = let e : pos k *ℤ pos n ≡ pos (k * n) = refl in omega (arith, ints)
times_low k (negsuc n) l = absurd (omega (arith, ints))

times_high : (k : ℕ) (d : ℤ) → 0 < k → d <ℤ pos 0 → (pos k *ℤ d) <ℤ pos 0
times_high k (pos n) low l = absurd (omega (arith, ints))
times_high k (negsuc n) low l =
    let e : pos k *ℤ negsuc n ≡ neg_ℤ (pos (k * suc n)) = refl in
    let q : k * suc n ≡ k * n + k = omega arith in
    omega (arith, ints, q, low)

-- turns are in the order of their numbers
pub turn_grows : (k : ℕ) (n m : ℤ) → n ≤ℤ m → (pos k *ℤ n) ≤ℤ (pos k *ℤ m)
turn_grows k n m l =
    let e : pos k *ℤ (m -ℤ n) ≡ (pos k *ℤ m) -ℤ (pos k *ℤ n) = minus_right (pos k) m n in
    let p : pos 0 ≤ℤ (pos k *ℤ (m -ℤ n)) = times_low k (m -ℤ n) (omega (arith, ints)) in
    omega (arith, ints)

pub turn_falls : (k : ℕ) (n m : ℤ) → 0 < k → (pos k *ℤ n) ≤ℤ (pos k *ℤ m) → n ≤ℤ m
turn_falls k n m low l = by_lt_z m n
    (λ lt. (let e : pos k *ℤ (m -ℤ n) ≡ (pos k *ℤ m) -ℤ (pos k *ℤ n) = minus_right (pos k) m n in
    let p : (pos k *ℤ (m -ℤ n)) <ℤ pos 0 = times_high k (m -ℤ n) low (omega (arith, ints)) in
    absurd (omega (arith, ints))))
    (λ le. le)

-- a number of at most a magnitude is of a turn of at most that magnitude
pub turn_small : (k : ℕ) (r a n : ℤ) (h : ℕ) → 0 < k → pos 0 ≤ℤ r → r <ℤ pos k → a ≡ r +ℤ (pos k *ℤ n) → neg_ℤ (pos h) ≤ℤ a → a ≤ℤ pos h → AtMost h (Some n)
turn_small k r a (pos n) h low rl rh e al ah =
    let f : a ≡ r +ℤ pos (k * n) = e in
    let p : n ≤ k * n = at_least k n low in
    (omega (arith, ints), omega (arith, ints, p))
turn_small k r a (negsuc n) h low rl rh e al ah =
    let f : a ≡ r +ℤ neg_ℤ (pos (k * suc n)) = e in
    let q : k * suc n ≡ k * n + k = omega arith in
    let p : n ≤ k * n = at_least k n low in
    (omega (arith, ints, p, q), omega (arith, ints))

-- an exact quotient
pub exact : (k : ℕ) (z : ℤ) → 0 < k → Divides (pos k) z → z ≡ pos k *ℤ int_div_euclid z (pos k)
exact k z low d =
    let r : ℤ = int_rem_euclid z (pos k) in
    let e : z ≡ (pos k *ℤ int_div_euclid z (pos k)) +ℤ int_rem_euclid z (pos k) = rem_is k z low in
    let f : Divides (pos k) (z -ℤ int_rem_euclid z (pos k)) = rem_divides (pos k) z (int_rem_euclid z (pos k)) (omega (arith, ints)) refl in
    let g : Divides (pos k) (int_rem_euclid z (pos k)) = Divides-is (pos k) (z -ℤ (z -ℤ int_rem_euclid z (pos k))) _ (omega (arith, ints)) (Divides-- (pos k) _ _ d f) in
    let l : pos 0 ≤ℤ int_rem_euclid z (pos k) = rem_low k z low in
    let h : int_rem_euclid z (pos k) <ℤ pos k = rem_high k z low in
    let o : int_rem_euclid z (pos k) ≡ pos 0 = small_multiple k (int_rem_euclid z (pos k)) g (omega (arith, ints)) h in
    omega (arith, ints)

-- a number up to a bound is of a turn up to that of the bound, and back
module _ (k : ℕ) (r n x : ℤ) (low : 0 < k) (is : x ≡ r +ℤ (pos k *ℤ n)) where
  high_to : (e f : Option ℤ) → IsTurnOf (pos k) r e f → Within n f → Within (x -ℤ pos 0) e
  high_to None f t w = tt
  high_to (Some a) f t w =
      let l : n ≤ℤ t.0 = subst (Within n) t.1 w in
      let e : a ≡ r +ℤ (pos k *ℤ t.0) = t.2 in
      let g : (pos k *ℤ n) ≤ℤ (pos k *ℤ t.0) = turn_grows k n t.0 l in
      omega (arith, ints)

  high_from : (e f : Option ℤ) → IsTurnOf (pos k) r e f → Within (x -ℤ pos 0) e → Within n f
  high_from None f t w = subst (Within n) (sym t) tt
  high_from (Some a) f t w =
      let e : a ≡ r +ℤ (pos k *ℤ t.0) = t.2 in
      subst (Within n) (sym t.1) (turn_falls k n t.0 low (omega (arith, ints)))

  low_to : (e f : Option ℤ) → IsTurnOf (pos k) r (negation e) f → Above n f → Within (pos 0 -ℤ x) e
  low_to None f t w = tt
  low_to (Some a) f t w =
      let l : t.0 ≤ℤ n = subst (Above n) t.1 w in
      let e : neg_ℤ a ≡ r +ℤ (pos k *ℤ t.0) = t.2 in
      let g : (pos k *ℤ t.0) ≤ℤ (pos k *ℤ n) = turn_grows k t.0 n l in
      omega (arith, ints)

  low_from : (e f : Option ℤ) → IsTurnOf (pos k) r (negation e) f → Within (pos 0 -ℤ x) e → Above n f
  low_from None f t w = subst (Above n) (sym t) tt
  low_from (Some a) f t w =
      let e : neg_ℤ a ≡ r +ℤ (pos k *ℤ t.0) = t.2 in
      subst (Above n) (sym t.1) (turn_falls k t.0 n low (omega (arith, ints)))

-- the span of the turns of both ends
module _ (z : ZoneView) (valid : IsZone z) (one : columns_of z ≡ 1) (s : Span) (residue : node z.residues 1 ≡ pos s.residue)
    (first : IsTurnOf (pos z.period) (pos s.residue) (negation (entry z.bounds 0 1)) s.first) (last : IsTurnOf (pos z.period) (pos s.residue) (entry z.bounds 1 0) s.last) where
  turn_in : (n : ℤ) → HasTurn s s.residue n → IsMember z ((pos s.residue +ℤ (pos z.period *ℤ n)) ∷ [])
  turn_in n t =
      let x : ℤ = pos s.residue +ℤ (pos z.period *ℤ n) in
      in_line z x valid one (record { times = n; is = omega (arith, ints) })
      (high_to z.period (pos s.residue) n x valid.shape.period_low refl (entry z.bounds 1 0) s.last last t.high)
      (low_to z.period (pos s.residue) n x valid.shape.period_low refl (entry z.bounds 0 1) s.first first t.low)

  turn_from : (x : ℤ) → IsMember z (x ∷ []) → (n : ℤ) × (x ≡ pos s.residue +ℤ (pos z.period *ℤ n)) × HasTurn s s.residue n
  turn_from x m =
      let d : Divides (pos z.period) (x -ℤ node z.residues 1) = line_cell z x one m in
      let i : x -ℤ node z.residues 1 ≡ pos z.period *ℤ d.times = d.is in
      let e : x ≡ pos s.residue +ℤ (pos z.period *ℤ d.times) = omega (arith, ints) in (
        d.times,
        e,
        record {
          residue = refl;
          low = low_from z.period (pos s.residue) d.times x valid.shape.period_low e (entry z.bounds 0 1) s.first first (line_low z x one m);
          high = high_from z.period (pos s.residue) d.times x valid.shape.period_low e (entry z.bounds 1 0) s.last last (line_high z x one m);
        },
      )

  some_turn : (xs : List ℤ) → IsMember z xs → (n : ℤ) × HasTurn s s.residue n
  some_turn [] m = absurd (let e : 0 ≡ columns_of z = m.cell.count in omega (arith, one))
  some_turn (x ∷ []) m = let t = turn_from x m in (t.0, t.2)
  some_turn (x ∷ y ∷ xs) m = absurd (let e : suc (suc (length xs)) ≡ columns_of z = m.cell.count in omega (arith, one))

  pub span_is : AtMost (2 ^ 62) s.first → AtMost (2 ^ 62) s.last → IsSpanOf z s
  span_is a b = record {
    below = (let h : node z.residues 1 <ℤ pos z.period = (valid.shape.residues 1 (omega (arith, one))).high in omega (arith, ints));
    to = turn_in;
    from = turn_from;
    valid = (let t = some_turn valid.some.member valid.some.is in record { first = a; last = b; turn = t.0; is = t.1 });
  }

-- the turn of a bound is the exact quotient
pub quotient : (k r : ℤ) (bound : Option ℤ) (a q v m : ℤ) → q ≡ int_div_euclid v m → bound ≡ Some a → IsTight k r bound → pos 0 <ℤ k → pos 0 ≤ℤ r → r <ℤ k → m ≡ k → v ≡ a -ℤ r
    → IsTurnOf k r bound (Some q) × AtMost (2 ^ 62) (Some q)
quotient (negsuc n) r bound a q v m e is tight low rl rh mk va = absurd (omega (arith, ints))
quotient (pos n) r bound a q v m e is tight low rl rh mk va =
    let t : IsTight (pos n) r (Some a) = subst (IsTight (pos n) r) is tight in
    let al : neg_ℤ (pos (2 ^ 62)) ≤ℤ a = t.1.0 in
    let ah : a ≤ℤ pos (2 ^ 62) = t.1.1 in
    let some : 0 < n = omega (arith, ints) in
    let f : q ≡ int_div_euclid (a -ℤ r) (pos n) = e ∙ ap (λ y. int_div_euclid y m) va ∙ ap (int_div_euclid (a -ℤ r)) mk in
    let g : a -ℤ r ≡ pos n *ℤ q = exact n (a -ℤ r) some t.0 ∙ ap (λ y. pos n *ℤ y) (sym f) in
    let i : a ≡ r +ℤ (pos n *ℤ q) = omega (arith, ints) in
    (subst (λ b. IsTurnOf (pos n) r b (Some q)) (sym is) (q, refl, i), turn_small n r a q (2 ^ 62) some rl rh i al ah)

-- the bounds of a zone with one column, as bounds of its numbers
negated : (k r : ℤ) (e : Option ℤ) → IsTight k (pos 0 -ℤ r) e → IsTight k r (negation e)
negated k r None t = tt
negated k r (Some a) t =
    let l : neg_ℤ (pos (2 ^ 62)) ≤ℤ a = t.1.0 in
    let h : a ≤ℤ pos (2 ^ 62) = t.1.1 in
    (Divides-is k (neg_ℤ (a -ℤ (pos 0 -ℤ r))) _ (omega (arith, ints)) (Divides-neg k _ t.0), (omega (arith, ints), omega (arith, ints)))

upright : (k r : ℤ) (e : Option ℤ) → IsTight k (r -ℤ pos 0) e → IsTight k r e
upright k r None t = tt
upright k r (Some a) t = (Divides-is k (a -ℤ (r -ℤ pos 0)) _ (omega (arith, ints)) t.0, t.1)

pub tight_low : (z : ZoneView) → IsZone z → columns_of z ≡ 1 → (k r : ℤ) (e : Option ℤ) → e ≡ negation (entry z.bounds 0 1) → k ≡ pos z.period → r ≡ node z.residues 1 → IsTight k r e
tight_low z valid one k r e is ks rs = subst (λ f. IsTight k r f) (sym is) (subst (λ s. IsTight k s (negation (entry z.bounds 0 1))) (sym rs) (subst (λ j. IsTight j (node z.residues 1) (negation (entry z.bounds 0 1))) (sym ks)
    (negated (pos z.period) (node z.residues 1) (entry z.bounds 0 1) (valid.shape.tight 0 1 (omega arith) (omega (arith, one))))))

pub tight_high : (z : ZoneView) → IsZone z → columns_of z ≡ 1 → (k r : ℤ) (e : Option ℤ) → e ≡ entry z.bounds 1 0 → k ≡ pos z.period → r ≡ node z.residues 1 → IsTight k r e
tight_high z valid one k r e is ks rs = subst (λ f. IsTight k r f) (sym is) (subst (λ s. IsTight k s (entry z.bounds 1 0)) (sym rs) (subst (λ j. IsTight j (node z.residues 1) (entry z.bounds 1 0)) (sym ks)
    (upright (pos z.period) (node z.residues 1) (entry z.bounds 1 0) (valid.shape.tight 1 0 (omega (arith, one)) (omega arith)))))

-- the residue of a zone with one column
pub residue_of : (z : ZoneView) → IsZone z → columns_of z ≡ 1 → IsResidue z.period (node z.residues 1)
residue_of z valid one = valid.shape.residues 1 (omega (arith, one))

pub span_made : (z : ZoneView) → IsZone z → columns_of z ≡ 1 → (s : Span) (k r : ℤ) (e f : Option ℤ) → e ≡ negation (entry z.bounds 0 1) → f ≡ entry z.bounds 1 0 → IsTurnOf k r e s.first → IsTurnOf k r f s.last
    → AtMost (2 ^ 62) s.first → AtMost (2 ^ 62) s.last → k ≡ pos z.period → r ≡ node z.residues 1 → s.residue ≡ nat_abs r → IsSpanOf z s
span_made z valid one s k r e f es fs first last a b ks rs ns =
    let l : pos 0 ≤ℤ node z.residues 1 = (residue_of z valid one).low in
    let n : node z.residues 1 ≡ pos s.residue = omega (arith, ints) in
    let m : r ≡ pos s.residue = rs ∙ n in
    span_is z valid one s n
    (subst (λ g. IsTurnOf (pos z.period) (pos s.residue) g s.first) es (subst (λ j. IsTurnOf j (pos s.residue) e s.first) ks (subst (λ j. IsTurnOf k j e s.first) m first)))
    (subst (λ g. IsTurnOf (pos z.period) (pos s.residue) g s.last) fs (subst (λ j. IsTurnOf j (pos s.residue) f s.last) ks (subst (λ j. IsTurnOf k j f s.last) m last))) a b
