-- Residues of all integers in a span, and what is in two spans.
use Rattle.std.proofs.Common.{◌≡◌, ◌≢◌, ◌⊎◌, ℕ, ◌<◌, ◌*◌, ◌/◌, ◌%◌, List, length, get_or, refl, ap, sym, subst, ◌∙◌, inl, inr, arith, Some, None, replicate}
use Rattle.std.specs.Int.{int_rem_euclid}
use Rattle.std.specs.Prelude.{ℤ, pos, ◌+ℤ◌, ◌-ℤ◌, ◌≤ℤ◌, ◌<ℤ◌, slice_get, slice_set}
use Rattle.std.proofs.lemmas.Int.{ints}
use Rattle.std.proofs.lemmas.List.{get_or-set_other, get_or-set_same, length-replicate, length-set}
use Rattle.std.proofs.lemmas.Option.{slice_get-get_or, slice_get_within}
use Rattle.lrp_theory.specs.Divides.{Divides}
use Rattle.lrp_theory.proofs.Modulo.{Divides-+, Divides--, Divides-is, rem_between, rem_divides, small_multiple}
use Rattle.lrp_theory.proofs.Multiples.{Divides-trans}
use Rattle.lrp_point.specs.Points.{IsIn, PointView}
use Rattle.lrp_zone.proofs.Cases.{eq_or}
use Rattle.lrp_kept.specs.Spans.{AreInSpans, IsInSpan}
use Rattle.lrp_kept.specs.declared.spans.ColumnSpan.{ColumnSpan}
use Rattle.lrp_kept.proofs.Outlined.{open_spans}

same_span : (a b : ColumnSpan) → Some a ≡ Some b → a ≡ b
same_span a b e = cc

-- numbers that differ by a multiple have one remainder
pub same_rem : (k : ℕ) (x y : ℤ) → 0 < k → Divides (pos k) (x -ℤ y) → int_rem_euclid y (pos k) ≡ int_rem_euclid x (pos k)
same_rem k x y low d = by (int_rem_euclid x (pos k)) (int_rem_euclid y (pos k)) refl refl
  where
    one : pos 1 ≤ℤ pos k
    one = omega (arith, ints, low)

    by : (r s : ℤ) → r ≡ int_rem_euclid x (pos k) → s ≡ int_rem_euclid y (pos k) → s ≡ r
    by r s er es =
        let rb = rem_between (pos k) x r one er in
        let sb = rem_between (pos k) y s one es in
        let rl : pos 0 ≤ℤ r = rb.0 in
        let rh : r <ℤ pos k = rb.1 in
        let sl : pos 0 ≤ℤ s = sb.0 in
        let sh : s <ℤ pos k = sb.1 in
        let z : r -ℤ s ≡ pos 0 = small_multiple k (r -ℤ s)
        (Divides-is (pos k) (((x -ℤ y) -ℤ (x -ℤ r)) +ℤ (y -ℤ s)) (r -ℤ s) (omega (arith, ints))
        (Divides-+ (pos k) _ _ (Divides-- (pos k) _ _ d (rem_divides (pos k) x r one er)) (rem_divides (pos k) y s one es)))
        (omega (arith, ints, rl, sh)) (omega (arith, ints, rh, sl)) in
        omega (arith, ints, z)

-- no remainder
pub divides_of : (n d : ℕ) → 0 < n → d % n ≡ 0 → Divides (pos n) (pos d)
divides_of n d low r = record { times = pos (d / n); is = ap pos (let e : d ≡ n * (d / n) = omega arith in e) }

-- the members of a point have one residue modulo a divisor of its period
pub point_residue : (p : PointView) (k : ℕ) → 0 < k → p.period % k ≡ 0 → (n : ℕ) (o : ℤ) → pos n ≡ int_rem_euclid o (pos k) → o ≡ pos p.offset → (x : ℤ) → IsIn p x → pos n ≡ int_rem_euclid x (pos k)
point_residue p k low rest n o is at x h =
    is ∙ ap (λ z. int_rem_euclid z (pos k)) at ∙ same_rem k x (pos p.offset) low (Divides-trans (pos k) (pos p.period) _ (divides_of k p.period low rest) h)

-- ---- spans of several places

-- one span is written
pub one_within : (old new : List ColumnSpan) (i : ℕ) (r : ColumnSpan) (xs : ℕ → ℤ) → i < length old → new ≡ slice_set old i r → AreInSpans old xs → IsInSpan r (xs i) → AreInSpans new xs
one_within old new i r xs low e h is = subst (λ ss. AreInSpans ss xs) (sym e) (record { each = λ k s at. by k s at (eq_or k i) })
  where
    by : (k : ℕ) (s : ColumnSpan) → slice_get (slice_set old i r) k ≡ Some s → (k ≡ i) ⊎ (k ≢ i) → IsInSpan s (xs k)
    by k s at (inr other) =
        let in_new : k < length (slice_set old i r) = slice_get_within (slice_set old i r) k s at in
        let in_old : k < length old = omega (arith, in_new, length-set old i r) in
        let a : get_or (slice_set old i r) k s ≡ s = same_span (get_or (slice_set old i r) k s) s (sym (slice_get-get_or (slice_set old i r) k s in_new) ∙ at) in
        h.each k s (slice_get-get_or old k s in_old ∙ ap (λ x. Some x) (sym (get_or-set_other old i k r s other) ∙ a))
    by k s at (inl same) =
        let in_new : k < length (slice_set old i r) = slice_get_within (slice_set old i r) k s at in
        let a : get_or (slice_set old i r) k s ≡ s = same_span (get_or (slice_set old i r) k s) s (sym (slice_get-get_or (slice_set old i r) k s in_new) ∙ at) in
        let here : r ≡ s = sym (get_or-set_same old i r s low) ∙ ap (λ j. get_or (slice_set old i r) j s) (sym same) ∙ a in
        subst (λ t. IsInSpan t (xs k)) here (subst (λ j. IsInSpan r (xs j)) (sym same) is)

-- what is in the spans of both lists is in the third
pub record AreInBoth (left right all : List ColumnSpan) : Type 0 where
  pub size : length all ≡ 8
  pub is : (xs : ℕ → ℤ) → AreInSpans left xs → AreInSpans right xs → AreInSpans all xs

pub none_in_both : (left right : List ColumnSpan) (s : ColumnSpan) → s.least ≡ None → s.most ≡ None → s.point ≡ None → AreInBoth left right (replicate 8 s)
none_in_both left right s least most point = record { size = length-replicate {A = ColumnSpan} 8 s; is = λ xs l r. open_spans 8 s xs least most point }

pub one_in_both : (left right old new : List ColumnSpan) (i : ℕ) (a b r : ColumnSpan) → i < 8 → length left ≡ 8 → length right ≡ 8 → ((x : ℤ) → IsInSpan (get_or left i a) x → IsInSpan (get_or right i b) x → IsInSpan r x) → new ≡ slice_set old i r → AreInBoth left right old → AreInBoth left right new
one_in_both left right old new i a b r low sl sr is e h = record {
  size = ap (λ ss. length ss) e ∙ length-set old i r ∙ h.size;
  is = λ xs l m. one_within old new i r xs (omega (arith, low, h.size)) e (h.is xs l m)
      (is (xs i) (l.each i (get_or left i a) (slice_get-get_or left i a (omega (arith, low, sl)))) (m.each i (get_or right i b) (slice_get-get_or right i b (omega (arith, low, sr)))));
}
