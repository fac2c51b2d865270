-- Where the rows of a period begin: numbers of the set before which none stands, a period less. Far enough there are none.
use Rattle.std.proofs.Common.{◌≡◌, ℕ, ◌+◌, ◌*◌, ◌<◌, ◌≤◌, List, arith, sym, subst, ◌∙◌}
use Rattle.std.specs.Prelude.{ℤ, pos, ◌+ℤ◌, ◌-ℤ◌, ◌≤ℤ◌, ◌<ℤ◌, neg_ℤ}
use Rattle.std.proofs.Math.IntN.{◌*ℤ◌}
use Rattle.std.proofs.lemmas.Int.{ints, by_lt_z}
use Rattle.lrp_theory.proofs.Modulo.{minus_right, small_multiple}
use Rattle.lrp_spans.specs.declared.spans.Span.{Span}
use Rattle.lrp_spans.specs.Repeating.{RepeatsAtEnds}
use Rattle.lrp_spans.specs.Spans.{HaveResiduesBelow, AreShifted, SpansHaveNumber, InSpans, IsSpanDifference}
use Rattle.lrp_spans.proofs.TurnLaws.{turn_falls}

-- a number has one residue and one turn
pub one_residue : (k r q : ℕ) (n m : ℤ) → r < k → q < k → pos r +ℤ (pos k *ℤ n) ≡ pos q +ℤ (pos k *ℤ m) → r ≡ q
one_residue k r q n m rl ql e =
    let d : pos k *ℤ (m -ℤ n) ≡ (pos k *ℤ m) -ℤ (pos k *ℤ n) = minus_right (pos k) m n in
    let z : pos r -ℤ pos q ≡ pos 0 = small_multiple k (pos r -ℤ pos q) (record { times = m -ℤ n; is = omega (arith, ints) }) (omega (arith, ints)) (omega (arith, ints)) in
    omega (arith, ints)

pub one_turn : (k r q : ℕ) (n m : ℤ) → r < k → q < k → pos r +ℤ (pos k *ℤ n) ≡ pos q +ℤ (pos k *ℤ m) → n ≡ m
one_turn k r q n m rl ql e =
    let s : r ≡ q = one_residue k r q n m rl ql e in
    let low : 0 < k = omega (arith, rl) in
    let a : n ≤ℤ m = turn_falls k n m low (omega (arith, ints)) in
    let b : m ≤ℤ n = turn_falls k m n low (omega (arith, ints)) in
    omega (arith, ints)

module _ (high k step : ℕ) (spans before starts : List Span) (shift : AreShifted high k step spans before) (d : IsSpanDifference (high + 1) spans before starts) (below : HaveResiduesBelow k spans) where
  -- the numbers of the starts, both ways
  pub start_is : (x : ℤ) → SpansHaveNumber k starts x → SpansHaveNumber k spans x × (SpansHaveNumber k spans (x -ℤ pos step) → ⊥)
  start_is x h =
      let t = d.to h.residue h.turn h.inside in
      (record { residue = h.residue; turn = h.turn; is = h.is; inside = t.0 }, out t.0 t.1)
    where
      out : InSpans spans h.residue h.turn → (InSpans before h.residue h.turn → ⊥) → SpansHaveNumber k spans (x -ℤ pos step) → ⊥
      out i none g =
          let e : (x -ℤ pos step) +ℤ pos step ≡ x = omega (arith, ints) in
          let b : SpansHaveNumber k before x = subst (SpansHaveNumber k before) e (shift.from (x -ℤ pos step) g) in
          let rl : b.residue < k = subst (λ r. r < k) b.inside.is.residue (shift.below b.inside.span b.inside.listed) in
          let ql : h.residue < k = subst (λ r. r < k) i.is.residue (below i.span i.listed) in
          let same : pos b.residue +ℤ (pos k *ℤ b.turn) ≡ pos h.residue +ℤ (pos k *ℤ h.turn) = sym b.is ∙ h.is in
          none (subst (λ r. InSpans before r h.turn) (one_residue k b.residue h.residue b.turn h.turn rl ql same) (subst (InSpans before b.residue) (one_turn k b.residue h.residue b.turn h.turn rl ql same) b.inside))

  pub start_from : (x : ℤ) → SpansHaveNumber k spans x → (SpansHaveNumber k spans (x -ℤ pos step) → ⊥) → SpansHaveNumber k starts x
  start_from x h out = record {
    residue = h.residue;
    turn = h.turn;
    is = h.is;
    inside = d.from h.residue h.turn h.inside (λ o. out (shift.to x (record { residue = h.residue; turn = h.turn; is = h.is; inside = o })));
  }

  module _ (bound : ℕ) (ends : RepeatsAtEnds (SpansHaveNumber k spans) bound step) where
    -- they lie between the bounds
    pub start_low : (x : ℤ) → SpansHaveNumber k starts x → neg_ℤ (pos bound) <ℤ x
    start_low x h = let t = start_is x h in by_lt_z (neg_ℤ (pos bound)) x (λ lt. lt) (λ le. absurd (t.1 (ends.down x le t.0)))

    pub start_high : (x : ℤ) → SpansHaveNumber k starts x → x <ℤ pos (bound + step)
    start_high x h = let t = start_is x h in by_lt_z x (pos (bound + step)) (λ lt. lt)
        (λ le. absurd (t.1 (ends.back (x -ℤ pos step) (omega (arith, ints)) (let e : x ≡ (x -ℤ pos step) +ℤ pos step = omega (arith, ints) in subst (SpansHaveNumber k spans) e t.0))))
