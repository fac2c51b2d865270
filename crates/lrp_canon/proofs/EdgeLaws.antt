-- The differences of spans and of the same spans moved by a step are where rows begin, and where they stop.
use Rattle.std.proofs.Common.{◌≡◌, ℕ, ◌+◌, ◌-◌, ◌*◌, ◌<◌, ◌≤◌, ◌^◌, List, Option, Some, None, arith, refl, sym, subst, ◌∙◌}
use Rattle.std.specs.Prelude.{ℤ, pos, nat_abs, ◌+ℤ◌, ◌-ℤ◌, ◌≤ℤ◌, ◌<ℤ◌, neg_ℤ, Contains}
use Rattle.std.proofs.Math.IntN.{◌*ℤ◌}
use Rattle.std.proofs.lemmas.Int.{ints, by_lt_z}
use Rattle.lrp_theory.specs.Bounds.{Within}
use Rattle.lrp_theory.proofs.Modulo.{times_neg}
use Rattle.lrp_matrix.specs.Ranges.{Above}
use Rattle.lrp_spans.specs.declared.spans.Span.{Span}
use Rattle.lrp_spans.specs.Spans.{HaveResiduesBelow, AreOrdered, AreShifted, SpansHaveNumber, HasTurn, InSpans, IsSpanDifference, IsSpan}
use Rattle.lrp_spans.proofs.CutLaws.{wider_span}
use Rattle.lrp_spans.proofs.Repeats.{divisor_le}
use Rattle.lrp_canon.specs.declared.edges.Periods.{Periods}
use Rattle.lrp_canon.specs.Edges.{AreEdgeNumbers, AreEdgeSpans, AreRepeating, Begins, HasEnds, StopsAt}
use Rattle.lrp_canon.proofs.StartLaws.{one_residue, one_turn, start_from, start_high, start_is, start_low}
use Rattle.lrp_canon.proofs.Stepping.{at_least}

-- spans whose numbers lie between two numbers have both ends
module _ (k high low_end high_end : ℕ) (spans : List Span) (positive : 0 < k) (each : (s : Span) → Contains spans s → IsSpan high s)
    (low : (x : ℤ) → SpansHaveNumber k spans x → neg_ℤ (pos low_end) ≤ℤ x) (top : (x : ℤ) → SpansHaveNumber k spans x → x ≤ℤ pos high_end) (s : Span) (l : Contains spans s) where
  number : (n : ℤ) → HasTurn s s.residue n → SpansHaveNumber k spans (pos s.residue +ℤ (pos k *ℤ n))
  number n t = record { residue = s.residue; turn = n; is = refl; inside = record { span = s; listed = l; is = t } }

  begins : s.first ≡ None → ⊥
  begins e =
      let v : IsSpan high s = each s l in
      let far : ℕ = s.residue + low_end + 1 + nat_abs v.turn in
      let n : ℤ = neg_ℤ (pos far) in
      let t : HasTurn s s.residue n = record { residue = refl; low = subst (Above n) (sym e) tt; high = lower s.last v.turn far v.is.high (omega (arith, ints)) } in
      let x : neg_ℤ (pos low_end) ≤ℤ (pos s.residue +ℤ (pos k *ℤ n)) = low _ (number n t) in
      let p : far ≤ k * far = at_least k far positive in
      let f : pos k *ℤ n ≡ neg_ℤ (pos k *ℤ pos far) = times_neg (pos k) (pos far) in
      let g : pos k *ℤ pos far ≡ pos (k * far) = refl in
      absurd (omega (arith, ints, p))
    where
      lower : (f : Option ℤ) (turn : ℤ) (far : ℕ) → Within turn f → neg_ℤ (pos far) ≤ℤ turn → Within (neg_ℤ (pos far)) f
      lower None turn far w g = tt
      lower (Some a) turn far w g = omega (arith, ints)

  ends : s.last ≡ None → ⊥
  ends e =
      let v : IsSpan high s = each s l in
      let far : ℕ = s.residue + high_end + 1 + nat_abs v.turn in
      let n : ℤ = pos far in
      let t : HasTurn s s.residue n = record { residue = refl; low = higher s.first v.turn far v.is.low (omega (arith, ints)); high = subst (Within n) (sym e) tt } in
      let x : (pos s.residue +ℤ (pos k *ℤ n)) ≤ℤ pos high_end = top _ (number n t) in
      let p : far ≤ k * far = at_least k far positive in
      let g : pos k *ℤ pos far ≡ pos (k * far) = refl in
      absurd (omega (arith, ints, p))
    where
      higher : (f : Option ℤ) (turn : ℤ) (far : ℕ) → Above turn f → turn ≤ℤ pos far → Above (pos far) f
      higher None turn far w g = tt
      higher (Some a) turn far w g = omega (arith, ints)

  pub has_ends : HasEnds s
  has_ends = by s.first s.last refl refl
    where
      by : (f g : Option ℤ) → s.first ≡ f → s.last ≡ g → HasEnds s
      by None g e h = absurd (begins e)
      by (Some a) None e h = absurd (ends h)
      by (Some a) (Some b) e h = record { start = a; starts = e; end = b; ends = h }

pub ordered_wider : (high : ℕ) (spans : List Span) → AreOrdered high spans → AreOrdered (high + 1) spans
ordered_wider high spans o = record { each = λ s l. wider_span high s (o.each s l); apart = o.apart }

pub step_of : (periods : Periods) (spans : List Span) → AreRepeating periods spans → periods.least ≤ periods.whole
step_of periods spans is = divisor_le periods.least periods.whole is.positive is.divides

module _ (periods : Periods) (spans before : List Span) (is : AreRepeating periods spans) (shift : AreShifted (2 ^ 62) periods.whole periods.least spans before) where
  abbrev bound : ℕ
  bound = 2 ^ 62 - periods.whole + 1

  step_le : periods.least ≤ periods.whole
  step_le = divisor_le periods.least periods.whole is.positive is.divides

  -- the spans of a difference have residues below the period
  below_of : (one other made : List Span) → HaveResiduesBelow periods.whole one → IsSpanDifference (2 ^ 62 + 1) one other made → HaveResiduesBelow periods.whole made
  below_of one other made b d s l =
      let v : IsSpan (2 ^ 62 + 2) s = d.each s l in
      let t = d.to s.residue v.turn (record { span = s; listed = l; is = v.is }) in
      subst (λ r. r < periods.whole) t.0.is.residue (b t.0.span t.0.listed)

  pub starts_are : (made : List Span) → IsSpanDifference (2 ^ 62 + 1) spans before made → AreEdgeSpans periods.whole (Begins (SpansHaveNumber periods.whole spans) periods.least) made
  starts_are made d = record {
    to = λ x h. (let t = start_is (2 ^ 62) periods.whole periods.least spans before made shift d is.below x h in record { inside = t.0; first = t.1 });
    from = λ x b. start_from (2 ^ 62) periods.whole periods.least spans before made shift d is.below x b.inside b.first;
    small = λ x h. (
        let a : neg_ℤ (pos (2 ^ 62 - periods.whole + 1)) <ℤ x = start_low (2 ^ 62) periods.whole periods.least spans before made shift d is.below (2 ^ 62 - periods.whole + 1) is.repeats x h in
        let b : x <ℤ pos (2 ^ 62 - periods.whole + 1 + periods.least) = start_high (2 ^ 62) periods.whole periods.least spans before made shift d is.below (2 ^ 62 - periods.whole + 1) is.repeats x h in
        between x a b);
    each = d.each;
    apart = d.apart;
    below = below_of spans before made is.below d;
    ends = λ s l. has_ends periods.whole (2 ^ 62 + 2) (2 ^ 62) (2 ^ 62) made is.positive d.each
        (λ x h. let a : neg_ℤ (pos (2 ^ 62 - periods.whole + 1)) <ℤ x = start_low (2 ^ 62) periods.whole periods.least spans before made shift d is.below (2 ^ 62 - periods.whole + 1) is.repeats x h in
        let b : x <ℤ pos (2 ^ 62 - periods.whole + 1 + periods.least) = start_high (2 ^ 62) periods.whole periods.least spans before made shift d is.below (2 ^ 62 - periods.whole + 1) is.repeats x h in
        (between x a b).0)
        (λ x h. let a : neg_ℤ (pos (2 ^ 62 - periods.whole + 1)) <ℤ x = start_low (2 ^ 62) periods.whole periods.least spans before made shift d is.below (2 ^ 62 - periods.whole + 1) is.repeats x h in
        let b : x <ℤ pos (2 ^ 62 - periods.whole + 1 + periods.least) = start_high (2 ^ 62) periods.whole periods.least spans before made shift d is.below (2 ^ 62 - periods.whole + 1) is.repeats x h in
        (between x a b).1)
        s l;
  }
    where
      between : (x : ℤ) → neg_ℤ (pos (2 ^ 62 - periods.whole + 1)) <ℤ x → x <ℤ pos (2 ^ 62 - periods.whole + 1 + periods.least) → (neg_ℤ (pos (2 ^ 62)) ≤ℤ x) × (x ≤ℤ pos (2 ^ 62))
      between x a b = let p : periods.whole ≤ 2 ^ 62 = is.high in let q : periods.least ≤ periods.whole = step_le in let r : 0 < periods.whole = is.positive in (omega (arith, ints, p, q, r), omega (arith, ints, p, q, r))

  -- ---- stops
  module _ (made : List Span) (d : IsSpanDifference (2 ^ 62 + 1) before spans made) where
    stop_is : (x : ℤ) → SpansHaveNumber periods.whole made x → StopsAt (SpansHaveNumber periods.whole spans) periods.least x
    stop_is x h =
        let t = d.to h.residue h.turn h.inside in
        record { inside = shift.to x (record { residue = h.residue; turn = h.turn; is = h.is; inside = t.0 }); over = over t.0 t.1 }
      where
        over : InSpans before h.residue h.turn → (InSpans spans h.residue h.turn → ⊥) → SpansHaveNumber periods.whole spans x → ⊥
        over i none g =
            let gl : g.residue < periods.whole = subst (λ r. r < periods.whole) g.inside.is.residue (is.below g.inside.span g.inside.listed) in
            let hl : h.residue < periods.whole = subst (λ r. r < periods.whole) i.is.residue (shift.below i.span i.listed) in
            let same : pos g.residue +ℤ (pos periods.whole *ℤ g.turn) ≡ pos h.residue +ℤ (pos periods.whole *ℤ h.turn) = sym g.is ∙ h.is in
            none (subst (λ r. InSpans spans r h.turn) (one_residue periods.whole g.residue h.residue g.turn h.turn gl hl same) (subst (InSpans spans g.residue) (one_turn periods.whole g.residue h.residue g.turn h.turn gl hl same) g.inside))

    stop_from : (x : ℤ) → StopsAt (SpansHaveNumber periods.whole spans) periods.least x → SpansHaveNumber periods.whole made x
    stop_from x s =
        let e : (x -ℤ pos periods.least) +ℤ pos periods.least ≡ x = omega (arith, ints) in
        let b : SpansHaveNumber periods.whole before x = subst (SpansHaveNumber periods.whole before) e (shift.from (x -ℤ pos periods.least) s.inside) in
        record { residue = b.residue; turn = b.turn; is = b.is; inside = d.from b.residue b.turn b.inside (λ i. s.over (record { residue = b.residue; turn = b.turn; is = b.is; inside = i })) }

    stop_low : (x : ℤ) → SpansHaveNumber periods.whole made x → neg_ℤ (pos (2 ^ 62)) ≤ℤ x
    stop_low x h =
        let s = stop_is x h in
        let p : periods.whole ≤ 2 ^ 62 = is.high in
        let q : 0 < periods.whole = is.positive in
        by_lt_z (neg_ℤ (pos (2 ^ 62 - periods.whole + 1))) x (λ lt. omega (arith, ints, p, q)) (λ le. absurd (s.over (is.repeats.up x le s.inside)))

    stop_high : (x : ℤ) → SpansHaveNumber periods.whole made x → x ≤ℤ pos (2 ^ 62)
    stop_high x h =
        let s = stop_is x h in
        let p : periods.whole ≤ 2 ^ 62 = is.high in
        let q : periods.least ≤ periods.whole = step_le in
        let e : (x -ℤ pos periods.least) +ℤ pos periods.least ≡ x = omega (arith, ints) in
        by_lt_z x (pos (2 ^ 62 - periods.whole + 1 + periods.least)) (λ lt. omega (arith, ints, p, q))
        (λ le. absurd (s.over (subst (SpansHaveNumber periods.whole spans) e (is.repeats.on (x -ℤ pos periods.least) (omega (arith, ints)) s.inside))))

    pub stops_are : AreEdgeSpans periods.whole (StopsAt (SpansHaveNumber periods.whole spans) periods.least) made
    stops_are = record {
      to = stop_is;
      from = stop_from;
      small = λ x h. (stop_low x h, stop_high x h);
      each = d.each;
      apart = d.apart;
      below = below_of before spans made shift.below d;
      ends = has_ends periods.whole (2 ^ 62 + 2) (2 ^ 62) (2 ^ 62) made is.positive d.each stop_low stop_high;
    }

pub edge_numbers : (periods : Periods) (spans made : List Span) (kind : ℤ → Type 0) → AreRepeating periods spans → AreEdgeSpans periods.whole kind made → AreEdgeNumbers periods made
edge_numbers periods spans made kind is e = record { low = is.low; divides = is.divides; high = is.high; each = e.each; below = e.below; ends = e.ends; small = e.small }
