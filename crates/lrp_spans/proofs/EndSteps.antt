-- A set of spans repeats at its ends by a number exactly where the residues without an end do.
use Rattle.std.proofs.Common.{◌≡◌, ℕ, ◌+◌, ◌*◌, ◌<◌, ◌⊎◌, inl, inr, List, [], ◌∷◌, Option, Some, None, true, get_or, unwrap_or, arith, refl, sym, subst, ap, ◌∙◌}
use Rattle.std.specs.Prelude.{ℤ, pos, ◌+ℤ◌, ◌-ℤ◌, ◌≤ℤ◌, ◌<ℤ◌, neg_ℤ, Contains, is_some}
use Rattle.std.specs.FinMap as finite
use Rattle.std.specs.FinMap.{contains_key-keys}
use Rattle.std.proofs.Math.IntN.{◌*ℤ◌}
use Rattle.std.proofs.lemmas.Int.{ints}
use Rattle.std.proofs.lemmas.Map.Views.{Contains-from_any}
use Rattle.std.proofs.lemmas.List.Elements.{Contains-get_or}
use Rattle.lrp_theory.specs.Bounds.{Within}
use Rattle.lrp_theory.specs.Divides.{Divides, IsLcm}
use Rattle.lrp_theory.proofs.Modulo.{Divides-is, Divides-neg, Divides-self}
use Rattle.lrp_theory.proofs.Multiples.{Divides-trans, multiple_low}
use Rattle.lrp_matrix.specs.Ranges.{Above}
use Rattle.lrp_model.specs.declared.tuples.Cell.{Cell}
use Rattle.lrp_slots.specs.Lists.{list_at}
use Rattle.lrp_slots.proofs.Tables.{same_cell}
use Rattle.lrp_spans.specs.declared.spans.Span.{Span}
use Rattle.lrp_spans.specs.Groups.{SpanLists}
use Rattle.lrp_spans.specs.Periods.{IsEndPeriod, IsWithEnds, RepeatsByAll, RepeatsFar}
use Rattle.lrp_spans.specs.Repeating.{AreAscendingResidues, HasOneOf, IsLeastStep, Repeats, RepeatsAtEnds}
use Rattle.lrp_spans.specs.Spans.{HaveResiduesBelow, AreMergedSpans, AreOpen, AreOpenAbove, AreOpenBelow, AreOrdered, SpansHaveNumber, IsSpan}
use Rattle.lrp_spans.proofs.EndLaws.{before_last, after_first, deep_turn, far_turn, from_deep, from_far, moved, repeats_above, repeats_below}
use Rattle.lrp_spans.proofs.Lists.{in_cons, in_none}
use Rattle.lrp_spans.proofs.Repeats.{repeats_multiple}

-- the residues of open spans are residues of the period
pub open_residues : (open_end : Span → Option ℤ) (k : ℕ) (spans : List Span) (residues : List ℕ) → 0 < k → HaveResiduesBelow k spans → AreOpen open_end spans residues → AreAscendingResidues k residues
open_residues open_end k spans residues low below ends = record {
  low = low;
  ascending = ends.ascending;
  below = λ i l. (let t = ends.to (get_or residues i 0) (Contains-get_or residues i 0 l) in subst (λ r. r < k) t.2 (below t.0 t.1));
}

-- residues repeat by their period, so their least step divides it
pub least_divides_period : (k : ℕ) (residues : List ℕ) (step : ℕ) → 0 < k → IsLeastStep (HasOneOf k residues) step → Divides (pos step) (pos k)
least_divides_period k residues step low least = least.least k (record {
  positive = low;
  on = λ x o. moved k residues x (x +ℤ pos k) (Divides-is (pos k) (pos k) _ (omega (arith, ints)) (Divides-self (pos k))) o;
  back = λ x o. moved k residues (x +ℤ pos k) x (Divides-is (pos k) (neg_ℤ (pos k)) _ (omega (arith, ints)) (Divides-neg (pos k) (pos k) (Divides-self (pos k)))) o;
})

module _ (k high : ℕ) (spans : List Span) (low : 0 < k) (each : (s : Span) → Contains spans s → IsSpan high s) (below : (s : Span) → Contains spans s → s.residue < k) where
  -- far up a number of the open residues is one of the spans
  far_has : (residues : List ℕ) → AreOpenAbove spans residues → (y : ℤ) → pos (k * (high + 1)) ≤ℤ y → HasOneOf k residues y → SpansHaveNumber k spans y
  far_has residues ends y g o =
      let t = ends.to o.residue o.listed in
      let l : o.residue < k = subst (λ r. r < k) t.2 (below t.0 t.1) in
      let i : y -ℤ pos o.residue ≡ pos k *ℤ o.is.times = o.is.is in
      let e : y ≡ pos o.residue +ℤ (pos k *ℤ o.is.times) = omega (arith, ints) in
      let n : pos high <ℤ o.is.times = far_turn k high o.residue o.is.times y l e g in
      record {
        residue = o.residue;
        turn = o.is.times;
        is = e;
        inside = record { span = t.0; listed = t.1; is = record { residue = t.2; low = after_first high o.is.times t.0.first (each t.0 t.1).first (omega (arith, ints)); high = subst (Within o.is.times) (sym t.3) tt } };
      }

  -- and so it is far down
  deep_has : (residues : List ℕ) → AreOpenBelow spans residues → (y : ℤ) → y ≤ℤ neg_ℤ (pos (k * (high + 1))) → HasOneOf k residues y → SpansHaveNumber k spans y
  deep_has residues ends y g o =
      let t = ends.to o.residue o.listed in
      let i : y -ℤ pos o.residue ≡ pos k *ℤ o.is.times = o.is.is in
      let e : y ≡ pos o.residue +ℤ (pos k *ℤ o.is.times) = omega (arith, ints) in
      let n : o.is.times <ℤ neg_ℤ (pos high) = deep_turn k high o.residue o.is.times y low e g in
      record {
        residue = o.residue;
        turn = o.is.times;
        is = e;
        inside = record { span = t.0; listed = t.1; is = record { residue = t.2; low = subst (Above o.is.times) (sym t.3) tt; high = before_last high o.is.times t.0.last (each t.0 t.1).last (omega (arith, ints)) } };
      }

  module _ (up down : List ℕ) (above : AreOpenAbove spans up) (beneath : AreOpenBelow spans down) where
    -- where both lists of residues repeat, so do the spans at their ends
    ends_repeat : (step : ℕ) → Repeats (HasOneOf k up) step → Repeats (HasOneOf k down) step → RepeatsAtEnds (SpansHaveNumber k spans) (k * (high + 1)) step
    ends_repeat step u d = record {
      on = λ x g h. far_has up above (x +ℤ pos step) (omega (arith, ints)) (u.on x (from_far k high spans up low each below above x g h));
      back = λ x g h. far_has up above x g (u.back x (from_far k high spans up low each below above (x +ℤ pos step) (omega (arith, ints)) h));
      down = λ x g h. (
          let o : HasOneOf k down x = from_deep k high spans down low each below beneath x g h in
          let e : x ≡ (x -ℤ pos step) +ℤ pos step = omega (arith, ints) in
          deep_has down beneath (x -ℤ pos step) (omega (arith, ints)) (d.back (x -ℤ pos step) (subst (HasOneOf k down) e o)));
      up = λ x g h. (
          let o : HasOneOf k down (x -ℤ pos step) = from_deep k high spans down low each below beneath (x -ℤ pos step) (omega (arith, ints)) h in
          let e : (x -ℤ pos step) +ℤ pos step ≡ x = omega (arith, ints) in
          deep_has down beneath x g (subst (HasOneOf k down) e (d.on (x -ℤ pos step) o)));
    }

    -- a number with the steps of both ends
    pub with_both : (a b old first made : ℕ) → IsLeastStep (HasOneOf k up) a → IsLeastStep (HasOneOf k down) b → IsLcm old a first → IsLcm first b made → Divides (pos made) (pos k) → IsWithEnds k spans old made
    with_both a b old first made la lb one two divides = record {
      positive = multiple_low made k low divides;
      divides = divides;
      multiple = Divides-trans (pos old) (pos first) (pos made) one.common.0 two.common.0;
      ends = λ other positive d. (
        k * (high + 1),
        ends_repeat other
            (repeats_multiple (HasOneOf k up) a other positive (Divides-trans (pos a) (pos made) (pos other) (Divides-trans (pos a) (pos first) (pos made) one.common.1.0 two.common.0) d) la.is)
            (repeats_multiple (HasOneOf k down) b other positive (Divides-trans (pos b) (pos made) (pos other) two.common.1.0 d) lb.is),
      );
      least = λ other positive d r. two.least other (
        one.least other (d, (la.least other (repeats_above k high spans up low each below above r.0 other positive r.1), tt)),
        (lb.least other (repeats_below k high spans down low each below beneath r.0 other positive r.1), tt),
      );
    }

-- ---- group after group
-- sets with the same numbers repeat alike
same_far : (f g : ℤ → Type 0) (step : ℕ) → ((x : ℤ) → f x → g x) → ((x : ℤ) → g x → f x) → RepeatsFar f step → RepeatsFar g step
same_far f g step to from r = (
  r.0,
  record {
    on = λ x l h. to (x +ℤ pos step) (r.1.on x l (from x h));
    back = λ x l h. to x (r.1.back x l (from (x +ℤ pos step) h));
    down = λ x l h. to (x -ℤ pos step) (r.1.down x l (from x h));
    up = λ x l h. to x (r.1.up x l (from (x -ℤ pos step) h));
  },
)

merged_to : (k : ℕ) (old new : List Span) → AreMergedSpans old new → (x : ℤ) → SpansHaveNumber k new x → SpansHaveNumber k old x
merged_to k old new m x h = record { residue = h.residue; turn = h.turn; is = h.is; inside = m.to h.residue h.turn h.inside }

merged_from : (k : ℕ) (old new : List Span) → AreMergedSpans old new → (x : ℤ) → SpansHaveNumber k old x → SpansHaveNumber k new x
merged_from k old new m x h = record { residue = h.residue; turn = h.turn; is = h.is; inside = m.from h.residue h.turn h.inside }

pub merged_ordered : (high : ℕ) (old new : List Span) → AreMergedSpans old new → ((s : Span) → Contains old s → IsSpan high s) → AreOrdered high new
merged_ordered high old new m each = record { each = m.each high each; apart = m.apart }

-- the groups that are not left repeat by all multiples of the number so far
pub record IsBegun (period : ℕ) (lists : SpanLists) (left : List Cell) (made : ℕ) : Type 0 where
  pub positive : 0 < made
  pub divides : Divides (pos made) (pos period)
  pub ends : (group : Cell) (s : Span) → Contains (list_at lists group) s → Contains left group ⊎ RepeatsByAll (SpansHaveNumber period (list_at lists group)) made
  pub least : (other : ℕ) → 0 < other → ((group : Cell) → RepeatsFar (SpansHaveNumber period (list_at lists group)) other) → Divides (pos made) (pos other)

-- a group that has a span is one of the keys
pub span_key : (lists : SpanLists) (group : Cell) (s : Span) → Contains (list_at lists group) s → Contains (finite.keys lists) group
span_key lists group s h = Contains-from_any same_cell group (finite.keys lists) (sym (contains_key-keys lists group) ∙ some (finite.get lists group) h)
  where
    some : (o : Option (List Span)) → Contains (unwrap_or o []) s → is_some o ≡ true
    some None k = absurd (in_none s k)
    some (Some list) k = refl

pub begun_none : (period : ℕ) (lists : SpanLists) (left : List Cell) → left ≡ finite.keys lists → IsBegun period lists left 1
begun_none period lists left all = record {
  positive = omega arith;
  divides = one_divides period;
  ends = λ g s h. inl (subst (λ l. Contains l g) (sym all) (span_key lists g s h));
  least = λ other positive r. one_divides other;
}
  where
    one_divides : (n : ℕ) → Divides (pos 1) (pos n)
    one_divides n = record { times = pos n; is = (let e : 1 * n ≡ n = omega arith in ap pos (sym e)) }

pub begun_more : (period : ℕ) (lists : SpanLists) (group : Cell) (rest left : List Cell) (spans : List Span) (old made : ℕ) → left ≡ group ∷ rest → AreMergedSpans (list_at lists group) spans → IsWithEnds period spans old made
    → IsBegun period lists left old → IsBegun period lists rest made
begun_more period lists group rest left spans old made e m w b = record {
  positive = w.positive;
  divides = w.divides;
  ends = λ g s h. elim (b.ends g s h) [
    | inl l ↦ elim (in_cons group rest g (subst (λ x. Contains x g) e l)) [
      | inl f ↦ inr (λ other positive d. subst (λ c. RepeatsFar (SpansHaveNumber period (list_at lists c)) other) f
          (same_far (SpansHaveNumber period spans) (SpansHaveNumber period (list_at lists group)) other (merged_to period (list_at lists group) spans m) (merged_from period (list_at lists group) spans m) (w.ends other positive d)))
      | inr f ↦ inl f
    ]
    | inr a ↦ inr (λ other positive d. a other positive (Divides-trans (pos old) (pos made) (pos other) w.multiple d))
  ];
  least = λ other positive r. w.least other positive (b.least other positive r)
      (same_far (SpansHaveNumber period (list_at lists group)) (SpansHaveNumber period spans) other (merged_from period (list_at lists group) spans m) (merged_to period (list_at lists group) spans m) (r group));
}

pub begun_end : (period : ℕ) (lists : SpanLists) (left : List Cell) (made : ℕ) → left ≡ [] → IsBegun period lists left made → IsEndPeriod period lists made
begun_end period lists left made e b = record {
  positive = b.positive;
  divides = b.divides;
  ends = λ g s h. elim (b.ends g s h) [ inl l ↦ absurd (in_none g (subst (λ x. Contains x g) e l)) | inr a ↦ a ];
  least = b.least;
}
