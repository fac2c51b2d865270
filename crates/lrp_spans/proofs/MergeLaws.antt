-- Spans in order, merged one after another.
use Rattle.std.proofs.Common.{◌≡◌, ℕ, suc, get_or, take, ◌+◌, ◌-◌, ◌<◌, ◌≤◌, ◌⊎◌, inl, inr, List, [], ◌∷◌, ◌++◌, Option, Some, None, length, arith, refl, sym, subst, ◌∙◌, ap}
use Rattle.std.specs.Prelude.{ℤ, pos, ◌-ℤ◌, ◌≤ℤ◌, ◌<ℤ◌, Contains, AllPairs}
use Rattle.std.proofs.lemmas.Int.{ints}
use Rattle.std.specs.List.Sorted.{IsPermutation}
use Rattle.std.proofs.Math.Seq.{take-length}
use Rattle.std.proofs.lemmas.List.{take_more, get_or_default}
use Rattle.std.proofs.lemmas.List.Elements.{Contains-append_cases, Contains-append_left, Contains-append_right}
use Rattle.std.proofs.lemmas.List.Sorted.{Contains-permutation, IsPermutation-sym}
use Rattle.lrp_theory.specs.Entries.{AtMost}
use Rattle.lrp_matrix.specs.Ranges.{Above}
use Rattle.lrp_spans.specs.declared.spans.Span.{Span}
use Rattle.lrp_spans.specs.Spans.{AreMergedSpans, SpanBeginsBy, SpanComesBefore, HasLessResidue, HasTurn, InSpans, SpanComesNoLater, IsJoinedSpan, IsSpan}
use Rattle.lrp_spans.proofs.Lists.{before, below_or, in_none, in_one, one_in, pairs_append, pairs_left, pairs_one}

-- ---- turns in some span of a list
pub in_left : (xs ys : List Span) (r : ℕ) (n : ℤ) → InSpans xs r n → InSpans (xs ++ ys) r n
in_left xs ys r n h = record { span = h.span; listed = Contains-append_left xs ys h.span h.listed; is = h.is }

pub in_right : (xs ys : List Span) (r : ℕ) (n : ℤ) → InSpans ys r n → InSpans (xs ++ ys) r n
in_right xs ys r n h = record { span = h.span; listed = Contains-append_right xs ys h.span h.listed; is = h.is }

pub in_either : (xs ys : List Span) (r : ℕ) (n : ℤ) → InSpans (xs ++ ys) r n → InSpans xs r n ⊎ InSpans ys r n
in_either xs ys r n h = elim (Contains-append_cases xs ys h.span h.listed) [
  | inl a ↦ inl (record { span = h.span; listed = a; is = h.is })
  | inr b ↦ inr (record { span = h.span; listed = b; is = h.is })
]

pub in_this : (s : Span) (r : ℕ) (n : ℤ) → HasTurn s r n → InSpans (s ∷ []) r n
in_this s r n h = record { span = s; listed = one_in s; is = h }

pub this_has : (s : Span) (r : ℕ) (n : ℤ) → InSpans (s ∷ []) r n → HasTurn s r n
this_has s r n h = subst (λ t. HasTurn t r n) (sym (in_one s h.span h.listed)) h.is

-- ---- the spans so far, of which the last may still grow
pub record AreMerging (vs made : List Span) (last : Span) : Type 0 where
  pub apart : AllPairs SpanComesBefore (made ++ last ∷ [])
  pub before : (u : Span) → Contains made u → SpanComesBefore u last
  pub begun : Span
  pub listed : Contains vs begun
  pub residue : last.residue ≡ begun.residue
  pub first : last.first ≡ begun.first
  pub to : (r : ℕ) (n : ℤ) → InSpans (made ++ last ∷ []) r n → InSpans vs r n
  pub from : (r : ℕ) (n : ℤ) → InSpans vs r n → InSpans (made ++ last ∷ []) r n
  pub each : (high : ℕ) → ((s : Span) → Contains vs s → IsSpan high s) → (s : Span) → Contains (made ++ last ∷ []) s → IsSpan high s

pub merging_start : (v : Span) → AreMerging (v ∷ []) [] v
merging_start v = record {
  apart = pairs_one SpanComesBefore v;
  before = λ u l. absurd (in_none u l);
  begun = v;
  listed = one_in v;
  residue = refl;
  first = refl;
  to = λ r n h. h;
  from = λ r n h. h;
  each = λ high all. all;
}

-- what comes before a span comes before each that is after it in order
before_later : (u v w : Span) → SpanComesBefore u v → SpanComesNoLater v w → SpanComesBefore u w
before_later u v w (inl a) (inl b) = inl (omega arith)
before_later u v w (inl a) (inr b) = inl (let e : v.residue ≡ w.residue = b.0 in omega arith)
before_later u v w (inr a) (inl b) = inl (let e : u.residue ≡ v.residue = a.0 in omega arith)
before_later u v w (inr a) (inr b) = at w.first refl
  where
    at : (f : Option ℤ) → w.first ≡ f → SpanComesBefore u w
    at None e = (
        let low : Above (a.1.start -ℤ pos 1) v.first = b.1.each _ (subst (Above (a.1.start -ℤ pos 1)) (sym e) tt) in
        let k : a.1.start ≤ℤ (a.1.start -ℤ pos 1) = subst (Above (a.1.start -ℤ pos 1)) a.1.starts low in
        absurd (omega (arith, ints)))
    at (Some f) e = (
        let low : Above f v.first = b.1.each f (subst (Above f) (sym e) (let l : f ≤ℤ f = omega (arith, ints) in l)) in
        let k : a.1.start ≤ℤ f = subst (Above f) a.1.starts low in
        let m : a.1.end <ℤ a.1.start = a.1.below in
        inr (a.0 ∙ b.0, record { end = a.1.end; ends = a.1.ends; start = f; starts = e; below = omega (arith, ints) }))

module _ (vs made : List Span) (last next : Span) (m : AreMerging vs made last) (order : (u : Span) → Contains vs u → SpanComesNoLater u next) where
  -- the last one is in order with the next
  pub last_in_order : SpanComesNoLater last next
  last_in_order = of (order m.begun m.listed)
    where
      of : SpanComesNoLater m.begun next → SpanComesNoLater last next
      of (inl a) = inl (let e : last.residue ≡ m.begun.residue = m.residue in omega arith)
      of (inr a) = inr (m.residue ∙ a.0, record { each = λ n h. subst (Above n) (sym m.first) (a.1.each n h) })

  new_in : Contains (vs ++ next ∷ []) next
  new_in = Contains-append_right vs (next ∷ []) next (one_in next)

  -- the next one lies apart
  pub merging_apart : SpanComesBefore last next → AreMerging (vs ++ next ∷ []) (made ++ last ∷ []) next
  merging_apart apart = record {
    apart = pairs_append SpanComesBefore (made ++ last ∷ []) (next ∷ []) m.apart (pairs_one SpanComesBefore next) (λ x y a b. subst (SpanComesBefore x) (in_one next y b) (before x a));
    before = before;
    begun = next;
    listed = new_in;
    residue = refl;
    first = refl;
    to = λ r n h. elim (in_either (made ++ last ∷ []) (next ∷ []) r n h) [ inl a ↦ in_left vs (next ∷ []) r n (m.to r n a) | inr b ↦ in_right vs (next ∷ []) r n b ];
    from = λ r n h. elim (in_either vs (next ∷ []) r n h) [ inl a ↦ in_left (made ++ last ∷ []) (next ∷ []) r n (m.from r n a) | inr b ↦ in_right (made ++ last ∷ []) (next ∷ []) r n b ];
    each = λ high all s l. elim (Contains-append_cases (made ++ last ∷ []) (next ∷ []) s l) [
      | inl a ↦ m.each high (λ t k. all t (Contains-append_left vs (next ∷ []) t k)) s a
      | inr b ↦ all s (Contains-append_right vs (next ∷ []) s b)
    ];
  }
    where
      before : (u : Span) → Contains (made ++ last ∷ []) u → SpanComesBefore u next
      before u l = elim (Contains-append_cases made (last ∷ []) u l) [
        | inl a ↦ before_later u last next (m.before u a) last_in_order
        | inr b ↦ subst (λ t. SpanComesBefore t next) (in_one last u b) apart
      ]

  -- the next one joins the last
  pub merging_joined : (j : Span) → last.residue ≡ next.residue → IsJoinedSpan last next j → AreMerging (vs ++ next ∷ []) made j
  merging_joined j same is = record {
    apart = pairs_append SpanComesBefore made (j ∷ []) (pairs_left SpanComesBefore made (last ∷ []) m.apart) (pairs_one SpanComesBefore j) (λ x y a b. subst (SpanComesBefore x) (in_one j y b) (before x a));
    before = before;
    begun = m.begun;
    listed = Contains-append_left vs (next ∷ []) m.begun m.listed;
    residue = is.residue ∙ m.residue;
    first = is.begins ∙ m.first;
    to = λ r n h. elim (in_either made (j ∷ []) r n h) [
      | inl a ↦ in_left vs (next ∷ []) r n (m.to r n (in_left made (last ∷ []) r n a))
      | inr b ↦ elim (is.to r n (this_has j r n b)) [
        | inl t ↦ in_left vs (next ∷ []) r n (m.to r n (in_right made (last ∷ []) r n (in_this last r n t)))
        | inr t ↦ in_right vs (next ∷ []) r n (in_this next r n t)
      ]
    ];
    from = λ r n h. elim (in_either vs (next ∷ []) r n h) [
      | inl a ↦ elim (in_either made (last ∷ []) r n (m.from r n a)) [
        | inl t ↦ in_left made (j ∷ []) r n t
        | inr t ↦ in_right made (j ∷ []) r n (in_this j r n (is.from r n (inl (this_has last r n t))))
      ]
      | inr b ↦ in_right made (j ∷ []) r n (in_this j r n (is.from r n (inr (this_has next r n b))))
    ];
    each = λ high all s l. elim (Contains-append_cases made (j ∷ []) s l) [
      | inl a ↦ m.each high (λ t k. all t (Contains-append_left vs (next ∷ []) t k)) s (Contains-append_left made (last ∷ []) s a)
      | inr b ↦ subst (IsSpan high) (in_one j s b)
          (joined_valid high (m.each high (λ t k. all t (Contains-append_left vs (next ∷ []) t k)) last (Contains-append_right made (last ∷ []) last (one_in last))) (all next new_in))
    ];
  }
    where
      before : (u : Span) → Contains made u → SpanComesBefore u j
      before u l = of (m.before u l)
        where
          of : SpanComesBefore u last → SpanComesBefore u j
          of (inl a) = inl (subst (λ r. u.residue < r) (sym is.residue) a)
          of (inr a) = inr (a.0 ∙ sym is.residue, record { end = a.1.end; ends = a.1.ends; start = a.1.start; starts = is.begins ∙ a.1.starts; below = a.1.below })

      joined_valid : (high : ℕ) → IsSpan high last → IsSpan high next → IsSpan high j
      joined_valid high a b = record {
        first = subst (AtMost high) (sym is.begins) a.first;
        last = is.small high a.last b.last;
        turn = a.turn;
        is = subst (λ r. HasTurn j r a.turn) (sym is.residue) (is.from last.residue a.turn (inl a.is));
      }

  -- where the next one does not lie apart, it is of the same residue and begins before the last has ended
  pub same_residue : (SpanComesBefore last next → ⊥) → last.residue ≡ next.residue
  same_residue out = of last_in_order
    where
      of : SpanComesNoLater last next → last.residue ≡ next.residue
      of (inl a) = absurd (out (inl a))
      of (inr a) = a.0

  pub begins_by : (SpanComesBefore last next → ⊥) → SpanBeginsBy last next
  begins_by out = of last_in_order
    where
      of : SpanComesNoLater last next → SpanBeginsBy last next
      of (inl a) = absurd (out (inl a))
      of (inr a) = a.1

pub merging_end : (vs made : List Span) (last : Span) → AreMerging vs made last → AreMergedSpans vs (made ++ last ∷ [])
merging_end vs made last m = record { to = m.to; from = m.from; apart = m.apart; each = m.each }

-- ---- the list that is merged
pub before_next : (first : Span) (rest : List Span) (k : ℕ) (d : Span) → AllPairs SpanComesNoLater (first ∷ rest) → k < length rest → (u : Span) → Contains (first ∷ take k rest) u → SpanComesNoLater u (get_or rest k d)
before_next first rest k d all l u h = before SpanComesNoLater (first ∷ rest) (suc k) (get_or rest k d) all (omega arith) (get_or_default rest k d (get_or rest k d) l) u h

pub more_taken : (first : Span) (rest : List Span) (k : ℕ) (d : Span) → k < length rest → first ∷ take (k + 1) rest ≡ (first ∷ take k rest) ++ get_or rest k d ∷ []
more_taken first rest k d l = ap (λ xs. first ∷ xs) (take_more rest k d l)

pub all_taken : (first : Span) (rest : List Span) (k : ℕ) → k ≡ length rest → first ∷ take k rest ≡ first ∷ rest
all_taken first rest k e = rw e (ap (λ xs. first ∷ xs) (take-length rest))

-- the spans of a list in another order
pub merged_permutation : (old sorted new : List Span) → IsPermutation old sorted → AreMergedSpans sorted new → AreMergedSpans old new
merged_permutation old sorted new p m = record {
  to = λ r n h. moved sorted old (IsPermutation-sym old sorted p) r n (m.to r n h);
  from = λ r n h. m.from r n (moved old sorted p r n h);
  apart = m.apart;
  each = λ high all. m.each high (λ s l. all s (Contains-permutation sorted old s (IsPermutation-sym old sorted p) l));
}
  where
    moved : (xs ys : List Span) → IsPermutation xs ys → (r : ℕ) (n : ℤ) → InSpans xs r n → InSpans ys r n
    moved xs ys q r n h = record { span = h.span; listed = Contains-permutation xs ys h.span q h.listed; is = h.is }

-- ---- spans whose residues ascend
-- the residues ascend below the place
pub record AscendTo (end : ℕ) (spans : List Span) : Type 0 where
  pub each : (i j : ℕ) (d : Span) → i < j → j < end → j < length spans → HasLessResidue (get_or spans i d) (get_or spans j d)

pub ascend_one : (spans : List Span) → AscendTo 1 spans
ascend_one spans = record { each = λ i j d il jl l. absurd (omega (arith, il, jl)) }

pub ascend_more : (end : ℕ) (spans : List Span) (d : Span) → 0 < end → HasLessResidue (get_or spans (end - 1) d) (get_or spans end d) → AscendTo end spans → AscendTo (end + 1) spans
ascend_more end spans d low next all = record { each = each }
  where
    each : (i j : ℕ) (e : Span) → i < j → j < end + 1 → j < length spans → HasLessResidue (get_or spans i e) (get_or spans j e)
    each i j e il jl l = elim (below_or j end) [
      | inl a ↦ all.each i j e il a l
      | inr a ↦ (
          let same : j ≡ end = omega (arith, jl, a) in
          let here : get_or spans end d ≡ get_or spans end e = get_or_default spans end d e (omega (arith, l, same)) in
          let before : get_or spans (end - 1) d ≡ get_or spans (end - 1) e = get_or_default spans (end - 1) d e (omega (arith, l, same)) in
          let step : HasLessResidue (get_or spans (end - 1) e) (get_or spans end e) = subst (λ v. HasLessResidue v (get_or spans end e)) before (subst (HasLessResidue (get_or spans (end - 1) d)) here next) in
          subst (λ k. HasLessResidue (get_or spans i e) (get_or spans k e)) (sym same) (elim (below_or i (end - 1)) [
            | inl b ↦ (let f : HasLessResidue (get_or spans i e) (get_or spans (end - 1) e) = all.each i (end - 1) e b (omega (arith, low)) (omega (arith, l, same)) in omega (arith, f, step))
            | inr b ↦ (let m : i ≡ end - 1 = omega (arith, il, same, b) in subst (λ k. HasLessResidue (get_or spans k e) (get_or spans end e)) (sym m) step)
          ]))
    ]

pub ascend_all : (end : ℕ) (spans : List Span) → length spans ≤ end → AscendTo end spans → AllPairs HasLessResidue spans
ascend_all end spans l all i j d il jl = all.each i j d il (omega (arith, l, jl)) jl

-- they are merged as they are
pub merged_already : (spans : List Span) → AllPairs HasLessResidue spans → AreMergedSpans spans spans
merged_already spans all = record { to = λ r n h. h; from = λ r n h. h; apart = λ i j d il jl. inl (all i j d il jl); each = λ high h. h }
