-- One more turn.
use Rattle.std.proofs.Common.{◌≡◌, ℕ, ◌+◌, ◌^◌, ◌⊎◌, inl, inr, ◌∷◌, [], Some, FitsSigned, arith, refl, sym, subst, to_z, of_z, w64}
use Rattle.std.specs.Prelude.{ℤ, pos, ◌+ℤ◌, ◌-ℤ◌, ◌≤ℤ◌, ◌<ℤ◌, neg_ℤ}
use Rattle.std.proofs.Math.IntN.{◌*ℤ◌}
use Rattle.std.proofs.lemmas.Int.{ints}
use Rattle.lrp_theory.specs.Bounds.{Within}
use Rattle.lrp_theory.specs.Entries.{AtMost}
use Rattle.lrp_matrix.specs.Ranges.{Above}
use Rattle.lrp_spans.specs.declared.spans.Span.{Span}
use Rattle.lrp_spans.specs.Spans.{SpansHaveNumber, IsSpan}
use Rattle.lrp_spans.proofs.Lists.{one_in}
use Rattle.lrp_canon.specs.Edges.{AddsEdges}
use Rattle.lrp_canon.proofs.PushLaws.{IsInTurns, turns_begin, turns_end, turns_next}
use Rattle.lrp_canon.proofs.edges.push_span.Goals as goal

-- an end of a span is a word, and so is the turn after it
end_word : (e : ℤ) → AtMost (2 ^ 62 + 2) (Some e) → to_z w64 (of_z w64 e) ≡ e
end_word e a = let l : neg_ℤ (pos (2 ^ 62 + 2)) ≤ℤ e = a.0 in let h : e ≤ℤ pos (2 ^ 62 + 2) = a.1 in omega (arith, ints)

next_word : (e : ℤ) → AtMost (2 ^ 62 + 2) (Some e) → to_z w64 (of_z w64 (to_z w64 (of_z w64 e) +ℤ pos 1)) ≡ e +ℤ pos 1
next_word e a = let l : neg_ℤ (pos (2 ^ 62 + 2)) ≤ℤ e = a.0 in let h : e ≤ℤ pos (2 ^ 62 + 2) = a.1 in omega (arith, ints)

next_fits : (e : ℤ) → AtMost (2 ^ 62 + 2) (Some e) → FitsSigned w64 (to_z w64 (of_z w64 e) +ℤ pos 1)
next_fits e a = let l : neg_ℤ (pos (2 ^ 62 + 2)) ≤ℤ e = a.0 in let h : e ≤ℤ pos (2 ^ 62 + 2) = a.1 in omega (arith, ints)

-- a turn before the end
below_end : (t e : ℤ) → AtMost (2 ^ 62 + 2) (Some e) → t <ℤ to_z w64 (of_z w64 (to_z w64 (of_z w64 e) +ℤ pos 1)) → t ≤ℤ e
below_end t e a l = let n : to_z w64 (of_z w64 (to_z w64 (of_z w64 e) +ℤ pos 1)) ≡ e +ℤ pos 1 = next_word e a in omega (arith, ints, n, l)

above_start : (t e : ℤ) → AtMost (2 ^ 62 + 2) (Some e) → to_z w64 (of_z w64 e) ≤ℤ t → e ≤ℤ t
above_start t e a l = let n : to_z w64 (of_z w64 e) ≡ e = end_word e a in omega (arith, ints, n, l)

turn_word : (t e f : ℤ) → AtMost (2 ^ 62 + 2) (Some e) → AtMost (2 ^ 62 + 2) (Some f) → e ≤ℤ t → t ≤ℤ f → to_z w64 (of_z w64 (t +ℤ pos 1)) ≡ t +ℤ pos 1
turn_word t e f a b l h = let m : neg_ℤ (pos (2 ^ 62 + 2)) ≤ℤ e = a.0 in let n : f ≤ℤ pos (2 ^ 62 + 2) = b.1 in omega (arith, ints)

up_to : (s t n : ℤ) → s ≤ℤ t → n ≡ t +ℤ pos 1 → s ≤ℤ n
up_to s t n l e = omega (arith, ints)

-- the number of a turn between both ends
turn_number : (whole : ℕ) (span : Span) (first last t : ℤ) → span.first ≡ Some first → span.last ≡ Some last → first ≤ℤ t → t ≤ℤ last → SpansHaveNumber whole (span ∷ []) (pos span.residue +ℤ (pos whole *ℤ t))
turn_number whole span first last t ef el l h = record { residue = span.residue; turn = t; is = refl; inside = record { span = span; listed = one_in span; is = record { residue = refl; low = subst (Above t) (sym ef) l; high = subst (Within t) (sym el) h } } }

-- after the last turn
all_turns : (span : Span) (first last start t : ℤ) → IsSpan (2 ^ 62 + 2) span → span.first ≡ Some first → span.last ≡ Some last → start ≡ first → (t ≡ start) ⊎ Within (t -ℤ pos 1) span.last → (last +ℤ pos 1) ≤ℤ t → t ≡ last +ℤ pos 1
all_turns span first last start t v ef el es high l = of high
  where
    of : (t ≡ start) ⊎ Within (t -ℤ pos 1) span.last → t ≡ last +ℤ pos 1
    of (inl e) = let a : first ≤ℤ v.turn = subst (Above v.turn) ef v.is.low in let b : v.turn ≤ℤ last = subst (Within v.turn) el v.is.high in absurd (omega (arith, ints, e, es, a, b, l))
    of (inr w) = let a : (t -ℤ pos 1) ≤ℤ last = subst (Within (t -ℤ pos 1)) el w in omega (arith, ints, a, l)

-- a number of the span is a word
number_word : (n v : ℤ) → n ≡ v → AtMost (2 ^ 62) (Some v) → to_z w64 (of_z w64 n) ≡ v
number_word n v e a = let l : neg_ℤ (pos (2 ^ 62)) ≤ℤ v = a.0 in let h : v ≤ℤ pos (2 ^ 62) = a.1 in omega (arith, ints)

at_end : (t e n : ℤ) → n ≡ e +ℤ pos 1 → n ≤ℤ t → (e +ℤ pos 1) ≤ℤ t
at_end t e n q l = omega (arith, ints)

pub overflow_add-turn-end : goal.overflow_add-turn-end
overflow_add-turn-end c = next_fits c.in-Some-Some.last (subst (AtMost (2 ^ 62 + 2)) c.in-Some-Some.is-1 (c.requires.numbers.each c.args.span.now (one_in c.args.span.now)).last)

pub number_in-number-requires-clause-residue : goal.number_in-number-requires-clause-residue
number_in-number-requires-clause-residue c = c.requires.numbers.below c.args.span.now (one_in c.args.span.now)

pub loop-turn-init : goal.loop-turn-init
loop-turn-init c = record { low = omega (arith, ints); high = inl refl; added = turns_begin c.args.periods c.args.span.now.residue _ c.args.edges.now.items }

pub number_in-number-requires-clause-number : goal.number_in-number-requires-clause-number
number_in-number-requires-clause-number c =
    let v = c.requires.numbers.each c.args.span.now (one_in c.args.span.now) in
    let a = subst (AtMost (2 ^ 62 + 2)) c.in-Some-Some.is-0 v.first in
    let b = subst (AtMost (2 ^ 62 + 2)) c.in-Some-Some.is-1 v.last in
    c.requires.numbers.small _ (turn_number c.args.periods.whole c.args.span.now c.in-Some-Some.first c.in-Some-Some.last _ c.in-Some-Some.is-0 c.in-Some-Some.is-1 (above_start _ c.in-Some-Some.first a c.loop-turn.invariant.low) (below_end (to_z w64 c.loop-turn.turn-bits) c.in-Some-Some.last b (omega (arith, ints, c.loop-turn-test.true))))

pub loop-turn-preserved : goal.loop-turn-preserved
loop-turn-preserved c =
    let v = c.requires.numbers.each c.args.span.now (one_in c.args.span.now) in
    let a = subst (AtMost (2 ^ 62 + 2)) c.in-Some-Some.is-0 v.first in
    let b = subst (AtMost (2 ^ 62 + 2)) c.in-Some-Some.is-1 v.last in
    let l : c.in-Some-Some.first ≤ℤ to_z w64 c.loop-turn.turn-bits = above_start _ c.in-Some-Some.first a c.loop-turn.invariant.low in
    let h : to_z w64 c.loop-turn.turn-bits ≤ℤ c.in-Some-Some.last = below_end (to_z w64 c.loop-turn.turn-bits) c.in-Some-Some.last b (omega (arith, ints, c.loop-turn-test.true)) in
    let n = turn_word (to_z w64 c.loop-turn.turn-bits) c.in-Some-Some.first c.in-Some-Some.last a b l h in
    record {
      low = up_to _ (to_z w64 c.loop-turn.turn-bits) _ c.loop-turn.invariant.low n;
      high = inr (within_next (to_z w64 c.loop-turn.turn-bits) _ c.in-Some-Some.last c.args.span.now c.in-Some-Some.is-1 n h);
      added = turns_next c.args.periods c.args.span.now.residue _ (to_z w64 c.loop-turn.turn-bits) _ (to_z w64 (of_z w64 c.number_in-number.result)) c.args.edges.now.items c.loop-turn.edges.items c.push.new.self.items _ c.requires.numbers.low c.requires.numbers.divides c.loop-turn.invariant.low n (number_word c.number_in-number.result _ c.number_in-number.ensures (c.requires.numbers.small _ (turn_number c.args.periods.whole c.args.span.now c.in-Some-Some.first c.in-Some-Some.last (to_z w64 c.loop-turn.turn-bits) c.in-Some-Some.is-0 c.in-Some-Some.is-1 l h))) refl refl c.in_ok-push.ensures.items c.loop-turn.invariant.added;
    }
  where
    within_next : (t n e : ℤ) (span : Span) → span.last ≡ Some e → n ≡ t +ℤ pos 1 → t ≤ℤ e → Within (n -ℤ pos 1) span.last
    within_next t n e span el q l = subst (Within (n -ℤ pos 1)) (sym el) (omega (arith, ints))

pub returns : goal.returns
returns c =
    let v = c.requires.numbers.each c.args.span.now (one_in c.args.span.now) in
    let a = subst (AtMost (2 ^ 62 + 2)) c.in-Some-Some.is-0 v.first in
    let b = subst (AtMost (2 ^ 62 + 2)) c.in-Some-Some.is-1 v.last in
    let start = end_word c.in-Some-Some.first a in
    turns_end c.args.periods c.args.span.now c.in-Some-Some.first c.in-Some-Some.last (to_z w64 c.loop-turn.turn-bits) c.args.edges.now.items c.loop-turn.edges.items c.in-Some-Some.is-0 c.in-Some-Some.is-1
    (all_turns c.args.span.now c.in-Some-Some.first c.in-Some-Some.last _ (to_z w64 c.loop-turn.turn-bits) v c.in-Some-Some.is-0 c.in-Some-Some.is-1 start c.loop-turn.invariant.high (at_end (to_z w64 c.loop-turn.turn-bits) c.in-Some-Some.last _ (next_word c.in-Some-Some.last b) (omega (arith, ints, c.loop-turn-test.false))))
    (subst (λ f. AddsEdges c.args.periods.least (IsInTurns c.args.periods.whole c.args.span.now.residue f (to_z w64 c.loop-turn.turn-bits)) c.args.edges.now.items c.loop-turn.edges.items) start c.loop-turn.invariant.added)
