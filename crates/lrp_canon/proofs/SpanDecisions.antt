-- It is decided whether a number is one of some spans.
use Rattle.std.proofs.Common.{◌≡◌, ℕ, ◌<◌, inl, inr, List, [], ◌∷◌, Option, Some, None, arith, refl, sym, subst}
use Rattle.std.specs.Prelude.{ℤ, pos, ◌+ℤ◌, ◌-ℤ◌, ◌≤ℤ◌}
use Rattle.std.proofs.Math.IntN.{◌*ℤ◌}
use Rattle.std.proofs.lemmas.Int.{ints, by_lt_z}
use Rattle.lrp_theory.specs.Bounds.{Within}
use Rattle.lrp_theory.specs.Divides.{Divides}
use Rattle.lrp_theory.proofs.Decided.{Decided, decided_both, decided_divides, decided_within}
use Rattle.lrp_matrix.specs.Ranges.{Above}
use Rattle.lrp_spans.specs.declared.spans.Span.{Span}
use Rattle.lrp_spans.specs.Spans.{SpansHaveNumber, HasTurn}
use Rattle.lrp_spans.proofs.Lists.{head_in, in_cons, in_none, later}
use Rattle.lrp_spans.proofs.TurnLaws.{turn_falls}

decided_above : (d : ℤ) (e : Option ℤ) → Decided (Above d e)
decided_above d None = inl tt
decided_above d (Some a) = by_lt_z d a (λ lt. inr (λ le. absurd (omega (arith, ints)))) (λ le. inl le)

-- the number of the span's residue in one of its turns
record IsNumberOf (k : ℕ) (s : Span) (x : ℤ) : Type 0 where
  turn : ℤ
  is : x ≡ pos s.residue +ℤ (pos k *ℤ turn)
  inside : HasTurn s s.residue turn

same_turn : (k : ℕ) (n m : ℤ) → 0 < k → pos k *ℤ n ≡ pos k *ℤ m → n ≡ m
same_turn k n m low e =
    let a : n ≤ℤ m = turn_falls k n m low (omega (arith, ints)) in
    let b : m ≤ℤ n = turn_falls k m n low (omega (arith, ints)) in
    omega (arith, ints, a, b)

decided_at : (k : ℕ) (s : Span) (x : ℤ) → 0 < k → Decided (IsNumberOf k s x)
decided_at k s x low = elim (decided_divides (pos k) (x -ℤ pos s.residue) (omega (arith, ints, low))) [
  | inl d ↦ by_ends d (decided_both (Above d.times s.first) (Within d.times s.last) (decided_above d.times s.first) (decided_within d.times s.last))
  | inr n ↦ inr (λ h. n (record { times = h.turn; is = (let e : x ≡ pos s.residue +ℤ (pos k *ℤ h.turn) = h.is in omega (arith, ints, e)) }))
]
  where
    by_ends : (d : Divides (pos k) (x -ℤ pos s.residue)) → Decided (Above d.times s.first × Within d.times s.last) → Decided (IsNumberOf k s x)
    by_ends d (inl b) = inl (record { turn = d.times; is = (let e : x -ℤ pos s.residue ≡ pos k *ℤ d.times = d.is in omega (arith, ints, e)); inside = record { residue = refl; low = b.0; high = b.1 } })
    by_ends d (inr n) = inr (λ h.
        let e : x -ℤ pos s.residue ≡ pos k *ℤ d.times = d.is in
        let f : x ≡ pos s.residue +ℤ (pos k *ℤ h.turn) = h.is in
        let t : h.turn ≡ d.times = same_turn k h.turn d.times low (omega (arith, ints, e, f)) in
        n (subst (λ m. Above m s.first) t h.inside.low, subst (λ m. Within m s.last) t h.inside.high))

pub decided_number : (k : ℕ) (spans : List Span) (x : ℤ) → 0 < k → Decided (SpansHaveNumber k spans x)
decided_number k [] x low = inr (λ h. in_none h.inside.span h.inside.listed)
decided_number k (s ∷ ss) x low = elim (decided_at k s x low) [
  | inl h ↦ inl (record { residue = s.residue; turn = h.turn; is = h.is; inside = record { span = s; listed = head_in s ss; is = h.inside } })
  | inr n ↦ elim (decided_number k ss x low) [
    | inl h ↦ inl (record { residue = h.residue; turn = h.turn; is = h.is; inside = record { span = h.inside.span; listed = later s ss h.inside.span h.inside.listed; is = h.inside.is } })
    | inr m ↦ inr (λ h. elim (in_cons s ss h.inside.span h.inside.listed) [
      | inl e ↦ n (first_has h.residue h.turn h.is (subst (λ p. HasTurn p h.residue h.turn) (sym e) h.inside.is))
      | inr l ↦ m (record { residue = h.residue; turn = h.turn; is = h.is; inside = record { span = h.inside.span; listed = l; is = h.inside.is } })
    ])
  ]
]
  where
    first_has : (r : ℕ) (n : ℤ) → x ≡ pos r +ℤ (pos k *ℤ n) → HasTurn s r n → IsNumberOf k s x
    first_has r n e t = record { turn = n; is = subst (λ q. x ≡ pos q +ℤ (pos k *ℤ n)) (sym t.residue) e; inside = record { residue = refl; low = t.low; high = t.high } }
