-- Spans: what is before, after and in two of them.
use Rattle.std.proofs.Common.{◌≡◌, ℕ, ◌+◌, ◌⊎◌, inl, inr, Option, Some, None, arith, refl, sym, subst, ◌∙◌}
use Rattle.std.specs.Prelude.{ℤ, pos, ◌+ℤ◌, ◌-ℤ◌, ◌≤ℤ◌, ◌<ℤ◌, neg_ℤ}
use Rattle.std.proofs.lemmas.Int.{ints, by_lt_z}
use Rattle.lrp_theory.specs.Bounds.{Within}
use Rattle.lrp_theory.specs.Entries.{AtMost}
use Rattle.lrp_theory.proofs.Decided.{decided_within}
use Rattle.lrp_matrix.specs.Ranges.{Above}
use Rattle.lrp_spans.specs.declared.spans.Span.{Span}
use Rattle.lrp_spans.specs.Spans.{SpanBeginsBy, EndsBefore, HasTurn, IsSpanFront, IsJoinedSpan, IsLater, IsRest}

-- what lies after an end of the first span, which has not ended before the second begins, is after the beginning of the second
pub afterwards : (v w : Span) (n : ℤ) (e f : Option ℤ) → v.last ≡ e → w.first ≡ f → (EndsBefore v w → ⊥) → (Within n e → ⊥) → Above n f
afterwards v w n None f p q meets out = absurd (out tt)
afterwards v w n (Some a) None p q meets out = tt
afterwards v w n (Some a) (Some b) p q meets out = by_lt_z n b
    (λ lt. by_lt_z a n
    (λ l. absurd (meets (record { end = a; ends = p; start = b; starts = q; below = omega (arith, ints) })))
    (λ l. absurd (out l)))
    (λ le. le)

-- and what lies before the beginning of the second is before the end of the first
pub ahead : (v w : Span) (n : ℤ) (e f : Option ℤ) → v.last ≡ e → w.first ≡ f → (EndsBefore v w → ⊥) → (Above n f → ⊥) → Within n e
ahead v w n None f p q meets out = tt
ahead v w n (Some a) None p q meets out = absurd (out tt)
ahead v w n (Some a) (Some b) p q meets out = by_lt_z a n
    (λ lt. by_lt_z n b
    (λ l. absurd (meets (record { end = a; ends = p; start = b; starts = q; below = omega (arith, ints) })))
    (λ l. absurd (out l)))
    (λ le. le)

pub joined_is : (v w j : Span) → j.residue ≡ v.residue → j.first ≡ v.first → IsLater v.last w.last j.last
    → v.residue ≡ w.residue → SpanBeginsBy v w → (EndsBefore v w → ⊥) → IsJoinedSpan v w j
joined_is v w j same first late residue begins meets = record {
  residue = same;
  begins = first;
  to = λ r n t. elim (decided_within n v.last) [
    | inl h ↦ inl (record { residue = sym same ∙ t.residue; low = subst (Above n) first t.low; high = h })
    | inr out ↦ inr (record {
      residue = sym residue ∙ (sym same ∙ t.residue);
      low = afterwards v w n v.last w.first refl refl meets out;
      high = (elim late.one [ inl e ↦ absurd (out (subst (Within n) e t.high)) | inr e ↦ subst (Within n) e t.high ]);
    })
  ];
  from = from;
  small = λ h a b. (elim late.one [ inl e ↦ subst (AtMost h) (sym e) a | inr e ↦ subst (AtMost h) (sym e) b ]);
}
  where
    from : (r : ℕ) (n : ℤ) → HasTurn v r n ⊎ HasTurn w r n → HasTurn j r n
    from r n (inl t) = record { residue = same ∙ t.residue; low = subst (Above n) (sym first) t.low; high = late.left n t.high }
    from r n (inr t) = record { residue = same ∙ (residue ∙ t.residue); low = subst (Above n) (sym first) (begins.each n t.low); high = late.right n t.high }

-- the front up to the turn before the hole
pub front_is : (s hole front : Span) (f g : ℤ) → hole.first ≡ Some f → g ≡ f -ℤ pos 1 → front.residue ≡ s.residue → front.first ≡ s.first → front.last ≡ Some g
    → (EndsBefore s hole → ⊥) → ((a : ℤ) → s.first ≡ Some a → a <ℤ f) → IsSpanFront s hole front
front_is s hole front f g is ge same first last meets own = record {
  to = λ r n t. (
      let high : n ≤ℤ g = subst (Within n) last t.high in
      let out : Above n hole.first → ⊥ = λ a. (let b : f ≤ℤ n = subst (Above n) is a in absurd (omega (arith, ints))) in
      (record { residue = sym same ∙ t.residue; low = subst (Above n) first t.low; high = ahead s hole n s.last hole.first refl refl meets out }, out));
  from = λ r n t out. record {
    residue = same ∙ t.residue;
    low = subst (Above n) (sym first) t.low;
    high = subst (Within n) (sym last) (by_lt_z n f (λ lt. (let l : n ≤ℤ g = omega (arith, ints) in l)) (λ le. absurd (out (subst (Above n) (sym is) le))));
  };
  first = first;
  last = λ h a. (let b : AtMost h (Some f) = subst (AtMost h) is a in subst (AtMost (h + 1)) (sym last) (small h f g ge b.0 b.1));
  turn = some s.first refl;
}
  where
    small : (h : ℕ) (f g : ℤ) → g ≡ f -ℤ pos 1 → neg_ℤ (pos h) ≤ℤ f → f ≤ℤ pos h → AtMost (h + 1) (Some g)
    small h f g e a b = (omega (arith, ints), omega (arith, ints))

    some : (e : Option ℤ) → s.first ≡ e → (n : ℤ) × HasTurn front s.residue n
    some None p = (g, record { residue = same; low = subst (Above g) (sym (first ∙ p)) tt; high = subst (Within g) (sym last) (let l : g ≤ℤ g = omega (arith, ints) in l) })
    some (Some a) p =
        let l : a <ℤ f = own a p in
        (a, record { residue = same; low = subst (Above a) (sym (first ∙ p)) (let l : a ≤ℤ a = omega (arith, ints) in l); high = subst (Within a) (sym last) (let m : a ≤ℤ g = omega (arith, ints) in m) })

-- the rest from the turn after the hole on
pub rest_is : (s hole rest : Span) (f g : ℤ) → hole.last ≡ Some f → g ≡ f +ℤ pos 1 → rest.residue ≡ s.residue → rest.last ≡ s.last → rest.first ≡ Some g
    → (EndsBefore hole s → ⊥) → ((a : ℤ) → s.last ≡ Some a → f <ℤ a) → IsRest s hole rest
rest_is s hole rest f g is ge same last first meets own = record {
  to = λ r n t. (
      let low : g ≤ℤ n = subst (Above n) first t.low in
      let out : Within n hole.last → ⊥ = λ a. (let b : n ≤ℤ f = subst (Within n) is a in absurd (omega (arith, ints))) in
      (record { residue = sym same ∙ t.residue; low = afterwards hole s n hole.last s.first refl refl meets out; high = subst (Within n) last t.high }, out));
  from = λ r n t out. record {
    residue = same ∙ t.residue;
    low = subst (Above n) (sym first) (by_lt_z f n (λ lt. (let l : g ≤ℤ n = omega (arith, ints) in l)) (λ le. absurd (out (subst (Within n) (sym is) le))));
    high = subst (Within n) (sym last) t.high;
  };
  last = last;
  first = λ h a. (let b : AtMost h (Some f) = subst (AtMost h) is a in subst (AtMost (h + 1)) (sym first) (small h f g ge b.0 b.1));
  turn = some s.last refl;
}
  where
    small : (h : ℕ) (f g : ℤ) → g ≡ f +ℤ pos 1 → neg_ℤ (pos h) ≤ℤ f → f ≤ℤ pos h → AtMost (h + 1) (Some g)
    small h f g e a b = (omega (arith, ints), omega (arith, ints))

    some : (e : Option ℤ) → s.last ≡ e → (n : ℤ) × HasTurn rest s.residue n
    some None p = (g, record { residue = same; low = subst (Above g) (sym first) (let l : g ≤ℤ g = omega (arith, ints) in l); high = subst (Within g) (sym (last ∙ p)) tt })
    some (Some a) p =
        let l : f <ℤ a = own a p in
        (a, record { residue = same; low = subst (Above a) (sym first) (let m : g ≤ℤ a = omega (arith, ints) in m); high = subst (Within a) (sym (last ∙ p)) (let l : a ≤ℤ a = omega (arith, ints) in l) })
