-- The numbers of an interval below another one, and those above it.
use Rattle.std.proofs.Common.{◌≡◌, ℕ, ◌+◌, ◌<◌, ◌≤◌, ◌^◌, inl, inr, Option, Some, None, arith, refl, sym, subst, to_z, of_z, w64}
use Rattle.std.specs.Prelude.{ℤ, pos, nat_abs, ◌-ℤ◌, ◌+ℤ◌, ◌≤ℤ◌, ◌<ℤ◌, IfNone, IfSome}
use Rattle.std.proofs.lemmas.Int.{ints, by_lt_z}
use Rattle.lrp_theory.specs.Bounds.{Within}
use Rattle.lrp_theory.specs.Divides.{Divides}
use Rattle.lrp_theory.specs.Entries.{node, AtMost}
use Rattle.lrp_theory.proofs.Modulo.{Divides-+, Divides--, Divides-is, Divides-self}
use Rattle.lrp_matrix.specs.Ranges.{Above}
use Rattle.lrp_zone.specs.Zones.{ZoneView}
use Rattle.lrp_store.proofs.Unions.{next_number}
use Rattle.lrp_cutting.specs.declared.intervals.Interval.{Interval}
use Rattle.lrp_cutting.specs.Gaps.{IsPartAbove, IsPartBelow, IsGreaterOf, IsReversed, IsLesserOf}
use Rattle.lrp_cutting.specs.Intervals.{HasSmallEnds, IsIntervalEnd, IsInterval, IsNumber, IsStoredEnd, IsStoredInterval}

-- an end and a period are added as they are
pub word_is : (t : ℤ) → nat_abs t ≤ 2 ^ 62 → to_z w64 (of_z w64 t) ≡ t
word_is t h = omega (arith, ints)

pub less_word : (a p : ℤ) (k : ℕ) → p ≡ pos k → nat_abs a + nat_abs p ≤ 2 ^ 62 → to_z w64 (of_z w64 (to_z w64 (of_z w64 a) -ℤ to_z w64 (of_z w64 p))) ≡ a -ℤ pos k
less_word a p k e h = omega (arith, ints)

pub more_word : (a p : ℤ) (k : ℕ) → p ≡ pos k → nat_abs a + nat_abs p ≤ 2 ^ 62 → to_z w64 (of_z w64 (to_z w64 (of_z w64 a) +ℤ to_z w64 (of_z w64 p))) ≡ a +ℤ pos k
more_word a p k e h = omega (arith, ints)

-- what is at most a number is within an end that the number is within
less_within : (x t : ℤ) (e : Option ℤ) → Within t e → x ≤ℤ t → Within x e
less_within x t None h l = tt
less_within x t (Some a) h l = omega (arith, ints)

more_above : (x t : ℤ) (e : Option ℤ) → Above t e → t ≤ℤ x → Above x e
more_above x t None h l = tt
more_above x t (Some a) h l = omega (arith, ints)

-- an interval whose end is not below its start has a number
module _ (z : ZoneView) (u : Interval) (least : IsStoredEnd z u.least) (most : IsStoredEnd z u.most) (some : IsReversed u → ⊥) where
  from_start : (a : ℤ) → u.least ≡ Some a → (e : Option ℤ) → u.most ≡ e → IsNumber z u a
  from_start a q None p = record { residue = (subst (IsStoredEnd z) q least).0; low = subst (λ o. Above a o) (sym q) (omega (arith, ints)); high = subst (λ o. Within a o) (sym p) tt }
  from_start a q (Some b) p = record {
    residue = (subst (IsStoredEnd z) q least).0;
    low = subst (λ o. Above a o) (sym q) (omega (arith, ints));
    high = subst (λ o. Within a o) (sym p) (by_lt_z b a (λ l. absurd (some (record { start = a; starts = q; end = b; ends = p; back = l }))) (λ l. l));
  }

  from_end : (b : ℤ) → u.most ≡ Some b → u.least ≡ None → IsNumber z u b
  from_end b p q = record { residue = (subst (IsStoredEnd z) p most).0; low = subst (λ o. Above b o) (sym q) tt; high = subst (λ o. Within b o) (sym p) (omega (arith, ints)) }

  pub up_to : (b : ℤ) → u.most ≡ Some b → (e : Option ℤ) → u.least ≡ e → IsStoredInterval z u
  up_to b p None q = record { least = least; most = most; number = b; is = from_end b p q }
  up_to b p (Some a) q = record { least = least; most = most; number = a; is = from_start a q u.most refl }

  pub from_on : (a : ℤ) → u.least ≡ Some a → IsStoredInterval z u
  from_on a q = record { least = least; most = most; number = a; is = from_start a q u.most refl }

-- a reversed interval has no number
pub no_number : (z : ZoneView) (u : Interval) (x : ℤ) → IsReversed u → IsNumber z u x → ⊥
no_number z u x r n =
    let low : r.start ≤ℤ x = subst (λ o. Above x o) r.starts n.low in
    let high : x ≤ℤ r.end = subst (λ o. Within x o) r.ends n.high in
    let back : r.end <ℤ r.start = r.back in
    omega (arith, ints)

module _ (z : ZoneView) (v w : Interval) (low : 0 < z.period) (vi : IsStoredInterval z v) (wi : IsInterval z w) where
  k : ℤ
  k = pos z.period

  r : ℤ
  r = node z.residues 1

  -- ---- below
  pub none_below : w.least ≡ None → IsPartBelow z v w None
  none_below e = record {
    interval = λ u q. absurd (cc);
    to = λ u q. absurd (cc);
    from = λ x n out. absurd (out (subst (λ o. Above x o) (sym e) tt));
    small = λ u q. absurd (cc);
  }

  module _ (a t : ℤ) (starts : w.least ≡ Some a) (s : IsLesserOf v.most (a -ℤ pos z.period) t) where
    start_is : Divides (pos z.period) (a -ℤ node z.residues 1) × (nat_abs a + z.period ≤ 2 ^ 62)
    start_is = subst (IsIntervalEnd z) starts wi.least

    pub end_is : IsStoredEnd z (Some t)
    end_is = elim s.one [
      | inl e ↦ (
        Divides-is (pos z.period) ((a -ℤ node z.residues 1) -ℤ pos z.period) _ (omega (arith, ints, e)) (Divides-- (pos z.period) _ _ start_is.0 (Divides-self (pos z.period))),
        (let l : nat_abs a + z.period ≤ 2 ^ 62 = start_is.1 in omega (arith, ints, e)),
      )
      | inr e ↦ subst (IsStoredEnd z) e vi.most
    ]

    to_below : (x : ℤ) → IsNumber z (record { least = v.least; most = Some t }) x → IsNumber z v x × (Above x w.least → ⊥)
    to_below x n =
        let high : x ≤ℤ t = n.high in
        let number : t ≤ℤ (a -ℤ pos z.period) = s.number in (
          record { residue = n.residue; low = n.low; high = less_within x t v.most s.end n.high },
          λ above. (let l : a ≤ℤ x = subst (λ o. Above x o) starts above in omega (arith, ints)),
        )

    from_below : (x : ℤ) → IsNumber z v x → (Above x w.least → ⊥) → IsNumber z (record { least = v.least; most = Some t }) x
    from_below x n out =
        let lt : x <ℤ a = by_lt_z x a (λ l. l) (λ l. absurd (out (subst (λ o. Above x o) (sym starts) l))) in
        let far : (x +ℤ pos z.period) ≤ℤ a = next_number (pos z.period) (node z.residues 1) x a (omega (arith, ints)) n.residue start_is.0 lt in
        record {
          residue = n.residue;
          low = n.low;
          high = elim s.one [ inl e ↦ omega (arith, ints) | inr e ↦ subst (λ o. Within x o) e n.high ];
        }

    small_below : (g h : ℕ) → h + z.period ≤ g → HasSmallEnds g v → HasSmallEnds h w → HasSmallEnds g (record { least = v.least; most = Some t })
    small_below g h room sv sw = record {
      least = sv.least;
      most = elim s.one [
        | inl e ↦ (let l : AtMost h (Some a) = subst (AtMost h) starts sw.least in (omega (arith, ints, l.0, l.1, e), omega (arith, ints, l.0, l.1, e)))
        | inr e ↦ subst (AtMost g) e sv.most
      ];
    }

    pub some_below : (part : Option Interval) → IfNone part (IsReversed (record { least = v.least; most = Some t })) → IfSome part (λ u. (u ≡ record { least = v.least; most = Some t }) × (IsReversed (record { least = v.least; most = Some t }) → ⊥)) → IsPartBelow z v w part
    some_below None none some = record {
      interval = λ u q. absurd (cc);
      to = λ u q. absurd (cc);
      from = λ x n out. absurd (no_number z _ x none (from_below x n out));
      small = λ u q. absurd (cc);
    }
    some_below (Some y) none some = record {
      interval = λ u q. subst (IsStoredInterval z) (same u q) (up_to z (record { least = v.least; most = Some t }) vi.least end_is some.1 t refl v.least refl);
      to = λ u q x n. to_below x (subst (λ i. IsNumber z i x) (sym (same u q)) n);
      from = λ x n out. (y, refl, subst (λ i. IsNumber z i x) (sym some.0) (from_below x n out));
      small = λ u q g h room sv sw. subst (HasSmallEnds g) (same u q) (small_below g h room sv sw);
    }
      where
        same : (u : Interval) → Some y ≡ Some u → record { least = v.least; most = Some t } ≡ u
        same u q = cc (some.0, q)

  -- ---- above
  pub none_above : w.most ≡ None → IsPartAbove z v w None
  none_above e = record {
    interval = λ u q. absurd (cc);
    to = λ u q. absurd (cc);
    from = λ x n out. absurd (out (subst (λ o. Within x o) (sym e) tt));
    small = λ u q. absurd (cc);
  }

  module _ (b t : ℤ) (ends : w.most ≡ Some b) (s : IsGreaterOf v.least (b +ℤ pos z.period) t) where
    last_is : Divides (pos z.period) (b -ℤ node z.residues 1) × (nat_abs b + z.period ≤ 2 ^ 62)
    last_is = subst (IsIntervalEnd z) ends wi.most

    pub first_is : IsStoredEnd z (Some t)
    first_is = elim s.one [
      | inl e ↦ (
        Divides-is (pos z.period) ((b -ℤ node z.residues 1) +ℤ pos z.period) _ (omega (arith, ints, e)) (Divides-+ (pos z.period) _ _ last_is.0 (Divides-self (pos z.period))),
        (let l : nat_abs b + z.period ≤ 2 ^ 62 = last_is.1 in omega (arith, ints, e)),
      )
      | inr e ↦ subst (IsStoredEnd z) e vi.least
    ]

    to_above : (x : ℤ) → IsNumber z (record { least = Some t; most = v.most }) x → IsNumber z v x × (Within x w.most → ⊥)
    to_above x n =
        let start : t ≤ℤ x = n.low in
        let number : (b +ℤ pos z.period) ≤ℤ t = s.number in (
          record { residue = n.residue; low = more_above x t v.least s.end n.low; high = n.high },
          λ within. (let l : x ≤ℤ b = subst (λ o. Within x o) ends within in omega (arith, ints)),
        )

    from_above : (x : ℤ) → IsNumber z v x → (Within x w.most → ⊥) → IsNumber z (record { least = Some t; most = v.most }) x
    from_above x n out =
        let lt : b <ℤ x = by_lt_z b x (λ l. l) (λ l. absurd (out (subst (λ o. Within x o) (sym ends) l))) in
        let far : (b +ℤ pos z.period) ≤ℤ x = next_number (pos z.period) (node z.residues 1) b x (omega (arith, ints)) last_is.0 n.residue lt in
        record {
          residue = n.residue;
          low = elim s.one [ inl e ↦ omega (arith, ints) | inr e ↦ subst (λ o. Above x o) e n.low ];
          high = n.high;
        }

    small_above : (g h : ℕ) → h + z.period ≤ g → HasSmallEnds g v → HasSmallEnds h w → HasSmallEnds g (record { least = Some t; most = v.most })
    small_above g h room sv sw = record {
      least = elim s.one [
        | inl e ↦ (let l : AtMost h (Some b) = subst (AtMost h) ends sw.most in (omega (arith, ints, l.0, l.1, e), omega (arith, ints, l.0, l.1, e)))
        | inr e ↦ subst (AtMost g) e sv.least
      ];
      most = sv.most;
    }

    pub some_above : (part : Option Interval) → IfNone part (IsReversed (record { least = Some t; most = v.most })) → IfSome part (λ u. (u ≡ record { least = Some t; most = v.most }) × (IsReversed (record { least = Some t; most = v.most }) → ⊥)) → IsPartAbove z v w part
    some_above None none some = record {
      interval = λ u q. absurd (cc);
      to = λ u q. absurd (cc);
      from = λ x n out. absurd (no_number z _ x none (from_above x n out));
      small = λ u q. absurd (cc);
    }
    some_above (Some y) none some = record {
      interval = λ u q. subst (IsStoredInterval z) (same u q) (from_on z (record { least = Some t; most = v.most }) first_is vi.most some.1 t refl);
      to = λ u q x n. to_above x (subst (λ i. IsNumber z i x) (sym (same u q)) n);
      from = λ x n out. (y, refl, subst (λ i. IsNumber z i x) (sym some.0) (from_above x n out));
      small = λ u q g h room sv sw. subst (HasSmallEnds g) (same u q) (small_above g h room sv sw);
    }
      where
        same : (u : Interval) → Some y ≡ Some u → record { least = Some t; most = v.most } ≡ u
        same u q = cc (some.0, q)
