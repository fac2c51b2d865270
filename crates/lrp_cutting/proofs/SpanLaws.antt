-- The interval of a zone with one column, and the zone of an interval.
use Rattle.std.proofs.Common.{◌≡◌, ℕ, zero, suc, ◌+◌, ◌≤◌, ◌⊎◌, ◌^◌, inl, inr, [], ◌∷◌, Option, Some, None, arith, refl, sym, subst, ◌∙◌, ap}
use Rattle.std.specs.Prelude.{ℤ, pos, neg_ℤ, nat_abs, ◌-ℤ◌, ◌+ℤ◌, ◌≤ℤ◌, ◌<ℤ◌, Contains}
use Rattle.std.proofs.lemmas.Int.{ints, by_lt_z}
use Rattle.std.proofs.lemmas.List.Elements.{Contains-append_cases, Contains-append_left, Contains-append_right}
use Rattle.lrp_theory.specs.Bounds.{Within}
use Rattle.lrp_theory.specs.Divides.{Divides}
use Rattle.lrp_theory.specs.Entries.{entry, node, AtMost}
use Rattle.lrp_theory.proofs.Decided.{decided_within}
use Rattle.lrp_theory.proofs.Modulo.{Divides-neg, Divides-zero, Divides-is}
use Rattle.lrp_matrix.specs.Ranges.{Above, negation}
use Rattle.lrp_model.specs.declared.relations.Bound.{Bound}
use Rattle.lrp_zone.specs.Zones.{ZoneView, IsZone, IsMember, IsTight, columns_of, reach_of}
use Rattle.lrp_zone.specs.Pairs.{IsOfCell}
use Rattle.lrp_zone.proofs.Reaches.{reach_small}
use Rattle.lrp_store.proofs.Unions.{next_number, one_number}
use Rattle.lrp_cutting.specs.declared.intervals.Interval.{Interval}
use Rattle.lrp_cutting.specs.Bounded.{AllCanBeStored, MeetsAll, IsBounded}
use Rattle.lrp_cutting.specs.Halves.{IsWithinBound, CanBeStored}
use Rattle.lrp_cutting.specs.Hulls.{IsWider}
use Rattle.lrp_cutting.specs.Intervals.{span_of, ends_of, IsNumber, IsIntervalEnd, IsInterval, HasSmallEnds, BeginsBy, LiesApart, IsJoinedInterval, IsIntervalZone, IsStoredEnd, IsStoredInterval}
use Rattle.lrp_cutting.specs.Thresholds.{bound_there}
use Rattle.lrp_zone.proofs.Lines.{in_line, line_cell, line_high, line_low}
use Rattle.lrp_cutting.proofs.Lists.{in_none, in_one, one_in}
use Rattle.lrp_matrix.proofs.RangeLemmas.{AtMost-negation}

-- ---- the interval of a zone
pub low_to : (x : ℤ) (e : Option ℤ) → Within (pos 0 -ℤ x) e → Above x (negation e)
low_to x None h = tt
low_to x (Some a) h = omega (arith, ints)

pub low_from : (x : ℤ) (e : Option ℤ) → Above x (negation e) → Within (pos 0 -ℤ x) e
low_from x None h = tt
low_from x (Some a) h = omega (arith, ints)

high_to : (x : ℤ) (e : Option ℤ) → Within (x -ℤ pos 0) e → Within x e
high_to x None h = tt
high_to x (Some a) h = omega (arith, ints)

high_from : (x : ℤ) (e : Option ℤ) → Within x e → Within (x -ℤ pos 0) e
high_from x None h = tt
high_from x (Some a) h = omega (arith, ints)

end_low : (z : ZoneView) (e : Option ℤ) → IsTight (pos z.period) (pos 0 -ℤ node z.residues 1) e → AtMost (reach_of z) e → reach_of z + z.period ≤ 2 ^ 62 → IsIntervalEnd z (negation e)
end_low z None t s room = tt
end_low z (Some a) t s room = (Divides-is (pos z.period) (neg_ℤ (a -ℤ (pos 0 -ℤ node z.residues 1))) _ (omega (arith, ints)) (Divides-neg (pos z.period) _ t.0), omega (arith, ints, s.0, s.1))

end_high : (z : ZoneView) (e : Option ℤ) → IsTight (pos z.period) (node z.residues 1 -ℤ pos 0) e → AtMost (reach_of z) e → reach_of z + z.period ≤ 2 ^ 62 → IsIntervalEnd z e
end_high z None t s room = tt
end_high z (Some a) t s room = (Divides-is (pos z.period) (a -ℤ (node z.residues 1 -ℤ pos 0)) _ (omega (arith, ints)) t.0, omega (arith, ints, s.0, s.1))

module _ (z : ZoneView) (valid : IsZone z) (one : columns_of z ≡ 1) where
  pub span_to : (x : ℤ) → IsMember z (x ∷ []) → IsNumber z (span_of z) x
  span_to x m = record {
    residue = line_cell z x one m;
    low = low_to x (entry z.bounds 0 1) (line_low z x one m);
    high = high_to x (entry z.bounds 1 0) (line_high z x one m);
  }

  pub span_from : (x : ℤ) → IsNumber z (span_of z) x → IsMember z (x ∷ [])
  span_from x n = in_line z x valid one n.residue (high_from x (entry z.bounds 1 0) n.high) (low_from x (entry z.bounds 0 1) n.low)

  pub span_interval : reach_of z + z.period ≤ 2 ^ 62 → IsInterval z (span_of z)
  span_interval room =
      let m : (x : ℤ) × (valid.some.member ≡ x ∷ []) = one_number valid.some.member (valid.some.is.cell.count ∙ one) in
      record {
        least = end_low z (entry z.bounds 0 1) (valid.shape.tight 0 1 (omega arith) (omega (arith, one))) ((reach_small z (reach_of z) (omega arith)).each 0 1 (omega arith) (omega (arith, one))) room;
        most = end_high z (entry z.bounds 1 0) (valid.shape.tight 1 0 (omega (arith, one)) (omega arith)) ((reach_small z (reach_of z) (omega arith)).each 1 0 (omega (arith, one)) (omega arith)) room;
        number = m.0;
        is = span_to m.0 (subst (λ xs. IsMember z xs) m.1 valid.some.is);
      }

  pub span_small : (h : ℕ) → reach_of z ≤ h → HasSmallEnds h (span_of z)
  span_small h l = record {
    least = AtMost-negation h (entry z.bounds 0 1) ((reach_small z h l).each 0 1 (omega arith) (omega (arith, one)));
    most = (reach_small z h l).each 1 0 (omega (arith, one)) (omega arith);
  }

-- the same, in another zone's words for the cell
pub number_moved : (z w : ZoneView) (v : Interval) (x : ℤ) → IsOfCell z w → IsNumber w v x → IsNumber z v x
number_moved z w v x c n = record {
  residue = subst (λ k. Divides (pos k) (x -ℤ node z.residues 1)) c.period (subst (λ rs. Divides (pos w.period) (x -ℤ node rs 1)) c.residues n.residue);
  low = n.low;
  high = n.high;
}

pub number_back : (z w : ZoneView) (v : Interval) (x : ℤ) → IsOfCell z w → IsNumber z v x → IsNumber w v x
number_back z w v x c n = number_moved w z v x (record { period = sym c.period; residues = sym c.residues }) n

end_moved : (z w : ZoneView) (e : Option ℤ) → IsOfCell z w → IsIntervalEnd w e → IsIntervalEnd z e
end_moved z w None c h = tt
end_moved z w (Some a) c h = (
  subst (λ k. Divides (pos k) (a -ℤ node z.residues 1)) c.period (subst (λ rs. Divides (pos w.period) (a -ℤ node rs 1)) c.residues h.0),
  (let p : w.period ≡ z.period = c.period in let l : nat_abs a + w.period ≤ 2 ^ 62 = h.1 in omega arith),
)

pub interval_moved : (z w : ZoneView) (v : Interval) → IsOfCell z w → IsInterval w v → IsInterval z v
interval_moved z w v c i = record {
  least = end_moved z w v.least c i.least;
  most = end_moved z w v.most c i.most;
  number = i.number;
  is = number_moved z w v i.number c i.is;
}

-- an end that leaves room for a period can be stored
end_stored : (z : ZoneView) (e : Option ℤ) → IsIntervalEnd z e → IsStoredEnd z e
end_stored z None h = tt
end_stored z (Some a) h = (h.0, (let l : nat_abs a + z.period ≤ 2 ^ 62 = h.1 in omega arith))

pub interval_stored : (z : ZoneView) (v : Interval) → IsInterval z v → IsStoredInterval z v
interval_stored z v i = record { least = end_stored z v.least i.least; most = end_stored z v.most i.most; number = i.number; is = i.is }

-- ---- the bounds of an interval
there_each : (P : Bound → Type 0) (i j : ℕ) (e : Option ℤ) → ((a : ℤ) → e ≡ Some a → P (record { left = i; right = j; most = a })) → (b : Bound) → Contains (bound_there i j e) b → P b
there_each P i j None f b l = absurd (in_none b l)
there_each P i j (Some a) f b l = subst P (in_one (record { left = i; right = j; most = a }) b l) (f a refl)

there_in : (i j : ℕ) (e : Option ℤ) (a : ℤ) → e ≡ Some a → Contains (bound_there i j e) (record { left = i; right = j; most = a })
there_in i j e a q = rw q (one_in (record { left = i; right = j; most = a }))

negated : (e : Option ℤ) (b : ℤ) → negation e ≡ Some b → (a : ℤ) × (e ≡ Some a) × (b ≡ neg_ℤ a)
negated None b q = absurd (cc)
negated (Some a) b q = (a, refl, cc)

ends_each : (P : Bound → Type 0) (v : Interval) → ((a : ℤ) → v.least ≡ Some a → P (record { left = 0; right = 1; most = neg_ℤ a })) → ((a : ℤ) → v.most ≡ Some a → P (record { left = 1; right = 0; most = a })) → (b : Bound) → Contains (ends_of v) b → P b
ends_each P v low high b l = elim (Contains-append_cases (bound_there 0 1 (negation v.least)) (bound_there 1 0 v.most) b l) [
  | inl k ↦ there_each P 0 1 (negation v.least) (λ c q. let n : (a : ℤ) × (v.least ≡ Some a) × (c ≡ neg_ℤ a) = negated v.least c q in subst (λ y. P (record { left = 0; right = 1; most = y })) (sym n.2) (low n.0 n.1)) b k
  | inr k ↦ there_each P 1 0 v.most high b k
]

low_in : (v : Interval) (a : ℤ) → v.least ≡ Some a → Contains (ends_of v) (record { left = 0; right = 1; most = neg_ℤ a })
low_in v a q = Contains-append_left (bound_there 0 1 (negation v.least)) (bound_there 1 0 v.most) _ (there_in 0 1 (negation v.least) (neg_ℤ a) (ap negation q))

high_in : (v : Interval) (a : ℤ) → v.most ≡ Some a → Contains (ends_of v) (record { left = 1; right = 0; most = a })
high_in v a q = Contains-append_right (bound_there 0 1 (negation v.least)) (bound_there 1 0 v.most) _ (there_in 1 0 v.most a q)

module _ (z : ZoneView) (v : Interval) (one : columns_of z ≡ 1) where
  pub meets_ends : (x : ℤ) → IsNumber z v x → MeetsAll z (ends_of v) (x ∷ [])
  meets_ends x n = record {
    cell = record { count = sym one; each = λ i il. each i (omega arith) };
    meets = ends_each (λ b. IsWithinBound b (x ∷ [])) v
        (λ a q. let l : a ≤ℤ x = subst (λ e. Above x e) q n.low in omega (arith, ints))
        (λ a q. let l : x ≤ℤ a = subst (λ e. Within x e) q n.high in omega (arith, ints));
  }
    where
      each : (i : ℕ) → i ≤ 1 → Divides (pos z.period) (node (x ∷ []) i -ℤ node z.residues i)
      each zero l = Divides-is (pos z.period) (pos 0) _ (omega (arith, ints)) (Divides-zero (pos z.period))
      each (suc zero) l = n.residue
      each (suc (suc i)) l = absurd (omega arith)

  low_met : (x : ℤ) (e : Option ℤ) → v.least ≡ e → MeetsAll z (ends_of v) (x ∷ []) → Above x e
  low_met x None q m = tt
  low_met x (Some a) q m = let l : (pos 0 -ℤ x) ≤ℤ neg_ℤ a = m.meets (record { left = 0; right = 1; most = neg_ℤ a }) (low_in v a q) in omega (arith, ints)

  high_met : (x : ℤ) (e : Option ℤ) → v.most ≡ e → MeetsAll z (ends_of v) (x ∷ []) → Within x e
  high_met x None q m = tt
  high_met x (Some a) q m = let l : (x -ℤ pos 0) ≤ℤ a = m.meets (record { left = 1; right = 0; most = a }) (high_in v a q) in omega (arith, ints)

  pub ends_met : (x : ℤ) → MeetsAll z (ends_of v) (x ∷ []) → IsNumber z v x
  ends_met x m = record { residue = m.cell.each 1 (omega (arith, one)); low = low_met x v.least refl m; high = high_met x v.most refl m }

  pub ends_stored : IsStoredInterval z v → AllCanBeStored z (ends_of v)
  ends_stored i = record {
    each = ends_each (CanBeStored z) v
        (λ a q. let e : Divides (pos z.period) (a -ℤ node z.residues 1) × (nat_abs a ≤ 2 ^ 62) = subst (λ o. IsStoredEnd z o) q i.least in
        let high : nat_abs a ≤ 2 ^ 62 = e.1 in
        record {
          left = omega (arith, one);
          right = omega (arith, one);
          apart = λ s. omega arith;
          tight = Divides-is (pos z.period) (neg_ℤ (a -ℤ node z.residues 1)) _ (omega (arith, ints)) (Divides-neg (pos z.period) _ e.0);
          small = omega (arith, ints);
        })
        (λ a q. let e : Divides (pos z.period) (a -ℤ node z.residues 1) × (nat_abs a ≤ 2 ^ 62) = subst (λ o. IsStoredEnd z o) q i.most in
        let high : nat_abs a ≤ 2 ^ 62 = e.1 in
        record {
          left = omega (arith, one);
          right = omega (arith, one);
          apart = λ s. omega arith;
          tight = Divides-is (pos z.period) (a -ℤ node z.residues 1) _ (omega (arith, ints)) e.0;
          small = omega (arith, ints);
        });
  }

  small_ends : (h : ℕ) → HasSmallEnds h v → (b : Bound) → Contains (ends_of v) b → nat_abs b.most ≤ h
  small_ends h s = ends_each (λ b. nat_abs b.most ≤ h) v
      (λ a q. let l : AtMost h (Some a) = subst (λ e. AtMost h e) q s.least in omega (arith, ints, l.0, l.1))
      (λ a q. let l : AtMost h (Some a) = subst (λ e. AtMost h e) q s.most in omega (arith, ints, l.0, l.1))

  pub span_is : (w : ZoneView) → IsBounded z (ends_of v) w → IsIntervalZone z v w
  span_is w b = record {
    valid = b.valid;
    cell = b.cell;
    to = λ x m. ends_met x (b.to (x ∷ []) m);
    from = λ x n. b.from (x ∷ []) (meets_ends x n);
    reach = λ h s. b.reach h (small_ends h s);
  }

-- ---- two intervals with no number between them
module _ (z : ZoneView) (v w : Interval) (low : pos 1 ≤ℤ pos z.period) (vi : IsInterval z v) (begins : BeginsBy v w) (near : LiesApart z.period v w → ⊥) where
  -- what lies after the first lies after the start of the second
  after : (x : ℤ) (e f : Option ℤ) → v.most ≡ e → w.least ≡ f → Divides (pos z.period) (x -ℤ node z.residues 1) → (Within x e → ⊥) → Above x f
  after x None f q p d out = absurd (out tt)
  after x (Some a) None q p d out = tt
  after x (Some a) (Some b) q p d out =
      let da : Divides (pos z.period) (a -ℤ node z.residues 1) = (subst (λ o. IsIntervalEnd z o) q vi.most).0 in
      let lt : a <ℤ x = by_lt_z a x (λ l. l) (λ le. absurd (out le)) in
      let far : (a +ℤ pos z.period) ≤ℤ x = next_number (pos z.period) (node z.residues 1) a x low da d lt in
      let no_gap : b ≤ℤ (a +ℤ pos z.period) = by_lt_z (a +ℤ pos z.period) b (λ l. absurd (near (record { end = a; ends = q; start = b; starts = p; gap = l }))) (λ le. le) in
      omega (arith, ints)

  pub joined_is : (j : Interval) → j.least ≡ v.least → IsWider v.most w.most j.most → IsInterval z w → IsJoinedInterval z v w j
  joined_is j least wide wi = record {
    interval = record {
      least = subst (λ e. IsIntervalEnd z e) (sym least) vi.least;
      most = elim wide.one [ inl e ↦ subst (λ o. IsIntervalEnd z o) (sym e) vi.most | inr e ↦ subst (λ o. IsIntervalEnd z o) (sym e) wi.most ];
      number = vi.number;
      is = from vi.number (inl vi.is);
    };
    begins = least;
    to = λ x n. elim (decided_within x v.most) [
      | inl h ↦ inl (record { residue = n.residue; low = subst (λ e. Above x e) least n.low; high = h })
      | inr out ↦ inr (record { residue = n.residue; low = after x v.most w.least refl refl n.residue out; high = (elim wide.one [ inl e ↦ absurd (out (subst (λ o. Within x o) e n.high)) | inr e ↦ subst (λ o. Within x o) e n.high ]) })
    ];
    from = from;
    small = λ h a b. record { least = subst (λ e. AtMost h e) (sym least) a.least; most = (elim wide.one [ inl e ↦ subst (λ o. AtMost h o) (sym e) a.most | inr e ↦ subst (λ o. AtMost h o) (sym e) b.most ]) };
  }
    where
      from : (x : ℤ) → IsNumber z v x ⊎ IsNumber z w x → IsNumber z j x
      from x (inl n) = record { residue = n.residue; low = subst (λ e. Above x e) (sym least) n.low; high = wide.left x n.high }
      from x (inr n) = record { residue = n.residue; low = subst (λ e. Above x e) (sym least) (begins.each x n.low); high = wide.right x n.high }
