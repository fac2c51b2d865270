-- The zone of given bounds.
use Rattle.std.proofs.Common.{◌≡◌, ℕ, ◌+◌, ◌-◌, ◌*◌, ◌<◌, ◌≤◌, ◌≢◌, ◌^◌, List, Option, Some, None, replicate, arith, refl, sym, ap, subst, ◌∙◌, length, inl, inr, ◌⊎◌, below_more}
use Rattle.std.specs.Prelude.{ℤ, pos, nat_abs, ◌-ℤ◌, ◌≤ℤ◌, IfSome, IfNone}
use Rattle.std.proofs.lemmas.Int.{ints, by_lt_z}
use Rattle.std.proofs.lemmas.List.{get_or-replicate}
use Rattle.lrp_theory.specs.Bounds.{Within}
use Rattle.lrp_theory.specs.Divides.{Divides}
use Rattle.lrp_theory.specs.Entries.{entry, node, AtMost, IsBelow}
use Rattle.lrp_theory.proofs.Modulo.{Divides--, Divides-is}
use Rattle.lrp_theory.proofs.Below.{none_above}
use Rattle.lrp_model.specs.declared.relations.Bound.{Bound}
use Rattle.lrp_zone.specs.Zones.{ZoneView, IsShape, IsZone, IsMember, HasMember, IsTight, IsResidue, columns_of, reach_of}
use Rattle.lrp_zone.specs.Tight.{IsStored}
use Rattle.lrp_zone.specs.Given.{bound_at, HasNegative, IsGiven, AreGiven, IsStoredFor, IsWith, IsGathered, MeetsGiven, IsGivenZone, HasNone, AreOwnBounds}
use Rattle.lrp_zone.proofs.Cases.{eq_or, place_or}
use Rattle.lrp_zone.proofs.Floors.{stored_tight, stored_own, tightened_below, below_tightened, tightened_small}
use Rattle.lrp_zone.proofs.Reaches.{small_reach}
use Rattle.lrp_zone.proofs.Tables.{same_table}

-- e is stored for one of the first n bounds, which stands at (p, q)
pub record IsStoredFrom (k : ℤ) (rs : List ℤ) (bs : List Bound) (n p q : ℕ) (e : Option ℤ) : Type 0 where
  pub place : ℕ
  pub low : place < n
  pub left : (bound_at bs place).left ≡ p
  pub right : (bound_at bs place).right ≡ q
  pub kept : IsStoredFor k rs (bound_at bs place) e

-- a free table has gathered no bounds
pub gathered_none : (k : ℤ) (rs : List ℤ) (bs : List Bound) (out : List (Option ℤ)) → out ≡ replicate 81 None → IsGathered k rs bs 0 out
gathered_none k rs bs out e = record {
  below = λ i h. absurd (omega arith);
  one = λ p q pl ql. inl (let small : 9 * p + q < 81 = omega arith in rw e (get_or-replicate 81 (9 * p + q) None None small));
}

module _ (k : ℤ) (rs : List ℤ) (bs : List Bound) (n : ℕ) (old new : List (Option ℤ)) (b : Bound) (here : bound_at bs n ≡ b)
    (step : IsWith k rs b old new) (before : IsGathered k rs bs n old) (inside : (i : ℕ) → i < n → (bound_at bs i).right < 9) where
  -- a bound does not grow
  below_old : (p q : ℕ) → q < 9 → IsBelow (entry new p q) (entry old p q)
  below_old p q ql = elim (place_or p q b.left b.right) [
    | inl e ↦ rw (e.0, e.1) (record { below = λ d h. (step.here.2.below d h).0 })
    | inr ne ↦ rw (step.others p q ql ne) (record { below = λ d h. h })
  ]

  -- each of the first n + 1 bounds is kept
  step_below : (i : ℕ) → i < n + 1 → (e : Option ℤ) × IsStoredFor k rs (bound_at bs i) e × IsBelow (entry new (bound_at bs i).left (bound_at bs i).right) e
  step_below = below_more (λ i. (e : Option ℤ) × IsStoredFor k rs (bound_at bs i) e × IsBelow (entry new (bound_at bs i).left (bound_at bs i).right) e) n
      (λ i h.
      let o : (e : Option ℤ) × IsStoredFor k rs (bound_at bs i) e × IsBelow (entry old (bound_at bs i).left (bound_at bs i).right) e = before.below i h in
      (o.0, o.1, record { below = λ d w. o.2.below d ((below_old (bound_at bs i).left (bound_at bs i).right (inside i h)).below d w) }))
      (rw here (step.here.0, step.here.1, record { below = λ d w. (step.here.2.below d w).1 }))

  -- an entry that was stored for one of the first n bounds
  more : (p q : ℕ) (e f : Option ℤ) → f ≡ e → (e ≡ None) ⊎ ((i : ℕ) × (i < n) × ((bound_at bs i).left ≡ p) × ((bound_at bs i).right ≡ q) × IsStoredFor k rs (bound_at bs i) e)
      → (f ≡ None) ⊎ ((i : ℕ) × (i < n + 1) × ((bound_at bs i).left ≡ p) × ((bound_at bs i).right ≡ q) × IsStoredFor k rs (bound_at bs i) f)
  more p q e f eq (inl o) = inl (eq ∙ o)
  more p q e f eq (inr o) = inr (o.0, lt o.1, o.2, o.3, subst (λ y. IsStoredFor k rs (bound_at bs o.0) y) (sym eq) o.4)
    where
      lt : {i : ℕ} → i < n → i < n + 1
      lt h = omega arith

  -- the entry at the place of the new bound
  one_here : (p q : ℕ) → p < 9 → q < 9 → p ≡ b.left → q ≡ b.right → (entry new b.left b.right ≡ entry old b.left b.right) ⊎ (entry new b.left b.right ≡ step.here.0)
      → (entry new p q ≡ None) ⊎ ((i : ℕ) × (i < n + 1) × ((bound_at bs i).left ≡ p) × ((bound_at bs i).right ≡ q) × IsStoredFor k rs (bound_at bs i) (entry new p q))
  one_here p q pl ql e f (inl o) = more p q (entry old p q) (entry new p q) (rw (e, f) o) (before.one p q pl ql)
  one_here p q pl ql e f (inr o) = inr (n, (omega arith), rw here (sym e), rw here (sym f), rw (here, e, f, o) step.here.1)

  -- one more bound is gathered
  pub gathered_more : IsGathered k rs bs (n + 1) new
  gathered_more = record {
    below = step_below;
    one = λ p q pl ql. elim (place_or p q b.left b.right) [
      | inl e ↦ one_here p q pl ql e.0 e.1 step.here.2.one
      | inr ne ↦ more p q (entry old p q) (entry new p q) (step.others p q ql ne) (before.one p q pl ql)
    ];
  }

-- a difference of two values has the difference of their residues
apart : (k x y r s : ℤ) → Divides k (x -ℤ r) → Divides k (y -ℤ s) → Divides k ((x -ℤ y) -ℤ (r -ℤ s))
apart k x y r s h f = Divides-is k ((x -ℤ r) -ℤ (y -ℤ s)) _ (omega (arith, ints)) (Divides-- k _ _ h f)

-- what the call knows of its arguments: k is the period n in a word
pub record Giving (k : ℕ) (n : ℤ) (rs : List ℤ) (bs : List Bound) (out : List (Option ℤ)) : Type 0 where
  pub period : pos k ≡ n
  pub low : pos 1 ≤ℤ n
  pub high : n ≤ℤ pos (2 ^ 62)
  pub columns : length rs ≤ 8
  pub residues : (p : ℕ) → p ≤ length rs → IsResidue (nat_abs n) (node rs p)
  pub bounds : AreGiven n rs bs
  pub sound : HasNegative bs → ⊥
  pub made : IsGathered (pos k) rs bs (length bs) out

module _ (k : ℕ) (n : ℤ) (rs : List ℤ) (bs : List Bound) (out : List (Option ℤ)) (g : Giving k n rs bs out) where
  -- the zone of the gathered bounds
  abbrev made_zone : ZoneView
  made_zone = record { period = k; residues = rs; bounds = out }

  -- there are at most eight columns
  column_low : (p : ℕ) → p ≤ length rs → p < 9
  column_low p l = let c : length rs ≤ 8 = g.columns in omega arith

  -- each entry of the table is none or is stored for a given bound
  made_one : (p q : ℕ) → p < 9 → q < 9 → (entry out p q ≡ None) ⊎ (IsStoredFrom (pos k) rs bs (length bs) p q (entry out p q))
  made_one p q pl ql = elim (g.made.one p q pl ql) [ inl o ↦ inl o | inr o ↦ inr (record { place = o.0; low = o.1; left = o.2; right = o.3; kept = o.4 }) ]

  -- a stored entry stands between two columns
  from_columns : (p q : ℕ) (e : Option ℤ) → IsStoredFrom (pos k) rs bs (length bs) p q e → (p ≤ length rs) × (q ≤ length rs)
  from_columns p q e f =
      let b : IsGiven n rs (bound_at bs f.place) = g.bounds.each f.place f.low in
      (subst (λ r. r ≤ length rs) f.left b.left, subst (λ r. r ≤ length rs) f.right b.right)

  -- what is stored for the bound with the number i at two different columns
  stored_at : (p q i : ℕ) (e : Option ℤ) → (bound_at bs i).left ≡ p → (bound_at bs i).right ≡ q → IsStoredFor (pos k) rs (bound_at bs i) e → p ≢ q → IsStored (pos k) (node rs p -ℤ node rs q) (Some (bound_at bs i).most) e
  stored_at p q i e l r kept ne = rw (← l, ← r) (kept.apart (λ s. ne (sym l ∙ s ∙ r)))

  -- nothing is stored on the diagonal
  diagonal_at : (p : ℕ) (e : Option ℤ) → (e ≡ None) ⊎ (IsStoredFrom (pos k) rs bs (length bs) p p e) → e ≡ None
  diagonal_at p e (inl o) = o
  diagonal_at p e (inr f) = f.kept.same (f.left ∙ sym f.right)

  -- what holds of no bound, and of what is stored for a given bound at different columns, holds of each entry
  at_place : (P : ℕ → ℕ → Option ℤ → Type 0) → ((p q : ℕ) → P p q None)
      → ((p q i : ℕ) (e : Option ℤ) → i < length bs → (bound_at bs i).left ≡ p → (bound_at bs i).right ≡ q → IsStored (pos k) (node rs p -ℤ node rs q) (Some (bound_at bs i).most) e → P p q e)
      → (p q : ℕ) → p < 9 → q < 9 → P p q (entry out p q)
  at_place P free stored p q pl ql = by (eq_or p q) (made_one p q pl ql)
    where
      none : (e : Option ℤ) → e ≡ None → P p q e
      none e o = subst (λ f. P p q f) (sym o) (free p q)

      by : (p ≡ q) ⊎ (p ≢ q) → (entry out p q ≡ None) ⊎ (IsStoredFrom (pos k) rs bs (length bs) p q (entry out p q)) → P p q (entry out p q)
      by s (inl o) = none (entry out p q) o
      by (inl s) (inr f) = none (entry out p q) (f.kept.same (f.left ∙ s ∙ sym f.right))
      by (inr ne) (inr f) = stored p q f.place (entry out p q) f.low f.left f.right (stored_at p q f.place (entry out p q) f.left f.right f.kept ne)

  -- the zone keeps a zone's parts
  pub shape_made : IsShape made_zone
  shape_made = record {
    period_low = let e : pos k ≡ n = g.period in let l : pos 1 ≤ℤ n = g.low in omega (arith, ints);
    period_high = let e : pos k ≡ n = g.period in let l : n ≤ℤ pos (2 ^ 62) = g.high in omega (arith, ints);
    columns = g.columns;
    residues = λ p pl. subst (λ y. IsResidue y (node rs p)) (let e : pos k ≡ n = g.period in omega (arith, ints)) (g.residues p pl);
    tight = λ p q pl ql. at_place (λ p q e. IsTight (pos k) (node rs p -ℤ node rs q) e) (λ p q. tt) (λ p q i e il l r s. stored_tight (pos k) _ (Some (bound_at bs i).most) e s) p q (column_low p pl) (column_low q ql);
    diagonal = λ p pl. diagonal_at p (entry out p p) (made_one p p (column_low p pl) (column_low p pl));
    outside = record { none = λ p q pl ql o. outside_at p q o (made_one p q pl ql) };
  }
    where
      outside_at : (p q : ℕ) → (length rs + 1 ≤ p) ⊎ (length rs + 1 ≤ q) → (entry out p q ≡ None) ⊎ (IsStoredFrom (pos k) rs bs (length bs) p q (entry out p q)) → entry out p q ≡ None
      outside_at p q o (inl e) = e
      outside_at p q (inl o) (inr f) = let c : p ≤ length rs = (from_columns p q (entry out p q) f).0 in absurd (omega arith)
      outside_at p q (inr o) (inr f) = let c : q ≤ length rs = (from_columns p q (entry out p q) f).1 in absurd (omega arith)

  -- its tuples meet the given bounds
  made_to : (xs : List ℤ) → IsMember made_zone xs → MeetsGiven n rs bs xs
  made_to xs m = record {
    count = m.cell.count;
    residues = record { each = λ p pl. rw (← g.period) (m.cell.each p pl) };
    meets = λ i il.
        let o : (e : Option ℤ) × IsStoredFor (pos k) rs (bound_at bs i) e × IsBelow (entry out (bound_at bs i).left (bound_at bs i).right) e = g.made.below i il in
        let b : IsGiven n rs (bound_at bs i) = g.bounds.each i il in
        elim (eq_or (bound_at bs i).left (bound_at bs i).right) [
          | inl s ↦ by_lt_z (bound_at bs i).most (pos 0)
              (λ lt. absurd (g.sound (record { place = i; low = il; same = s; negative = lt })))
              (λ le. same_node xs (bound_at bs i).left (bound_at bs i).right (bound_at bs i).most s le)
          | inr ne ↦ tightened_below (pos k) (node rs (bound_at bs i).left -ℤ node rs (bound_at bs i).right) (Some (bound_at bs i).most) o.0 _ (o.1.apart ne).tightened
              (o.2.below _ (m.meets (bound_at bs i).left (bound_at bs i).right b.left b.right))
        ];
  }
    where
      same_node : (xs : List ℤ) (l r : ℕ) (a : ℤ) → l ≡ r → pos 0 ≤ℤ a → (node xs l -ℤ node xs r) ≤ℤ a
      same_node xs l r a e h = rw e (omega (arith, ints))

  -- tuples that meet the given bounds are in it
  made_from : (xs : List ℤ) → MeetsGiven n rs bs xs → IsMember made_zone xs
  made_from xs m = record {
    cell = record { count = m.count; each = fit };
    meets = λ p q pl ql. at_place (λ p q e. p ≤ length rs → q ≤ length rs → Within (node xs p -ℤ node xs q) e) (λ p q a b. tt)
        (λ p q i e il l r s a b. below_tightened (pos k) (node rs p -ℤ node rs q) (Some (bound_at bs i).most) e (node xs p -ℤ node xs q) s.tightened
        (apart (pos k) (node xs p) (node xs q) (node rs p) (node rs q) (fit p a) (fit q b)) (rw (← l, ← r) (m.meets i il))) p q (column_low p pl) (column_low q ql) pl ql;
  }
    where
      fit : (r : ℕ) → r ≤ length rs → Divides (pos k) (node xs r -ℤ node rs r)
      fit r h = rw g.period (m.residues.each r h)

  -- a magnitude as a bound on both sides
  small_some : (h : ℕ) (a : ℤ) → nat_abs a ≤ h → AtMost h (Some a)
  small_some h a l = (omega (arith, ints), omega (arith, ints))

  -- its reach is at most the greatest given magnitude and the period less 1
  made_reach : length out ≡ 81 → (h : ℕ) → ((i : ℕ) → i < length bs → nat_abs (bound_at bs i).most ≤ h) → reach_of made_zone ≤ h + (k - 1)
  made_reach size h small = small_reach made_zone (h + (k - 1)) g.columns size shape_made.outside
      (record {
        each = λ p q pl ql. at_place (λ p q e. AtMost (h + (k - 1)) e) (λ p q. tt)
            (λ p q i e il l r s. tightened_small h k (node rs p -ℤ node rs q) (Some (bound_at bs i).most) e shape_made.period_low s.tightened (small_some h (bound_at bs i).most (small i il))) p q (column_low p (omega arith)) (column_low q (omega arith));
      })

  -- it is the zone of the given bounds
  of_is : length out ≡ 81 → IsGivenZone n rs bs made_zone
  of_is size = record {
    period = g.period;
    residues = refl;
    to = made_to;
    from = made_from;
    stored = subst (λ y. IsGathered y rs bs (length bs) out) g.period g.made;
    reach = made_reach size;
  }

  -- the same for the result of a call
  pub of_some : (o : Option ZoneView) → IfSome o IsZone → IfSome o (λ y. y ≡ made_zone) → IfSome o (λ y. IsGivenZone n rs bs y)
  of_some None zone h = tt
  of_some (Some y) zone h = rw h (of_is (subst IsZone h zone).size)

  -- where it has no tuple, none meets the given bounds
  pub of_none : (o : Option ZoneView) → IfNone o (HasMember made_zone → ⊥) → IfNone o (HasNone n rs bs)
  of_none None h = record { none = λ xs m. h (record { member = xs; is = made_from xs m }) }
  of_none (Some y) h = tt

  -- ---- the parts of a zone z are given
  module _ (z : ZoneView) (valid : IsZone z) (own : AreOwnBounds z n rs bs) where
    -- the given period is that of z
    same_period : k ≡ z.period
    same_period = let e : pos k ≡ n = g.period in let f : n ≡ pos z.period = own.period in omega (arith, ints)

    -- a stored bound of z is tight
    tight_some : (a : ℤ) (p q : ℕ) → p ≤ columns_of z → q ≤ columns_of z → entry z.bounds p q ≡ Some a → Divides (pos z.period) (a -ℤ (node z.residues p -ℤ node z.residues q))
    tight_some a p q pl ql e = let t : IsTight (pos z.period) (node z.residues p -ℤ node z.residues q) (Some a) = subst (λ f. IsTight (pos z.period) (node z.residues p -ℤ node z.residues q) f) e (valid.shape.tight p q pl ql) in t.0

    -- what is stored for a bound of z is that bound
    kept_own : (i : ℕ) (e : Option ℤ) → i < length bs → IsStored (pos k) (node rs (bound_at bs i).left -ℤ node rs (bound_at bs i).right) (Some (bound_at bs i).most) e → e ≡ Some (bound_at bs i).most
    kept_own i e il s =
        let o = own.stored i il in
        stored_own (pos k) (node rs (bound_at bs i).left -ℤ node rs (bound_at bs i).right) (bound_at bs i).most e (rw (same_period, own.residues) (tight_some (bound_at bs i).most (bound_at bs i).left (bound_at bs i).right o.0 o.1 o.2)) s

    -- where a given bound is stored, it is z's
    entry_some : (p q i : ℕ) (e : Option ℤ) → i < length bs → (bound_at bs i).left ≡ p → (bound_at bs i).right ≡ q → IsStored (pos k) (node rs p -ℤ node rs q) (Some (bound_at bs i).most) e → e ≡ entry z.bounds p q
    entry_some p q i e il l r s =
        let o = own.stored i il in
        kept_own i e il (rw (l, r) s) ∙ sym (rw (← l, ← r) o.2)

    -- where nothing is gathered, z has no bound
    entry_none : (p q : ℕ) → p < 9 → q < 9 → entry out p q ≡ None → (e : Option ℤ) → entry z.bounds p q ≡ e → e ≡ None
    entry_none p q pl ql o None h = refl
    entry_none p q pl ql o (Some a) h = by (inside p) (inside q)
      where
        inside : (i : ℕ) → (i ≤ columns_of z) ⊎ (columns_of z + 1 ≤ i)
        inside i = grind arith

        not_none : entry z.bounds p q ≡ None → ⊥
        not_none n = cc

        below_none : (i : ℕ) (e : Option ℤ) → i < length bs → (bound_at bs i).left ≡ p → (bound_at bs i).right ≡ q → e ≡ Some (bound_at bs i).most → IsBelow (entry out (bound_at bs i).left (bound_at bs i).right) e → ⊥
        below_none i e il l r s b =
            let c : IsBelow (entry out p q) e = rw (← l, ← r) b in
            none_above (bound_at bs i).most (rw (← o, ← s) c)

        by : (p ≤ columns_of z) ⊎ (columns_of z + 1 ≤ p) → (q ≤ columns_of z) ⊎ (columns_of z + 1 ≤ q) → Some a ≡ None
        by (inr w) v = absurd (not_none (valid.shape.outside.none p q pl ql (inl w)))
        by (inl u) (inr w) = absurd (not_none (valid.shape.outside.none p q pl ql (inr w)))
        by (inl u) (inl v) =
            let f : (i : ℕ) × (i < length bs) × ((bound_at bs i).left ≡ p) × ((bound_at bs i).right ≡ q) = own.all p q a u v h in
            let b : (e : Option ℤ) × IsStoredFor (pos k) rs (bound_at bs f.0) e × IsBelow (entry out (bound_at bs f.0).left (bound_at bs f.0).right) e = g.made.below f.0 f.1 in
            let ne : (bound_at bs f.0).left ≢ (bound_at bs f.0).right = (λ s. not_none (let d : p ≡ q = sym f.2 ∙ s ∙ f.3 in subst (λ r. entry z.bounds p r ≡ None) d (valid.shape.diagonal p u))) in
            absurd (below_none f.0 b.0 f.1 f.2 f.3 (kept_own f.0 b.0 f.1 (b.1.apart ne)) b.2)

    -- the tables have the same entries
    same_entry : (p q : ℕ) → p < 9 → q < 9 → entry out p q ≡ entry z.bounds p q
    same_entry p q pl ql = by (eq_or p q) (made_one p q pl ql)
      where
        none : entry out p q ≡ None → entry out p q ≡ entry z.bounds p q
        none o = o ∙ sym (entry_none p q pl ql o (entry z.bounds p q) refl)

        by : (p ≡ q) ⊎ (p ≢ q) → (entry out p q ≡ None) ⊎ (IsStoredFrom (pos k) rs bs (length bs) p q (entry out p q)) → entry out p q ≡ entry z.bounds p q
        by s (inl o) = none o
        by (inl s) (inr f) = none (f.kept.same (f.left ∙ s ∙ sym f.right))
        by (inr ne) (inr f) = entry_some p q f.place (entry out p q) f.low f.left f.right (stored_at p q f.place (entry out p q) f.left f.right f.kept ne)

    -- so the zone has the tuples of z
    own_member : (xs : List ℤ) → IsMember z xs → IsMember made_zone xs
    own_member xs m = rw (same_period, own.residues) (record {
      cell = record { count = m.cell.count; each = m.cell.each };
      meets = λ p q pl ql. subst (Within (node xs p -ℤ node xs q)) (sym (same_entry p q (few p pl) (few q ql))) (m.meets p q pl ql);
    })
      where
        few : (p : ℕ) → p ≤ columns_of z → p < 9
        few p l = let c : columns_of z ≤ 8 = valid.shape.columns in omega arith

    -- and with a table of nine rows of nine it is z again
    same_zone : length out ≡ 81 → made_zone ≡ z
    same_zone size =
        let e : out ≡ z.bounds = same_table out z.bounds size valid.size same_entry in
        rw (same_period, own.residues, e) refl

    -- the same for the result of a call
    pub own_again : (o : Option ZoneView) → IfSome o IsZone → IfSome o (λ y. y ≡ made_zone) → IfNone o (HasMember made_zone → ⊥) → o ≡ Some z
    own_again None zone s h = absurd (h (record { member = valid.some.member; is = own_member valid.some.member valid.some.is }))
    own_again (Some y) zone s h = ap Some (s ∙ same_zone (subst IsZone s zone).size)

-- a zone's own parts may be given
pub own_given : (z : ZoneView) (n : ℤ) (rs : List ℤ) (bs : List Bound) → IsZone z → AreOwnBounds z n rs bs → AreGiven n rs bs
own_given z n rs bs valid own = record {
  each = λ i il.
      let o = own.stored i il in
      rw (own.residues, own.period) (record {
        left = o.0;
        right = o.1;
        fits = record { room = inl (fit (node z.residues (bound_at bs i).left -ℤ node z.residues (bound_at bs i).right) (entry z.bounds (bound_at bs i).left (bound_at bs i).right) (bound_at bs i).most o.2 (valid.shape.tight (bound_at bs i).left (bound_at bs i).right o.0 o.1)) };
      });
}
  where
    fit : (w : ℤ) (e : Option ℤ) (a : ℤ) → e ≡ Some a → IsTight (pos z.period) w e → Divides (pos z.period) (a -ℤ w) × (nat_abs a ≤ 2 ^ 62)
    fit w e a q t =
        let s : IsTight (pos z.period) w (Some a) = subst (λ f. IsTight (pos z.period) w f) q t in
        let b : AtMost (2 ^ 62) (Some a) = s.1 in
        (s.0, (let b0 = b.0 in let b1 = b.1 in omega (arith, ints)))
