-- Zones of a cell of one column, read in turn: their intervals, of which the last may grow.
use Rattle.std.proofs.Common.{◌≡◌, ℕ, ◌+◌, ◌≤◌, ◌^◌, inl, inr, List, [], ◌∷◌, ◌++◌, Some, None, length, take, slice_get, arith, sym, subst, ◌∙◌, ap}
use Rattle.std.specs.Prelude.{ℤ, pos, ◌≤ℤ◌, nat_abs, Contains, All, IfSome}
use Rattle.std.specs.List.Sorted.{IsPermutation}
use Rattle.std.proofs.Math.Seq.{take-length}
use Rattle.std.proofs.lemmas.Int.{ints}
use Rattle.std.proofs.lemmas.List.Elements.{Contains-get_or, Contains-append_cases, Contains-append_left, Contains-append_right}
use Rattle.std.proofs.lemmas.List.Sorted.{Contains-permutation, IsPermutation-sym}
use Rattle.std.proofs.lemmas.Option.{slice_get_within, get_or_from_slice_get}
use Rattle.lrp_matrix.specs.Ranges.{Above}
use Rattle.lrp_model.specs.declared.tuples.Cell.{Cell}
use Rattle.lrp_zone.specs.Zones.{ZoneView, IsZone, columns_of, reach_of}
use Rattle.lrp_zone.specs.Pairs.{IsOfCell}
use Rattle.lrp_store.specs.Stores.{StoreView, IsStore, zones_at, tables_at, zone_of}
use Rattle.lrp_store.proofs.Held.{cell_held}
use Rattle.lrp_cutting.specs.Settling.{IsLike, IsPlaceOf}
use Rattle.lrp_cutting.specs.declared.intervals.Interval.{Interval}
use Rattle.lrp_cutting.specs.Intervals.{BeginsBy, HasSmallEnds, InInterval, IsInterval, IsJoinedInterval, span_of}
use Rattle.lrp_cutting.specs.Lines.{AreOnLine, HaveNumbers}
use Rattle.lrp_cutting.proofs.Lists.{IsReadTo, from_map, front_more, head_in, in_either, in_left, in_none, in_nothing, in_one, in_right, in_this, later, one_in, read_begins, read_ends, read_goes, read_next, this_has}
use Rattle.lrp_cutting.proofs.MergeLaws.{end_room, interval_either, interval_left, interval_new}
use Rattle.lrp_cutting.proofs.SettledLaws.{one_cell, zone_on_line}
use Rattle.lrp_cutting.proofs.SpanLaws.{interval_moved, number_back, number_moved, span_from, span_interval, span_small, span_to}

-- ---- intervals with the numbers of zones

-- no zone, and no interval
numbers_none : (z : ZoneView) → HaveNumbers z [] []
numbers_none z = record {
  intervals = λ v l. absurd (in_none v l);
  to = λ x i. absurd (in_none i.interval i.listed);
  from = λ x s. absurd (in_nothing (x ∷ []) s);
  small = λ h low v l. absurd (in_none v l);
}

-- one zone more, with its interval
numbers_more : (z : ZoneView) (zones : List ZoneView) (vs : List Interval) (w : ZoneView) → HaveNumbers z zones vs → columns_of z ≡ 1 → IsZone w → IsOfCell z w → reach_of w + w.period ≤ 2 ^ 62 → HaveNumbers z (zones ++ w ∷ []) (vs ++ span_of w ∷ [])
numbers_more z zones vs w n one valid cell room = record {
  intervals = λ v l. elim (Contains-append_cases vs (span_of w ∷ []) v l) [
    | inl k ↦ n.intervals v k
    | inr k ↦ subst (IsInterval z) (in_one (span_of w) v k) (interval_moved z w (span_of w) cell (span_interval w valid own room))
  ];
  to = λ x i. elim (interval_either z vs (span_of w) x i) [
    | inl a ↦ in_left zones (w ∷ []) (x ∷ []) (n.to x a)
    | inr b ↦ in_right zones (w ∷ []) (x ∷ []) (in_this w (x ∷ []) (span_from w valid own x (number_back z w (span_of w) x cell b)))
  ];
  from = λ x s. elim (in_either zones (w ∷ []) (x ∷ []) s) [
    | inl a ↦ interval_left z vs (span_of w ∷ []) x (n.from x a)
    | inr b ↦ interval_new z vs (span_of w) x (number_moved z w (span_of w) x cell (span_to w valid own x (this_has w (x ∷ []) b)))
  ];
  small = λ h low v l. elim (Contains-append_cases vs (span_of w ∷ []) v l) [
    | inl k ↦ n.small h (λ u q. low u (Contains-append_left zones (w ∷ []) u q)) v k
    | inr k ↦ subst (HasSmallEnds h) (in_one (span_of w) v k) (span_small w valid own h (low w (Contains-append_right zones (w ∷ []) w (one_in w))))
  ];
}
  where
    own : columns_of w ≡ 1
    own = ap length cell.residues ∙ one

-- the last two are joined
numbers_joined : (z : ZoneView) (zones : List ZoneView) (vs : List Interval) (last next both : Interval) → HaveNumbers z zones ((vs ++ last ∷ []) ++ next ∷ []) → IsJoinedInterval z last next both → HaveNumbers z zones (vs ++ both ∷ [])
numbers_joined z zones vs last next both n j = record {
  intervals = λ v l. elim (Contains-append_cases vs (both ∷ []) v l) [
    | inl k ↦ n.intervals v (kept v k)
    | inr k ↦ subst (IsInterval z) (in_one both v k) j.interval
  ];
  to = λ x i. elim (interval_either z vs both x i) [
    | inl a ↦ n.to x (interval_left z (vs ++ last ∷ []) (next ∷ []) x (interval_left z vs (last ∷ []) x a))
    | inr b ↦ elim (j.to x b) [
      | inl c ↦ n.to x (interval_left z (vs ++ last ∷ []) (next ∷ []) x (interval_new z vs last x c))
      | inr d ↦ n.to x (interval_new z (vs ++ last ∷ []) next x d)
    ]
  ];
  from = λ x s. elim (interval_either z (vs ++ last ∷ []) next x (n.from x s)) [
    | inl a ↦ elim (interval_either z vs last x a) [
      | inl b ↦ interval_left z vs (both ∷ []) x b
      | inr c ↦ interval_new z vs both x (j.from x (inl c))
    ]
    | inr d ↦ interval_new z vs both x (j.from x (inr d))
  ];
  small = λ h low v l. elim (Contains-append_cases vs (both ∷ []) v l) [
    | inl k ↦ n.small h low v (kept v k)
    | inr k ↦ subst (HasSmallEnds h) (in_one both v k) (j.small h (n.small h low last (kept_last)) (n.small h low next (Contains-append_right (vs ++ last ∷ []) (next ∷ []) next (one_in next))))
  ];
}
  where
    kept : (v : Interval) → Contains vs v → Contains ((vs ++ last ∷ []) ++ next ∷ []) v
    kept v k = Contains-append_left (vs ++ last ∷ []) (next ∷ []) v (Contains-append_left vs (last ∷ []) v k)

    kept_last : Contains ((vs ++ last ∷ []) ++ next ∷ []) last
    kept_last = Contains-append_left (vs ++ last ∷ []) (next ∷ []) last (Contains-append_right vs (last ∷ []) last (one_in last))

-- in another order
pub numbers_moved : (z : ZoneView) (zones : List ZoneView) (vs ws : List Interval) → HaveNumbers z zones vs → IsPermutation vs ws → HaveNumbers z zones ws
numbers_moved z zones vs ws n p = record {
  intervals = λ v l. n.intervals v (back v l);
  to = λ x i. n.to x (record { interval = i.interval; listed = back i.interval i.listed; is = i.is });
  from = λ x s. let i : InInterval z vs x = n.from x s in record { interval = i.interval; listed = Contains-permutation vs ws i.interval p i.listed; is = i.is };
  small = λ h low v l. n.small h low v (back v l);
}
  where
    back : (v : Interval) → Contains ws v → Contains vs v
    back v l = Contains-permutation ws vs v (IsPermutation-sym vs ws p) l

pub numbers_all : (z : ZoneView) (zones : List ZoneView) (vs : List Interval) → HaveNumbers z zones vs → All (IsInterval z) vs
numbers_all z zones vs n k d l = n.intervals _ (Contains-get_or vs k d l)

-- ---- one zone after another

-- the intervals have the numbers of the first zone and of the first n of the others
abbrev pub HaveRead : ZoneView → List ZoneView → List Interval → ℕ → Type 0
HaveRead z rest vs n = HaveNumbers z (z ∷ take n rest) vs

module _ (z : ZoneView) (rest : List ZoneView) (line : AreOnLine z (z ∷ rest)) where
  -- the first zone
  pub turn_starts : (left : List ZoneView) (vs : List Interval) (last : Interval) → left ≡ rest → vs ≡ [] → last ≡ span_of z → IsReadTo (HaveRead z rest (vs ++ last ∷ [])) rest left
  turn_starts left vs last same none span =
      let start : HaveRead z rest (span_of z ∷ []) 0 = numbers_more z [] [] z (numbers_none z) line.column (line.valid z (head_in z rest)) (line.cell.each z (head_in z rest)) (line.room z (head_in z rest)) in
      read_begins (HaveRead z rest (vs ++ last ∷ [])) rest left same (rw (none, span) start)

  -- the last interval is one of the cell
  pub last_interval : (left : List ZoneView) (vs : List Interval) (last : Interval) → IsReadTo (HaveRead z rest (vs ++ last ∷ [])) rest left → IsInterval z last
  last_interval left vs last r = r.holds.intervals last (Contains-append_right vs (last ∷ []) last (one_in last))

  -- and its end leaves room for the period
  pub last_room : (left : List ZoneView) (vs : List Interval) (last : Interval) (p : ℤ) → IsReadTo (HaveRead z rest (vs ++ last ∷ [])) rest left → p ≡ pos z.period → IfSome last.most (λ most. nat_abs most + nat_abs p ≤ 2 ^ 62)
  last_room left vs last p r e = end_room z last.most p e (last_interval left vs last r).most

  module _ (left more : List ZoneView) (vs : List Interval) (last : Interval) (w : ZoneView) (e : left ≡ w ∷ more) (r : IsReadTo (HaveRead z rest (vs ++ last ∷ [])) rest left) where
    stands : slice_get rest r.place ≡ Some w
    stands = read_next (HaveRead z rest (vs ++ last ∷ [])) rest left r w more e

    listed : Contains (z ∷ rest) w
    listed = later z rest w (r.place, slice_get_within rest r.place w stands, get_or_from_slice_get rest r.place w w stands)

    -- the next zone has one column
    pub next_column : columns_of w ≡ 1
    next_column = ap length (line.cell.each w listed).residues ∙ line.column

    pub next_interval : (next : Interval) → next ≡ span_of w → IsInterval z next
    next_interval next span = rw span (interval_moved z w (span_of w) (line.cell.each w listed) (span_interval w (line.valid w listed) next_column (line.room w listed)))

    front : z ∷ take (r.place + 1) rest ≡ (z ∷ take r.place rest) ++ w ∷ []
    front = ap (λ l. z ∷ l) (front_more rest r.place w (slice_get_within rest r.place w stands) (sym (get_or_from_slice_get rest r.place w w stands)))

    -- its interval is one more
    pub turn_more : (next : Interval) → next ≡ span_of w → IsReadTo (HaveRead z rest ((vs ++ last ∷ []) ++ next ∷ [])) rest more
    turn_more next span = read_goes (HaveRead z rest (vs ++ last ∷ [])) (HaveRead z rest ((vs ++ last ∷ []) ++ next ∷ [])) rest left r w more e
        (subst (λ zs. HaveNumbers z zs ((vs ++ last ∷ []) ++ next ∷ [])) (sym front)
        (subst (λ v. HaveNumbers z ((z ∷ take r.place rest) ++ w ∷ []) ((vs ++ last ∷ []) ++ v ∷ [])) (sym span)
        (numbers_more z (z ∷ take r.place rest) (vs ++ last ∷ []) w r.holds line.column (line.valid w listed) (line.cell.each w listed) (line.room w listed))))

    -- or the last one has grown by it
    pub turn_joined : (next both : Interval) → next ≡ span_of w → IsJoinedInterval z last next both → IsReadTo (HaveRead z rest (vs ++ both ∷ [])) rest more
    turn_joined next both span j =
        let m : IsReadTo (HaveRead z rest ((vs ++ last ∷ []) ++ next ∷ [])) rest more = turn_more next span in
        record { place = m.place; within = m.within; rest = m.rest; holds = numbers_joined z (z ∷ take m.place rest) vs last next both m.holds j }

  -- all zones are read
  pub turn_ends : (left : List ZoneView) (vs : List Interval) → IsReadTo (HaveRead z rest vs) rest left → left ≡ [] → HaveNumbers z (z ∷ rest) vs
  turn_ends left vs r e = subst (λ zs. HaveNumbers z (z ∷ zs) vs) (ap (λ n. take n rest) (read_ends (HaveRead z rest vs) rest left r e) ∙ take-length rest) r.holds

-- ---- beginnings

pub begins_free : (v w : Interval) → v.least ≡ None → BeginsBy v w
begins_free v w e = record { each = λ x a. subst (λ o. Above x o) (sym e) tt }

pub begins_at : (v w : Interval) (a b : ℤ) → v.least ≡ Some a → w.least ≡ Some b → a ≤ℤ b → BeginsBy v w
begins_at v w a b ea eb l = record { each = λ x h. subst (λ o. Above x o) (sym ea) (let k : b ≤ℤ x = subst (λ o. Above x o) eb h in omega (arith, ints)) }

-- ---- the zones of a cell of a store

module _ (s : StoreView) (is : IsStore s) (c : Cell) (one : s.shape.times ≡ 1) (first : ZoneView) (rest : List ZoneView) (are : zones_at s c ≡ first ∷ rest) where
  in_cell : (w : ZoneView) → Contains (first ∷ rest) w → Contains (zones_at s c) w
  in_cell w l = subst (λ zs. Contains zs w) (sym are) l

  pub cell_on_line : ((z : ZoneView) → Contains (zones_at s c) z → reach_of z + z.period ≤ 2 ^ 62) → AreOnLine first (first ∷ rest)
  cell_on_line room = record {
    column = (zone_on_line s is c one first (in_cell first (head_in first rest))).1;
    valid = λ w l. (zone_on_line s is c one w (in_cell w l)).0;
    cell = record { each = λ w l. one_cell s is c one first w (in_cell first (head_in first rest)) (in_cell w l) };
    room = λ w l. room w (in_cell w l);
  }

  -- another store of this shape and period takes its zones
  pub cell_place : (out : StoreView) → IsLike s out → IsPlaceOf out c first
  cell_place out like =
      let t = from_map (zone_of s c) (tables_at s c) first (in_cell first (head_in first rest)) in
      let held = cell_held s is c t.0 t.1 in
      record {
        zone = (zone_on_line s is c one first (in_cell first (head_in first rest))).0;
        period = sym (ap (λ (v : ZoneView). v.period) t.2) ∙ sym like.period;
        residues = sym (ap (λ (v : ZoneView). v.residues) t.2) ∙ ap (λ sh. take sh.times c.residues) (sym like.shape);
        texts = rw like.shape held.texts;
        times = rw like.shape held.residues;
      }
