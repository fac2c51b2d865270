-- The store of the maximal rows of all groups is canonical.
use Rattle.std.proofs.Common.{◌≡◌, ◌≢◌, ℕ, ◌*◌, ◌<◌, ◌≤◌, ◌^◌, inl, inr, List, [], ◌∷◌, Option, Some, None, get_or, length, take, replicate, unwrap_or, arith, refl, sym, subst, ap, ◌∙◌}
use Rattle.std.specs.Prelude.{ℤ, pos, AllPairs, Contains, IfNone, IfSome, IsSome, slice_index}
use Rattle.std.specs.FinMap as finite
use Rattle.std.proofs.lemmas.List.{ext_get_or, get_or-take}
use Rattle.std.proofs.lemmas.Map.Keys.{IsDistinct-from_sorted}
use Rattle.std.proofs.lemmas.Map.Made.{AllPairs-from_IsDistinct}
use Rattle.lrp_theory.specs.Entries.{AtMost, entry}
use Rattle.lrp_model.specs.Texts.{Text}
use Rattle.lrp_model.specs.declared.tuples.Cell.{Cell}
use Rattle.lrp_model.specs.declared.tuples.Shape.{Shape}
use Rattle.lrp_slots.specs.Lists.{cell_cmp, list_at}
use Rattle.lrp_slots.proofs.Copying.{keys_ascend}
use Rattle.lrp_zone.specs.Zones.{IsMember, IsZone, ZoneView, columns_of}
use Rattle.lrp_zone.specs.Pairs.{IsOfCell}
use Rattle.lrp_store.specs.Least.{HasRoom, IsRoom}
use Rattle.lrp_store.specs.Settled.{AreSettled}
use Rattle.lrp_store.specs.Stores.{HoldsJust, InStore, IsCellOf, IsPadded, IsStore, StoreView, tables_at, zone_of, zones_at}
use Rattle.lrp_store.specs.Tables.{AreNumbered}
use Rattle.lrp_store.proofs.Held.{cell_held, held_of, zone_held}
use Rattle.lrp_store.proofs.Rooms.{closed_small}
use Rattle.lrp_cutting.proofs.IntervalLaws.{intervals}
use Rattle.lrp_spans.specs.declared.spans.Span.{Span}
use Rattle.lrp_spans.specs.Groups.{AreGroups, HoldsNumber, SpanLists, group_cell}
use Rattle.lrp_spans.specs.Periods.{IsEndPeriod}
use Rattle.lrp_spans.specs.Spans.{SpansHaveNumber}
use Rattle.lrp_spans.proofs.EndSteps.{span_key}
use Rattle.lrp_spans.proofs.GroupLaws.{group_numbers, zone_column}
use Rattle.lrp_spans.proofs.Lists.{below_or, head_in}
use Rattle.lrp_spans.proofs.Repeats.{divisor_le}
use Rattle.lrp_canon.specs.declared.edges.Periods.{Periods}
use Rattle.lrp_canon.specs.Canonical.{HasCanonicalZones, HasMoreRows, IsCanonicalOf}
use Rattle.lrp_canon.specs.Counting.{HaveOwnTexts, HasRows, InGroups, IsCountOf, capped_count}
use Rattle.lrp_canon.specs.Making.{AreGroupCells, HoldsGroups}
use Rattle.lrp_canon.specs.Rows.{HasRowCount, IsLeastPeriod, IsSetOfRows}
use Rattle.lrp_canon.proofs.JoinedCounts.{same_rows}
use Rattle.lrp_canon.proofs.LeastLaws.{least_period}
use Rattle.lrp_canon.proofs.ZoneLaws.{canonical_zones}
use Rattle.lrp_theory.proofs.Members.{from_map, in_map}
use Rattle.lrp_store.proofs.ZoneCounts.{is_decided}
use Rattle.lrp_store.proofs.Unions.{one_number}

pub keys_apart : (lists : SpanLists) → AllPairs ◌≢◌ (finite.keys lists)
keys_apart lists = AllPairs-from_IsDistinct is_decided (finite.keys lists) (IsDistinct-from_sorted cell_cmp (finite.keys lists) (keys_ascend lists))

-- ---- the groups of a store
module _ (s : StoreView) (is : IsStore s) (one : s.shape.times ≡ 1) (lists : SpanLists) (groups : AreGroups s lists) where
  cell_of : (group : Cell) (p : Span) → Contains (list_at lists group) p → (c : Cell) × (group ≡ group_cell c) × IsCellOf s.shape s.period c
  cell_of group p l =
      let i = groups.to group p l in
      let t = from_map (zone_of s i.cell) (tables_at s i.cell) i.zone i.held in
      (i.cell, i.grouped, cell_held s is i.cell t.0 t.1)

  pub group_cells : AreGroupCells s.shape lists
  group_cells = record {
    column = one;
    texts = is.texts;
    each = λ group p l. (let c = cell_of group p l in subst (λ g. IsPadded 0 s.shape.texts g.texts) (sym c.1) c.2.texts);
    apart = λ g h p q lp lq e. (
        let c = cell_of g p lp in
        let d = cell_of h q lq in
        let f : c.0.texts ≡ d.0.texts = ap (λ (v : Cell). v.texts) (sym c.1) ∙ e ∙ ap (λ (v : Cell). v.texts) d.1 in
        c.1 ∙ ap (λ ns. record { texts = ns; residues = replicate 8 (pos 0) }) f ∙ sym d.1);
  }

  -- groups with the same texts in front are the same
  pub same_group : (g h : Cell) (p q : Span) → Contains (list_at lists g) p → Contains (list_at lists h) q → take s.shape.texts g.texts ≡ take s.shape.texts h.texts → g ≡ h
  same_group g h p q lp lq e = group_cells.apart g h p q lp lq (texts_same g.texts h.texts (group_cells.each g p lp) (group_cells.each h q lq) e)
    where
      texts_same : (xs ys : List ℕ) → IsPadded 0 s.shape.texts xs → IsPadded 0 s.shape.texts ys → take s.shape.texts xs ≡ take s.shape.texts ys → xs ≡ ys
      texts_same xs ys a b t = ext_get_or 0 xs ys (a.size ∙ sym b.size) (λ i h. elim (below_or i s.shape.texts) [
        | inl l ↦ sym (get_or-take s.shape.texts xs i 0 l) ∙ ap (λ ms. get_or ms i 0) t ∙ get_or-take s.shape.texts ys i 0 l
        | inr l ↦ a.zeros i l ∙ sym (b.zeros i l)
      ])

-- the tuples of a store of one time column are single numbers
single : (s : StoreView) → IsStore s → s.shape.times ≡ 1 → (times : List ℤ) (texts : List ℕ) → InStore s times texts → (x : ℤ) × (times ≡ x ∷ [])
single s is one times texts h = one_number times (h.inside.cell.count ∙ zone_column s is one h.cell (zone_of s h.cell h.table) (in_map (zone_of s h.cell) (tables_at s h.cell) h.table h.held))

-- a set has the least period of a set with the same numbers
moved_rows : (f g : ℤ → List ℕ → Type 0) (period : ℕ) → ((x : ℤ) (t : List ℕ) → f x t → g x t) → ((x : ℤ) (t : List ℕ) → g x t → f x t) → IsSetOfRows f period → IsSetOfRows g period
moved_rows f g period to from r = record { positive = r.positive; rows = r.rows; sound = λ x t h. to x t (r.sound x t h); whole = λ x t h. r.whole x t (from x t h) }

moved_least : (f g : ℤ → List ℕ → Type 0) (period : ℕ) → ((x : ℤ) (t : List ℕ) → f x t → g x t) → ((x : ℤ) (t : List ℕ) → g x t → f x t) → IsLeastPeriod f period → IsLeastPeriod g period
moved_least f g period to from l = record { is = moved_rows f g period to from l.is; least = λ other r. l.least other (moved_rows g f other from to r) }

-- ---- the store of the rows
module _ (s : StoreView) (is : IsStore s) (one : s.shape.times ≡ 1) (lists : SpanLists) (groups : AreGroups s lists) (periods : Periods) (whole : periods.whole ≡ s.period) (made : StoreView) (valid : IsStore made)
    (shape : made.shape ≡ s.shape) (period : made.period ≡ periods.least) (holds : HoldsGroups periods lists (finite.keys lists) made) (least : IsLeastPeriod (HoldsNumber s) periods.least) where
  made_one : made.shape.times ≡ 1
  made_one = ap (λ (h : Shape). h.times) shape ∙ one

  at_period : (group : Cell) (x : ℤ) → SpansHaveNumber periods.whole (list_at lists group) x → SpansHaveNumber s.period (list_at lists group) x
  at_period group x h = subst (λ k. SpansHaveNumber k (list_at lists group) x) whole h

  sound : (x : ℤ) (texts : List ℕ) → HoldsNumber made x texts → HoldsNumber s x texts
  sound x texts h =
      let o = holds.to h.cell (zone_of made h.cell h.table) x (in_map (zone_of made h.cell) (tables_at made h.cell) h.table h.held) h.inside in
      let n = group_numbers s is one lists groups o.group o.inside.inside.span o.inside.inside.listed in
      let e : take s.shape.texts o.group.texts ≡ texts = ap (take s.shape.texts) (sym o.named) ∙ ap (λ (v : Shape). take v.texts h.cell.texts) (sym shape) ∙ h.named in
      subst (HoldsNumber s x) e (n.to x (at_period o.group x o.inside))

  full : (x : ℤ) (texts : List ℕ) → HoldsNumber s x texts → HoldsNumber made x texts
  full x texts h =
      let f = groups.from h.cell (zone_of s h.cell h.table) (in_map (zone_of s h.cell) (tables_at s h.cell) h.table h.held) in
      let n = group_numbers s is one lists groups (group_cell h.cell) f.span f.listed in
      let i : SpansHaveNumber s.period (list_at lists (group_cell h.cell)) x = n.from x (subst (HoldsNumber s x) (sym h.named) h) in
      let r = holds.from (group_cell h.cell) x (span_key lists (group_cell h.cell) f.span f.listed) (subst (λ k. SpansHaveNumber k (list_at lists (group_cell h.cell)) x) (sym whole) i) in
      let t = from_map (zone_of made r.cell) (tables_at made r.cell) r.zone r.held in
      record {
        cell = r.cell;
        table = t.0;
        held = t.1;
        named = ap (λ (v : Shape). take v.texts r.cell.texts) shape ∙ ap (take s.shape.texts) r.named ∙ h.named;
        inside = subst (λ z. IsMember z (x ∷ [])) (sym t.2) r.inside;
      }

  same : HoldsJust (InStore s) made
  same = record {
    sound = λ times texts h. (let x = single made valid made_one times texts h in subst (λ ts. InStore s ts texts) (sym x.1) (sound x.0 texts (subst (λ ts. InStore made ts texts) x.1 h)));
    whole = λ times texts h. (let x = single s is one times texts h in subst (λ ts. InStore made ts texts) (sym x.1) (full x.0 texts (subst (λ ts. InStore s ts texts) x.1 h)));
  }

  zone_there : (c : Cell) (z : ZoneView) → Contains (zones_at made c) z → IsZone z × (columns_of z ≡ 1)
  zone_there c z h = (let t = from_map (zone_of made c) (tables_at made c) z h in subst IsZone t.2 (zone_held made valid c t.0 t.1), zone_column made valid made_one c z h)

  one_cell : (c : Cell) (v w : ZoneView) → Contains (zones_at made c) v → Contains (zones_at made c) w → IsOfCell v w
  one_cell c v w hv hw =
      let a = from_map (zone_of made c) (tables_at made c) v hv in
      let b = from_map (zone_of made c) (tables_at made c) w hw in
      record { period = ap (λ (z : ZoneView). z.period) (sym b.2) ∙ ap (λ (z : ZoneView). z.period) a.2; residues = ap (λ (z : ZoneView). z.residues) (sym b.2) ∙ ap (λ (z : ZoneView). z.residues) a.2 }

  settled : (c : Cell) (z : ZoneView) → Contains (zones_at made c) z → AreSettled z (zones_at made c)
  settled c z h =
      let one_column : columns_of z ≡ 1 = (zone_there c z h).1 in
      record {
        none = λ e. absurd (omega (arith, e, one_column));
        one = λ e. intervals (zones_at made c) (zone_there c) (holds.far c) (one_cell c);
        more = λ l. absurd (omega (arith, l, one_column));
        antichain = λ l. absurd (omega (arith, l, one_column));
      }

  room : HasRoom made
  room = record { each = λ c t h. (2 ^ 62, at c (zone_of made c t) (in_map (zone_of made c) (tables_at made c) t h) refl) }
    where
      at : (c : Cell) (z : ZoneView) → Contains (zones_at made c) z → z.period ≡ made.period → IsRoom z (2 ^ 62)
      at c z h e =
          let t = zone_there c z h in
          let n : columns_of z ≡ 1 = t.1 in
          let p : made.period ≤ 2 ^ 62 = valid.period_high in
          record {
            room = omega (arith, n);
            period = omega (arith, e, p);
            closed = λ m closed has. record { each = λ i j il jl ne. subst (λ k. AtMost k (entry m.cells i j)) (let q : columns_of z * 2 ^ 62 ≡ 2 ^ 62 = omega (arith, n) in q) (closed_small z t.0 m closed has (2 ^ 62) (holds.reach c z h) i j il jl ne) };
          }

  pub is_canonical : IsCanonicalOf s made
  is_canonical = record {
    shape = shape;
    same = same;
    canonical = record {
      valid = valid;
      column = made_one;
      period = subst (IsLeastPeriod (HoldsNumber made)) (sym period) (moved_least (HoldsNumber s) (HoldsNumber made) periods.least full sound least);
      settled = settled;
    };
    room = room;
  }

-- ---- the rows of the store, counted
module _ (s : StoreView) (is : IsStore s) (one : s.shape.times ≡ 1) (lists : SpanLists) (groups : AreGroups s lists) (periods : Periods) (whole : periods.whole ≡ s.period) (end : IsEndPeriod s.period lists periods.least)
    (made : ℕ) (counted : IsCountOf periods lists (finite.keys lists) made) where
  -- the texts of a group
  name : Cell → List ℕ
  name group = take s.shape.texts group.texts

  named : HaveOwnTexts lists name (finite.keys lists)
  unfolding name
  named i j d il jl = λ p q lp lq e. keys_apart lists i j d il jl (same_group s is one lists groups (get_or (finite.keys lists) i d) (get_or (finite.keys lists) j d) p q lp lq e)

  in_store : (x : ℤ) (texts : List ℕ) → InGroups periods.whole lists name (finite.keys lists) x texts → HoldsNumber s x texts
  unfolding name
  in_store x texts h =
      let n = group_numbers s is one lists groups h.group h.inside.inside.span h.inside.inside.listed in
      subst (HoldsNumber s x) (sym h.named) (n.to x (subst (λ k. SpansHaveNumber k (list_at lists h.group) x) whole h.inside))

  of_store : (x : ℤ) (texts : List ℕ) → HoldsNumber s x texts → InGroups periods.whole lists name (finite.keys lists) x texts
  unfolding name
  of_store x texts h =
      let f = groups.from h.cell (zone_of s h.cell h.table) (in_map (zone_of s h.cell) (tables_at s h.cell) h.table h.held) in
      let n = group_numbers s is one lists groups (group_cell h.cell) f.span f.listed in
      record {
        group = group_cell h.cell;
        listed = span_key lists (group_cell h.cell) f.span f.listed;
        named = sym h.named;
        inside = subst (λ k. SpansHaveNumber k (list_at lists (group_cell h.cell)) x) (sym whole) (n.from x (subst (HoldsNumber s x) (sym h.named) h));
      }

  row_count : HasRowCount (HoldsNumber s) counted.count
  unfolding named
  row_count =
      let r : HasRows (HoldsNumber s) periods.least counted.count = same_rows (InGroups periods.whole lists name (finite.keys lists)) (HoldsNumber s) periods.least counted.count in_store of_store (counted.rows name named) in
      record { period = periods.least; least = least_period s is one lists groups periods.least end; starts = r.starts; begun = r.begun; endless = r.endless; unbegun = r.unbegun; total = r.total }

  canonical_count : HasCanonicalZones s counted.count
  canonical_count = record { rows = row_count; zones = λ store canon. canonical_zones s store counted.count row_count canon }

  -- a count that is a small word is the number
  pub count_is : (count most : ℕ) → count ≡ made → count ≤ most → most < 2 ^ 32 → HasCanonicalZones s count
  count_is count most e l m = subst (HasCanonicalZones s) (let c : made ≡ capped_count counted.count = counted.capped in let f : counted.count ≡ count = omega (arith, e, l, m, c) in f) canonical_count

  pub more_is : (most : ℕ) → most < made → HasMoreRows s most
  more_is most l = (counted.count, (let c : made ≡ capped_count counted.count = counted.capped in omega (arith, l, c)), canonical_count)

-- ---- the texts of the new store are numbers of the domain
module _ (s : StoreView) (lists : SpanLists) (groups : AreGroups s lists) (periods : Periods) (made : StoreView) (valid : IsStore made) (one : made.shape.times ≡ 1) (shape : made.shape ≡ s.shape) (holds : HoldsGroups periods lists (finite.keys lists) made)
    (domain : List Text) (numbered : AreNumbered domain s) where
  of_zone : (c : Cell) (z : ZoneView) → Contains (zones_at made c) z → (i : ℕ) → i < s.shape.texts → slice_index c.texts i < length domain
  of_zone c z h i il =
      let t = from_map (zone_of made c) (tables_at made c) z h in
      let v : IsZone z = subst IsZone t.2 (zone_held made valid c t.0 t.1) in
      let x = one_number v.some.member (v.some.is.cell.count ∙ zone_column made valid one c z h) in
      let o = holds.to c z x.0 h (subst (IsMember z) x.1 v.some.is) in
      let p = groups.to o.group o.inside.inside.span o.inside.inside.listed in
      let u = from_map (zone_of s p.cell) (tables_at s p.cell) p.zone p.held in
      let e : p.cell.texts ≡ c.texts = sym (o.named ∙ ap (λ (g : Cell). g.texts) p.grouped) in
      subst (λ ns. slice_index ns i < length domain) e (numbered p.cell i (subst IsSome (sym (held_of s.tables p.cell u.0 u.1)) refl) il)

  pub still_numbered : AreNumbered domain made
  still_numbered c i some il = at (finite.get made.tables c) refl some
    where
      at : (o : Option (List (List (Option ℤ)))) → finite.get made.tables c ≡ o → IsSome o → slice_index c.texts i < length domain
      at None e k = absurd (cc)
      at (Some []) e k = absurd ((valid.cells c [] e).some refl)
      at (Some (t ∷ ts)) e k = of_zone c (zone_of made c t) (in_map (zone_of made c) (tables_at made c) t (subst (λ o. Contains (unwrap_or o []) t) (sym e) (head_in t ts))) i (subst (λ (h : Shape). i < h.texts) shape il)

-- ---- the number of rows, if it is at most the given one
module _ (s : StoreView) (is : IsStore s) (one : s.shape.times ≡ 1) (lists : SpanLists) (groups : AreGroups s lists) (periods : Periods) (whole : periods.whole ≡ s.period) (end : IsEndPeriod s.period lists periods.least)
    (made : ℕ) (counted : IsCountOf periods lists (finite.keys lists) made) (most : ℕ) where
  pub count_if : most < 2 ^ 32 → (found : Option ℕ) → IfSome found (λ count. (count ≡ made) × (count ≤ most)) → IfSome found (λ count. HasCanonicalZones s count)
  count_if small None h = tt
  count_if small (Some count) h = count_is s is one lists groups periods whole end made counted count most h.0 h.1 small

  pub more_if : (found : Option ℕ) → IfNone found (most < made) → IfNone found (HasMoreRows s most)
  more_if None h = more_is s is one lists groups periods whole end made counted most h
  more_if (Some count) h = tt

-- ---- the parts of the new answer
pub made_column : (s made : StoreView) → s.shape.times ≡ 1 → made.shape ≡ s.shape → made.shape.times ≡ 1
made_column s made one e = ap (λ (h : Shape). h.times) e ∙ one

pub small_least : (s : StoreView) → IsStore s → (lists : SpanLists) (least : ℕ) → IsEndPeriod s.period lists least → least ≤ 2 ^ 62
small_least s is lists least end = let l : least ≤ s.period = divisor_le least s.period is.period_low end.divides in let h : s.period ≤ 2 ^ 62 = is.period_high in omega (arith, l, h)
