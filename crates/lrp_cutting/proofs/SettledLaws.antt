-- The zones of a cell of one column, each of which is far after the one before it, are settled.
use Rattle.std.proofs.Common.{◌≡◌, ℕ, zero, suc, ◌+◌, ◌-◌, ◌*◌, ◌<◌, ◌≤◌, ◌^◌, inl, inr, List, [], ◌∷◌, length, take, get_or, arith, refl, sym, subst, ◌∙◌, ap}
use Rattle.std.specs.Prelude.{ℤ, pos, ◌+ℤ◌, ◌≤ℤ◌, ◌<ℤ◌, nat_abs, IfSome, Contains, AllPairs}
use Rattle.std.proofs.lemmas.Int.{ints}
use Rattle.std.proofs.lemmas.List.{length-take}
use Rattle.std.proofs.lemmas.List.Elements.{Contains-get_or}
use Rattle.lrp_theory.specs.Bounds.{Within}
use Rattle.lrp_matrix.specs.Ranges.{Above}
use Rattle.lrp_model.specs.declared.tuples.Cell.{Cell}
use Rattle.lrp_zone.specs.Zones.{ZoneView, IsZone, IsMember, columns_of, reach_of}
use Rattle.lrp_zone.specs.Pairs.{IsOfCell}
use Rattle.lrp_store.specs.Stores.{StoreView, IsStore, zone_of, tables_at, zones_at}
use Rattle.lrp_store.proofs.Aligning.{head_in, tail_in}
use Rattle.lrp_store.proofs.Held.{cell_held, zone_held}
use Rattle.lrp_store.proofs.Unions.{one_number}
use Rattle.lrp_cutting.specs.Differences.{greatest_reach}
use Rattle.lrp_cutting.specs.declared.intervals.Interval.{Interval}
use Rattle.lrp_cutting.specs.Intervals.{AreFarInTurn, IsFarBelow, IsOnLine, LiesApart, span_of}
use Rattle.lrp_cutting.specs.Settling.{IsSettlement, IsSmallZone}
use Rattle.lrp_cutting.proofs.IntervalLaws.{intervals}
use Rattle.lrp_cutting.proofs.LineLaws.{small_zone, times_one}
use Rattle.lrp_cutting.proofs.Lists.{below_or, from_map, reach_below}
use Rattle.lrp_cutting.proofs.MergeLaws.{end_room}
use Rattle.lrp_cutting.proofs.SpanLaws.{span_interval, span_to}

-- zones whose intervals lie apart are far from one another
pub far_of : (u v : ZoneView) → IsZone u → IsZone v → columns_of u ≡ 1 → columns_of v ≡ 1 → LiesApart u.period (span_of u) (span_of v) → IsFarBelow u v
far_of u v vu vv cu cv a = record {
  far = λ x y mu mv.
      let top : x ≤ℤ a.end = subst (λ e. Within x e) a.ends (span_to u vu cu x mu).high in
      let low : a.start ≤ℤ y = subst (λ e. Above y e) a.starts (span_to v vv cv y mv).low in
      let gap : (a.end +ℤ pos u.period) <ℤ a.start = a.gap in
      omega (arith, ints);
}

far_trans : (u v w : ZoneView) → IsZone v → columns_of v ≡ 1 → IsFarBelow u v → IsFarBelow v w → IsFarBelow u w
far_trans u v w valid one a b =
    let m : (x : ℤ) × (valid.some.member ≡ x ∷ []) = one_number valid.some.member (valid.some.is.cell.count ∙ one) in
    let inside : IsMember v (m.0 ∷ []) = subst (IsMember v) m.1 valid.some.is in
    record {
      far = λ x y mu mw.
          let l : (x +ℤ pos u.period) <ℤ m.0 = a.far x m.0 mu inside in
          let h : (m.0 +ℤ pos v.period) <ℤ y = b.far m.0 y inside mw in
          omega (arith, ints);
    }

-- each zone at place i is far after the one before it
abbrev pub AreFarAt : List ZoneView → ℕ → Type 0
AreFarAt zones i = (d : ZoneView) → IsFarBelow (get_or zones (i - 1) d) (get_or zones i d)

-- zones that are far in turn are so at each place
pub in_turn_at : (z : ZoneView) (ws : List ZoneView) → AreFarInTurn z ws → (j : ℕ) → 0 < j → j < length (z ∷ ws) → AreFarAt (z ∷ ws) j
in_turn_at z [] far j low high = absurd (omega arith)
in_turn_at z (w ∷ ws) far zero low high = absurd (omega arith)
in_turn_at z (w ∷ ws) far (suc zero) low high = λ d. far.0
in_turn_at z (w ∷ ws) far (suc (suc j)) low high = λ d.
    let here : suc (suc j) - 1 ≡ suc j = omega arith in
    let there : suc j - 1 ≡ j = omega arith in
    let f : IsFarBelow (get_or (w ∷ ws) (suc j - 1) d) (get_or (w ∷ ws) (suc j) d) = in_turn_at w ws far.1 (suc j) (omega arith) (omega arith) d in
    subst (λ n. IsFarBelow (get_or (z ∷ w ∷ ws) n d) (get_or (w ∷ ws) (suc j) d)) (sym here) (subst (λ n. IsFarBelow (get_or (w ∷ ws) n d) (get_or (w ∷ ws) (suc j) d)) there f)

-- the last interval is that of a zone, after which the zones that are left have still to be far in turn
pub record IsInTurn (period : ℤ) (first : ZoneView) (rest : List ZoneView) (last : Interval) (left : List ZoneView) : Type 0 where
  pub zone : ZoneView
  pub span : last ≡ span_of zone
  pub line : IsOnLine period zone
  pub lines : (w : ZoneView) → Contains left w → IsOnLine period w
  pub far : AreFarInTurn zone left → AreFarInTurn first rest

-- the first zone
pub turn_begins : (period : ℤ) (first : ZoneView) (rest left : List ZoneView) (last : Interval) → last ≡ span_of first → left ≡ rest → ((w : ZoneView) → Contains (first ∷ rest) w → IsOnLine period w) → IsInTurn period first rest last left
turn_begins period first rest left last span same lines = record {
  zone = first;
  span = span;
  line = lines first (0, omega arith, refl);
  lines = λ w h. lines w (tail_in first rest (first ∷ rest) refl w (subst (λ l. Contains l w) same h));
  far = λ h. subst (AreFarInTurn first) same h;
}

-- the next one is on the line
pub next_line : (period : ℤ) (z : ZoneView) (rest left : List ZoneView) → left ≡ z ∷ rest → ((w : ZoneView) → Contains left w → IsOnLine period w) → IsOnLine period z
next_line period z rest left e lines = lines z (head_in z rest left e)

-- and far after the last
pub turn_goes : (period : ℤ) (first : ZoneView) (all : List ZoneView) (last next : Interval) (z : ZoneView) (rest left : List ZoneView) → (t : IsInTurn period first all last left) → left ≡ z ∷ rest → next ≡ span_of z
    → LiesApart t.zone.period last next → IsInTurn period first all next rest
turn_goes period first all last next z rest left t e span apart =
    let line = next_line period z rest left e t.lines in
    let far : IsFarBelow t.zone z = far_of t.zone z t.line.valid line.valid t.line.column line.column (subst (λ v. LiesApart t.zone.period v (span_of z)) t.span (subst (LiesApart t.zone.period last) span apart)) in
    record { zone = z; span = span; line = line; lines = λ w h. t.lines w (tail_in z rest left e w h); far = λ h. t.far (subst (AreFarInTurn t.zone) (sym e) (far, h)) }

-- none is left
pub turn_ends : (period : ℤ) (first : ZoneView) (all : List ZoneView) (last : Interval) (left : List ZoneView) → IsInTurn period first all last left → left ≡ [] → AreFarInTurn first all
turn_ends period first all last left t e = t.far (subst (AreFarInTurn t.zone) (sym e) tt)

-- the end of the last interval leaves room for the period
pub turn_room : (period : ℤ) (first : ZoneView) (all : List ZoneView) (last : Interval) (left : List ZoneView) (p : ℤ) → IsInTurn period first all last left → p ≡ period → IfSome last.most (λ most. nat_abs most + nat_abs p ≤ 2 ^ 62)
turn_room period first all last left p t e =
    subst (λ v. IfSome v.most (λ most. nat_abs most + nat_abs p ≤ 2 ^ 62)) (sym t.span)
    (end_room t.zone (span_of t.zone).most p (e ∙ t.line.period_is) (span_interval t.zone t.line.valid t.line.column t.line.room).most)

far_pairs : (zones : List ZoneView) → ((w : ZoneView) → Contains zones w → IsZone w × (columns_of w ≡ 1)) → ((j : ℕ) → 0 < j → j < length zones → AreFarAt zones j) → AllPairs IsFarBelow zones
far_pairs zones valid steps i zero d l h = absurd (omega arith)
far_pairs zones valid steps i (suc j) d l h =
    let on : suc j - 1 ≡ j = omega arith in
    let s : IsFarBelow (get_or zones j d) (get_or zones (suc j) d) = subst (λ n. IsFarBelow (get_or zones n d) (get_or zones (suc j) d)) on (steps (suc j) (omega arith) h d) in
    let v : IsZone (get_or zones j d) × (columns_of (get_or zones j d) ≡ 1) = valid (get_or zones j d) (Contains-get_or zones j d (omega arith)) in
    elim (below_or i j) [
      | inl lt ↦ far_trans (get_or zones i d) (get_or zones j d) (get_or zones (suc j) d) v.0 v.1 (far_pairs zones valid steps i j d lt (omega arith)) s
      | inr le ↦ (let same : j ≡ i = omega arith in subst (λ n. IsFarBelow (get_or zones n d) (get_or zones (suc j) d)) same s)
    ]

module _ (s : StoreView) (is : IsStore s) (c : Cell) (one : s.shape.times ≡ 1) where
  pub zone_on_line : (w : ZoneView) → Contains (zones_at s c) w → IsZone w × (columns_of w ≡ 1)
  zone_on_line w l =
      let t = from_map (zone_of s c) (tables_at s c) w l in
      let size : length c.residues ≡ 8 = (cell_held s is c t.0 t.1).residues.size in
      let n : length (take s.shape.times c.residues) ≡ 1 = omega (arith, size, one, length-take s.shape.times c.residues) in
      (subst IsZone t.2 (zone_held s is c t.0 t.1), ap (λ v. columns_of v) (sym t.2) ∙ n)

  pub one_cell : (q v : ZoneView) → Contains (zones_at s c) q → Contains (zones_at s c) v → IsOfCell q v
  one_cell q v a b =
      let t = from_map (zone_of s c) (tables_at s c) q a in
      let u = from_map (zone_of s c) (tables_at s c) v b in
      record { period = ap (λ (z : ZoneView). z.period) (sym u.2) ∙ ap (λ (z : ZoneView). z.period) t.2; residues = ap (λ (z : ZoneView). z.residues) (sym u.2) ∙ ap (λ (z : ZoneView). z.residues) t.2 }

  pub line_settled : ((j : ℕ) → 0 < j → j < length (zones_at s c) → AreFarAt (zones_at s c) j) → (z : ZoneView) → Contains (zones_at s c) z → IsSettlement z (zones_at s c) (zones_at s c)
  line_settled far z here =
      let own : columns_of z ≡ 1 = (zone_on_line z here).1 in
      record {
        zones = λ w l. ((zone_on_line w l).0, one_cell z w here l);
        to = λ xs m. m;
        from = λ xs m. m;
        settled = record {
          none = λ e. absurd (omega (arith, e, own));
          one = λ e. intervals (zones_at s c) zone_on_line (far_pairs (zones_at s c) zone_on_line far) one_cell;
          more = λ l. absurd (omega (arith, own));
          antichain = λ l. absurd (omega (arith, own));
        };
        small = λ w l.
            let r : reach_of w ≤ greatest_reach (zones_at s c) = reach_below (zones_at s c) w l in
            let n : columns_of w ≡ columns_of z = (zone_on_line w l).1 ∙ sym own in
            subst (λ k. IsSmallZone w (k * greatest_reach (zones_at s c))) n (small_zone w (greatest_reach (zones_at s c)) (zone_on_line w l).0 r (times_one (columns_of w) _ _ (zone_on_line w l).1 r));
      }

  -- the zones that follow are on the line of the first
  pub lines_of : (p : ℤ) → p ≡ pos s.period → ((z : ZoneView) → Contains (zones_at s c) z → reach_of z + z.period ≤ 2 ^ 62) → (zones : List ZoneView) → zones_at s c ≡ zones → (w : ZoneView) → Contains zones w → IsOnLine p w
  lines_of p ep room zones e w h =
      let here : Contains (zones_at s c) w = subst (λ l. Contains l w) (sym e) h in
      let t = from_map (zone_of s c) (tables_at s c) w here in
      record { valid = (zone_on_line w here).0; column = (zone_on_line w here).1; period_is = ep ∙ ap (λ (z : ZoneView). pos z.period) t.2; room = room w here }

  -- a cell whose zones are far in turn is settled
  pub turn_settled : (first : ZoneView) (rest : List ZoneView) → zones_at s c ≡ first ∷ rest → AreFarInTurn first rest → (z : ZoneView) → Contains (zones_at s c) z → IsSettlement z (zones_at s c) (zones_at s c)
  turn_settled first rest e far = line_settled (subst (λ zs. (j : ℕ) → 0 < j → j < length zs → AreFarAt zs j) (sym e) (in_turn_at first rest far))
