-- Zones with one column are settled by their intervals: these in order, and merged.
use Rattle.std.proofs.Common.{◌≡◌, ℕ, zero, suc, ◌+◌, ◌*◌, ◌<◌, ◌≤◌, ◌^◌, inl, inr, List, [], ◌∷◌, false, length, get_or, arith, sym, subst, ◌∙◌, ap, to_z, of_z}
use Rattle.std.specs.Int.{w64}
use Rattle.std.specs.Prelude.{ℤ, pos, Contains, All, AllPairs, map}
use Rattle.std.specs.List.Sorted.{IsPermutation}
use Rattle.std.specs.Option.{option_cmp}
use Rattle.std.specs.Ordering.{int_cmp, is_lt, ordering_then}
use Rattle.std.proofs.lemmas.Int.{ints}
use Rattle.std.proofs.lemmas.List.Elements.{All-contains, Contains-get_or}
use Rattle.std.proofs.lemmas.List.Sorted.{Contains-permutation, IsPermutation-sym}
use Rattle.lrp_theory.proofs.Through.{AtMost-more}
use Rattle.lrp_zone.specs.Zones.{ZoneView, IsZone, columns_of, reach_of}
use Rattle.lrp_zone.specs.Pairs.{IsOfCell}
use Rattle.lrp_store.specs.Settled.{InSome}
use Rattle.lrp_store.proofs.Rooms.{closed_small}
use Rattle.lrp_store.proofs.Unions.{one_number}
use Rattle.lrp_cutting.specs.declared.intervals.Interval.{Interval}
use Rattle.lrp_cutting.specs.Differences.{AreOfCell, greatest_reach}
use Rattle.lrp_cutting.specs.Intervals.{span_of, IsNumber, IsInterval, HasSmallEnds, BeginsBy, InInterval, AreMerged}
use Rattle.lrp_cutting.specs.Lines.{HaveNumbers}
use Rattle.lrp_cutting.specs.Settling.{IsSmallZone, IsSettlement}
use Rattle.lrp_cutting.proofs.IntervalLaws.{intervals}
use Rattle.lrp_cutting.proofs.Lists.{below_or, in_map, from_map, reach_below}
use Rattle.lrp_cutting.proofs.SpanLaws.{span_to, span_from, span_interval, span_small, number_moved, number_back, interval_moved}
use Rattle.lrp_matrix.proofs.Ends.{not_before}

-- ---- order
-- what holds of each two neighbours, and is transitive
begins_trans : (u v w : Interval) → BeginsBy u v → BeginsBy v w → BeginsBy u w
begins_trans u v w a b = record { each = λ x h. a.each x (b.each x h) }

pairs_by_steps : (vs : List Interval) → ((k : ℕ) (d : Interval) → k + 1 < length vs → BeginsBy (get_or vs k d) (get_or vs (k + 1) d)) → AllPairs BeginsBy vs
pairs_by_steps vs step i zero d l h = absurd (omega arith)
pairs_by_steps vs step i (suc j) d l h =
    let on : j + 1 ≡ suc j = omega arith in
    let s : BeginsBy (get_or vs j d) (get_or vs (suc j) d) = subst (λ n. BeginsBy (get_or vs j d) (get_or vs n d)) on (step j d (omega arith)) in
    elim (below_or i j) [
      | inl lt ↦ begins_trans _ _ _ (pairs_by_steps vs step i j d lt (omega arith)) s
      | inr le ↦ (let same : j ≡ i = omega arith in subst (λ n. BeginsBy (get_or vs n d) (get_or vs (suc j) d)) same s)
    ]

pub begin_in_order : (vs : List Interval) → ((k : ℕ) (d : Interval) → 0 ≤ k → k + 1 < length vs → is_lt (ordering_then (option_cmp int_cmp (get_or vs (k + 1) d).least (get_or vs k d).least) (option_cmp int_cmp (get_or vs (k + 1) d).most (get_or vs k d).most)) ≡ false) → AllPairs BeginsBy vs
begin_in_order vs sorted = pairs_by_steps vs (λ k d l. record { each = not_before (get_or vs k d).least (get_or vs (k + 1) d).least _ (sorted k d (omega arith) l) })

-- ---- sizes
-- a zone that stores bounds of at most h, and none where it has no column, is small
pub small_zone : (w : ZoneView) (h : ℕ) → IsZone w → reach_of w ≤ h → reach_of w ≤ columns_of w * h → IsSmallZone w (columns_of w * h)
small_zone w h is reach stored = record { stored = stored; closed = λ m c s. record { each = λ i j il jl ne. closed_small w is m c s h reach i j il jl ne } }

-- what is small is small for more
pub more_small : (w : ZoneView) (low high : ℕ) → low ≤ high → IsSmallZone w low → IsSmallZone w high
more_small w low high le h = record {
  stored = let s = h.stored in omega (arith, s);
  closed = λ m c same. let k = h.closed m c same in record { each = λ i j il jl ne. AtMost-more low high _ le (k.each i j il jl ne) };
}

pub times_one : (n h r : ℕ) → n ≡ 1 → r ≤ h → r ≤ n * h
times_one n h r e l = rw e (omega arith)

-- ---- the intervals of zones
module _ (z : ZoneView) (one : columns_of z ≡ 1) (zones : List ZoneView) (cells : AreOfCell z zones) (valid : All IsZone zones) (vs : List Interval) (moved : IsPermutation (map span_of zones) vs) where
  has_one : (w : ZoneView) → Contains zones w → columns_of w ≡ 1
  has_one w l = ap length (cells.each w l).residues ∙ one

  zone_is : (w : ZoneView) → Contains zones w → IsZone w
  zone_is w l = All-contains IsZone zones w valid l

  -- each interval is that of a zone
  pub span_in : (v : Interval) → Contains vs v → (w : ZoneView) × Contains zones w × (span_of w ≡ v)
  span_in v l = from_map span_of zones v (Contains-permutation _ _ v (IsPermutation-sym _ _ moved) l)

  in_span : (w : ZoneView) → Contains zones w → Contains vs (span_of w)
  in_span w l = Contains-permutation _ _ (span_of w) moved (in_map span_of zones w l)

  pub all_intervals : ((w : ZoneView) → Contains zones w → reach_of w + w.period ≤ 2 ^ 62) → All (IsInterval z) vs
  all_intervals room k d l =
      let s : (w : ZoneView) × Contains zones w × (span_of w ≡ get_or vs k d) = span_in (get_or vs k d) (Contains-get_or vs k d l) in
      subst (IsInterval z) s.2 (interval_moved z s.0 (span_of s.0) (cells.each s.0 s.1) (span_interval s.0 (zone_is s.0 s.1) (has_one s.0 s.1) (room s.0 s.1)))

  pub number_to : (x : ℤ) → InInterval z vs x → InSome zones (x ∷ [])
  number_to x n =
      let s : (w : ZoneView) × Contains zones w × (span_of w ≡ n.interval) = span_in n.interval n.listed in
      record {
        zone = s.0;
        listed = s.1;
        inside = span_from s.0 (zone_is s.0 s.1) (has_one s.0 s.1) x (number_back z s.0 (span_of s.0) x (cells.each s.0 s.1) (subst (λ v. IsNumber z v x) (sym s.2) n.is));
      }

  pub number_from : (x : ℤ) → InSome zones (x ∷ []) → InInterval z vs x
  number_from x s = record {
    interval = span_of s.zone;
    listed = in_span s.zone s.listed;
    is = number_moved z s.zone (span_of s.zone) x (cells.each s.zone s.listed) (span_to s.zone (zone_is s.zone s.listed) (has_one s.zone s.listed) x s.inside);
  }

  pub ends_small : (v : Interval) → Contains vs v → HasSmallEnds (greatest_reach zones) v
  ends_small v l =
      let s : (w : ZoneView) × Contains zones w × (span_of w ≡ v) = span_in v l in
      subst (HasSmallEnds (greatest_reach zones)) s.2 (span_small s.0 (zone_is s.0 s.1) (has_one s.0 s.1) (greatest_reach zones) (reach_below zones s.0 s.1))

  -- they have the numbers of the zones
  pub have_numbers : ((w : ZoneView) → Contains zones w → reach_of w + w.period ≤ 2 ^ 62) → HaveNumbers z zones vs
  have_numbers room = record {
    intervals = λ v l.
        let s : (w : ZoneView) × Contains zones w × (span_of w ≡ v) = span_in v l in
        subst (IsInterval z) s.2 (interval_moved z s.0 (span_of s.0) (cells.each s.0 s.1) (span_interval s.0 (zone_is s.0 s.1) (has_one s.0 s.1) (room s.0 s.1)));
    to = number_to;
    from = number_from;
    small = λ h low v l.
        let s : (w : ZoneView) × Contains zones w × (span_of w ≡ v) = span_in v l in
        subst (HasSmallEnds h) s.2 (span_small s.0 (zone_is s.0 s.1) (has_one s.0 s.1) h (low s.0 s.1));
  }

-- intervals with the numbers of zones of one cell, which were merged, are the zones' set, settled
module _ (z : ZoneView) (one : columns_of z ≡ 1) (zones : List ZoneView) (cells : AreOfCell z zones) (vs : List Interval) (n : HaveNumbers z zones vs) (made : List ZoneView) (m : AreMerged z vs made) where
  made_one : (w : ZoneView) → Contains made w → columns_of w ≡ 1
  made_one w l = ap length (m.valid w l).1.residues ∙ one

  made_cells : (q v : ZoneView) → Contains made q → Contains made v → IsOfCell q v
  made_cells q v ql vl = record { period = (m.valid v vl).1.period ∙ sym (m.valid q ql).1.period; residues = (m.valid v vl).1.residues ∙ sym (m.valid q ql).1.residues }

  to_old : (xs : List ℤ) → InSome made xs → InSome zones xs
  to_old xs s =
      let x : (x : ℤ) × (xs ≡ x ∷ []) = one_number xs (s.inside.cell.count ∙ made_one s.zone s.listed) in
      subst (InSome zones) (sym x.1) (n.to x.0 (m.to x.0 (subst (InSome made) x.1 s)))

  to_new : (xs : List ℤ) → InSome zones xs → InSome made xs
  to_new xs s =
      let x : (x : ℤ) × (xs ≡ x ∷ []) = one_number xs (s.inside.cell.count ∙ ap length (cells.each s.zone s.listed).residues ∙ one) in
      subst (InSome made) (sym x.1) (m.from x.0 (n.from x.0 (subst (InSome zones) x.1 s)))

  pub merged_settled : IsSettlement z zones made
  merged_settled = record {
    zones = m.valid;
    to = to_old;
    from = to_new;
    settled = record {
      none = λ e. absurd (omega (arith, e, one));
      one = λ e. intervals made (λ w l. ((m.valid w l).0, made_one w l)) m.far made_cells;
      more = λ l. absurd (omega (arith, one));
      antichain = λ l. absurd (omega (arith, one));
    };
    small = λ w l.
        let r : reach_of w ≤ greatest_reach zones = m.reach (greatest_reach zones) (n.small (greatest_reach zones) (reach_below zones)) w l in
        let k : columns_of w ≡ columns_of z = made_one w l ∙ sym one in
        subst (λ c. IsSmallZone w (c * greatest_reach zones)) k (small_zone w (greatest_reach zones) (m.valid w l).0 r (times_one (columns_of w) _ _ (made_one w l) r));
  }

-- the period of a store as it is passed
pub word_pos : (z : ℤ) (k : ℕ) → z ≡ pos k → k ≤ 2 ^ 62 → to_z w64 (of_z w64 z) ≡ pos k
word_pos z k e h = omega (arith, ints)
