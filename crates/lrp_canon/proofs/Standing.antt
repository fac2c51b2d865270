-- A store of the least period with one zone in each cell is canonical as it stands.
use Rattle.std.proofs.Common.{◌≡◌, ◌+◌, ◌-◌, ◌<◌, ◌≤◌, ◌^◌, List, [], ◌∷◌, length, take, arith, refl, sym, subst, ap, ◌∙◌}
use Rattle.std.specs.Prelude.{ℤ, pos, ◌+ℤ◌, AllPairs, Contains}
use Rattle.std.specs.FinMap as finite
use Rattle.std.proofs.Math.IntN.{◌*ℤ◌}
use Rattle.std.proofs.lemmas.List.{length-map}
use Rattle.lrp_model.specs.declared.tuples.Cell.{Cell}
use Rattle.lrp_slots.specs.Lists.{list_at}
use Rattle.lrp_zone.specs.Zones.{IsMember, ZoneView, reach_of}
use Rattle.lrp_store.specs.Stores.{IsStore, StoreView, tables_at, zone_count, zone_of, zones_at}
use Rattle.lrp_cutting.specs.Intervals.{IsFarBelow}
use Rattle.lrp_spans.specs.Groups.{AreGroups, HoldsNumber, SpanLists, group_cell}
use Rattle.lrp_spans.specs.Periods.{IsEndPeriod}
use Rattle.lrp_spans.specs.Spans.{SpansHaveNumber}
use Rattle.lrp_spans.proofs.EndSteps.{span_key}
use Rattle.lrp_spans.proofs.GroupLaws.{group_numbers, zone_period}
use Rattle.lrp_canon.specs.declared.edges.Periods.{Periods}
use Rattle.lrp_canon.specs.Canonical.{CanMakeCanonical, HasCanonicalZones, IsCanonicalOf, StandsAlready}
use Rattle.lrp_canon.specs.Making.{HasAtGroup, HoldsGroups, IsOfGroup}
use Rattle.lrp_canon.proofs.CanonLaws.{is_canonical}
use Rattle.lrp_canon.proofs.LeastLaws.{least_period}
use Rattle.lrp_canon.proofs.ZoneLaws.{canonical_zones, zone_row_count}
use Rattle.lrp_theory.proofs.Members.{from_map}

-- two of fewer than two elements
few_pairs : {X : Type 0} (R : X → X → Type 0) (xs : List X) → length xs ≤ 1 → AllPairs R xs
few_pairs R xs few i j d il jl = let l : i < j = il in let m : j < length xs = jl in absurd (omega (arith, few))

-- ---- such a store of the least period
module _ (s : StoreView) (is : IsStore s) (can : CanMakeCanonical s) (lists : SpanLists) (groups : AreGroups s lists) (periods : Periods) (whole : periods.whole ≡ s.period) (end : IsEndPeriod s.period lists periods.least) (h : StandsAlready s periods) where
  far : (c : Cell) → AllPairs IsFarBelow (zones_at s c)
  far c = few_pairs IsFarBelow (zones_at s c) (let e : length (zones_at s c) ≡ length (tables_at s c) = length-map (tables_at s c) (zone_of s c) in let l : length (tables_at s c) ≤ 1 = h.single c in omega (arith, e, l))

  reach : (c : Cell) (z : ZoneView) → Contains (zones_at s c) z → reach_of z ≤ 2 ^ 62
  reach c z m =
      let t = from_map (zone_of s c) (tables_at s c) z m in
      let r : reach_of (zone_of s c t.0) ≤ 2 ^ 62 - s.period = can.reach.each c t.0 t.1 in
      subst (λ v. reach_of v ≤ 2 ^ 62) t.2 (omega (arith, r))

  held : (c : Cell) (z : ZoneView) (x : ℤ) → Contains (zones_at s c) z → IsMember z (x ∷ []) → HoldsNumber s x (take s.shape.texts c.texts)
  held c z x m i = let t = from_map (zone_of s c) (tables_at s c) z m in record { cell = c; table = t.0; held = t.1; named = refl; inside = subst (λ v. IsMember v (x ∷ [])) (sym t.2) i }

  of_group : (c : Cell) (z : ZoneView) (x : ℤ) → Contains (zones_at s c) z → IsMember z (x ∷ []) → IsOfGroup periods.whole lists (finite.keys lists) c x
  of_group c z x m i =
      let f = groups.from c z m in
      let n = group_numbers s is can.column lists groups (group_cell c) f.span f.listed in
      record {
        group = group_cell c;
        listed = span_key lists (group_cell c) f.span f.listed;
        named = refl;
        inside = subst (λ k. SpansHaveNumber k (list_at lists (group_cell c)) x) (sym whole) (n.from x (held c z x m i));
      }

  at_group : (group : Cell) (x : ℤ) → SpansHaveNumber periods.whole (list_at lists group) x → HasAtGroup s group x
  at_group group x n =
      let i = groups.to group n.inside.span n.inside.listed in
      let m = i.is.to n.turn (record { residue = refl; low = n.inside.is.low; high = n.inside.is.high }) in
      let e : pos n.inside.span.residue +ℤ (pos i.zone.period *ℤ n.turn) ≡ x =
      ap (λ k. pos n.inside.span.residue +ℤ (pos k *ℤ n.turn)) (zone_period s i.cell i.zone i.held ∙ sym whole) ∙ ap (λ r. pos r +ℤ (pos periods.whole *ℤ n.turn)) n.inside.is.residue ∙ sym n.is in
      record { cell = i.cell; zone = i.zone; held = i.held; named = ap (λ (v : Cell). v.texts) (sym i.grouped); inside = subst (λ y. IsMember i.zone (y ∷ [])) e m }

  holds : HoldsGroups periods lists (finite.keys lists) s
  holds = record { far = far; reach = reach; to = λ c z x m i. of_group c z x m i; from = λ group x k n. at_group group x n }

  pub stands : IsCanonicalOf s s
  stands = is_canonical s is can.column lists groups periods whole s is refl (sym whole ∙ sym h.least) holds (least_period s is can.column lists groups periods.least end)

  pub rows_stand : HasCanonicalZones s (zone_count s)
  rows_stand = let rows = zone_row_count s stands.canonical stands.room in record { rows = rows; zones = λ made canon. canonical_zones s made (zone_count s) rows canon }
