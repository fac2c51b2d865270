-- The spans of each group repeat at both ends, from the room of the period on.
use Rattle.std.proofs.Common.{◌≡◌, ℕ, ◌+◌, ◌-◌, ◌<◌, ◌≤◌, ◌^◌, List, [], ◌∷◌, Option, Some, None, take, arith, refl, sym, subst}
use Rattle.std.specs.Prelude.{ℤ, pos, ◌+ℤ◌, ◌-ℤ◌, ◌≤ℤ◌, neg_ℤ, Contains}
use Rattle.std.proofs.lemmas.Int.{ints}
use Rattle.lrp_theory.specs.Bounds.{Within}
use Rattle.lrp_theory.specs.Divides.{Divides}
use Rattle.lrp_theory.specs.Entries.{AtMost, entry, node}
use Rattle.lrp_theory.proofs.Modulo.{Divides-+, Divides--, Divides-is, Divides-self}
use Rattle.lrp_model.specs.declared.tuples.Cell.{Cell}
use Rattle.lrp_slots.specs.Lists.{list_at}
use Rattle.lrp_zone.specs.Zones.{IsMember, IsZone, ZoneView, columns_of}
use Rattle.lrp_zone.proofs.Reaches.{reach_small}
use Rattle.lrp_store.specs.Stores.{HasReach, IsStore, StoreView, tables_at, zone_of}
use Rattle.lrp_store.proofs.Held.{zone_held}
use Rattle.lrp_zone.proofs.Lines.{in_line, line_cell, line_high, line_low}
use Rattle.lrp_spans.specs.declared.spans.Span.{Span}
use Rattle.lrp_spans.specs.Groups.{AreGroups, HoldsNumber, SpanLists}
use Rattle.lrp_spans.specs.Periods.{IsEndPeriod, RepeatsFar}
use Rattle.lrp_spans.specs.Repeating.{RepeatsAtEnds}
use Rattle.lrp_spans.specs.Spans.{HaveResiduesBelow, SpansHaveNumber}
use Rattle.lrp_spans.proofs.EndSteps.{merged_ordered}
use Rattle.lrp_spans.proofs.GroupLaws.{group_below, group_numbers, group_valid, merged_below, zone_column}
use Rattle.lrp_spans.proofs.Lists.{head_in, in_none}
use Rattle.lrp_canon.specs.declared.edges.Periods.{Periods}
use Rattle.lrp_canon.specs.Counting.{AreRepeatingGroups}
use Rattle.lrp_canon.proofs.Stepping.{repeats_from}
use Rattle.lrp_theory.proofs.Members.{in_map}

-- ---- after all stored bounds a zone has all numbers of its residue, or none
module _ (z : ZoneView) (valid : IsZone z) (one : columns_of z ≡ 1) (reach : ℕ) (small : (i j : ℕ) → i < 2 → j < 2 → AtMost reach (entry z.bounds i j)) where
  move : (x y : ℤ) → IsMember z (x ∷ []) → Divides (pos z.period) (y -ℤ x) → Within (y -ℤ pos 0) (entry z.bounds 1 0) → Within (pos 0 -ℤ y) (entry z.bounds 0 1) → IsMember z (y ∷ [])
  move x y m d high low = in_line z y valid one (Divides-is (pos z.period) ((y -ℤ x) +ℤ (x -ℤ node z.residues 1)) _ (omega (arith, ints)) (Divides-+ (pos z.period) _ _ d (line_cell z x one m))) high low

  -- above all bounds
  high_any : (x y : ℤ) (e : Option ℤ) → AtMost reach e → pos (reach + 1) ≤ℤ x → Within (x -ℤ pos 0) e → Within (y -ℤ pos 0) e
  high_any x y None s l h = tt
  high_any x y (Some a) s l h = let m : a ≤ℤ pos reach = s.1 in absurd (omega (arith, ints))

  low_far : (y : ℤ) (e : Option ℤ) → AtMost reach e → pos (reach + 1) ≤ℤ y → Within (pos 0 -ℤ y) e
  low_far y None s l = tt
  low_far y (Some a) s l = let m : neg_ℤ (pos reach) ≤ℤ a = s.0 in omega (arith, ints)

  pub move_far : (x y : ℤ) → pos (reach + 1) ≤ℤ x → pos (reach + 1) ≤ℤ y → Divides (pos z.period) (y -ℤ x) → IsMember z (x ∷ []) → IsMember z (y ∷ [])
  move_far x y lx ly d m = move x y m d (high_any x y (entry z.bounds 1 0) (small 1 0 (omega arith) (omega arith)) lx (line_high z x one m)) (low_far y (entry z.bounds 0 1) (small 0 1 (omega arith) (omega arith)) ly)

  -- below all bounds
  low_any : (x y : ℤ) (e : Option ℤ) → AtMost reach e → x ≤ℤ neg_ℤ (pos (reach + 1)) → Within (pos 0 -ℤ x) e → Within (pos 0 -ℤ y) e
  low_any x y None s l h = tt
  low_any x y (Some a) s l h = let m : a ≤ℤ pos reach = s.1 in absurd (omega (arith, ints))

  high_deep : (y : ℤ) (e : Option ℤ) → AtMost reach e → y ≤ℤ neg_ℤ (pos (reach + 1)) → Within (y -ℤ pos 0) e
  high_deep y None s l = tt
  high_deep y (Some a) s l = let m : neg_ℤ (pos reach) ≤ℤ a = s.0 in omega (arith, ints)

  pub move_deep : (x y : ℤ) → x ≤ℤ neg_ℤ (pos (reach + 1)) → y ≤ℤ neg_ℤ (pos (reach + 1)) → Divides (pos z.period) (y -ℤ x) → IsMember z (x ∷ []) → IsMember z (y ∷ [])
  move_deep x y lx ly d m = move x y m d (high_deep y (entry z.bounds 1 0) (small 1 0 (omega arith) (omega arith)) ly) (low_any x y (entry z.bounds 0 1) (small 0 1 (omega arith) (omega arith)) lx (line_low z x one m))

-- so a store of one time column repeats by its period after its reach
module _ (s : StoreView) (is : IsStore s) (one : s.shape.times ≡ 1) (room : HasReach s (2 ^ 62 - s.period)) (texts : List ℕ) where
  abbrev reach : ℕ
  reach = 2 ^ 62 - s.period

  moved : (x y : ℤ) → ((z : ZoneView) → IsZone z → columns_of z ≡ 1 → z.period ≡ s.period → ((i j : ℕ) → i < 2 → j < 2 → AtMost (2 ^ 62 - s.period) (entry z.bounds i j)) → IsMember z (x ∷ []) → IsMember z (y ∷ [])) → HoldsNumber s x texts → HoldsNumber s y texts
  moved x y step h =
      let z : ZoneView = zone_of s h.cell h.table in
      let valid : IsZone z = zone_held s is h.cell h.table h.held in
      let col : columns_of z ≡ 1 = zone_column s is one h.cell z (in_map (zone_of s h.cell) (tables_at s h.cell) h.table h.held) in
      record {
        cell = h.cell;
        table = h.table;
        held = h.held;
        named = h.named;
        inside = step z valid col refl (λ i j il jl. (reach_small z (2 ^ 62 - s.period) (room.each h.cell h.table h.held)).each i j (omega (arith, il, col)) (omega (arith, jl, col))) h.inside;
      }

  up_by : (x : ℤ) → Divides (pos s.period) ((x +ℤ pos s.period) -ℤ x)
  up_by x = Divides-is (pos s.period) (pos s.period) _ (omega (arith, ints)) (Divides-self (pos s.period))

  down_by : (x : ℤ) → Divides (pos s.period) (x -ℤ (x +ℤ pos s.period))
  down_by x = Divides-is (pos s.period) (pos s.period -ℤ (pos s.period +ℤ pos s.period)) _ (omega (arith, ints)) (Divides-- (pos s.period) _ _ (Divides-self (pos s.period)) (Divides-+ (pos s.period) _ _ (Divides-self (pos s.period)) (Divides-self (pos s.period))))

  at_period : (z : ZoneView) (d : ℤ) → z.period ≡ s.period → Divides (pos s.period) d → Divides (pos z.period) d
  at_period z d e h = subst (λ p. Divides (pos p) d) (sym e) h

  pub store_repeats : RepeatsAtEnds (λ x. HoldsNumber s x texts) (2 ^ 62 - s.period + 1) s.period
  store_repeats = record {
    on = λ x l. moved x (x +ℤ pos s.period) (λ z valid col e small. move_far z valid col (2 ^ 62 - s.period) small x (x +ℤ pos s.period) l (omega (arith, ints)) (at_period z _ e (up_by x)));
    back = λ x l. moved (x +ℤ pos s.period) x (λ z valid col e small. move_far z valid col (2 ^ 62 - s.period) small (x +ℤ pos s.period) x (omega (arith, ints)) l (at_period z _ e (down_by x)));
    down = λ x l. moved x (x -ℤ pos s.period) (λ z valid col e small. move_deep z valid col (2 ^ 62 - s.period) small x (x -ℤ pos s.period) l (omega (arith, ints)) (at_period z _ e (Divides-is (pos s.period) _ _ (omega (arith, ints)) (down_by x))));
    up = λ x l. moved (x -ℤ pos s.period) x (λ z valid col e small. move_deep z valid col (2 ^ 62 - s.period) small (x -ℤ pos s.period) x (omega (arith, ints)) l (at_period z _ e (Divides-is (pos s.period) _ _ (omega (arith, ints)) (up_by x))));
  }

-- ---- the merged spans of each group
same_repeats : (f g : ℤ → Type 0) (bound step : ℕ) → ((x : ℤ) → f x → g x) → ((x : ℤ) → g x → f x) → RepeatsAtEnds f bound step → RepeatsAtEnds g bound step
same_repeats f g bound step to from r = record {
  on = λ x l h. to (x +ℤ pos step) (r.on x l (from x h));
  back = λ x l h. to x (r.back x l (from (x +ℤ pos step) h));
  down = λ x l h. to (x -ℤ pos step) (r.down x l (from x h));
  up = λ x l h. to x (r.up x l (from (x -ℤ pos step) h));
}

no_repeats : (f : ℤ → Type 0) (bound step : ℕ) → ((x : ℤ) → f x → ⊥) → RepeatsAtEnds f bound step
no_repeats f bound step none = record { on = λ x l h. absurd (none x h); back = λ x l h. absurd (none (x +ℤ pos step) h); down = λ x l h. absurd (none x h); up = λ x l h. absurd (none (x -ℤ pos step) h) }

module _ (s : StoreView) (is : IsStore s) (one : s.shape.times ≡ 1) (room : HasReach s (2 ^ 62 - s.period)) (lists : SpanLists) (groups : AreGroups s lists) (periods : Periods) (whole : periods.whole ≡ s.period) (least : IsEndPeriod s.period lists periods.least) where
  group_repeats : (group : Cell) → RepeatsAtEnds (SpansHaveNumber s.period (list_at lists group)) (2 ^ 62 - s.period + 1) periods.least
  group_repeats group = at (list_at lists group) refl
    where
      at : (spans : List Span) → list_at lists group ≡ spans → RepeatsAtEnds (SpansHaveNumber s.period (list_at lists group)) (2 ^ 62 - s.period + 1) periods.least
      at [] e = no_repeats (SpansHaveNumber s.period (list_at lists group)) (2 ^ 62 - s.period + 1) periods.least (λ x h. in_none h.inside.span (subst (λ l. Contains l h.inside.span) e h.inside.listed))
      at (p ∷ ps) e =
          let listed : Contains (list_at lists group) p = subst (λ l. Contains l p) (sym e) (head_in p ps) in
          let n = group_numbers s is one lists groups group p listed in
          let texts : List ℕ = take s.shape.texts group.texts in
          let f : RepeatsFar (SpansHaveNumber s.period (list_at lists group)) periods.least = least.ends group p listed periods.least least.positive (Divides-self (pos periods.least)) in
          repeats_from (SpansHaveNumber s.period (list_at lists group)) s.period (2 ^ 62 - s.period + 1)
          (same_repeats (λ x. HoldsNumber s x texts) (SpansHaveNumber s.period (list_at lists group)) (2 ^ 62 - s.period + 1) s.period n.from n.to (store_repeats s is one room texts)) periods.least f.0 f.1 is.period_low

  pub groups_repeat : AreRepeatingGroups periods lists
  groups_repeat = record {
    each = λ group spans m. record {
      ordered = merged_ordered (2 ^ 62) (list_at lists group) spans m (group_valid s is one lists groups group);
      below = subst (λ k. HaveResiduesBelow k spans) (sym whole) (merged_below s.period (2 ^ 62) (list_at lists group) spans m (group_valid s is one lists groups group) (group_below s is one lists groups group));
      low = least.positive;
      divides = subst (λ k. Divides (pos periods.least) (pos k)) (sym whole) least.divides;
      positive = subst (λ k. 0 < k) (sym whole) is.period_low;
      high = subst (λ k. k ≤ 2 ^ 62) (sym whole) is.period_high;
      repeats = subst (λ k. RepeatsAtEnds (SpansHaveNumber k spans) (2 ^ 62 - k + 1) periods.least) (sym whole)
          (same_repeats (SpansHaveNumber s.period (list_at lists group)) (SpansHaveNumber s.period spans) (2 ^ 62 - s.period + 1) periods.least
          (λ x h. record { residue = h.residue; turn = h.turn; is = h.is; inside = m.from h.residue h.turn h.inside })
          (λ x h. record { residue = h.residue; turn = h.turn; is = h.is; inside = m.to h.residue h.turn h.inside }) (group_repeats group));
    };
  }
