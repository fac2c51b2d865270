-- The period of all groups is the least one of rows that give the store.
use Rattle.std.proofs.Common.{◌≡◌, ℕ, ◌≤◌, inl, inr, List, [], ◌∷◌, map, take, refl, subst, sym}
use Rattle.std.specs.Prelude.{ℤ, pos, ◌+ℤ◌, ◌-ℤ◌, Contains}
use Rattle.std.specs.FinMap as finite
use Rattle.lrp_theory.proofs.Decided.{Decided}
use Rattle.lrp_theory.proofs.Modulo.{Divides-self}
use Rattle.lrp_model.specs.declared.tuples.Cell.{Cell}
use Rattle.lrp_slots.specs.Lists.{list_at}
use Rattle.lrp_store.specs.Stores.{IsStore, StoreView}
use Rattle.lrp_store.proofs.Aligning.{key_of}
use Rattle.lrp_store.proofs.ZoneCounts.{key_zone}
use Rattle.lrp_spans.specs.declared.spans.Span.{Span}
use Rattle.lrp_spans.specs.Groups.{AreGroups, AreNumbersOf, HoldsNumber, SpanLists, group_cell}
use Rattle.lrp_spans.specs.Periods.{AreSpanLists, IsEndPeriod, RepeatsFar}
use Rattle.lrp_spans.specs.Spans.{SpansHaveNumber}
use Rattle.lrp_spans.proofs.GroupLaws.{group_below, group_numbers, group_valid}
use Rattle.lrp_spans.proofs.Lists.{head_in, in_none}
use Rattle.lrp_spans.proofs.Repeats.{divisor_le}
use Rattle.lrp_canon.specs.Rows.{IsLeastPeriod, IsSetOfRows}
use Rattle.lrp_canon.proofs.RowLaws.{set_repeats}
use Rattle.lrp_canon.proofs.RowMaking.{rows_of_ends}
use Rattle.lrp_canon.proofs.SpanDecisions.{decided_number}
use Rattle.lrp_theory.proofs.Members.{from_map, in_map}

-- no span, no number
none_far : (k step : ℕ) → RepeatsFar (SpansHaveNumber k []) step
none_far k step = (
  0,
  record {
    on = λ x l h. absurd (in_none h.inside.span h.inside.listed);
    back = λ x l h. absurd (in_none h.inside.span h.inside.listed);
    down = λ x l h. absurd (in_none h.inside.span h.inside.listed);
    up = λ x l h. absurd (in_none h.inside.span h.inside.listed);
  },
)

module _ (s : StoreView) (is : IsStore s) (one : s.shape.times ≡ 1) (lists : SpanLists) (groups : AreGroups s lists) where
  pub span_lists : AreSpanLists s.period lists
  span_lists = record { each = group_valid s is one lists groups; below = group_below s is one lists groups }

  -- each group repeats by each period of rows that give the store
  group_far : (other : ℕ) → IsSetOfRows (HoldsNumber s) other → (group : Cell) → RepeatsFar (SpansHaveNumber s.period (list_at lists group)) other
  group_far other rows group = at (list_at lists group) refl
    where
      at : (spans : List Span) → list_at lists group ≡ spans → RepeatsFar (SpansHaveNumber s.period (list_at lists group)) other
      at [] e = subst (λ l. RepeatsFar (SpansHaveNumber s.period l) other) (sym e) (none_far s.period other)
      at (p ∷ ps) e =
          let n = group_numbers s is one lists groups group p (subst (λ l. Contains l p) (sym e) (head_in p ps)) in
          let f = set_repeats (HoldsNumber s) other rows in
          let r = f.1 (take s.shape.texts group.texts) in (
            f.0,
            record {
              on = λ x l h. n.from (x +ℤ pos other) (r.on x l (n.to x h));
              back = λ x l h. n.from x (r.back x l (n.to (x +ℤ pos other) h));
              down = λ x l h. n.from (x -ℤ pos other) (r.down x l (n.to x h));
              up = λ x l h. n.from x (r.up x l (n.to (x -ℤ pos other) h));
            },
          )

  -- each cell of the store has a group, which has some span
  record IsGroupOf (texts : List ℕ) : Type 0 where
    cell : Cell
    named : take s.shape.texts cell.texts ≡ texts
    span : Span
    listed : Contains (list_at lists (group_cell cell)) span

  known : List (List ℕ)
  known = map (λ (c : Cell). take s.shape.texts c.texts) (finite.keys s.tables)

  group_of : (texts : List ℕ) → Contains known texts → IsGroupOf texts
  unfolding known
  group_of texts n =
      let t = from_map (λ (c : Cell). take s.shape.texts c.texts) (finite.keys s.tables) texts n in
      let z = key_zone s is t.0 t.1 in
      let f = groups.from t.0 z.0 z.1 in
      record { cell = t.0; named = t.2; span = f.span; listed = f.listed }

  group_is : (texts : List ℕ) (g : IsGroupOf texts) → AreNumbersOf (HoldsNumber s) texts s.period (list_at lists (group_cell g.cell))
  group_is texts g = subst (λ ts. AreNumbersOf (HoldsNumber s) ts s.period (list_at lists (group_cell g.cell))) g.named (group_numbers s is one lists groups (group_cell g.cell) g.span g.listed)

  all_known : (x : ℤ) (texts : List ℕ) → HoldsNumber s x texts → Contains known texts
  unfolding known
  all_known x texts h = subst (Contains (map (λ (c : Cell). take s.shape.texts c.texts) (finite.keys s.tables))) h.named
      (in_map (λ (c : Cell). take s.shape.texts c.texts) (finite.keys s.tables) h.cell (key_of s (x ∷ []) texts h))

  decided : (texts : List ℕ) → Contains known texts → (x : ℤ) → Decided (HoldsNumber s x texts)
  decided texts n x =
      let g = group_of texts n in
      let a = group_is texts g in
      elim (decided_number s.period (list_at lists (group_cell g.cell)) x is.period_low) [
        | inl h ↦ inl (a.to x h)
        | inr m ↦ inr (λ h. m (a.from x h))
      ]

  far : (period : ℕ) → IsEndPeriod s.period lists period → (texts : List ℕ) → Contains known texts → RepeatsFar (λ x. HoldsNumber s x texts) period
  far period p texts n =
      let g = group_of texts n in
      let a = group_is texts g in
      let f = p.ends (group_cell g.cell) g.span g.listed period p.positive (Divides-self (pos period)) in (
        f.0,
        record {
          on = λ x l h. a.to (x +ℤ pos period) (f.1.on x l (a.from x h));
          back = λ x l h. a.to x (f.1.back x l (a.from (x +ℤ pos period) h));
          down = λ x l h. a.to (x -ℤ pos period) (f.1.down x l (a.from x h));
          up = λ x l h. a.to x (f.1.up x l (a.from (x -ℤ pos period) h));
        },
      )

  pub period_least : (period : ℕ) → IsEndPeriod s.period lists period → (other : ℕ) → IsSetOfRows (HoldsNumber s) other → period ≤ other
  period_least period p other rows = divisor_le period other rows.positive (p.least other rows.positive (group_far other rows))

  -- the period of all groups is the least one of the store
  pub least_period : (period : ℕ) → IsEndPeriod s.period lists period → IsLeastPeriod (HoldsNumber s) period
  least_period period p = record {
    is = rows_of_ends (HoldsNumber s) period p.positive known all_known decided (far period p);
    least = period_least period p;
  }
