-- What is left of the zones of a cell is added in cells of a larger period, zone after zone.
use Rattle.std.proofs.Common.{◌≡◌, ℕ, ◌+◌, ◌-◌, ◌*◌, ◌≤◌, ◌^◌, ◌⊎◌, inl, inr, List, ◌∷◌, drop, take, Some, sym, ap, subst, ◌∙◌, arith}
use Rattle.std.specs.Prelude.{ℤ, pos, slice_get}
use Rattle.std.proofs.lemmas.List.{drop_more}
use Rattle.std.proofs.lemmas.Option.{slice_get_within, get_or_from_slice_get}
use Rattle.lrp_theory.specs.Divides.{Divides}
use Rattle.lrp_model.specs.declared.tuples.Cell.{Cell}
use Rattle.lrp_model.specs.declared.tuples.Shape.{Shape}
use Rattle.lrp_zone.specs.Zones.{ZoneView, IsMember, columns_of, reach_of}
use Rattle.lrp_store.specs.Growing.{IsAdded, IsRefused}
use Rattle.lrp_store.specs.Settled.{InSome}
use Rattle.lrp_store.specs.Stores.{StoreView, IsStore, IsCellOf, IsPadded, zones_at}
use Rattle.lrp_minus.specs.Cutters.{CanCut, CanSubtract, IsSparedIn}
use Rattle.lrp_minus.specs.Taking.{CanBeSplit, IsLeftOf}
use Rattle.lrp_tables.specs.declared.names.Places.{Places}
use Rattle.lrp_minus.proofs.CutterLaws.{read_at, read_columns, read_period, read_reach, read_zone}
use Rattle.lrp_minus.proofs.DifferenceLaws.{can_cut}
use Rattle.lrp_tables.proofs.Gathering.{IsGathering, gathering_more, gathering_refused}
use Rattle.lrp_cutting.proofs.Lists.{in_cons}
use Rattle.lrp_minus.proofs.SparedLaws.{IsAfterZone}

module _ (places : Places) (left : StoreView) (left_is : IsStore left) (cell : Cell) (proper : IsCellOf left.shape left.period cell) (right : StoreView) (k : ℕ) (can : CanSubtract places left right k)
    (i : ℕ) (z : ZoneView) (e : slice_get (zones_at left cell) i ≡ Some z) where
  -- the zone can be split to the period
  taken_multiple : (n : ℕ) → n ≡ k → Divides (pos z.period) (pos n)
  taken_multiple n en = subst (λ (m : ℕ). Divides (pos m) (pos n)) (sym (read_period left left_is cell i z e)) (subst (λ (m : ℕ). Divides (pos left.period) (pos m)) (sym en) can.left_multiple)

  pub taken_reach : (n : ℕ) → n ≡ k → reach_of z ≤ 2 ^ 62 - 2 * n
  taken_reach n en = subst (λ (m : ℕ). reach_of z ≤ 2 ^ 62 - 2 * m) (sym en) (read_reach left left_is cell i z e (2 ^ 62 - 2 * k) can.left_reach)

  -- in a store of the left one's shape
  module _ (out : StoreView) (shape : out.shape ≡ left.shape) (period : out.period ≡ k) where
    taken_columns : columns_of z ≡ out.shape.times
    taken_columns = read_columns left left_is cell i z e ∙ ap (λ (q : Shape). q.times) (sym shape)

    pub taken_split : CanBeSplit z out
    taken_split = record { valid = read_zone left left_is cell i z e; columns = taken_columns; multiple = taken_multiple out.period period; reach = taken_reach out.period period }

    pub taken_texts : IsPadded 0 out.shape.texts cell.texts
    taken_texts = subst (λ (q : Shape). IsPadded 0 q.texts cell.texts) (sym shape) proper.texts

    pub taken_cut : CanCut places out right
    taken_cut = can_cut places left right k can out shape period

    abbrev Left : List ℤ → List ℕ → Type 0
    Left = IsLeftOf places z (take left.shape.texts cell.texts) right

    left_to : (xs : List ℤ) (ns : List ℕ) → IsLeftOf places z (take left.shape.texts cell.texts) right xs ns → IsSparedIn places left cell right xs ns
    left_to xs ns h =
        let t = read_at left left_is cell i z e in
        record { held = record { table = t.0; held = t.1; named = h.tuple.same; inside = subst (λ w. IsMember w xs) (sym t.2) h.tuple.member }; none = h.none }

    next_is : drop i (zones_at left cell) ≡ z ∷ drop (i + 1) (zones_at left cell)
    next_is = drop_more (zones_at left cell) i z (slice_get_within (zones_at left cell) i z e) ∙ ap (λ w. w ∷ drop (i + 1) (zones_at left cell)) (get_or_from_slice_get (zones_at left cell) i z z e)

    left_from : (xs : List ℤ) (ns : List ℕ) → IsSparedIn places left cell right xs ns → InSome (drop i (zones_at left cell)) xs → IsLeftOf places z (take left.shape.texts cell.texts) right xs ns ⊎ InSome (drop (i + 1) (zones_at left cell)) xs
    left_from xs ns h b =
        let s = subst (λ l. InSome l xs) next_is b in
        elim (in_cons z (drop (i + 1) (zones_at left cell)) s.zone s.listed) [
          | inl q ↦ inl (record { tuple = record { member = subst (λ w. IsMember w xs) (sym q) s.inside; same = h.held.named }; none = h.none })
          | inr l ↦ inr (record { zone = s.zone; listed = l; inside = s.inside })
        ]

    module _ (cap high : ℕ) (start new : StoreView) (g : IsGathering (IsSparedIn places left cell right) (IsAfterZone (zones_at left cell) i) cap (high + 2 * k) start out) where
      pub taken_more : IsAdded (IsLeftOf places z (take out.shape.texts cell.texts) right) cap (high + 2 * out.period) out new → IsGathering (IsSparedIn places left cell right) (IsAfterZone (zones_at left cell) (i + 1)) cap (high + 2 * k) start new
      taken_more a = gathering_more (IsSparedIn places left cell right) cap (high + 2 * k) start (IsAfterZone (zones_at left cell) i) (IsAfterZone (zones_at left cell) (i + 1)) Left (high + 2 * out.period) out new g (omega arith) left_to left_from
          (subst (λ (q : Shape). IsAdded (IsLeftOf places z (take q.texts cell.texts) right) cap (high + 2 * out.period) out new) shape a)

      pub taken_refused : IsRefused (IsLeftOf places z (take out.shape.texts cell.texts) right) cap (high + 2 * out.period) out new → IsRefused (IsSparedIn places left cell right) cap (high + 2 * k) start new
      taken_refused r = gathering_refused (IsSparedIn places left cell right) cap (high + 2 * k) start (IsAfterZone (zones_at left cell) i) Left (high + 2 * out.period) out new g (omega arith) left_to
          (subst (λ (q : Shape). IsRefused (IsLeftOf places z (take q.texts cell.texts) right) cap (high + 2 * out.period) out new) shape r)
