-- The tuples of a store that have none of another beneath them are added zone after zone and cell after cell.
use Rattle.std.proofs.Common.{◌≡◌, ℕ, ◌+◌, ◌*◌, ◌-◌, ◌<◌, ◌≤◌, ◌^◌, ◌⊎◌, inl, inr, List, [], ◌∷◌, length, drop, take, Some, sym, ap, subst, ◌∙◌, arith}
use Rattle.std.specs.Prelude.{ℤ, pos, Contains, slice_get, ◌-ℤ◌}
use Rattle.std.specs.FinMap as finite
use Rattle.std.proofs.lemmas.List.{length-map, drop_all, drop_more}
use Rattle.std.proofs.lemmas.Option.{slice_get_within, get_or_from_slice_get}
use Rattle.lrp_theory.specs.Divides.{Divides}
use Rattle.lrp_theory.specs.Entries.{node}
use Rattle.lrp_model.specs.declared.tuples.Cell.{Cell}
use Rattle.lrp_model.specs.declared.tuples.Shape.{Shape}
use Rattle.lrp_zone.specs.Residues.{HasResidues}
use Rattle.lrp_zone.specs.Zones.{ZoneView, IsMember, reach_of}
use Rattle.lrp_store.specs.Growing.{IsAdded, IsRefused}
use Rattle.lrp_store.specs.Settled.{InSome}
use Rattle.lrp_store.specs.Stores.{StoreView, IsStore, InCell, IsCellOf, IsPadded, zone_of, tables_at, zones_at}
use Rattle.lrp_store.proofs.Aligning.{key_of}
use Rattle.lrp_store.proofs.Counted.{key_held}
use Rattle.lrp_cutting.specs.Settling.{IsLike, IsPlaceOf}
use Rattle.lrp_minus.specs.Beneath.{HasBeneath}
use Rattle.lrp_minus.specs.Cutters.{AreCutters, CanTake, SidesHaveReach, IsSpared, IsSparedIn}
use Rattle.lrp_cutting.specs.Differences.{AreOfCell, greatest_reach}
use Rattle.lrp_minus.specs.Filling.{IsUncut}
use Rattle.lrp_tables.specs.declared.names.Places.{Places}
use Rattle.lrp_minus.proofs.CutterLaws.{read_at, read_period, read_residues, read_columns, read_reach, read_zone}
use Rattle.lrp_tables.proofs.Gathering.{IsGathering, gathering_none, gathering_more, gathering_refused, gathered}
use Rattle.lrp_cutting.proofs.Lists.{in_cons, in_map, in_nothing}

-- some of the zones from this number on has the times
abbrev pub IsAfterZone : List ZoneView → ℕ → List ℤ → List ℕ → Type 0
IsAfterZone zones i xs ns = InSome (drop i zones) xs

-- ---- the zones of a cell

module _ (places : Places) (left : StoreView) (cell : Cell) (right : StoreView) (cap high : ℕ) where
  abbrev Spared : List ℤ → List ℕ → Type 0
  Spared = IsSparedIn places left cell right

  abbrev After : ℕ → List ℤ → List ℕ → Type 0
  After = IsAfterZone (zones_at left cell)

  -- no zone was added
  pub spared_none : (start : StoreView) → IsStore start → IsGathering (IsSparedIn places left cell right) (IsAfterZone (zones_at left cell) 0) cap high start start
  spared_none start valid = gathering_none (IsSparedIn places left cell right) cap high start (IsAfterZone (zones_at left cell) 0) valid (λ xs ns h. record {
    zone = zone_of left cell h.held.table;
    listed = in_map (zone_of left cell) (tables_at left cell) h.held.table h.held.held;
    inside = h.held.inside;
  })

  -- all were
  pub spared_all : (start out : StoreView) (i : ℕ) → length (tables_at left cell) ≤ i → IsGathering (IsSparedIn places left cell right) (IsAfterZone (zones_at left cell) i) cap high start out → IsAdded (IsSparedIn places left cell right) cap high start out
  spared_all start out i le g = gathered (IsSparedIn places left cell right) cap high start (IsAfterZone (zones_at left cell) i) out g
      (λ xs ns h b. in_nothing xs (subst (λ l. InSome l xs) (drop_all i (zones_at left cell) (let e : length (zones_at left cell) ≡ length (tables_at left cell) = length-map (tables_at left cell) (zone_of left cell) in omega arith)) b))

module _ (places : Places) (left : StoreView) (left_is : IsStore left) (cell : Cell) (proper : IsCellOf left.shape left.period cell) (right : StoreView) (cutters : List ZoneView) (are : AreCutters places left cell right cutters)
    (i : ℕ) (z : ZoneView) (e : slice_get (zones_at left cell) i ≡ Some z) where
  z_period : z.period ≡ left.period
  z_period = read_period left left_is cell i z e

  z_residues : z.residues ≡ take left.shape.times cell.residues
  z_residues = read_residues left left_is cell i z e

  pub of_cell : AreOfCell z cutters
  of_cell = record { each = λ w h. record { period = are.period w h ∙ sym z_period; residues = are.residues w h ∙ sym z_residues } }

  pub left_reach : (high : ℕ) → SidesHaveReach left right high → greatest_reach (z ∷ cutters) + z.period ≤ high + 2 * left.period
  left_reach high r =
      let a : reach_of z ≤ high + (left.period - 1) = read_reach left left_is cell i z e (high + (left.period - 1)) r.in_left in
      let b : greatest_reach cutters ≤ high + (left.period - 1) = are.reach high r.in_right in
      let p : z.period ≡ left.period = z_period in
      omega arith

  pub left_small : CanTake places left right → greatest_reach (z ∷ cutters) + z.period ≤ 2 ^ 62
  left_small can =
      let r : greatest_reach (z ∷ cutters) + z.period ≤ (2 ^ 62 - 2 * left.period) + 2 * left.period = left_reach (2 ^ 62 - 2 * left.period) can.reach in
      let h : 2 * left.period ≤ 2 ^ 62 = can.cut.period in
      omega arith

  -- the zone has the store's parts also in a store that is like it
  module _ (out : StoreView) (like : IsLike left out) where
    pub like_place : IsPlaceOf out cell z
    like_place = record {
      zone = read_zone left left_is cell i z e;
      period = z_period ∙ sym like.period;
      residues = z_residues ∙ ap (λ (q : Shape). take q.times cell.residues) (sym like.shape);
      texts = subst (λ (q : Shape). IsPadded 0 q.texts cell.texts) (sym like.shape) proper.texts;
      times = subst (λ (q : Shape). IsPadded (pos 0) q.times cell.residues) (sym like.shape) proper.residues;
    }

  abbrev Left : List ℤ → List ℕ → Type 0
  Left = IsUncut z cutters (take left.shape.texts cell.texts)

  has_residues : (xs : List ℤ) → IsMember z xs → HasResidues (pos left.period) (take left.shape.times cell.residues) xs
  has_residues xs m = record {
    each = λ p l. subst (λ (k : ℕ). Divides (pos k) (node xs p -ℤ node (take left.shape.times cell.residues) p)) z_period
        (subst (λ (rs : List ℤ). Divides (pos z.period) (node xs p -ℤ node rs p)) z_residues (m.cell.each p (subst (λ (rs : List ℤ). p ≤ length rs) (sym z_residues) l)));
  }

  left_to : (xs : List ℤ) (ns : List ℕ) → IsUncut z cutters (take left.shape.texts cell.texts) xs ns → IsSparedIn places left cell right xs ns
  left_to xs ns h =
      let t = read_at left left_is cell i z e in
      record {
        held = record { table = t.0; held = t.1; named = h.same; inside = subst (λ w. IsMember w xs) (sym t.2) h.member };
        none = λ b. h.none (are.from xs (h.member.cell.count ∙ read_columns left left_is cell i z e) (has_residues xs h.member) (subst (HasBeneath places right xs) (sym h.same) b));
      }

  next_is : drop i (zones_at left cell) ≡ z ∷ drop (i + 1) (zones_at left cell)
  next_is = drop_more (zones_at left cell) i z (slice_get_within (zones_at left cell) i z e) ∙ ap (λ w. w ∷ drop (i + 1) (zones_at left cell)) (get_or_from_slice_get (zones_at left cell) i z z e)

  left_from : (xs : List ℤ) (ns : List ℕ) → IsSparedIn places left cell right xs ns → InSome (drop i (zones_at left cell)) xs → IsUncut z cutters (take left.shape.texts cell.texts) xs ns ⊎ InSome (drop (i + 1) (zones_at left cell)) xs
  left_from xs ns h b =
      let s = subst (λ l. InSome l xs) next_is b in
      elim (in_cons z (drop (i + 1) (zones_at left cell)) s.zone s.listed) [
        | inl q ↦ inl (record { member = subst (λ w. IsMember w xs) (sym q) s.inside; none = λ c. h.none (subst (HasBeneath places right xs) h.held.named (are.to xs c)); same = h.held.named })
        | inr k ↦ inr (record { zone = s.zone; listed = k; inside = s.inside })
      ]

  module _ (cap high : ℕ) (reach : SidesHaveReach left right high) (start out new : StoreView) (shape : out.shape ≡ left.shape) (g : IsGathering (IsSparedIn places left cell right) (IsAfterZone (zones_at left cell) i) cap (high + 2 * left.period) start out) where
    pub spared_more : IsAdded (IsUncut z cutters (take out.shape.texts cell.texts)) cap (greatest_reach (z ∷ cutters) + z.period) out new → IsGathering (IsSparedIn places left cell right) (IsAfterZone (zones_at left cell) (i + 1)) cap (high + 2 * left.period) start new
    spared_more a =
        gathering_more (IsSparedIn places left cell right) cap (high + 2 * left.period) start (IsAfterZone (zones_at left cell) i) (IsAfterZone (zones_at left cell) (i + 1)) (IsUncut z cutters (take left.shape.texts cell.texts)) (greatest_reach (z ∷ cutters) + z.period) out new g (left_reach high reach) left_to left_from
        (subst (λ (q : Shape). IsAdded (IsUncut z cutters (take q.texts cell.texts)) cap (greatest_reach (z ∷ cutters) + z.period) out new) shape a)

    pub spared_refused : IsRefused (IsUncut z cutters (take out.shape.texts cell.texts)) cap (greatest_reach (z ∷ cutters) + z.period) out new → IsRefused (IsSparedIn places left cell right) cap (high + 2 * left.period) start new
    spared_refused a =
        gathering_refused (IsSparedIn places left cell right) cap (high + 2 * left.period) start (IsAfterZone (zones_at left cell) i) (IsUncut z cutters (take left.shape.texts cell.texts)) (greatest_reach (z ∷ cutters) + z.period) out new g (left_reach high reach) left_to
        (subst (λ (q : Shape). IsRefused (IsUncut z cutters (take q.texts cell.texts)) cap (greatest_reach (z ∷ cutters) + z.period) out new) shape a)

-- ---- the cells of a store

-- some of the cells has the tuple
pub record InCells (s : StoreView) (cells : List Cell) (xs : List ℤ) (ns : List ℕ) : Type 0 where
  pub cell : Cell
  pub listed : Contains cells cell
  pub inside : InCell s cell xs ns

-- a cell of the store is of its shape and period
pub key_proper : (s : StoreView) → IsStore s → (c : Cell) → Contains (finite.keys s.tables) c → IsCellOf s.shape s.period c
key_proper s is c h = let list = key_held s is (λ xs ns. Unit {0}) 0 c h in (is.cells c list.0 list.1).proper

module _ (places : Places) (left right : StoreView) (cap high : ℕ) (start : StoreView) where
  pub cells_none : IsStore start → (cells : List Cell) → cells ≡ finite.keys left.tables → IsGathering (IsSpared places left right) (InCells left cells) cap high start start
  cells_none valid cells e = gathering_none (IsSpared places left right) cap high start (InCells left cells) valid (λ xs ns h. record {
    cell = h.held.cell;
    listed = subst (λ l. Contains l h.held.cell) (sym e) (key_of left xs ns h.held);
    inside = record { table = h.held.table; held = h.held.held; named = h.held.named; inside = h.held.inside };
  })

  pub cells_all : (out : StoreView) → IsGathering (IsSpared places left right) (InCells left []) cap high start out → IsAdded (IsSpared places left right) cap high start out
  cells_all out g = gathered (IsSpared places left right) cap high start (InCells left []) out g (λ xs ns h b. let l : b.listed.0 < 0 = b.listed.1 in absurd (omega arith))

  module _ (cell : Cell) (rest cells : List Cell) (e : cells ≡ cell ∷ rest) (out new : StoreView) (g : IsGathering (IsSpared places left right) (InCells left cells) cap high start out) where
    cell_to : (xs : List ℤ) (ns : List ℕ) → IsSparedIn places left cell right xs ns → IsSpared places left right xs ns
    cell_to xs ns h = record { held = record { cell = cell; table = h.held.table; held = h.held.held; named = h.held.named; inside = h.held.inside }; none = h.none }

    cell_from : (xs : List ℤ) (ns : List ℕ) → IsSpared places left right xs ns → InCells left cells xs ns → IsSparedIn places left cell right xs ns ⊎ InCells left rest xs ns
    cell_from xs ns h b = elim (in_cons cell rest b.cell (subst (λ l. Contains l b.cell) e b.listed)) [
      | inl q ↦ inl (record { held = subst (λ c. InCell left c xs ns) (sym q) b.inside; none = h.none })
      | inr k ↦ inr (record { cell = b.cell; listed = k; inside = b.inside })
    ]

    pub cells_more : IsAdded (IsSparedIn places left cell right) cap high out new → IsGathering (IsSpared places left right) (InCells left rest) cap high start new
    cells_more a = gathering_more (IsSpared places left right) cap high start (InCells left cells) (InCells left rest) (IsSparedIn places left cell right) high out new g (omega arith) cell_to cell_from a

    pub cells_refused : IsRefused (IsSparedIn places left cell right) cap high out new → IsRefused (IsSpared places left right) cap high start new
    cells_refused r = gathering_refused (IsSpared places left right) cap high start (InCells left cells) (IsSparedIn places left cell right) high out new g (omega arith) cell_to r
