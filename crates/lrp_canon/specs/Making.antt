-- The maximal rows of a set, and the zones of them that are put into a store.
use Rattle.std.specs.Prelude.{◌≡◌, ◌⊎◌, ℕ, ℤ, ◌^◌, ◌<◌, ◌≤◌, List, [], ◌∷◌, ◌++◌, Option, Some, None, AllPairs, Contains, pos, ◌+ℤ◌, ◌-ℤ◌, ◌≤ℤ◌, ◌<ℤ◌, neg_ℤ}
use Rattle.std.specs.FinMap as finite
use Rattle.lrp_theory.specs.Bounds.{Within}
use Rattle.lrp_theory.specs.Divides.{Divides}
use Rattle.lrp_theory.specs.Entries.{AtMost}
use Rattle.lrp_matrix.specs.Ranges.{Above}
use Rattle.lrp_model.specs.declared.relations.Bound.{Bound}
use Rattle.lrp_model.specs.declared.tuples.Cell.{Cell}
use Rattle.lrp_model.specs.declared.tuples.Shape.{Shape}
use Rattle.lrp_zone.specs.Zones.{ZoneView, IsMember, IsZone, reach_of}
use Rattle.lrp_slots.specs.Lists.{list_at}
use Rattle.lrp_store.specs.Stores.{StoreView, IsPadded, IsStore, tables_at, zones_at}
use Rattle.lrp_cutting.specs.Intervals.{IsFarBelow}
use Rattle.lrp_spans.specs.declared.spans.Span.{Span}
use Rattle.lrp_spans.specs.Groups.{SpanLists}
use Rattle.lrp_spans.specs.Spans.{SpansHaveNumber}
use Rattle.lrp_canon.specs.declared.edges.Edge.{Edge}
use Rattle.lrp_canon.specs.declared.edges.Periods.{Periods}
use Rattle.lrp_canon.specs.declared.rows.MaximalRow.{MaximalRow}

-- x has the row's residue modulo the period, and lies between its ends
pub record IsInside (period : ℕ) (row : MaximalRow) (x : ℤ) : Type 0 where
  pub residue : Divides (pos period) (x -ℤ pos row.residue)
  pub low : Above x row.least
  pub high : Within x row.most

-- an end is a number of the residue that can be stored
abbrev pub IsRowEnd : ℕ → ℕ → Option ℤ → Type 0
IsRowEnd period r None = Unit {0}
IsRowEnd period r (Some a) = Divides (pos period) (a -ℤ pos r) × AtMost (2 ^ 62) (Some a)

-- the row has a residue, ends of it, and some number
pub record IsRow (period : ℕ) (row : MaximalRow) : Type 0 where
  pub below : row.residue < period
  pub least : IsRowEnd period row.residue row.least
  pub most : IsRowEnd period row.residue row.most
  pub number : ℤ
  pub is : IsInside period row number

-- two rows have different residues, or some number of the residue lies between those of the first and of the second
pub record LieApart (period : ℕ) (v w : MaximalRow) : Type 0 where
  pub far : v.residue ≡ w.residue → (x y : ℤ) → IsInside period v x → IsInside period w y → (x +ℤ pos period) <ℤ y

-- the rows hold just the numbers of the set, and lie apart
pub record AreRowsOf (set : ℤ → Type 0) (period : ℕ) (rows : List MaximalRow) : Type 0 where
  pub each : (row : MaximalRow) → Contains rows row → IsRow period row
  pub apart : AllPairs (LieApart period) rows
  pub to : (row : MaximalRow) (x : ℤ) → Contains rows row → IsInside period row x → set x
  pub from : (x : ℤ) → set x → (row : MaximalRow) × Contains rows row × IsInside period row x

-- the number is that of an edge of this residue which is no sooner than the start
pub record IsEdgeAhead (stops : List Edge) (start : Edge) (y : ℤ) : Type 0 where
  pub listed : Contains stops (record { residue = start.residue; number = Some y })
  pub later : Above y start.number

-- the first of them is a period after the end, and without an end there is none
abbrev pub EndsAt : ℕ → List Edge → Edge → Option ℤ → Type 0
EndsAt period stops start None = (y : ℤ) → IsEdgeAhead stops start y → ⊥
EndsAt period stops start (Some b) = IsEdgeAhead stops start (b +ℤ pos period) × ((y : ℤ) → IsEdgeAhead stops start y → (b +ℤ pos period) ≤ℤ y)

-- the row begins at the edge and goes on to the first stop
pub record IsRowFrom (period : ℕ) (stops : List Edge) (start : Edge) (row : MaximalRow) : Type 0 where
  pub residue : row.residue ≡ start.residue
  pub least : row.least ≡ start.number
  pub most : EndsAt period stops start row.most

-- the bounds that the ends of a row are, and for no end one that each number meets
abbrev pub low_of : Option ℤ → Bound
low_of None = record { left = 0; right = 0; most = pos 0 }
low_of (Some a) = record { left = 0; right = 1; most = neg_ℤ a }

abbrev pub high_of : Option ℤ → Bound
high_of None = record { left = 0; right = 0; most = pos 0 }
high_of (Some a) = record { left = 1; right = 0; most = a }

-- the zone has the row's period and residue, and just its numbers
pub record IsZoneOf (period : ℕ) (row : MaximalRow) (z : ZoneView) : Type 0 where
  pub valid : IsZone z
  pub same : z.period ≡ period
  pub residues : z.residues ≡ pos row.residue ∷ []
  pub to : (x : ℤ) → IsMember z (x ∷ []) → IsInside period row x
  pub from : (x : ℤ) → IsInside period row x → IsMember z (x ∷ [])
  pub reach : reach_of z ≤ 2 ^ 62

-- the cell of a row with the texts of the group
abbrev pub row_cell : Cell → ℕ → Cell
row_cell group r = record { texts = group.texts; residues = pos r ∷ pos 0 ∷ pos 0 ∷ pos 0 ∷ pos 0 ∷ pos 0 ∷ pos 0 ∷ pos 0 ∷ [] }

-- the zone is that of one of the rows, and the cell that of this row
pub record IsRowZone (group : Cell) (rows : List MaximalRow) (period : ℕ) (cell : Cell) (z : ZoneView) : Type 0 where
  pub row : MaximalRow
  pub listed : Contains rows row
  pub named : cell ≡ row_cell group row.residue
  pub is : IsZoneOf period row z

-- the row's zone is in its cell
pub record HasRowZone (s : StoreView) (group : Cell) (row : MaximalRow) : Type 0 where
  pub zone : ZoneView
  pub held : Contains (zones_at s (row_cell group row.residue)) zone
  pub is : IsZoneOf s.period row zone

-- the new store has one more zone, which is that of the row, at the end of the row's cell
pub record AddsRow (group : Cell) (row : MaximalRow) (old new : StoreView) : Type 0 where
  pub zone : ZoneView
  pub is : IsZoneOf old.period row zone
  pub tables : new.tables ≡ finite.insert old.tables (row_cell group row.residue) (tables_at old (row_cell group row.residue) ++ zone.bounds ∷ [])
  pub rest : new ≡ record old { tables = new.tables; spare = new.spare }
  pub valid : IsStore new

-- the new store has the zones of the old one, and after them those of the rows with the group's texts
pub record AddsRows (group : Cell) (rows : List MaximalRow) (old new : StoreView) : Type 0 where
  pub rest : new ≡ record old { tables = new.tables; spare = new.spare }
  pub valid : IsStore old → IsStore new
  pub to : (cell : Cell) (z : ZoneView) → Contains (zones_at new cell) z → Contains (zones_at old cell) z ⊎ IsRowZone group rows old.period cell z
  pub kept : (cell : Cell) (z : ZoneView) → Contains (zones_at old cell) z → Contains (zones_at new cell) z
  pub from : (row : MaximalRow) → Contains rows row → HasRowZone new group row
  pub far : ((cell : Cell) → cell.texts ≡ group.texts → zones_at old cell ≡ []) → ((cell : Cell) → AllPairs IsFarBelow (zones_at old cell)) → (cell : Cell) → AllPairs IsFarBelow (zones_at new cell)

-- x is a number of the spans of one of the groups, which has the cell's texts
pub record IsOfGroup (period : ℕ) (lists : SpanLists) (groups : List Cell) (cell : Cell) (x : ℤ) : Type 0 where
  pub group : Cell
  pub listed : Contains groups group
  pub named : cell.texts ≡ group.texts
  pub inside : SpansHaveNumber period (list_at lists group) x

-- the store has the number in a cell with the group's texts
pub record HasAtGroup (s : StoreView) (group : Cell) (x : ℤ) : Type 0 where
  pub cell : Cell
  pub zone : ZoneView
  pub held : Contains (zones_at s cell) zone
  pub named : cell.texts ≡ group.texts
  pub inside : IsMember zone (x ∷ [])

-- the store has the numbers of the spans of each group, with the group's texts, in zones that lie apart
pub record HoldsGroups (periods : Periods) (lists : SpanLists) (groups : List Cell) (s : StoreView) : Type 0 where
  pub far : (cell : Cell) → AllPairs IsFarBelow (zones_at s cell)
  pub reach : (cell : Cell) (z : ZoneView) → Contains (zones_at s cell) z → reach_of z ≤ 2 ^ 62
  pub to : (cell : Cell) (z : ZoneView) (x : ℤ) → Contains (zones_at s cell) z → IsMember z (x ∷ []) → IsOfGroup periods.whole lists groups cell x
  pub from : (group : Cell) (x : ℤ) → Contains groups group → SpansHaveNumber periods.whole (list_at lists group) x → HasAtGroup s group x

-- a store of one time column in whose shape the group's texts fit
pub record TakesRows (group : Cell) (s : StoreView) : Type 0 where
  pub column : s.shape.times ≡ 1
  pub texts : IsPadded 0 s.shape.texts group.texts

-- the groups that have spans fit in a shape of one time column, and differ by their texts
pub record AreGroupCells (shape : Shape) (lists : SpanLists) : Type 0 where
  pub column : shape.times ≡ 1
  pub texts : shape.texts ≤ 8
  pub each : (group : Cell) (p : Span) → Contains (list_at lists group) p → IsPadded 0 shape.texts group.texts
  pub apart : (g h : Cell) (p q : Span) → Contains (list_at lists g) p → Contains (list_at lists h) q → g.texts ≡ h.texts → g ≡ h
