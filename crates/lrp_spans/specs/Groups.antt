-- The spans of a store with one time column, by the texts of its cells.
use Rattle.std.specs.Prelude.{◌≡◌, ◌⊎◌, ℕ, ℤ, List, [], ◌∷◌, Contains, pos, replicate}
use Rattle.std.specs.FinMap as finite
use Rattle.lrp_model.specs.declared.tuples.Cell.{Cell}
use Rattle.lrp_zone.specs.Zones.{ZoneView}
use Rattle.lrp_slots.specs.Lists.{cell_cmp, list_at}
use Rattle.lrp_store.specs.Stores.{StoreView, InStore, zones_at}
use Rattle.lrp_spans.specs.declared.spans.Span.{Span}
use Rattle.lrp_spans.specs.Spans.{SpansHaveNumber, IsSpanOf}

-- spans for cells
abbrev pub SpanLists : Type 0
SpanLists = finite.FinMap cell_cmp (List Span)

-- the cell of the same texts at which their spans stand
abbrev pub group_cell : Cell → Cell
group_cell cell = record { texts = cell.texts; residues = replicate 8 (pos 0) }

-- the span is that of a zone of a cell with the group's texts
pub record IsSpanIn (s : StoreView) (group : Cell) (span : Span) : Type 0 where
  pub cell : Cell
  pub zone : ZoneView
  pub held : Contains (zones_at s cell) zone
  pub grouped : group ≡ group_cell cell
  pub is : IsSpanOf zone span

-- at the group stands the span of the zone
pub record HasSpanAt (lists : SpanLists) (group : Cell) (zone : ZoneView) : Type 0 where
  pub span : Span
  pub listed : Contains (list_at lists group) span
  pub is : IsSpanOf zone span

-- at each group stand the spans of the zones of all cells with its texts
pub record AreGroups (s : StoreView) (lists : SpanLists) : Type 0 where
  pub to : (group : Cell) (span : Span) → Contains (list_at lists group) span → IsSpanIn s group span
  pub from : (cell : Cell) (zone : ZoneView) → Contains (zones_at s cell) zone → HasSpanAt lists (group_cell cell) zone

-- the span is that of one of the zones, and the cell is the group
pub record IsSpanAt (group : Cell) (zones : List ZoneView) (cell : Cell) (span : Span) : Type 0 where
  pub grouped : cell ≡ group
  pub zone : ZoneView
  pub listed : Contains zones zone
  pub is : IsSpanOf zone span

-- the new lists have the spans of the old ones, and at the group those of the zones
pub record AppendsSpans (group : Cell) (zones : List ZoneView) (old new : SpanLists) : Type 0 where
  pub to : (cell : Cell) (span : Span) → Contains (list_at new cell) span → Contains (list_at old cell) span ⊎ IsSpanAt group zones cell span
  pub kept : (cell : Cell) (span : Span) → Contains (list_at old cell) span → Contains (list_at new cell) span
  pub from : (zone : ZoneView) → Contains zones zone → HasSpanAt new group zone

-- the store has one time column, and holds the number with these texts
abbrev pub HoldsNumber : StoreView → ℤ → List ℕ → Type 0
HoldsNumber s x texts = InStore s (x ∷ []) texts

-- the spans have just the numbers of the set with these texts
pub record AreNumbersOf (set : ℤ → List ℕ → Type 0) (texts : List ℕ) (period : ℕ) (spans : List Span) : Type 0 where
  pub to : (x : ℤ) → SpansHaveNumber period spans x → set x texts
  pub from : (x : ℤ) → set x texts → SpansHaveNumber period spans x
