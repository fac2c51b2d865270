-- The numbers with which the spans of all groups repeat at their ends.
use Rattle.std.specs.Prelude.{◌<◌, ◌^◌, ℕ, ℤ, List, Contains, pos}
use Rattle.lrp_model.specs.declared.tuples.Cell.{Cell}
use Rattle.lrp_theory.specs.Divides.{Divides}
use Rattle.lrp_slots.specs.Lists.{list_at}
use Rattle.lrp_spans.specs.declared.spans.Span.{Span}
use Rattle.lrp_spans.specs.Groups.{SpanLists}
use Rattle.lrp_spans.specs.Repeating.{RepeatsAtEnds}
use Rattle.lrp_spans.specs.Spans.{SpansHaveNumber, IsSpan}

-- far enough in both directions the set goes over into itself by this step
abbrev pub RepeatsFar : (ℤ → Type 0) → ℕ → Type 0
RepeatsFar set step = (bound : ℕ) × RepeatsAtEnds set bound step

-- far enough it does so by each multiple of the step
abbrev pub RepeatsByAll : (ℤ → Type 0) → ℕ → Type 0
RepeatsByAll set step = (other : ℕ) → 0 < other → Divides (pos step) (pos other) → RepeatsFar set other

-- made is the least common multiple of old and the steps with which the spans repeat at their ends
pub record IsWithEnds (period : ℕ) (spans : List Span) (old made : ℕ) : Type 0 where
  pub positive : 0 < made
  pub divides : Divides (pos made) (pos period)
  pub multiple : Divides (pos old) (pos made)
  pub ends : RepeatsByAll (SpansHaveNumber period spans) made
  pub least : (other : ℕ) → 0 < other → Divides (pos old) (pos other) → RepeatsFar (SpansHaveNumber period spans) other → Divides (pos made) (pos other)

-- the spans of each group are some of this period
pub record AreSpanLists (period : ℕ) (lists : SpanLists) : Type 0 where
  pub each : (group : Cell) (s : Span) → Contains (list_at lists group) s → IsSpan (2 ^ 62) s
  pub below : (group : Cell) (s : Span) → Contains (list_at lists group) s → s.residue < period

-- the spans of each group repeat by it at their ends, and it divides each number by which all of them do
pub record IsEndPeriod (period : ℕ) (lists : SpanLists) (made : ℕ) : Type 0 where
  pub positive : 0 < made
  pub divides : Divides (pos made) (pos period)
  pub ends : (group : Cell) (s : Span) → Contains (list_at lists group) s → RepeatsByAll (SpansHaveNumber period (list_at lists group)) made
  pub least : (other : ℕ) → 0 < other → ((group : Cell) → RepeatsFar (SpansHaveNumber period (list_at lists group)) other) → Divides (pos made) (pos other)
