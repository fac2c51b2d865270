-- How many maximal rows a set of numbers with texts has, for a period.
use Rattle.std.specs.Prelude.{◌≡◌, ◌≢◌, ℕ, ℤ, ◌+◌, ◌-◌, ◌^◌, List, Option, Some, None, AllPairs, Contains, length, min, nat_abs, pos, ◌+ℤ◌, ◌-ℤ◌}
use Rattle.lrp_model.specs.declared.tuples.Cell.{Cell}
use Rattle.lrp_slots.specs.Lists.{list_at}
use Rattle.lrp_spans.specs.declared.spans.Span.{Span}
use Rattle.lrp_spans.specs.Groups.{SpanLists}
use Rattle.lrp_spans.specs.Spans.{AreMergedSpans, SpansHaveNumber}
use Rattle.lrp_canon.specs.Edges.{AreRepeating}
use Rattle.lrp_canon.specs.Rows.{AreJust, IsOpenBelow, IsStart, Moment}
use Rattle.lrp_canon.specs.declared.edges.Periods.{Periods}

-- the set has so many maximal rows of this period, each told by its beginning or its residue
pub record HasRows (set : ℤ → List ℕ → Type 0) (period count : ℕ) : Type 0 where
  pub starts : List (Moment ℕ)
  pub begun : AreJust (IsStart set period) starts
  pub endless : List (Moment ℕ)
  pub unbegun : AreJust (IsOpenBelow set period) endless
  pub total : length starts + length endless ≡ count

-- the number of turns from the first to the last
abbrev pub turns_between : Option ℤ → Option ℤ → ℕ
turns_between (Some a) (Some b) = nat_abs ((b +ℤ pos 1) -ℤ a)
turns_between (Some a) None = 0
turns_between None b = 0

-- the number of turns of a span; one that is counted has both ends
abbrev pub turns_of : Span → ℕ
turns_of s = turns_between s.first s.last

-- a count that stops at the greatest word
abbrev pub capped_count : ℕ → ℕ
capped_count n = min n (2 ^ 64 - 1)

-- the numbers of a set, with these texts alone
pub record HasWith (set : ℤ → Type 0) (own : List ℕ) (x : ℤ) (texts : List ℕ) : Type 0 where
  pub named : texts ≡ own
  pub inside : set x

-- the count is that of the maximal rows of the spans, with any texts
pub record IsCount (periods : Periods) (spans : List Span) (made : ℕ) : Type 0 where
  pub count : ℕ
  pub capped : made ≡ capped_count count
  pub rows : (texts : List ℕ) → HasRows (HasWith (SpansHaveNumber periods.whole spans) texts) periods.least count

-- the numbers of the spans of some of the groups, with the texts by which each group is named
pub record InGroups (period : ℕ) (lists : SpanLists) (name : Cell → List ℕ) (groups : List Cell) (x : ℤ) (texts : List ℕ) : Type 0 where
  pub group : Cell
  pub listed : Contains groups group
  pub named : texts ≡ name group
  pub inside : SpansHaveNumber period (list_at lists group) x

-- no two groups that have spans have the same name
abbrev pub HaveOwnTexts : SpanLists → (Cell → List ℕ) → List Cell → Type 0
HaveOwnTexts lists name groups = AllPairs (λ g h. (p q : Span) → Contains (list_at lists g) p → Contains (list_at lists h) q → name g ≢ name h) groups

-- the count is that of the maximal rows of the groups, where their names differ
pub record IsCountOf (periods : Periods) (lists : SpanLists) (groups : List Cell) (made : ℕ) : Type 0 where
  pub count : ℕ
  pub capped : made ≡ capped_count count
  pub rows : (name : Cell → List ℕ) → HaveOwnTexts lists name groups → HasRows (InGroups periods.whole lists name groups) periods.least count

-- the spans of each group repeat so, once they are merged
pub record AreRepeatingGroups (periods : Periods) (lists : SpanLists) : Type 0 where
  pub each : (group : Cell) (spans : List Span) → AreMergedSpans (list_at lists group) spans → AreRepeating periods spans
