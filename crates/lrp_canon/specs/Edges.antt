-- Where the maximal rows of a set begin, and where they stop.
use Rattle.std.specs.Prelude.{◌≡◌, ◌⊎◌, ℕ, ℤ, ◌+◌, ◌-◌, ◌^◌, ◌<◌, ◌≤◌, List, Option, Some, None, AllPairs, Contains, pos, ◌-ℤ◌, ◌≤ℤ◌, ◌<ℤ◌}
use Rattle.lrp_theory.specs.Divides.{Divides}
use Rattle.lrp_theory.specs.Entries.{AtMost}
use Rattle.lrp_spans.specs.declared.spans.Span.{Span}
use Rattle.lrp_spans.specs.Repeating.{RepeatsAtEnds}
use Rattle.lrp_spans.specs.Spans.{HaveResiduesBelow, AreOrdered, SpanComesBefore, SpansHaveNumber, IsSpan}
use Rattle.lrp_canon.specs.declared.edges.Edge.{Edge}
use Rattle.lrp_canon.specs.declared.edges.Periods.{Periods}

-- the set has the number, and not the one a period less
pub record Begins (set : ℤ → Type 0) (period : ℕ) (x : ℤ) : Type 0 where
  pub inside : set x
  pub first : set (x -ℤ pos period) → ⊥

-- the set has the number a period less, and not this one
pub record StopsAt (set : ℤ → Type 0) (period : ℕ) (x : ℤ) : Type 0 where
  pub inside : set (x -ℤ pos period)
  pub over : set x → ⊥

-- r is a residue, and the set has all numbers of it from some bound down
pub record GoesDown (set : ℤ → Type 0) (period r : ℕ) : Type 0 where
  pub below : r < period
  pub bound : ℤ
  pub all : (x : ℤ) → x ≤ℤ bound → Divides (pos period) (x -ℤ pos r) → set x

-- spans of the whole period in order, whose numbers repeat by the least one at both ends, from where a bound with room for the
-- whole one may not stand any more
pub record AreRepeating (periods : Periods) (spans : List Span) : Type 0 where
  pub ordered : AreOrdered (2 ^ 62) spans
  pub below : HaveResiduesBelow periods.whole spans
  pub low : 0 < periods.least
  pub divides : Divides (pos periods.least) (pos periods.whole)
  pub positive : 0 < periods.whole
  pub high : periods.whole ≤ 2 ^ 62
  pub repeats : RepeatsAtEnds (SpansHaveNumber periods.whole spans) (2 ^ 62 - periods.whole + 1) periods.least

-- the span has both ends
pub record HasEnds (s : Span) : Type 0 where
  pub start : ℤ
  pub starts : s.first ≡ Some start
  pub end : ℤ
  pub ends : s.last ≡ Some end

-- the spans have both ends, are in order, and have just the numbers of the kind, whose magnitudes are at most the limit
pub record AreEdgeSpans (whole : ℕ) (kind : ℤ → Type 0) (spans : List Span) : Type 0 where
  pub to : (x : ℤ) → SpansHaveNumber whole spans x → kind x
  pub from : (x : ℤ) → kind x → SpansHaveNumber whole spans x
  pub small : (x : ℤ) → SpansHaveNumber whole spans x → AtMost (2 ^ 62) (Some x)
  pub each : (s : Span) → Contains spans s → IsSpan (2 ^ 62 + 2) s
  pub apart : AllPairs SpanComesBefore spans
  pub below : HaveResiduesBelow whole spans
  pub ends : (s : Span) → Contains spans s → HasEnds s

-- the spans are those of the numbers where the maximal rows of others begin
abbrev pub AreStarts : Periods → List Span → List Span → Type 0
AreStarts periods spans made = AreEdgeSpans periods.whole (Begins (SpansHaveNumber periods.whole spans) periods.least) made

-- the spans are those of the first numbers after the maximal rows of others
abbrev pub AreStopSpans : Periods → List Span → List Span → Type 0
AreStopSpans periods spans made = AreEdgeSpans periods.whole (StopsAt (SpansHaveNumber periods.whole spans) periods.least) made

-- the spans have both ends, and their numbers are small and have residues modulo the least period
pub record AreEdgeNumbers (periods : Periods) (spans : List Span) : Type 0 where
  pub low : 0 < periods.least
  pub divides : Divides (pos periods.least) (pos periods.whole)
  pub high : periods.whole ≤ 2 ^ 62
  pub each : (s : Span) → Contains spans s → IsSpan (2 ^ 62 + 2) s
  pub below : HaveResiduesBelow periods.whole spans
  pub ends : (s : Span) → Contains spans s → HasEnds s
  pub small : (x : ℤ) → SpansHaveNumber periods.whole spans x → AtMost (2 ^ 62) (Some x)

-- the edge is that of the number
pub record IsEdgeAt (period : ℕ) (x : ℤ) (edge : Edge) : Type 0 where
  pub below : edge.residue < period
  pub residue : Divides (pos period) (x -ℤ pos edge.residue)
  pub number : edge.number ≡ Some x

-- the new edges are the old ones and those of the numbers of the kind
pub record AddsEdges (period : ℕ) (kind : ℤ → Type 0) (old new : List Edge) : Type 0 where
  pub to : (e : Edge) → Contains new e → Contains old e ⊎ ((x : ℤ) × kind x × IsEdgeAt period x e)
  pub kept : (e : Edge) → Contains old e → Contains new e
  pub from : (x : ℤ) → kind x → (e : Edge) × IsEdgeAt period x e × Contains new e

-- the new edges are the old ones and those of the numbers of the spans
abbrev pub AddsNumbers : Periods → List Span → List Edge → List Edge → Type 0
AddsNumbers periods spans old new = AddsEdges periods.least (SpansHaveNumber periods.whole spans) old new

-- the new edges are the old ones and those of no number of the residues below the period
pub record AddsOpen (period : ℕ) (residues : List ℕ) (old new : List Edge) : Type 0 where
  pub to : (e : Edge) → Contains new e → Contains old e ⊎ ((e.number ≡ None) × (e.residue < period) × Contains residues e.residue)
  pub kept : (e : Edge) → Contains old e → Contains new e
  pub from : (r : ℕ) → r < period → Contains residues r → Contains new (record { residue = r; number = None })

-- a number comes before another one, and none before each number
abbrev pub IsSooner : Option ℤ → Option ℤ → Type 0
IsSooner None None = ⊥
IsSooner None (Some y) = Unit {0}
IsSooner (Some x) None = ⊥
IsSooner (Some x) (Some y) = x <ℤ y

-- by residues first, and then by numbers
abbrev pub IsEarlierEdge : Edge → Edge → Type 0
IsEarlierEdge e f = (e.residue < f.residue) ⊎ ((e.residue ≡ f.residue) × IsSooner e.number f.number)

-- the new edges are the old ones in order, each once
pub record AreInOrder (old new : List Edge) : Type 0 where
  pub apart : AllPairs IsEarlierEdge new
  pub to : (e : Edge) → Contains new e → Contains old e
  pub from : (e : Edge) → Contains old e → Contains new e

-- what an edge where rows begin says of the set: the row begins at its number, or goes on downwards
abbrev pub IsBeginning : (ℤ → Type 0) → ℕ → ℕ → Option ℤ → Type 0
IsBeginning set period r None = GoesDown set period r
IsBeginning set period r (Some x) = Begins set period x × Divides (pos period) (x -ℤ pos r)

-- the edges are those where the maximal rows begin, in order, each once
pub record AreBeginnings (set : ℤ → Type 0) (period : ℕ) (edges : List Edge) : Type 0 where
  pub apart : AllPairs IsEarlierEdge edges
  pub below : (e : Edge) → Contains edges e → e.residue < period
  pub to : (e : Edge) → Contains edges e → IsBeginning set period e.residue e.number
  pub from : (x : ℤ) → Begins set period x → (e : Edge) × IsEdgeAt period x e × Contains edges e
  pub down : (r : ℕ) → GoesDown set period r → Contains edges (record { residue = r; number = None })
  pub small : (e : Edge) → Contains edges e → AtMost (2 ^ 62) e.number

-- the edges are the first numbers after the maximal rows, in order, each once
pub record AreStops (set : ℤ → Type 0) (period : ℕ) (edges : List Edge) : Type 0 where
  pub apart : AllPairs IsEarlierEdge edges
  pub to : (e : Edge) → Contains edges e → (x : ℤ) × StopsAt set period x × IsEdgeAt period x e
  pub from : (x : ℤ) → StopsAt set period x → (e : Edge) × IsEdgeAt period x e × Contains edges e
  pub small : (e : Edge) (x : ℤ) → Contains edges e → e.number ≡ Some x → AtMost (2 ^ 62) (Some x)
