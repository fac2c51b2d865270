-- Spans of numbers: those of a residue between two ends, which are counted in turns of the period.
use Rattle.std.specs.Prelude.{◌≡◌, ◌⊎◌, ℕ, ℤ, ◌+◌, ◌-◌, ◌^◌, ◌<◌, List, [], ◌∷◌, ◌++◌, Option, Some, None, Contains, AllPairs, pos, ◌+ℤ◌, ◌-ℤ◌, ◌*ℤ◌, ◌<ℤ◌}
use Rattle.lrp_theory.specs.Bounds.{Within}
use Rattle.lrp_theory.specs.Entries.{AtMost}
use Rattle.lrp_matrix.specs.Ranges.{Above}
use Rattle.lrp_zone.specs.Zones.{ZoneView, IsMember}
use Rattle.lrp_spans.specs.declared.spans.Span.{Span}

-- the span has the residue, and the turn lies between its ends
pub record HasTurn (s : Span) (r : ℕ) (n : ℤ) : Type 0 where
  pub residue : s.residue ≡ r
  pub low : Above n s.first
  pub high : Within n s.last

-- some of the spans has the residue in this turn
pub record InSpans (spans : List Span) (r : ℕ) (n : ℤ) : Type 0 where
  pub span : Span
  pub listed : Contains spans span
  pub is : HasTurn span r n

-- x is the number of a residue in some turn in which one of the spans has it
pub record SpansHaveNumber (period : ℕ) (spans : List Span) (x : ℤ) : Type 0 where
  pub residue : ℕ
  pub turn : ℤ
  pub is : x ≡ pos residue +ℤ (pos period *ℤ turn)
  pub inside : InSpans spans residue turn

-- ends of at most this magnitude, and some turn between them
pub record IsSpan (high : ℕ) (s : Span) : Type 0 where
  pub first : AtMost high s.first
  pub last : AtMost high s.last
  pub turn : ℤ
  pub is : HasTurn s s.residue turn

-- each turn of v is below each of w
pub record EndsBefore (v w : Span) : Type 0 where
  pub end : ℤ
  pub ends : v.last ≡ Some end
  pub start : ℤ
  pub starts : w.first ≡ Some start
  pub below : end <ℤ start

-- v has the lesser residue
abbrev pub HasLessResidue : Span → Span → Type 0
HasLessResidue v w = v.residue < w.residue

-- v has the lesser residue, or the same one in turns that are all below those of w
abbrev pub SpanComesBefore : Span → Span → Type 0
SpanComesBefore v w = (v.residue < w.residue) ⊎ ((v.residue ≡ w.residue) × EndsBefore v w)

-- each of the spans comes before w
abbrev pub AreBefore : List Span → Span → Type 0
AreBefore spans w = (v : Span) → Contains spans v → SpanComesBefore v w

-- spans in order, of which no two have a number in common
pub record AreOrdered (high : ℕ) (spans : List Span) : Type 0 where
  pub each : (s : Span) → Contains spans s → IsSpan high s
  pub apart : AllPairs SpanComesBefore spans

-- spans that have just the turns of others, and are in order where these are spans
pub record AreMergedSpans (old new : List Span) : Type 0 where
  pub to : (r : ℕ) (n : ℤ) → InSpans new r n → InSpans old r n
  pub from : (r : ℕ) (n : ℤ) → InSpans old r n → InSpans new r n
  pub apart : AllPairs SpanComesBefore new
  pub each : (high : ℕ) → ((s : Span) → Contains old s → IsSpan high s) → (s : Span) → Contains new s → IsSpan high s

-- v begins no later than w
pub record SpanBeginsBy (v w : Span) : Type 0 where
  pub each : (n : ℤ) → Above n w.first → Above n v.first

-- v has the lesser residue, or the same one and begins no later than w
abbrev pub SpanComesNoLater : Span → Span → Type 0
SpanComesNoLater v w = (v.residue < w.residue) ⊎ ((v.residue ≡ w.residue) × SpanBeginsBy v w)

-- g is the later of two ends, and none where one of them is none
pub record IsLater (e f g : Option ℤ) : Type 0 where
  pub one : (g ≡ e) ⊎ (g ≡ f)
  pub left : (n : ℤ) → Within n e → Within n g
  pub right : (n : ℤ) → Within n f → Within n g

-- joined has the turns of two spans of one residue, of which v begins no later
pub record IsJoinedSpan (v w joined : Span) : Type 0 where
  pub residue : joined.residue ≡ v.residue
  pub begins : joined.first ≡ v.first
  pub to : (r : ℕ) (n : ℤ) → HasTurn joined r n → HasTurn v r n ⊎ HasTurn w r n
  pub from : (r : ℕ) (n : ℤ) → HasTurn v r n ⊎ HasTurn w r n → HasTurn joined r n
  pub small : (high : ℕ) → AtMost high v.last → AtMost high w.last → AtMost high joined.last

-- front has the turns of s that are below those of the hole
pub record IsSpanFront (s hole front : Span) : Type 0 where
  pub to : (r : ℕ) (n : ℤ) → HasTurn front r n → HasTurn s r n × (Above n hole.first → ⊥)
  pub from : (r : ℕ) (n : ℤ) → HasTurn s r n → (Above n hole.first → ⊥) → HasTurn front r n
  pub first : front.first ≡ s.first
  pub last : (high : ℕ) → AtMost high hole.first → AtMost (high + 1) front.last
  pub turn : (n : ℤ) × HasTurn front s.residue n

-- rest has the turns of s that are above those of the hole
pub record IsRest (s hole rest : Span) : Type 0 where
  pub to : (r : ℕ) (n : ℤ) → HasTurn rest r n → HasTurn s r n × (Within n hole.last → ⊥)
  pub from : (r : ℕ) (n : ℤ) → HasTurn s r n → (Within n hole.last → ⊥) → HasTurn rest r n
  pub last : rest.last ≡ s.last
  pub first : (high : ℕ) → AtMost high hole.last → AtMost (high + 1) rest.first
  pub turn : (n : ℤ) × HasTurn rest s.residue n

-- made has just the turns of the spans that no hole has, in order
pub record IsSpanDifference (high : ℕ) (spans holes made : List Span) : Type 0 where
  pub to : (r : ℕ) (n : ℤ) → InSpans made r n → InSpans spans r n × (InSpans holes r n → ⊥)
  pub from : (r : ℕ) (n : ℤ) → InSpans spans r n → (InSpans holes r n → ⊥) → InSpans made r n
  pub each : (s : Span) → Contains made s → IsSpan (high + 1) s
  pub apart : AllPairs SpanComesBefore made

-- the fronts are the turns of s that are below those of the hole, if there are any
pub record AreFronts (high : ℕ) (s hole : Span) (fronts : List Span) : Type 0 where
  pub to : (r : ℕ) (n : ℤ) → InSpans fronts r n → HasTurn s r n × (Above n hole.first → ⊥)
  pub from : (r : ℕ) (n : ℤ) → HasTurn s r n → (Above n hole.first → ⊥) → InSpans fronts r n
  pub each : (p : Span) → Contains fronts p → IsSpan (high + 1) p
  pub apart : AllPairs SpanComesBefore fronts

-- the new spans are the old ones and after them fronts
pub record AppendsFronts (high : ℕ) (s hole : Span) (old new : List Span) : Type 0 where
  pub fronts : List Span
  pub is : new ≡ old ++ fronts
  pub fit : AreFronts high s hole fronts

-- the new spans are the old ones and after them what the holes leave of s
pub record AppendsLeftSpans (high : ℕ) (s : Span) (holes old new : List Span) : Type 0 where
  pub left : List Span
  pub is : new ≡ old ++ left
  pub difference : IsSpanDifference high (s ∷ []) holes left

-- the residues of the spans that have no such end, ascending
pub record AreOpen (end : Span → Option ℤ) (spans : List Span) (residues : List ℕ) : Type 0 where
  pub ascending : AllPairs ◌<◌ residues
  pub to : (r : ℕ) → Contains residues r → (s : Span) × Contains spans s × (s.residue ≡ r) × (end s ≡ None)
  pub from : (s : Span) → Contains spans s → end s ≡ None → Contains residues s.residue

-- the residues of the spans that have no last turn
abbrev pub AreOpenAbove : List Span → List ℕ → Type 0
AreOpenAbove = AreOpen (λ s. s.last)

-- the residues of the spans that have no first turn
abbrev pub AreOpenBelow : List Span → List ℕ → Type 0
AreOpenBelow = AreOpen (λ s. s.first)

-- the residues of the spans are below the period
abbrev pub HaveResiduesBelow : ℕ → List Span → Type 0
HaveResiduesBelow period spans = (s : Span) → Contains spans s → s.residue < period

-- one turn later
abbrev pub next_turn : Option ℤ → Option ℤ
next_turn None = None
next_turn (Some n) = Some (n +ℤ pos 1)

-- a span a step further on, within the turn
abbrev pub moved_within : ℕ → Span → Span
moved_within step s = record s { residue = s.residue + step }

-- a span a step further on, where this leads into the next turn
abbrev pub moved_past : ℕ → ℕ → Span → Span
moved_past period step s = record { residue = s.residue + step - period; first = next_turn s.first; last = next_turn s.last }

-- made has just the numbers that are a step greater than those of the spans, in order
pub record AreShifted (high period step : ℕ) (spans made : List Span) : Type 0 where
  pub to : (x : ℤ) → SpansHaveNumber period made x → SpansHaveNumber period spans (x -ℤ pos step)
  pub from : (x : ℤ) → SpansHaveNumber period spans x → SpansHaveNumber period made (x +ℤ pos step)
  pub ordered : AreOrdered (high + 1) made
  pub below : HaveResiduesBelow period made

-- the bound is the number of the residue in this turn, and none where there is none
abbrev pub IsTurnOf : ℤ → ℤ → Option ℤ → Option ℤ → Type 0
IsTurnOf period residue None turn = turn ≡ None
IsTurnOf period residue (Some a) turn = (n : ℤ) × (turn ≡ Some n) × (a ≡ residue +ℤ (period *ℤ n))

-- the span has just the numbers of the zone, which has one column
pub record IsSpanOf (z : ZoneView) (s : Span) : Type 0 where
  pub below : s.residue < z.period
  pub to : (n : ℤ) → HasTurn s s.residue n → IsMember z ((pos s.residue +ℤ (pos z.period *ℤ n)) ∷ [])
  pub from : (x : ℤ) → IsMember z (x ∷ []) → (n : ℤ) × (x ≡ pos s.residue +ℤ (pos z.period *ℤ n)) × HasTurn s s.residue n
  pub valid : IsSpan (2 ^ 62) s
