-- The first spans are done, and the holes so far come before those that are left.
use Rattle.std.proofs.Common.{◌+◌, ◌≤◌, ◌^◌, drop, length, take}
use Rattle.std.specs.Prelude.{Contains}
use Rattle.lrp_spans.specs.declared.spans.Span.{Span}
use Rattle.lrp_spans.specs.Spans.{AreBefore, IsSpanDifference}
use Rattle.lrp_spans.proofs.differences.difference.Given as goal

abbrev pub invariant-loop-span : goal.invariant-loop-span
invariant-loop-span l = record {
  place : l.next ≤ length l.holes;
  before : (s : Span) → Contains (drop l.span-index l.spans) s → AreBefore (take l.next l.holes) s;
  done : IsSpanDifference (2 ^ 62 + 1) (take l.span-index l.spans) l.holes l.made.items;
}
