-- The edges of the first spans are appended.
use Rattle.std.proofs.Common.{take}
use Rattle.lrp_spans.specs.Spans.{SpansHaveNumber}
use Rattle.lrp_canon.specs.Edges.{AddsEdges}
use Rattle.lrp_canon.proofs.edges.push_numbers.Given as goal

abbrev pub invariant-loop-span : goal.invariant-loop-span
invariant-loop-span l = AddsEdges l.periods.least (SpansHaveNumber l.periods.whole (take l.span-index l.spans)) l.initial.edges.items l.edges.items
