-- The first holes are cut out.
use Rattle.std.proofs.Common.{◌≡◌, ◌+◌, ◌^◌, ◌++◌, List, take, drop}
use Rattle.lrp_spans.specs.declared.spans.Span.{Span}
use Rattle.lrp_spans.proofs.CutLaws.{AreCut}
use Rattle.lrp_spans.proofs.differences.push_left.Given as goal

abbrev pub invariant-loop-hole : goal.invariant-loop-hole
invariant-loop-hole l = (pieces : List Span) × (l.made.items ≡ l.initial.made.items ++ pieces) × AreCut (2 ^ 62 + 1) l.span (take l.hole-index l.holes) (drop l.hole-index l.holes) pieces l.left
