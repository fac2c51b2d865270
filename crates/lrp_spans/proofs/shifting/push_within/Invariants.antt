-- The first spans are appended, moved.
use Rattle.std.proofs.Common.{◌≡◌, ◌++◌, map, take}
use Rattle.lrp_spans.specs.Spans.{moved_within}
use Rattle.lrp_spans.proofs.shifting.push_within.Given as goal

abbrev pub invariant-loop-span : goal.invariant-loop-span
invariant-loop-span l = l.made.items ≡ l.initial.made.items ++ map (moved_within l.step) (take l.span-index l.spans)
