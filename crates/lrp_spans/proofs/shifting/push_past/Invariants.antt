-- The first spans are appended, moved.
use Rattle.std.proofs.Common.{◌≡◌, ◌++◌, map, take}
use Rattle.lrp_spans.specs.Spans.{moved_past}
use Rattle.lrp_spans.proofs.shifting.push_past.Given as goal

abbrev pub invariant-loop-span : goal.invariant-loop-span
invariant-loop-span l = l.made.items ≡ l.initial.made.items ++ map (moved_past l.period l.step) (take l.span-index l.spans)
