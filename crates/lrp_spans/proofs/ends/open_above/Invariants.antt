-- The residues of the first spans.
use Rattle.std.proofs.Common.{take}
use Rattle.lrp_spans.specs.Spans.{AreOpenAbove}
use Rattle.lrp_spans.proofs.ends.open_above.Given as goal

abbrev pub invariant-loop-span : goal.invariant-loop-span
invariant-loop-span l = AreOpenAbove (take l.span-index l.spans) l.made.items
