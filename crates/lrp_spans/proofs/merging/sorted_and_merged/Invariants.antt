-- The first spans are merged.
use Rattle.std.proofs.Common.{take, ◌∷◌}
use Rattle.lrp_spans.proofs.MergeLaws.{AreMerging}
use Rattle.lrp_spans.proofs.merging.sorted_and_merged.Given as goal

abbrev pub invariant-loop-next : goal.invariant-loop-next
invariant-loop-next l = AreMerging (l.initial.last ∷ take l.next-index l.rest) l.made.items l.last
