use Rattle.std.proofs.Common.{take}
use Rattle.std.specs.List.{AllByRecursion}
use Rattle.lrp_wide.specs.Narrow.{HasNoStar}
use Rattle.lrp_wide.proofs.narrow.has_no_star.Given as goal

-- none of the terms so far is a `*`
abbrev pub invariant-loop-term : goal.invariant-loop-term
invariant-loop-term l = AllByRecursion HasNoStar (take l.term-index l.terms)
