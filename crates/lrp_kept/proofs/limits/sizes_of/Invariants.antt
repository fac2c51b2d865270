use Rattle.std.proofs.Common.{take}
use Rattle.lrp_kept.specs.Held.{greatest_bounds}
use Rattle.lrp_kept.specs.Sizes.{AreSizes}
use Rattle.lrp_kept.proofs.limits.sizes_of.Given as goal

-- of the disjuncts so far
abbrev pub invariant-loop-disjunct : goal.invariant-loop-disjunct
invariant-loop-disjunct l = AreSizes (greatest_bounds l.relations) l.period.number (take l.disjunct-index l.disjuncts) l.most
