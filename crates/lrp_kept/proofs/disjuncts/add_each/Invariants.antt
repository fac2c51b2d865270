use Rattle.std.proofs.Common.{take}
use Rattle.lrp_core.specs.Cores.{cores_of}
use Rattle.lrp_kept.specs.Drafts.{AreAdded}
use Rattle.lrp_kept.proofs.disjuncts.add_each.Given as goal

-- those of the formulas so far
abbrev pub invariant-loop-core : goal.invariant-loop-core
invariant-loop-core l = AreAdded (cores_of (take l.core-index l.cores)) l.fn.draft l.draft
