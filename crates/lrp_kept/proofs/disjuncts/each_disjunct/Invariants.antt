use Rattle.std.proofs.Common.{take}
use Rattle.lrp_core.specs.Cores.{cores_of}
use Rattle.lrp_kept.specs.Choices.{as_list}
use Rattle.lrp_kept.specs.Drafts.{AreDisjuncts}
use Rattle.lrp_kept.specs.Held.{names_of}
use Rattle.lrp_kept.proofs.disjuncts.each_disjunct.Given as goal

-- those of the formulas so far
abbrev pub invariant-loop-core : goal.invariant-loop-core
invariant-loop-core l = AreDisjuncts (names_of l.rows) (as_list (cores_of (take l.core-index l.cores))) l.all.items
