use Rattle.std.proofs.Common.{take, List}
use Rattle.lrp_model.specs.RawQueries.{raw_forms_of}
use Rattle.lrp_wide.specs.Inlining.{Known}
use Rattle.lrp_wide.specs.Sizes.{AreMeasured, IsSizeInEach}
use Rattle.lrp_wide.proofs.measures.+measuring.Given as goal

-- the size of the members so far
abbrev pub invariant-sizes_of-loop-f : goal.invariant-sizes_of-loop-f
invariant-sizes_of-loop-f l = (ks : List Known) → AreMeasured ks l.definitions.definitions l.known → IsSizeInEach l.definitions.relations ks l.all (raw_forms_of (take l.f-index l.fs))
