use Rattle.std.proofs.Common.{◌≡◌, ◌++◌, List, take}
use Rattle.lrp_model.specs.RawQueries.{raw_forms_of}
use Rattle.lrp_wide.specs.Counts.{AreRelationsNumbered, kept_each}
use Rattle.lrp_wide.specs.Inlining.{Known}
use Rattle.lrp_wide.proofs.numbering.+numbering.Given as goal

-- the atoms of the formulas so far
abbrev pub invariant-count_each-loop-f : goal.invariant-count_each-loop-f
invariant-count_each-loop-f l = (ks : List Known) → AreRelationsNumbered ks l.definitions.definitions l.known → l.numbers ≡ l.fn.numbers ++ kept_each l.definitions.relations ks (raw_forms_of (take l.f-index l.fs))
