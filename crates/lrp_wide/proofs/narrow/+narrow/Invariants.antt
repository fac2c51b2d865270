use Rattle.std.proofs.Common.{take}
use Rattle.lrp_model.specs.RawQueries.{raw_forms_of}
use Rattle.lrp_wide.specs.Narrow.{AreUnstarred}
use Rattle.lrp_wide.proofs.narrow.+narrow.Given as goal

-- nothing is written out in the formulas so far
abbrev pub invariant-are_narrow-loop-f : goal.invariant-are_narrow-loop-f
invariant-are_narrow-loop-f l = AreUnstarred (raw_forms_of (take l.f-index l.fs))
