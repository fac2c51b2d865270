use Rattle.std.proofs.Common.{take}
use Rattle.lrp_model.specs.RawQueries.{HaveNoOperator, raw_forms_of}
use Rattle.lrp_wide.proofs.narrow.+plain.Given as goal

-- no operator stands in the formulas so far
abbrev pub invariant-are_plain-loop-f : goal.invariant-are_plain-loop-f
invariant-are_plain-loop-f l = HaveNoOperator (raw_forms_of (take l.f-index l.fs))
