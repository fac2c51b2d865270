use Rattle.std.proofs.Common.{take}
use Rattle.std.specs.List.{AllByRecursion}
use Rattle.lrp_model.specs.DataTexts.{IsDataText}
use Rattle.lrp_model.proofs.domain.are_whole.Given as goal

-- the texts so far are data texts
abbrev pub invariant-loop-text : goal.invariant-loop-text
invariant-loop-text l = AllByRecursion IsDataText (take l.text-index l.texts)
