use Rattle.std.proofs.Common.{◌≡◌, map, take}
use Rattle.lrp_model.specs.Printed.{quoted}
use Rattle.lrp_answer_text.proofs.texts.JsonTexts.new.Given as goal

-- the texts so far
abbrev pub invariant-loop-number : goal.invariant-loop-number
invariant-loop-number l = l.texts ≡ map quoted (take l.number l.domain)
