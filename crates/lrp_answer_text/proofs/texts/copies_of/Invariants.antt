use Rattle.std.proofs.Common.{◌≡◌, take}
use Rattle.lrp_answer_text.proofs.texts.copies_of.Given as goal

-- the texts so far
abbrev pub invariant-loop-text : goal.invariant-loop-text
invariant-loop-text l = l.made ≡ take l.text-index l.texts
