use Rattle.std.proofs.Common.{◌≡◌, false, length}
use Rattle.lrp_model.specs.Lexing.{text_from}
use Rattle.lrp_civil.specs.Tokens.{after_quoted}
use Rattle.lrp_civil.proofs.tokens.after_text.Given as goal

-- the rest of the text ends where it does
abbrev pub invariant-loop-tail : goal.invariant-loop-tail
invariant-loop-tail l = after_quoted (text_from false l.fn.bytes) ≡ after_quoted (text_from false l.rest)

abbrev pub decreases-loop-tail : goal.decreases-loop-tail
decreases-loop-tail l = length l.rest
