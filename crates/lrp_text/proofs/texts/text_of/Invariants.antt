use Rattle.std.proofs.Common.{◌≡◌, ◌++◌, drop, length}
use Rattle.std.specs.Option.{option_map}
use Rattle.lrp_text.specs.Lexemes.{text_read}
use Rattle.lrp_text.proofs.texts.text_of.Given as goal

-- the bytes so far and the meaning of those left are the text
abbrev pub invariant-loop-b : goal.invariant-loop-b
invariant-loop-b l = (text_read (drop 1 l.fn.slice)).0 ≡ option_map (λ t. l.made.items ++ t) (text_read l.rest).0

abbrev pub decreases-loop-b : goal.decreases-loop-b
decreases-loop-b l = length l.rest
