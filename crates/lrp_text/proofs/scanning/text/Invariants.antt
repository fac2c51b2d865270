use Rattle.std.proofs.Common.{◌≡◌, ◌+◌, ◌≤◌, length}
use Rattle.std.specs.Option.{option_map}
use Rattle.lrp_text.specs.Lexemes.{text_read}
use Rattle.lrp_text.proofs.scanning.text.Given as goal

-- the rest of the text gives the rest of its length, and ends where it does
abbrev pub invariant-loop-tail : goal.invariant-loop-tail
invariant-loop-tail l = record { size : option_map length (text_read l.fn.bytes).0 ≡ option_map (λ t. l.length + length t) (text_read l.rest).0; left : (text_read l.fn.bytes).1 ≡ (text_read l.rest).1; short : l.length + length l.rest ≤ length l.fn.bytes }

abbrev pub decreases-loop-tail : goal.decreases-loop-tail
decreases-loop-tail l = length l.rest
