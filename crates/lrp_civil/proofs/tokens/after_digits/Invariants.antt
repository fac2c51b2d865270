use Rattle.std.proofs.Common.{◌≡◌, length}
use Rattle.lrp_model.specs.Lexing.{after_run}
use Rattle.std.specs.Char.{is_ascii_digit}
use Rattle.lrp_civil.proofs.tokens.after_digits.Given as goal

-- going on from here gives the same
abbrev pub invariant-loop-rest : goal.invariant-loop-rest
invariant-loop-rest l = after_run is_ascii_digit l.rest ≡ after_run is_ascii_digit l.fn.bytes

abbrev pub decreases-loop-rest : goal.decreases-loop-rest
decreases-loop-rest l = length l.rest
