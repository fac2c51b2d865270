use Rattle.std.proofs.Common.{◌≡◌, ◌+◌, ℕ, min, length}
use Rattle.std.specs.Str.Parse.{digits_value_after, digits_value}
use Rattle.lrp_model.specs.Lexing.{run, after_run}
use Rattle.std.specs.Char.{is_ascii_digit}
use Rattle.lrp_model.specs.Limits.{greatest_number}
use Rattle.lrp_text.proofs.bytes.number.Given as goal

-- the digits left give the rest of the value, which is kept up to one more than the limit
abbrev pub invariant-loop-rest : goal.invariant-loop-rest
invariant-loop-rest l = (n : ℕ) × (l.value ≡ min n (greatest_number + 1)) × (digits_value_after 10 n (run is_ascii_digit l.rest) ≡ digits_value 10 (run is_ascii_digit l.fn.bytes)) × (after_run is_ascii_digit l.rest ≡ after_run is_ascii_digit l.fn.bytes)

abbrev pub decreases-loop-rest : goal.decreases-loop-rest
decreases-loop-rest l = length l.rest
