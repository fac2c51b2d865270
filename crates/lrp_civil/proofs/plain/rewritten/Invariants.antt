use Rattle.std.proofs.Common.{◌≡◌, ◌++◌, length}
use Rattle.lrp_civil.specs.PlainText.{plain_bytes_of}
use Rattle.lrp_civil.proofs.plain.rewritten.Given as goal

-- what was written and what the rest gives
abbrev pub invariant-loop-found : goal.invariant-loop-found
invariant-loop-found l = l.text.items ++ plain_bytes_of l.kind l.rest ≡ plain_bytes_of l.kind l.bytes

abbrev pub decreases-loop-found : goal.decreases-loop-found
decreases-loop-found l = length l.rest
