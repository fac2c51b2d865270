use Rattle.std.proofs.Common.{◌≤◌, length}
use Rattle.lrp_civil.proofs.PlainLemmas.{IsOnTheWay}
use Rattle.lrp_civil.proofs.plain.first_value.Given as goal

-- no value stands before the rest
abbrev pub invariant-loop-value : goal.invariant-loop-value
invariant-loop-value l = record { way : IsOnTheWay l.kind l.bytes l.rest; shorter : length l.rest ≤ length l.bytes }

abbrev pub decreases-loop-value : goal.decreases-loop-value
decreases-loop-value l = length l.rest
