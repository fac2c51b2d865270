-- The holes so far come before the span.
use Rattle.std.proofs.Common.{◌-◌, ◌≤◌, length, take}
use Rattle.lrp_spans.specs.Spans.{AreBefore}
use Rattle.lrp_spans.proofs.differences.passed.Given as goal

abbrev pub invariant-loop-next : goal.invariant-loop-next
invariant-loop-next l = (l.next ≤ length l.holes) × AreBefore (take l.next l.holes) l.span

abbrev pub decreases-loop-next : goal.decreases-loop-next
decreases-loop-next l = length l.holes - l.next
