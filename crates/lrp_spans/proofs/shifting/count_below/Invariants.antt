-- The spans so far have residues below the end.
use Rattle.std.proofs.Common.{◌-◌, ◌≤◌, length, take}
use Rattle.lrp_spans.specs.Spans.{HaveResiduesBelow}
use Rattle.lrp_spans.proofs.shifting.count_below.Given as goal

abbrev pub invariant-loop-next : goal.invariant-loop-next
invariant-loop-next l = (l.next ≤ length l.spans) × HaveResiduesBelow l.end (take l.next l.spans)

abbrev pub decreases-loop-next : goal.decreases-loop-next
decreases-loop-next l = length l.spans - l.next
