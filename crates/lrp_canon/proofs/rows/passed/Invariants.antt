-- The stops so far come before the start.
use Rattle.std.proofs.Common.{◌-◌, ◌≤◌, length, take}
use Rattle.std.specs.Prelude.{Contains}
use Rattle.lrp_canon.specs.declared.edges.Edge.{Edge}
use Rattle.lrp_canon.specs.Edges.{IsEarlierEdge}
use Rattle.lrp_canon.proofs.rows.passed.Given as goal

abbrev pub invariant-loop-next : goal.invariant-loop-next
invariant-loop-next l = (l.next ≤ length l.stops) × ((e : Edge) → Contains (take l.next l.stops) e → IsEarlierEdge e l.start)

abbrev pub decreases-loop-next : goal.decreases-loop-next
decreases-loop-next l = length l.stops - l.next
