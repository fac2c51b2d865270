-- The rows of the first starts, and the stops that come before the last of these.
use Rattle.std.proofs.Common.{◌≡◌, ℕ, ◌<◌, ◌≤◌, get_or, length, take, drop}
use Rattle.std.specs.Prelude.{Contains}
use Rattle.lrp_canon.specs.declared.edges.Edge.{Edge}
use Rattle.lrp_canon.specs.declared.rows.MaximalRow.{MaximalRow}
use Rattle.lrp_canon.specs.Edges.{IsEarlierEdge}
use Rattle.lrp_canon.specs.Making.{IsRowFrom}
use Rattle.lrp_canon.proofs.rows.paired.Given as goal

abbrev pub invariant-loop-start : goal.invariant-loop-start
invariant-loop-start l = record {
  place : l.next ≤ length l.stops;
  before : (s : Edge) → Contains (drop l.start-index l.starts) s → (e : Edge) → Contains (take l.next l.stops) e → IsEarlierEdge e s;
  count : length l.made.items ≡ l.start-index;
  each : (i : ℕ) (e : Edge) (row : MaximalRow) → i < l.start-index → IsRowFrom l.period l.stops (get_or l.starts i e) (get_or l.made.items i row);
}
