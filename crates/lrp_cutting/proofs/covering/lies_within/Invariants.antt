-- The bounds of the first rows are below.
use Rattle.std.proofs.Common.{ℕ, ◌+◌, ◌<◌}
use Rattle.lrp_zone.specs.Zones.{columns_of}
use Rattle.lrp_cutting.specs.Covering.{IsBelowInRow}
use Rattle.lrp_cutting.proofs.covering.lies_within.Given as goal

abbrev pub invariant-loop-left : goal.invariant-loop-left
invariant-loop-left l = (i : ℕ) → i < l.left → IsBelowInRow (columns_of l.other + 1) l.closed.cells l.other.bounds i
