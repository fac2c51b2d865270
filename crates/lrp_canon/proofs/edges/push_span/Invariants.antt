-- The edges of the first turns are appended.
use Rattle.std.proofs.Common.{◌≡◌, ◌⊎◌}
use Rattle.std.specs.Prelude.{pos, ◌≤ℤ◌, ◌-ℤ◌}
use Rattle.lrp_theory.specs.Bounds.{Within}
use Rattle.lrp_canon.specs.Edges.{AddsEdges}
use Rattle.lrp_canon.proofs.PushLaws.{IsInTurns}
use Rattle.lrp_canon.proofs.edges.push_span.Given as goal

abbrev pub invariant-loop-turn : goal.invariant-loop-turn
invariant-loop-turn l = record {
  low : l.initial.turn ≤ℤ l.turn;
  high : (l.turn ≡ l.initial.turn) ⊎ Within (l.turn -ℤ pos 1) l.span.last;
  added : AddsEdges l.periods.least (IsInTurns l.periods.whole l.span.residue l.initial.turn l.turn) l.initial.edges.items l.edges.items;
}
