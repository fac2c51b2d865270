-- The rows before are listed.
use Rattle.std.proofs.Common.{◌<◌}
use Rattle.std.specs.Prelude.{Contains}
use Rattle.lrp_model.specs.declared.relations.Bound.{Bound}
use Rattle.lrp_cutting.specs.Leaving.{IsStoredBound}
use Rattle.lrp_cutting.proofs.stored.stored.Given as goal

abbrev pub invariant-loop-left : goal.invariant-loop-left
invariant-loop-left l = record {
  each : (b : Bound) → Contains l.made.items b → IsStoredBound l.zone b;
  rows : (b : Bound) → IsStoredBound l.zone b → b.left < l.left → Contains l.made.items b;
}
