-- The first pairs have their axes.
use Rattle.std.proofs.Common.{◌<◌, length}
use Rattle.std.specs.Prelude.{Contains}
use Rattle.lrp_cutting.specs.Axes.{IsAxisOf}
use Rattle.lrp_cutting.specs.declared.axes.Axis.{Axis}
use Rattle.lrp_cutting.proofs.covering.axes_along.Given as goal

abbrev pub invariant-loop-pair : goal.invariant-loop-pair
invariant-loop-pair l = ((a : Axis) → Contains l.axes.items a → IsAxisOf l.zones a) × (0 < l.pair-index → 0 < length l.axes.items)
