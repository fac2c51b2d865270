-- The spans of the hulls that were gone over.
use Rattle.std.proofs.Common.{◌≡◌, map, take}
use Rattle.lrp_hulls.specs.Spans.{text_span_at}
use Rattle.lrp_hulls.specs.declared.hull.Hull.{Hull}
use Rattle.lrp_hulls.proofs.columns.text_column.Given as goal

abbrev pub invariant-loop-hull : goal.invariant-loop-hull
invariant-loop-hull l = l.made.items ≡ map (λ (hull : Hull). text_span_at hull.texts l.i) (take l.hull-index l.hulls)
