-- No fewer places are a shift.
use Rattle.std.proofs.Common.{◌<◌, ℕ}
use Rattle.lrp_spans.specs.Repeating.{IsShift}
use Rattle.lrp_spans.proofs.residues.least_period.Given as goal

abbrev pub invariant-loop-places : goal.invariant-loop-places
invariant-loop-places l = (q : ℕ) → 0 < q → q < l.places → IsShift l.period l.residues q → ⊥
