-- The bounds so far, and then those of the values left, after the time columns so far.
use Rattle.std.proofs.Common.{◌≡◌, ◌++◌, ◌+◌, ◌≤◌, drop}
use Rattle.lrp_model.specs.DatabaseMeaning.{instant_bounds}
use Rattle.lrp_rel.specs.Times.{points_in}
use Rattle.lrp_rel.proofs.meaning.keep_values.Given as goal

abbrev pub invariant-loop-value : goal.invariant-loop-value
invariant-loop-value l = record {
  bounds : l.bounds ++ instant_bounds (drop l.value-index l.values) l.before ≡ l.fn.bounds ++ instant_bounds l.values 0;
  few : l.before + points_in (drop l.value-index l.values) ≤ 8;
}
