use Rattle.std.proofs.Common.{◌≡◌, ◌+◌, ◌≤◌, drop}
use Rattle.lrp_model.specs.Sorts.{time_count}
use Rattle.lrp_kept.proofs.limits.times_of.Given as goal

-- those so far, and those of the columns that are left
abbrev pub invariant-loop-column : goal.invariant-loop-column
invariant-loop-column l = record {
  low : l.count ≤ l.column-index;
  all : l.count + time_count (drop l.column-index l.columns) ≡ time_count l.columns;
}
