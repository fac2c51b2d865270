-- The names so far, and after them those of the columns that are left, are all.
use Rattle.std.proofs.Common.{◌≡◌, ◌++◌, drop}
use Rattle.lrp_tables.specs.Columns.{head_times}
use Rattle.lrp_steps.proofs.columns.times_of.Given as goal

abbrev pub invariant-loop-column : goal.invariant-loop-column
invariant-loop-column l = l.names ++ head_times (drop l.column-index l.head.columns) ≡ head_times l.head.columns
