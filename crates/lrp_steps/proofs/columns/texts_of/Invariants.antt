-- The names so far, and after them those of the columns that are left, are all.
use Rattle.std.proofs.Common.{◌≡◌, ◌++◌, drop}
use Rattle.lrp_tables.specs.Columns.{head_texts}
use Rattle.lrp_steps.proofs.columns.texts_of.Given as goal

abbrev pub invariant-loop-column : goal.invariant-loop-column
invariant-loop-column l = l.names ++ head_texts (drop l.column-index l.head.columns) ≡ head_texts l.head.columns
