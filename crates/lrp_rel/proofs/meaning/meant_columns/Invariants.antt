-- The columns so far are those taken so far.
use Rattle.std.proofs.Common.{◌≡◌, map}
use Rattle.lrp_model.specs.DatabaseMeaning.{column_of}
use Rattle.lrp_rel.proofs.meaning.meant_columns.Given as goal

abbrev pub invariant-loop-column : goal.invariant-loop-column
invariant-loop-column l = l.made ≡ map column_of l.yielded
