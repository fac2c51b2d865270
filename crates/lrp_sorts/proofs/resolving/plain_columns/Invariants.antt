use Rattle.std.proofs.Common.{◌≡◌, map, take}
use Rattle.lrp_model.specs.DatabaseMeaning.{column_of}
use Rattle.lrp_sorts.proofs.resolving.plain_columns.Given as goal

-- the columns so far
abbrev pub invariant-loop-column : goal.invariant-loop-column
invariant-loop-column l = l.made ≡ map column_of (take l.column-index l.columns)
