use Rattle.std.proofs.Common.{◌≡◌, take, reverse}
use Rattle.lrp_model.specs.Sorting.{kind_sort, is_data_term}
use Rattle.lrp_model.specs.declared.raw.RawTermKind.TheVariants.{Var}
use Rattle.lrp_sorts.proofs.resolving.is_data_column.Given as goal

-- what the columns so far tell
abbrev pub invariant-loop-column : goal.invariant-loop-column
invariant-loop-column l = l.is_data ≡ is_data_term (kind_sort (reverse (take l.column-index l.columns)) (Var l.name))
