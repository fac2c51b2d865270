use Rattle.std.proofs.Common.{◌≡◌, drop}
use Rattle.lrp_model.specs.Printed.{time_name}
use Rattle.lrp_print.proofs.relations.name_of_time.Given as goal

-- the name is that of the number left among the columns left
abbrev pub invariant-loop-column : goal.invariant-loop-column
invariant-loop-column l = time_name l.columns l.number ≡ time_name (drop l.column-index l.columns) l.left
