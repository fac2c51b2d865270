-- The groups that are not left are counted.
use Rattle.std.proofs.Common.{◌≡◌, ◌++◌, List}
use Rattle.std.specs.FinMap as finite
use Rattle.lrp_model.specs.declared.tuples.Cell.{Cell}
use Rattle.lrp_canon.specs.Counting.{IsCountOf}
use Rattle.lrp_canon.proofs.counting.rows_of.Given as goal

abbrev pub invariant-loop-group : goal.invariant-loop-group
invariant-loop-group l = (done : List Cell) × (done ++ l.group-iterator ≡ finite.keys l.groups.lists) × IsCountOf l.periods l.groups.lists done l.rows
