-- Some tables are after those that were there.
use Rattle.std.proofs.Common.{◌≡◌, ◌++◌, List, length}
use Rattle.lrp_tables.specs.declared.table.Table.{Table}
use Rattle.lrp_eval.proofs.evaluation.with_together.Given as goal

abbrev pub invariant-loop-turn : goal.invariant-loop-turn
invariant-loop-turn l = (more : List Table) × (length more ≡ l.turn) × (l.tables ≡ l.initial.tables ++ more)
