-- A list of one column of times.
use Rattle.std.proofs.Common.{ap, length}
use Rattle.lrp_model.specs.Sorts.{time_count}
use Rattle.lrp_table_tests.proofs.parts.head.Goals as goal

pub returns-clause-times : goal.returns-clause-times
returns-clause-times g c = ap time_count c.list-columns.ensures

pub returns-clause-all : goal.returns-clause-all
returns-clause-all g c = ap length c.list-columns.ensures
