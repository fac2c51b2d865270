-- The number is not above the cap.
use Rattle.lrp_periods.proofs.LineLaws.{table_capped}
use Rattle.lrp_periods.proofs.Summing.{table_fewer}
use Rattle.lrp_periods.proofs.bounding.cells_of_table.Goals as goal

pub returns-in-Some-clause-capped : goal.returns-in-Some-clause-capped
returns-in-Some-clause-capped c = table_fewer c.in-Some.count c.args.cap c.args.period c.args.table.now c.in-Some.ensures.within c.in-Some.ensures.few

pub returns-in-None-clause-capped : goal.returns-in-None-clause-capped
returns-in-None-clause-capped c = table_capped c.args.cap c.args.period c.args.table.now c.cells_by_zones.result c.cells_by_zones.ensures.within c.cells_by_zones.ensures.few
