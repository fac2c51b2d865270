use Rattle.lrp_plan.proofs.WholePeriods.{rows_some, rows_none}
use Rattle.lrp_plan.proofs.wholes.with_rows.Goals as goal

pub returns-in-Some : goal.returns-in-Some
returns-in-Some c = rows_some c.args.period.number c.args.rows c.in-Some.rows _ c.in-Some.is c.with.ensures

pub returns-in-None : goal.returns-in-None
returns-in-None c = rows_none c.args.period.number c.args.rows c.in-None.is
