use Rattle.lrp_plan.proofs.WholePeriods.{facts_some, facts_none}
use Rattle.lrp_plan.proofs.wholes.with_facts.Goals as goal

pub returns-in-Some : goal.returns-in-Some
returns-in-Some c = facts_some c.args.facts c.args.period c.in-Some.period _ c.in-Some.is c.with_rows.ensures

pub returns-in-None : goal.returns-in-None
returns-in-None c = facts_none c.args.facts c.args.period c.in-None.is
