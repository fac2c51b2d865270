use Rattle.lrp_plan_laws.proofs.RisingLaws.{reach_grows}
use Rattle.lrp_plan_laws.proofs.Ways.{rises_by, last_period_by}
use Rattle.lrp_plan_laws.proofs.laws.plan_rises.Goals as goal

pub returns-clause-steps : goal.returns-clause-steps
returns-clause-steps c = λ way db q h low s step e. rises_by way db q h low s step e

pub returns-clause-last : goal.returns-clause-last
returns-clause-last c = λ way db q. last_period_by way db q

pub returns-clause-grows : goal.returns-clause-grows
returns-clause-grows c = λ db at more K kind h. reach_grows db at more K kind h
