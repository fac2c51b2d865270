use Rattle.lrp_plan_laws.proofs.Ways.{narrow_by, last_bound_by, core_bound_by}
use Rattle.lrp_plan_laws.proofs.laws.steps_are_narrow.Goals as goal

pub returns-clause-steps : goal.returns-clause-steps
returns-clause-steps c = λ way db q h top each s step e. narrow_by way db q h top each s step e

pub returns-clause-last : goal.returns-clause-last
returns-clause-last c = λ way db q bound. last_bound_by way db q bound

pub returns-clause-core : goal.returns-clause-core
returns-clause-core c = λ way db q bound h. core_bound_by way db q bound h
