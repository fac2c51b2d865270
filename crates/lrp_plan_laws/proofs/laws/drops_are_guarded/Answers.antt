use Rattle.lrp_plan_laws.proofs.GuardLaws.{drops_guarded}
use Rattle.lrp_plan_laws.proofs.Grounds.{guarded_drops}
use Rattle.lrp_plan_laws.proofs.laws.drops_are_guarded.Goals as goal

pub returns-clause-written : goal.returns-clause-written
returns-clause-written c = λ db q h plain s step e. drops_guarded db q h plain s step e

pub returns-clause-guarded : goal.returns-clause-guarded
returns-clause-guarded c = λ db q h texts s step e. guarded_drops db q h texts s step e
