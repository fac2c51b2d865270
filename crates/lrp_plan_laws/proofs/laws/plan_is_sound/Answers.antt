use Rattle.lrp_plan_laws.proofs.PlanSound.{steps_say}
use Rattle.lrp_plan_laws.proofs.Ways.{last_by}
use Rattle.lrp_plan_laws.proofs.laws.plan_is_sound.Goals as goal

pub returns-clause-steps : goal.returns-clause-steps
returns-clause-steps c = λ db q h env. steps_say db q h env

pub returns-clause-last : goal.returns-clause-last
returns-clause-last c = λ way db q tuple plain n k h. last_by way db q tuple plain n k h
