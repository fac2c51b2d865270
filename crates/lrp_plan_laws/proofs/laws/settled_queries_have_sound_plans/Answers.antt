use Rattle.lrp_plan_laws.proofs.Ways.{sound_by}
use Rattle.lrp_plan_laws.proofs.laws.settled_queries_have_sound_plans.Goals as goal

pub returns : goal.returns
returns c = λ way db q h. sound_by way db q h
