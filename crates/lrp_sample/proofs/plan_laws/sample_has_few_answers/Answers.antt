-- By the tuples of the trips.
use Rattle.lrp_sample.proofs.FirstDay.{few_of_day}
use Rattle.lrp_sample.proofs.plan_laws.sample_has_few_answers.Goals as goal

pub returns : goal.returns
returns c = λ seed size page rises each. few_of_day seed size page rises each
