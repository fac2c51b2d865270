use Rattle.lrp_plan_laws.proofs.SettledLaws.{settled}
use Rattle.lrp_plan_laws.proofs.laws.sorted_queries_are_settled.Goals as goal

pub returns : goal.returns
returns c = λ db q sorted texts some low. settled db q sorted texts some low
