-- The rows' periods are at least 1 since the relations are kept.
use Rattle.lrp_plan.proofs.KeptPeriods.{kept_low}
use Rattle.lrp_plan.proofs.Promised.{query_low}
use Rattle.lrp_plan.proofs.laws.kept_queries_have_periods.Goals as goal

pub returns : goal.returns
returns c = λ db q kept. query_low db q (kept_low db kept)
