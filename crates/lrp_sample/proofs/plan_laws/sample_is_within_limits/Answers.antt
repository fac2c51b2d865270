use Rattle.lrp_sample.proofs.Days.{body_is_daily, reach_is_small, is_in_range}
use Rattle.lrp_sample.proofs.plan_laws.sample_is_within_limits.Goals as goal

pub returns-clause-period : goal.returns-clause-period
returns-clause-period c = λ seed size h. body_is_daily seed size h.some

pub returns-clause-reach : goal.returns-clause-reach
returns-clause-reach c = λ seed size h. reach_is_small seed size h.some

pub returns-clause-limits : goal.returns-clause-limits
returns-clause-limits c = λ seed size h. is_in_range seed size h.some
