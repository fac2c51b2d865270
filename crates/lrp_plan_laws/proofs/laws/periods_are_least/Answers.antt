use Rattle.std.proofs.Common.{◌≤◌}
use Rattle.lrp_plan_laws.proofs.PeriodLaws.{lcm_all_is}
use Rattle.lrp_plan_laws.proofs.SourcePeriods.{named_from}
use Rattle.lrp_plan_laws.proofs.laws.periods_are_least.Goals as goal

pub returns-clause-least : goal.returns-clause-least
returns-clause-least c = λ ks h. lcm_all_is ks h

pub returns-clause-sources : goal.returns-clause-sources
returns-clause-sources c = λ db q rows points. named_from (λ k. 1 ≤ k) q.body db rows points
