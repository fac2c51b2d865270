use Rattle.std.proofs.Common.{length, arith}
use Rattle.lrp_model.specs.Satisfaction.{structure}
use Rattle.lrp_model.specs.Core.{guarded, has_named_sort}
use Rattle.lrp_model.specs.Plans.{core_steps}
use Rattle.lrp_model.specs.declared.plans.StepKind.TheVariants.{Extend}
use Rattle.lrp_plan_laws.proofs.Elements.{length_made}
use Rattle.lrp_plan_laws.proofs.Ways.{made_by, points_by, head_by, only_head_by}
use Rattle.lrp_plan_laws.proofs.laws.steps_are_made.Goals as goal

pub returns-clause-steps : goal.returns-clause-steps
returns-clause-steps c = λ way db q h s step e. made_by way db q h s step e

pub returns-clause-points : goal.returns-clause-points
returns-clause-points c = λ way db q h s step e. points_by way db q h s step e

pub returns-clause-last : goal.returns-clause-last
returns-clause-last c = λ way db q. head_by way db q

pub returns-clause-other : goal.returns-clause-other
returns-clause-other c = λ way db q h s step e of kind. only_head_by way db q h s step e of kind

pub returns-clause-count : goal.returns-clause-count
returns-clause-count c = λ db q. let e = length_made (structure db q) (Extend (length (core_steps db q))) (guarded (has_named_sort db) q.head q.body) (core_steps db q) in omega (arith, e)
