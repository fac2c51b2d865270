-- The head is looked at before the query is planned.
use Rattle.std.proofs.Common.{Ok, Err, refl}
use Rattle.lrp_outputs.specs.declared.refusal.Refusal.TheVariants.{Head}
use Rattle.lrp_top.proofs.question.fit_plan.Goals as goal

pub returns-in-None-clause-planned : goal.returns-in-None-clause-planned
returns-in-None-clause-planned c = record { first = Ok tt; is = c.in-None.ensures.fit; next = c.plan_of.ensures.planned }

pub returns-in-Some-clause-planned : goal.returns-in-Some-clause-planned
returns-in-Some-clause-planned c = record { first = Err (Head c.in-Some.unmet); is = c.in-Some.ensures.unfit; next = refl }
