-- The least answer of a query is that of its answers.
use Rattle.lrp_top.proofs.Answered.{known_least, told_least}
use Rattle.lrp_top.proofs.SampleLemmas.{least_is}
use Rattle.lrp_top.proofs.serving.least_of.Goals as goal

pub invariant_of-result : goal.invariant_of-result
invariant_of-result c = record { known = known_least c.spots_stand_for_tuples.ensures.known c.args.answer c.least-least.result c.least-least.ensures.some }

pub returns : goal.returns
returns c = record {
  least = λ planned db q cap is. told_least c.spots_stand_for_tuples.ensures.tuple planned db q cap c.args.answer is c.args.dates c.least-least.result c.least-least.ensures.none c.least-least.ensures.some;
  first = λ planned db q cap is. least_is c.spots_stand_for_tuples.ensures.tuple planned db q cap c.args.answer c.least-least.result is c.least-least.ensures.none c.least-least.ensures.some;
}
