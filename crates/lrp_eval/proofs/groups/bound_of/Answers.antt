-- The parts' periods divide the period, and the count is one of the cap too.
use Rattle.lrp_eval.proofs.GroupLaws.{bound_few, bound_low, bound_multiples}
use Rattle.lrp_eval.proofs.groups.bound_of.Goals as goal

pub cells_at_most-requires-clause-low : goal.cells_at_most-requires-clause-low
cells_at_most-requires-clause-low c = bound_low c.args.setting.now.domain.now c.args.step.now.period c.args.parts.now c.requires

pub cells_at_most-requires-clause-multiples : goal.cells_at_most-requires-clause-multiples
cells_at_most-requires-clause-multiples c = bound_multiples c.args.setting.now.domain.now c.args.step.now.period c.args.parts.now c.requires

pub returns : goal.returns
returns c = bound_few c.args.setting.now.cap c.args.setting.now.domain.now c.args.step.now.period c.args.parts.now c.cells_at_most.result c.requires c.cells_at_most.ensures.capped
