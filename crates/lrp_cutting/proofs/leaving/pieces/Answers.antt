-- What is left of the zone is a difference in few pieces.
use Rattle.lrp_cutting.proofs.CountLaws.{difference_of, few_left}
use Rattle.lrp_cutting.proofs.Lists.{greatest_below, if_ok}
use Rattle.lrp_cutting.proofs.leaving.pieces.Goals as goal

pub returns-clause-difference : goal.returns-clause-difference
returns-clause-difference c = if_ok _ _ c.left_over.result (λ made left. difference_of c.args.zone.now c.args.cutters.now _ made left) c.left_over.ensures

pub returns-clause-reach : goal.returns-clause-reach
returns-clause-reach c = if_ok _ _ c.left_over.result (λ made left. greatest_below made _ left.reach) c.left_over.ensures

pub returns-clause-count : goal.returns-clause-count
returns-clause-count c = if_ok _ _ c.left_over.result (λ made left. few_left c.args.zone.now c.args.cutters.now _ made c.requires.cell left) c.left_over.ensures
