-- Each of the numbers is one.
use Rattle.lrp_periods.proofs.LineLaws.{either_some, some_capped}
use Rattle.lrp_periods.proofs.bounding.cells_at_most.Goals as goal

pub returns-clause-within : goal.returns-clause-within
returns-clause-within c = either_some _ _ c.lesser.result _ c.lesser.ensures c.cells_together-together.ensures.within c.cells_of_line.ensures.within

pub returns-clause-few : goal.returns-clause-few
returns-clause-few c = either_some _ _ c.lesser.result _ c.lesser.ensures c.cells_together-together.ensures.few c.cells_of_line.ensures.few

pub returns-clause-capped : goal.returns-clause-capped
returns-clause-capped c = some_capped c.args.cap c.args.period c.args.parts.now c.lesser.result
    (either_some _ _ c.lesser.result _ c.lesser.ensures c.cells_together-together.ensures.within c.cells_of_line.ensures.within)
    (either_some _ _ c.lesser.result _ c.lesser.ensures c.cells_together-together.ensures.few c.cells_of_line.ensures.few)
