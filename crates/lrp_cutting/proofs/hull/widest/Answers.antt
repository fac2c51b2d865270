-- The bound of one more matrix is taken in.
use Rattle.lrp_cutting.proofs.Lists.{after_first, rest_in, first_in, read}
use Rattle.lrp_cutting.proofs.WidestLaws.{widest_one, widest_more}
use Rattle.lrp_cutting.proofs.hull.widest.Goals as goal

pub bound_of-widest-requires-clause-row : goal.bound_of-widest-requires-clause-row
bound_of-widest-requires-clause-row c = c.requires.place.left c.in_ok-first.first.now (first_in _ _ _ c.in_ok-first.ensures.cases.0)

pub bound_of-widest-requires-clause-column : goal.bound_of-widest-requires-clause-column
bound_of-widest-requires-clause-column c = c.requires.place.right c.in_ok-first.first.now (first_in _ _ _ c.in_ok-first.ensures.cases.0)

pub loop-matrix-init : goal.loop-matrix-init
loop-matrix-init c = rw c.in_ok-first.ensures.cases.0 (widest_one c.in_ok-first.first.now _ _ _ c.bound_of-widest.ensures)

pub bound_of-requires-clause-row : goal.bound_of-requires-clause-row
bound_of-requires-clause-row c = c.requires.place.left c.matrix-item.result (rest_in _ _ _ _ c.in_ok-first.ensures.cases.0 (read _ _ _ c.loop-matrix-test.true c.matrix-item.is))

pub bound_of-requires-clause-column : goal.bound_of-requires-clause-column
bound_of-requires-clause-column c = c.requires.place.right c.matrix-item.result (rest_in _ _ _ _ c.in_ok-first.ensures.cases.0 (read _ _ _ c.loop-matrix-test.true c.matrix-item.is))

pub bound_of-requires-clause-small : goal.bound_of-requires-clause-small
bound_of-requires-clause-small c = c.requires.place.small c.matrix-item.result (rest_in _ _ _ _ c.in_ok-first.ensures.cases.0 (read _ _ _ c.loop-matrix-test.true c.matrix-item.is))

pub loop-matrix-preserved : goal.loop-matrix-preserved
loop-matrix-preserved c =
    rw (after_first _ _ _ _ c.matrix-item.result c.in_ok-first.ensures.cases.0 c.loop-matrix-test.true c.matrix-item.is)
    (widest_more _ c.matrix-item.result _ _ _ _ _ c.loop-matrix.invariant c.bound_of.ensures c.wider-widest.ensures)
