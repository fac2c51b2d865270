-- Both joins, the drop and the difference, each by its call.
use Rattle.lrp_eval.proofs.ComplementJoins.{joins, joins_left, narrowed_complement, rest_reach, taken_minus, worded_complement}
use Rattle.lrp_eval.proofs.NarrowLaws.{unworded, worded}
use Rattle.lrp_eval.proofs.complementing.narrow_by_complement.Goals as goal
use Rattle.lrp_cutting.proofs.Lists.{if_ok}

pub join-requires : goal.join-requires
join-requires c = joins (worded _ _ _ _ c.requires.narrow) (worded_complement _ _ _ _ _ _ c.requires.narrow c.requires.outside) c.new-tests.ensures

pub join-requires-2 : goal.join-requires-2
join-requires-2 c = joins_left (worded _ _ _ _ c.requires.narrow) (worded_complement _ _ _ _ _ _ c.requires.narrow c.requires.outside) c.new-tests.ensures c.in_ok-part.ensures

pub drop_time-requires : goal.drop_time-requires
drop_time-requires c = record { reach = rest_reach (worded _ _ _ _ c.requires.narrow) (worded_complement _ _ _ _ _ _ c.requires.narrow c.requires.outside) c.new-tests.ensures c.in_ok-part.ensures c.in_ok-rest.ensures }

pub minus-requires : goal.minus-requires
minus-requires c = taken_minus (worded _ _ _ _ c.requires.narrow) (worded_complement _ _ _ _ _ _ c.requires.narrow c.requires.outside) c.new-tests.ensures c.in_ok-part.ensures c.in_ok-rest.ensures c.in_ok-taken.ensures.dropped

pub returns : goal.returns
returns c = if_ok _ _ c.minus.result (λ made is. unworded _ _ _ _ _ made c.requires.narrow is)
    (narrowed_complement (worded _ _ _ _ c.requires.narrow) (worded_complement _ _ _ _ _ _ c.requires.narrow c.requires.outside) c.new-tests.ensures c.in_ok-part.ensures c.in_ok-rest.ensures c.in_ok-taken.ensures.dropped c.minus.result c.minus.ensures.difference c.minus.ensures.valid)
