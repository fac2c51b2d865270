-- The keeper's least answer is the query's.
use Rattle.lrp_watch.proofs.Known.{least_told}
use Rattle.lrp_watch.proofs.watching.least_of.Goals as goal

pub returns : goal.returns
returns c = least_told c.args.keep.now c.spots_stand_for_tuples.ensures.tuple c.least.result c.least.ensures
