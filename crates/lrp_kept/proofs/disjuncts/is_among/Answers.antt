use Rattle.lrp_kept.proofs.Covering.{is_among_is}
use Rattle.lrp_kept.proofs.disjuncts.is_among.Goals as goal

pub returns : goal.returns
returns c = is_among_is c.place_of.result c.args.names.now c.args.name.now c.is_some.result c.is_some.ensures c.place_of.ensures.some c.place_of.ensures.none
