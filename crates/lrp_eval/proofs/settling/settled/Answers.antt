-- A store of single zones is settled as it is.
use Rattle.lrp_eval.proofs.SingleLaws.{singles_settled}
use Rattle.lrp_eval.proofs.settling.settled.Goals as goal

pub returns-then-has_single_zones : goal.returns-then-has_single_zones
returns-then-has_single_zones c = singles_settled c.args.store c.requires.valid (c.has_single_zones.ensures c.if-has_single_zones.true)
