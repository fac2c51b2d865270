use Rattle.lrp_holdings.specs.Winners.{value_numbered}
use Rattle.lrp_holdings.proofs.Tournament.{match_of}
use Rattle.lrp_holdings.proofs.winners.match_at.Goals as goal

pub returns : goal.returns
returns g c = match_of g.V.Ranked.leads g.met.V.Ranked.itself g.met.V.Ranked.onward (value_numbered c.args.slots.now) c.args.winners.now.items c.args.slot c.own-own.result c.winner-left.result c.winner-right.result c.first_of.result c.first_of-2.result c.own-own.ensures.some c.own-own.ensures.none c.winner-left.ensures c.winner-right.ensures
    c.first_of.ensures.is c.first_of.ensures.one c.first_of.ensures.other c.first_of-2.ensures.is c.first_of-2.ensures.one c.first_of-2.ensures.other
