use Rattle.lrp_holdings.proofs.Holding.{is_released, released_held}
use Rattle.lrp_holdings.proofs.holdings.Holdings.release.Goals as goal

pub invariant_of-self : goal.invariant_of-self
invariant_of-self g c = record {
  chained = released_held c.args.number c.self.inside.slots c.release.new.slots c.self.inside.chains.items c.release.new.chains.items c.self.invariant.chained c.release.ensures.released c.release.ensures.chained;
  ranked = c.release.ensures.ranked;
}

pub returns : goal.returns
returns g c = is_released c.args.number c.self.inside.slots c.release.new.slots c.args.self.now c.self.view_is c.release.ensures.released

pub release-requires-clause-chained : goal.release-requires-clause-chained
release-requires-clause-chained g c = c.self.invariant.chained.chained

pub release-requires-clause-short : goal.release-requires-clause-short
release-requires-clause-short g c = c.self.invariant.chained.short

pub release-requires-clause-ranked : goal.release-requires-clause-ranked
release-requires-clause-ranked g c = c.self.invariant.ranked
