use Rattle.std.proofs.Common.{refl}
use Rattle.lrp_holdings.specs.Chains.{with_next}
use Rattle.lrp_holdings.proofs.Relinked.{before_stands, if_changed_stands, next_stands, number_below, relinked_twice, taken}
use Rattle.lrp_holdings.proofs.chains.unlink.Goals as goal

pub set_next-requires : goal.set_next-requires
set_next-requires g c = before_stands c.args.slots.now c.args.chains.now.items c.args.link c.owner_of-owner.result c.requires.chained c.owner_of-owner.ensures c.owner_of-owner.result.before refl

pub set_before-requires : goal.set_before-requires
set_before-requires g c =
    if_changed_stands (with_next c.owner_of-owner.result.next) c.args.slots.now c.set_next.new.slots c.owner_of-owner.result.before c.owner_of-owner.result.next c.set_next.ensures
    (next_stands c.args.slots.now c.args.chains.now.items c.args.link c.owner_of-owner.result c.requires.chained c.owner_of-owner.ensures c.owner_of-owner.result.next refl)

pub set_first-requires : goal.set_first-requires
set_first-requires g c = number_below c.args.slots.now c.args.chains.now.items c.args.link c.owner_of-owner.result c.requires.chained c.owner_of-owner.ensures

pub returns-clause-chained : goal.returns-clause-chained
returns-clause-chained g c =
    taken c.args.slots.now c.set_next.new.slots c.set_before.new.slots c.args.chains.now.items c.set_first.new.chains.items c.args.link c.owner_of-owner.result c.requires.chained c.owner_of-owner.ensures c.set_next.ensures c.set_before.ensures c.set_first.ensures

pub returns-clause-same : goal.returns-clause-same
returns-clause-same g c = relinked_twice c.args.slots.now c.set_next.new.slots c.set_before.new.slots c.set_next.ensures.same c.set_before.ensures.same
