use Rattle.std.proofs.Common.{arith}
use Rattle.lrp_holdings.proofs.LetGo.{all_let_go, from_all, let_go_is, relinked_none, still_stands}
use Rattle.lrp_holdings.proofs.Relinked.{relinked_twice}
use Rattle.lrp_holdings.proofs.chains.let_go.Goals as goal

pub loop-place-init : goal.loop-place-init
loop-place-init g c = record { chained = from_all c.args.slots.now c.args.chains.now.items c.args.slot c.requires.chained; same = relinked_none c.args.slots.now }

pub unlink-requires-clause-held : goal.unlink-requires-clause-held
unlink-requires-clause-held g c = still_stands c.args.slots.now c.loop-place.slots c.args.slot c.owner_count-place-end.result c.loop-place.place c.loop-place.invariant.same c.requires.held c.owner_count-place-end.ensures c.loop-place-test.true

pub loop-place-preserved : goal.loop-place-preserved
loop-place-preserved g c = record { chained = c.unlink.ensures.chained; same = relinked_twice c.args.slots.now c.loop-place.slots c.unlink.new.slots c.loop-place.invariant.same c.unlink.ensures.same }

pub returns-clause-chained : goal.returns-clause-chained
returns-clause-chained g c =
    all_let_go c.args.slots.now c.loop-place.slots c.try_remove.new.self c.loop-place.chains.items c.args.slot c.owner_count-place-end.result c.loop-place.place (omega (arith, c.loop-place-test.false)) c.loop-place.invariant.same c.requires.held c.owner_count-place-end.ensures c.loop-place.invariant.chained c.try_remove.ensures.updates

pub returns-clause-gone : goal.returns-clause-gone
returns-clause-gone g c =
    let_go_is c.args.slots.now c.loop-place.slots c.try_remove.new.self c.args.slot c.owner_count-place-end.result c.try_remove.result c.loop-place.invariant.same c.requires.held c.owner_count-place-end.ensures c.try_remove.ensures.value c.try_remove.ensures.updates c.try_remove.ensures.len c.try_remove.ensures.capacity
