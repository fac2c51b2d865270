use Rattle.std.proofs.Common.{arith}
use Rattle.lrp_holdings.proofs.LetGo.{below_all, relinked_none, still_stands}
use Rattle.lrp_holdings.proofs.Relinked.{relinked_twice}
use Rattle.lrp_holdings.proofs.chains.link_all.Goals as goal

pub loop-place-init : goal.loop-place-init
loop-place-init g c = record { chained = c.requires.chained; loose = c.requires.loose; same = relinked_none c.args.slots.now }

pub put_first-requires-clause-held : goal.put_first-requires-clause-held
put_first-requires-clause-held g c = still_stands c.args.slots.now c.loop-place.slots c.args.slot c.owner_count-place-end.result c.loop-place.place c.loop-place.invariant.same c.requires.held c.owner_count-place-end.ensures c.loop-place-test.true

pub loop-place-preserved : goal.loop-place-preserved
loop-place-preserved g c = record { chained = c.put_first.ensures.chained; loose = c.put_first.ensures.loose; same = relinked_twice c.args.slots.now c.loop-place.slots c.put_first.new.slots c.loop-place.invariant.same c.put_first.ensures.same }

pub returns-clause-chained : goal.returns-clause-chained
returns-clause-chained g c =
    below_all c.args.slots.now c.loop-place.slots c.loop-place.chains.items c.args.slot c.owner_count-place-end.result c.loop-place.place (omega (arith, c.loop-place-test.false)) c.loop-place.invariant.same c.requires.held c.owner_count-place-end.ensures c.loop-place.invariant.chained
