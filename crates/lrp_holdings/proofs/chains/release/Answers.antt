use Rattle.std.proofs.Common.{sym, ◌∙◌, arith}
use Rattle.lrp_holdings.proofs.LetGo.{begins, begins_at_value, released_all, released_none, released_one, short_still}
use Rattle.lrp_holdings.proofs.Ordering.{matched_but_gone, won_without}
use Rattle.slab.specs.Slab.{get}
use Rattle.lrp_holdings.proofs.chains.release.Goals as goal

pub loop-link-init : goal.loop-link-init
loop-link-init g c = record { chained = c.requires.chained; partly = released_none c.args.number c.args.slots.now; ranked = c.requires.ranked }

pub let_go-requires-clause-held : goal.let_go-requires-clause-held
let_go-requires-clause-held g c = begins_at_value c.loop-link.slots c.loop-link.chains.items c.args.number c.in-Some.link c.loop-link.invariant.chained (sym c.first.ensures ∙ c.in-Some.is)

pub let_go-requires-clause-short : goal.let_go-requires-clause-short
let_go-requires-clause-short g c = short_still (get c.args.slots.now c.in-Some.link.slot) (get c.loop-link.slots c.in-Some.link.slot) (c.loop-link.invariant.partly.kept c.in-Some.link.slot) (c.requires.short c.in-Some.link.slot)

pub loop-link-preserved : goal.loop-link-preserved
loop-link-preserved g c =
    let x = begins c.loop-link.slots c.loop-link.chains.items c.args.number c.in-Some.link c.loop-link.invariant.chained (sym c.first.ensures ∙ c.in-Some.is) in
    record {
      chained = c.let_go.ensures.chained;
      partly = released_one c.args.number c.args.slots.now c.loop-link.slots c.let_go.new.slots c.in-Some.link x.0 c.loop-link.invariant.partly x.1 x.2 c.let_go.ensures.gone;
      ranked = won_without g.V.Ranked.leads g.met.V.Ranked.itself g.met.V.Ranked.onward c.loop-link.slots c.let_go.new.slots c.loop-link.winners.items c.in-Some.link.slot c.let_go.ensures.gone c.loop-link.invariant.ranked c.replay.new.winners.items c.replay.ensures.matched c.replay.ensures.size;
    }

pub replay-requires-clause-within : goal.replay-requires-clause-within
replay-requires-clause-within g c =
    c.loop-link.invariant.ranked.within c.in-Some.link.slot (begins_at_value c.loop-link.slots c.loop-link.chains.items c.args.number c.in-Some.link c.loop-link.invariant.chained (sym c.first.ensures ∙ c.in-Some.is))

pub replay-requires-clause-others : goal.replay-requires-clause-others
replay-requires-clause-others g c = matched_but_gone g.V.Ranked.leads g.met.V.Ranked.itself g.met.V.Ranked.onward c.loop-link.slots c.let_go.new.slots c.loop-link.winners.items c.in-Some.link.slot c.let_go.ensures.gone c.loop-link.invariant.ranked

pub loop-link-smaller : goal.loop-link-smaller
loop-link-smaller g c = omega (arith, c.let_go.ensures.gone.len)

pub returns-clause-released : goal.returns-clause-released
returns-clause-released g c = released_all c.args.number c.args.slots.now c.loop-link.slots c.loop-link.chains.items c.loop-link.invariant.partly c.loop-link.invariant.chained (sym c.first.ensures ∙ c.in_default.is)
