-- One match is played after another, up to the first slot, or to one whose winner stays.
use Rattle.std.proofs.Common.{◌<◌, length, length-set, refl, subst, ◌∙◌, set, sym}
use Rattle.std.specs.Prelude.{IfSome}
use Rattle.lrp_holdings.specs.Winners.{AreMatchedBut, value_numbered}
use Rattle.lrp_holdings.proofs.Ordering.{above_is, above_smaller, above_within, same_option}
use Rattle.lrp_holdings.proofs.Tournament.{played, played_same}
use Rattle.lrp_holdings.proofs.winners.replay.Goals as goal

pub loop-next-preserved : goal.loop-next-preserved
loop-next-preserved g c =
    let inside : c.in-Some.slot < length c.loop-next.winners.items = subst (λ o. IfSome o (λ s. s < length c.loop-next.winners.items)) c.in-Some.is c.loop-next.invariant.within in
    record {
      matched = played g.V.Ranked.leads g.met.V.Ranked.itself g.met.V.Ranked.onward (value_numbered c.args.slots.now) c.loop-next.winners.items (set c.loop-next.winners.items c.in-Some.slot c.match_at-first.result) c.in-Some.slot c.match_at-first.result inside refl c.above-next.result c.match_at-first.ensures
          (subst (λ o. AreMatchedBut g.V.Ranked.leads (value_numbered c.args.slots.now) o c.loop-next.winners.items) c.in-Some.is c.loop-next.invariant.matched)
          (above_is c.in-Some.slot c.above-next.result c.above-next.ensures.none c.above-next.ensures.some);
      within = above_within c.in-Some.slot c.above-next.result (length (set c.loop-next.winners.items c.in-Some.slot c.match_at-first.result)) c.above-next.ensures.some (subst (λ n. c.in-Some.slot < n) (sym (length-set c.loop-next.winners.items c.in-Some.slot c.match_at-first.result)) inside);
      size = length-set c.loop-next.winners.items c.in-Some.slot c.match_at-first.result ∙ c.loop-next.invariant.size;
    }

pub loop-next-smaller : goal.loop-next-smaller
loop-next-smaller g c = above_smaller c.in-Some.slot c.above-next.result c.loop-next.next c.in-Some.is c.above-next.ensures.some

pub returns-then-eq-clause-matched : goal.returns-then-eq-clause-matched
returns-then-eq-clause-matched g c =
    played_same g.V.Ranked.leads g.met.V.Ranked.itself g.met.V.Ranked.onward (value_numbered c.args.slots.now) c.loop-next.winners.items c.in-Some.slot c.match_at-first.result
    (same_option c.match_at-first.result c.winner.result (sym c.eq.ensures ∙ c.if-eq.true) ∙ c.winner.ensures) c.match_at-first.ensures
    (subst (λ o. AreMatchedBut g.V.Ranked.leads (value_numbered c.args.slots.now) o c.loop-next.winners.items) c.in-Some.is c.loop-next.invariant.matched)
