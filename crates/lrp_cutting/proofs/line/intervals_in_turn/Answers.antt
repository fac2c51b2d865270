-- The last interval grows by the next zone's, or that comes after it.
use Rattle.std.proofs.Common.{[], ◌∷◌, ◌++◌, sym, subst}
use Rattle.lrp_cutting.specs.Lines.{HaveNumbers}
use Rattle.lrp_cutting.proofs.LineLaws.{word_pos}
use Rattle.lrp_cutting.proofs.Lists.{IsReadTo}
use Rattle.lrp_cutting.proofs.TurnLaws.{HaveRead, last_interval, last_room, next_column, next_interval, turn_ends, turn_joined, turn_more, turn_starts}
use Rattle.lrp_cutting.proofs.line.intervals_in_turn.Goals as goal

pub interval_of-last-requires : goal.interval_of-last-requires
interval_of-last-requires c = c.requires.column

pub loop-zone-init : goal.loop-zone-init
loop-zone-init c = turn_starts c.args.first.now c.args.rest c.requires c.into_iter-zone-iterator.result _ c.interval_of-last.result c.into_iter-zone-iterator.ensures.into_iter_gives c.new-made.ensures.items c.interval_of-last.ensures.interval

pub interval_of-next-requires : goal.interval_of-next-requires
interval_of-next-requires c = next_column c.args.first.now c.args.rest c.requires c.loop-zone.zone-iterator c.next.new.self c.loop-zone.made.items c.loop-zone.last c.in-Some.zone c.in-Some.ensures.steps c.loop-zone.invariant

pub grown-requires : goal.grown-requires
grown-requires c = last_room c.args.first.now c.args.rest c.requires c.loop-zone.zone-iterator c.loop-zone.made.items c.loop-zone.last _ c.loop-zone.invariant (word_pos c.period-period.result c.args.first.now.period c.period-period.ensures c.interval_of-last.ensures.valid.shape.period_high)

pub loop-zone-preserved : goal.loop-zone-preserved
loop-zone-preserved c = subst (λ vs. IsReadTo (HaveRead c.args.first.now c.args.rest (vs ++ c.interval_of-next.result ∷ [])) c.args.rest c.next.new.self) (sym c.in_ok-push-in-None-grown.ensures.items)
    (turn_more c.args.first.now c.args.rest c.requires c.loop-zone.zone-iterator c.next.new.self c.loop-zone.made.items c.loop-zone.last c.in-Some.zone c.in-Some.ensures.steps c.loop-zone.invariant c.interval_of-next.result c.interval_of-next.ensures.interval)

pub loop-zone-preserved-in-Some-grown : goal.loop-zone-preserved-in-Some-grown
loop-zone-preserved-in-Some-grown c = turn_joined c.args.first.now c.args.rest c.requires c.loop-zone.zone-iterator c.next.new.self c.loop-zone.made.items c.loop-zone.last c.in-Some.zone c.in-Some.ensures.steps c.loop-zone.invariant c.interval_of-next.result c.in-Some-grown.both c.interval_of-next.ensures.interval
    (c.in-Some-grown.ensures c.args.first.now (word_pos c.period-period.result c.args.first.now.period c.period-period.ensures c.interval_of-last.ensures.valid.shape.period_high) c.interval_of-last.ensures.valid.shape.period_low
    (last_interval c.args.first.now c.args.rest c.requires c.loop-zone.zone-iterator c.loop-zone.made.items c.loop-zone.last c.loop-zone.invariant)
    (next_interval c.args.first.now c.args.rest c.requires c.loop-zone.zone-iterator c.next.new.self c.loop-zone.made.items c.loop-zone.last c.in-Some.zone c.in-Some.ensures.steps c.loop-zone.invariant c.interval_of-next.result c.interval_of-next.ensures.interval))

pub returns : goal.returns
returns c = subst (λ vs. HaveNumbers c.args.first.now (c.args.first.now ∷ c.args.rest) vs) (sym c.in_ok-push.ensures.items)
    (turn_ends c.args.first.now c.args.rest c.requires c.loop-zone.zone-iterator (c.loop-zone.made.items ++ c.loop-zone.last ∷ []) c.loop-zone.invariant c.in-None.ensures.steps.0)
