use Rattle.std.proofs.Common.{ap, sym, ◌∙◌, subst, IsSome, add-one}
use Rattle.slab.specs.Slab.{get}
use Rattle.lrp_slots.specs.Links.{next_of, key_after}
use Rattle.lrp_slots.proofs.Keys.{on_the_way, key_after-suc}
use Rattle.lrp_slots.proofs.chains.key_after.Goals as goal

pub index-requires : goal.index-requires
index-requires g c =
    subst (λ k. IsSome (get c.args.links.now k)) (sym c.loop-place.invariant)
    (on_the_way (get c.args.links.now) (λ k. IsSome (get c.args.links.now k)) c.args.places c.loop-place._place c.args.first c.loop-place-test.true c.requires)

pub loop-place-preserved : goal.loop-place-preserved
loop-place-preserved g c =
    ap next_of (sym c.index.ensures) ∙ ap (λ k. next_of (get c.args.links.now k)) c.loop-place.invariant
    ∙ sym (key_after-suc (get c.args.links.now) c.loop-place._place c.args.first) ∙ ap (λ n. key_after (get c.args.links.now) n c.args.first) (sym (add-one c.loop-place._place))
