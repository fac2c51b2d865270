use Rattle.std.proofs.Common.{◌-◌, false, sym, subst, IsSome, arith}
use Rattle.slab.specs.Slab.{get}
use Rattle.lrp_slots.specs.Links.{TakesOut}
use Rattle.lrp_slots.proofs.Keys.{all_on_the_way, on_the_way}
use Rattle.lrp_slots.proofs.Removed.{first_out, reached_is_held, before_is_held, taken_out}
use Rattle.lrp_slots.proofs.chains.take_out.Goals as goal
use Rattle.lrp_slots.proofs.chains.take_out.Goals.{then-place-chain, else-place-chain}

pub returns-then-place-eq0 : goal.returns-then-place-eq0
returns-then-place-eq0 g c =
    subst (λ place. TakesOut c.args.links.now c.remove-value.new.self c.args.chain place c.remove-value.result.value (record { first = c.remove-value.result.next; last = c.args.chain.last; count = c.args.chain.count - 1; in_line = false }))
    (sym c.if-place-eq0.true)
    (first_out c.args.links.now c.remove-value.new.self c.args.chain c.remove-value.result c.requires.whole c.remove-value.ensures.value c.remove-value.ensures.updates c.remove-value.ensures.len c.remove-value.ensures.room c.remove-value.ensures.capacity)

pub key_after-before-requires : goal.key_after-before-requires
key_after-before-requires g c =
    all_on_the_way (get c.args.links.now) (λ k. IsSome (get c.args.links.now k)) (c.args.place - 1) c.args.chain.count c.args.chain.first (omega (arith, c.requires.within)) c.requires.whole.held

pub index-requires : goal.index-requires
index-requires g c =
    subst (λ k. IsSome (get c.args.links.now k)) (sym c.key_after-before.ensures)
    (on_the_way (get c.args.links.now) (λ k. IsSome (get c.args.links.now k)) c.args.chain.count (c.args.place - 1) c.args.chain.first (omega (arith, c.requires.within)) c.requires.whole.held)

pub remove-value-requires-2 : goal.remove-value-requires-2
remove-value-requires-2 g c =
    reached_is_held c.args.links.now c.args.chain c.args.place c.key_after-before.result c.index.result.now
    (record { whole = c.requires.whole; within = c.requires.within; later = c.if-place-eq0.false; before_is = c.key_after-before.ensures; leads = c.index.ensures })

pub join-requires : goal.join-requires
join-requires g c =
    before_is_held c.args.links.now c.remove-value-2.new.self c.args.chain c.args.place c.key_after-before.result c.index.result.now c.remove-value-2.result
    (record { whole = c.requires.whole; within = c.requires.within; later = c.if-place-eq0.false; before_is = c.key_after-before.ensures; leads = c.index.ensures })
    c.remove-value-2.ensures.value c.remove-value-2.ensures.updates

pub returns : goal.returns
returns g c =
    taken_out c.args.links.now c.remove-value-2.new.self c.join.new.links c.args.chain c.args.place c.key_after-before.result c.if-place-chain.rest c.index.result.now c.remove-value-2.result
    (record { whole = c.requires.whole; within = c.requires.within; later = c.if-place-eq0.false; before_is = c.key_after-before.ensures; leads = c.index.ensures })
    c.remove-value-2.ensures.value c.remove-value-2.ensures.updates c.join.ensures
    (λ e. elim c.if-place-chain.branch [ then-place-chain w ↦ w.rest-is | else-place-chain w ↦ absurd (w.if-place-chain.false e) ])
    (λ differs. elim c.if-place-chain.branch [ then-place-chain w ↦ absurd (differs w.if-place-chain.true) | else-place-chain w ↦ w.rest-is ])
    c.remove-value-2.ensures.len c.remove-value-2.ensures.room c.remove-value-2.ensures.capacity
