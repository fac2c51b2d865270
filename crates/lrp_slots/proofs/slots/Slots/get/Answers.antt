-- The value stands in the slot at the place of the chain.
use Rattle.std.proofs.Common.{◌∙◌, ap, sym, subst, IsSome, arith}
use Rattle.std.specs.Prelude.{slice_get, option_copied}
use Rattle.std.proofs.lemmas.Option.{slice_get_past}
use Rattle.slab.specs.Slab.{get}
use Rattle.lrp_slots.specs.Lists.{list_at}
use Rattle.lrp_slots.proofs.Keys.{on_the_way, value_at_place}
use Rattle.lrp_slots.proofs.Linked.{length_at}
use Rattle.lrp_slots.proofs.Tables.{list_absent, list_held}
use Rattle.lrp_slots.proofs.slots.Slots.get.Goals as goal

pub returns-in_err-chain : goal.returns-in_err-chain
returns-in_err-chain g c =
    ap option_copied c.from_residual.ensures ∙ ap (λ xs. slice_get xs c.args.i) (sym (list_absent (get c.self.inside.links) c.self.inside.chains c.args.cell.now (sym c.in_err-chain.ensures.value)))
    ∙ ap (λ s. slice_get (list_at s.lists c.args.cell.now) c.args.i) c.self.view_is

pub returns-then-i-chain : goal.returns-then-i-chain
returns-then-i-chain g c =
    let many = length_at c.self.inside.links c.self.inside.chains c.self.invariant c.args.cell.now c.in_ok-chain.field-0.now (sym c.in_ok-chain.ensures.value) in
    sym (slice_get_past _ c.args.i (omega (arith, many, c.if-i-chain.true))) ∙ ap (λ s. slice_get (list_at s.lists c.args.cell.now) c.args.i) c.self.view_is

pub key_at-key-requires-clause-whole : goal.key_at-key-requires-clause-whole
key_at-key-requires-clause-whole g c = c.self.invariant.whole c.args.cell.now c.in_ok-chain.field-0.now (sym c.in_ok-chain.ensures.value)

pub index-requires : goal.index-requires
index-requires g c =
    let whole = c.self.invariant.whole c.args.cell.now c.in_ok-chain.field-0.now (sym c.in_ok-chain.ensures.value) in
    subst (λ k. IsSome (get c.self.inside.links k)) (sym c.key_at-key.ensures)
    (on_the_way (get c.self.inside.links) (λ k. IsSome (get c.self.inside.links k)) c.in_ok-chain.field-0.now.count c.args.i c.in_ok-chain.field-0.now.first c.if-i-chain.false whole.held)

pub returns : goal.returns
returns g c =
    let whole = c.self.invariant.whole c.args.cell.now c.in_ok-chain.field-0.now (sym c.in_ok-chain.ensures.value) in
    sym (value_at_place (get c.self.inside.links) c.in_ok-chain.field-0.now.count c.args.i c.in_ok-chain.field-0.now.first c.index.result.now c.if-i-chain.false whole.held
    (ap (get c.self.inside.links) (sym c.key_at-key.ensures) ∙ c.index.ensures))
    ∙ ap (λ xs. slice_get xs c.args.i) (sym (list_held (get c.self.inside.links) c.self.inside.chains c.args.cell.now c.in_ok-chain.field-0.now (sym c.in_ok-chain.ensures.value)))
    ∙ ap (λ s. slice_get (list_at s.lists c.args.cell.now) c.args.i) c.self.view_is
