-- The values stand in the first and in the last slot of the chain.
use Rattle.std.proofs.Common.{◌≡◌, ◌-◌, ◌<◌, Option, None, Some, ◌∙◌, ap, sym, subst, refl, IsSome, IfNone, length, arith}
use Rattle.std.specs.Prelude.{slice_get}
use Rattle.slab.specs.Slab.{get}
use Rattle.lrp_slots.specs.Lists.{list_at}
use Rattle.lrp_slots.specs.Links.{lists_of}
use Rattle.lrp_slots.proofs.Keys.{on_the_way, value_at_place}
use Rattle.lrp_slots.proofs.Linked.{length_at, not_held}
use Rattle.lrp_slots.proofs.Tables.{list_held}
use Rattle.lrp_slots.proofs.slots.Slots.ends.Goals as goal

-- what is not there is nothing
none_of : {X : Type 0} (o : Option X) → (IsSome o → ⊥) → o ≡ None
none_of None absent = refl
none_of (Some x) absent = absurd (absent refl)

-- a clause of one outcome
if_none : {X : Type 0} (o : Option X) (P : Type 0) → P → IfNone o P
if_none None P p = p
if_none (Some x) P p = tt

pub returns-in_err-chain-clause-none : goal.returns-in_err-chain-clause-none
returns-in_err-chain-clause-none g c =
    if_none _ _ (none_of _ (λ held. not_held c.self.inside.links c.self.inside.chains c.args.self.now.lists c.args.cell.now (ap (λ s. s.lists) c.self.view_is) (sym c.in_err-chain.ensures.value) held))

pub index-requires : goal.index-requires
index-requires g c =
    let whole = c.self.invariant.whole c.args.cell.now c.in_ok-chain.field-0.now (sym c.in_ok-chain.ensures.value) in
    on_the_way (get c.self.inside.links) (λ k. IsSome (get c.self.inside.links k)) c.in_ok-chain.field-0.now.count 0 c.in_ok-chain.field-0.now.first whole.some whole.held

pub index-requires-2 : goal.index-requires-2
index-requires-2 g c =
    let whole = c.self.invariant.whole c.args.cell.now c.in_ok-chain.field-0.now (sym c.in_ok-chain.ensures.value) in
    let low : c.in_ok-chain.field-0.now.count - 1 < c.in_ok-chain.field-0.now.count = omega (arith, whole.some) in
    subst (λ k. IsSome (get c.self.inside.links k)) whole.last
    (on_the_way (get c.self.inside.links) (λ k. IsSome (get c.self.inside.links k)) c.in_ok-chain.field-0.now.count (c.in_ok-chain.field-0.now.count - 1) c.in_ok-chain.field-0.now.first low whole.held)

pub returns-clause-first : goal.returns-clause-first
returns-clause-first g c =
    let whole = c.self.invariant.whole c.args.cell.now c.in_ok-chain.field-0.now (sym c.in_ok-chain.ensures.value) in
    ap (λ s. slice_get (list_at s.lists c.args.cell.now) 0) (sym c.self.view_is)
    ∙ ap (λ xs. slice_get xs 0) (list_held (get c.self.inside.links) c.self.inside.chains c.args.cell.now c.in_ok-chain.field-0.now (sym c.in_ok-chain.ensures.value))
    ∙ value_at_place (get c.self.inside.links) c.in_ok-chain.field-0.now.count 0 c.in_ok-chain.field-0.now.first c.index.result.now whole.some whole.held c.index.ensures

pub returns-clause-last : goal.returns-clause-last
returns-clause-last g c =
    let whole = c.self.invariant.whole c.args.cell.now c.in_ok-chain.field-0.now (sym c.in_ok-chain.ensures.value) in
    let low : c.in_ok-chain.field-0.now.count - 1 < c.in_ok-chain.field-0.now.count = omega (arith, whole.some) in
    ap (λ s. slice_get (list_at s.lists c.args.cell.now) (length (list_at s.lists c.args.cell.now) - 1)) (sym c.self.view_is)
    ∙ ap (λ n. slice_get (list_at (lists_of (get c.self.inside.links) c.self.inside.chains) c.args.cell.now) (n - 1)) (length_at c.self.inside.links c.self.inside.chains c.self.invariant c.args.cell.now c.in_ok-chain.field-0.now (sym c.in_ok-chain.ensures.value))
    ∙ ap (λ xs. slice_get xs (c.in_ok-chain.field-0.now.count - 1)) (list_held (get c.self.inside.links) c.self.inside.chains c.args.cell.now c.in_ok-chain.field-0.now (sym c.in_ok-chain.ensures.value))
    ∙ value_at_place (get c.self.inside.links) c.in_ok-chain.field-0.now.count (c.in_ok-chain.field-0.now.count - 1) c.in_ok-chain.field-0.now.first c.index-2.result.now low whole.held (ap (get c.self.inside.links) whole.last ∙ c.index-2.ensures)
