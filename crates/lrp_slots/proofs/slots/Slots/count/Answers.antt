use Rattle.std.proofs.Common.{◌∙◌, ap, sym, length, arith}
use Rattle.slab.specs.Slab.{get}
use Rattle.lrp_slots.specs.Lists.{list_at}
use Rattle.lrp_slots.proofs.Tables.{list_absent}
use Rattle.lrp_slots.proofs.Linked.{length_at, is_held, not_held}
use Rattle.lrp_slots.proofs.slots.Slots.count.Goals as goal

pub returns-in-Some-clause-count : goal.returns-in-Some-clause-count
returns-in-Some-clause-count g c =
    sym (length_at c.self.inside.links c.self.inside.chains c.self.invariant c.args.cell.now c.in-Some.chain.now (sym c.in-Some.ensures.value))
    ∙ ap (λ s. length (list_at s.lists c.args.cell.now)) c.self.view_is

pub returns-in-Some-clause-held : goal.returns-in-Some-clause-held
returns-in-Some-clause-held g c =
    let whole = c.self.invariant.whole c.args.cell.now c.in-Some.chain.now (sym c.in-Some.ensures.value) in (
      λ some. is_held c.self.inside.links c.self.inside.chains c.args.self.now.lists c.args.cell.now c.in-Some.chain.now (ap (λ s. s.lists) c.self.view_is) (sym c.in-Some.ensures.value),
      λ held. whole.some,
    )

pub returns-in-None-clause-count : goal.returns-in-None-clause-count
returns-in-None-clause-count g c =
    ap length (sym (list_absent (get c.self.inside.links) c.self.inside.chains c.args.cell.now (sym c.in-None.ensures.value)))
    ∙ ap (λ s. length (list_at s.lists c.args.cell.now)) c.self.view_is

pub returns-in-None-clause-held : goal.returns-in-None-clause-held
returns-in-None-clause-held g c = (
  λ some. absurd (omega (arith, some)),
  λ held. absurd (not_held c.self.inside.links c.self.inside.chains c.args.self.now.lists c.args.cell.now (ap (λ s. s.lists) c.self.view_is) (sym c.in-None.ensures.value) held),
)
