use Rattle.std.proofs.Common.{◌∙◌, ◌++◌, ◌∷◌, [], ap, refl}
use Rattle.std.specs.FinMap as finite
use Rattle.lrp_slots.specs.Lists.{list_at}
use Rattle.slab.specs.Slab.{Slab, get}
use Rattle.lrp_slots.specs.declared.chains.Link.{Link}
use Rattle.lrp_slots.specs.Links.{extended, lists_of}
use Rattle.lrp_slots.proofs.Lengthened.{count_fits}
use Rattle.lrp_slots.proofs.Linked.{with_room, last_is_held, not_held, Additions, linked_after_append, lists_after_append}
use Rattle.lrp_slots.proofs.slots.Slots.append.Goals as goal

pub invariant_of-self : goal.invariant_of-self
invariant_of-self g c = with_room _ _ _ _ c.vacant_key.ensures.rest_kept c.vacant_key.ensures.capacity refl c.self.invariant

pub invariant_of-self-in_err-held : goal.invariant_of-self-in_err-held
invariant_of-self-in_err-held g c = with_room _ _ _ _ c.vacant_key.ensures.rest_kept c.vacant_key.ensures.capacity c.in_err-held.ensures.err c.self.invariant

pub returns-in_err-held-clause-succeeds : goal.returns-in_err-held-clause-succeeds
returns-in_err-held-clause-succeeds g c =
    λ room held. absurd (not_held c.self.inside.links c.self.inside.chains c.args.self.now.lists c.args.cell.now (ap (λ s. s.lists) c.self.view_is) c.in_err-held.ensures.absent held)

pub returns-in_err-held-clause-taken : goal.returns-in_err-held-clause-taken
returns-in_err-held-clause-taken g c =
    λ room held. absurd (not_held c.self.inside.links c.self.inside.chains c.args.self.now.lists c.args.cell.now (ap (λ s. s.lists) c.self.view_is) c.in_err-held.ensures.absent held)

pub lengthen-requires : goal.lengthen-requires
lengthen-requires g c =
    count_fits c.vacant_key.new.links c.self.inside.chains (with_room c.self.inside.links _ _ _ c.vacant_key.ensures.rest_kept c.vacant_key.ensures.capacity refl c.self.invariant) c.in_ok-key.ensures.fits c.args.cell.now _ refl

pub push-requires-clause-last : goal.push-requires-clause-last
push-requires-clause-last g c =
    last_is_held c.vacant_key.new.links c.self.inside.chains (with_room c.self.inside.links _ _ _ c.vacant_key.ensures.rest_kept c.vacant_key.ensures.capacity refl c.self.invariant) c.args.cell.now c.in_ok-held.held c.in_ok-held.ensures.held

additions : (g : _) (c : goal.After-push g)
    → Additions c.vacant_key.new.links c.push.new.links c.self.inside.chains c.lengthen.new.self c.args.cell.now c.in_ok-held.held (extended c.in_ok-held.held c.in_ok-key.key) c.args.value
additions g c = record {
  linked = with_room c.self.inside.links _ _ _ c.vacant_key.ensures.rest_kept c.vacant_key.ensures.capacity refl c.self.invariant;
  held_is = c.in_ok-held.ensures.held;
  made_is = ap (extended c.in_ok-held.held) c.in_ok-key.ensures.key;
  pushes = c.push.ensures;
  updates = c.in_ok-held.ensures.lengthened.updates;
  inserted = c.in_ok-held.ensures.lengthened.inserted;
  ascending = c.in_ok-held.ensures.lengthened.ascending;
  room = c.in_ok-key.ensures.room;
}

pub invariant_of-self-2 : goal.invariant_of-self-2
invariant_of-self-2 g c = linked_after_append _ _ _ _ _ _ _ _ (additions g c)

pub returns-clause-ok : goal.returns-clause-ok
returns-clause-ok g c =
    lists_after_append _ _ _ _ _ _ _ _ (additions g c)
    ∙ ap (λ m. finite.insert m c.args.cell.now (list_at m c.args.cell.now ++ c.args.value ∷ []))
    (ap (λ (s : Slab (Link g.row.V.Denot)). lists_of (get s) c.self.inside.chains) c.vacant_key.ensures.rest_kept ∙ ap (λ s. s.lists) c.self.view_is)
