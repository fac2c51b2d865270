-- A value that begins a list stands alone in a slot.
use Rattle.std.proofs.Common.{◌≡◌, ◌∙◌, ◌++◌, ◌∷◌, [], None, Ok, IsSome, ap, option_map, refl, subst, sym}
use Rattle.std.specs.Prelude.{unwrap_or}
use Rattle.std.specs.FinMap as finite
use Rattle.lrp_slots.specs.Lists.{list_at}
use Rattle.slab.specs.Slab.{Slab, get}
use Rattle.lrp_slots.specs.declared.chains.Link.{Link}
use Rattle.lrp_slots.specs.Links.{chain_at, chain_values, extended, lists_of}
use Rattle.lrp_slots.proofs.Tables.{get-lists_of}
use Rattle.lrp_slots.proofs.Linked.{with_room, Additions, linked_after_append, lists_after_append}
use Rattle.lrp_slots.proofs.Lengthened.{still_some}
use Rattle.lrp_slots.proofs.slots.Slots.begin.Goals as goal

pub invariant_of-self : goal.invariant_of-self
invariant_of-self g c = with_room _ _ _ _ c.vacant_key.ensures.rest_kept c.vacant_key.ensures.capacity refl c.self.invariant

pub invariant_of-self-in_err-begin : goal.invariant_of-self-in_err-begin
invariant_of-self-in_err-begin g c = with_room _ _ _ _ c.vacant_key.ensures.rest_kept c.vacant_key.ensures.capacity (c.in_err-begin.ensures.left (λ e. cc)) c.self.invariant

pub invariant_of-self-then-not-branch : goal.invariant_of-self-then-not-branch
invariant_of-self-then-not-branch g c =
    let old = c.if-not-branch.true in
    with_room _ _ _ _ c.vacant_key.ensures.rest_kept c.vacant_key.ensures.capacity (c.in_ok-begin.ensures.left (λ e. cc (e, old))) c.self.invariant

pub returns-then-not-branch-clause-held : goal.returns-then-not-branch-clause-held
returns-then-not-branch-clause-held g c = λ _.
    subst (λ m. IsSome (finite.get m c.args.cell.now)) (ap (λ s. s.lists) c.self.view_is)
    (subst IsSome (sym (get-lists_of (get c.self.inside.links) c.self.inside.chains c.args.cell.now)) (still_some (chain_values (get c.self.inside.links)) (chain_at c.self.inside.chains c.args.cell.now) (c.in_ok-begin.ensures.held (ap (λ b. Ok b) c.if-not-branch.true))))

absent : (g : _) (c : goal.After-push g) → finite.get c.args.self.now.lists c.args.cell.now ≡ None
absent g c =
    ap (λ s. finite.get s.lists c.args.cell.now) (sym c.self.view_is) ∙ get-lists_of (get c.self.inside.links) c.self.inside.chains c.args.cell.now
    ∙ ap (option_map (chain_values (get c.self.inside.links))) (c.in_ok-begin.ensures.absent (ap (λ b. Ok b) c.if-not-branch.false))

additions : (g : _) (c : goal.After-push g)
    → Additions c.vacant_key.new.links c.push.new.links c.self.inside.chains c.begin.new.self c.args.cell.now None (extended None c.in_ok-key.key) c.args.value
additions g c =
    let stands = c.in_ok-begin.ensures.put (ap (λ b. Ok b) c.if-not-branch.false) in record {
      linked = with_room c.self.inside.links _ _ _ c.vacant_key.ensures.rest_kept c.vacant_key.ensures.capacity refl c.self.invariant;
      held_is = sym (c.in_ok-begin.ensures.absent (ap (λ b. Ok b) c.if-not-branch.false));
      made_is = ap (extended None) c.in_ok-key.ensures.key;
      pushes = c.push.ensures;
      updates = stands.updates;
      inserted = stands.inserted;
      ascending = stands.ascending;
      room = c.in_ok-key.ensures.room;
    }

pub invariant_of-self-2 : goal.invariant_of-self-2
invariant_of-self-2 g c = linked_after_append _ _ _ _ _ _ _ _ (additions g c)

pub returns-clause-absent : goal.returns-clause-absent
returns-clause-absent g c = λ _. absent g c

pub returns-clause-put : goal.returns-clause-put
returns-clause-put g c = λ _.
    lists_after_append _ _ _ _ _ _ _ _ (additions g c)
    ∙ ap (λ m. finite.insert m c.args.cell.now (list_at m c.args.cell.now ++ c.args.value ∷ []))
    (ap (λ (s : Slab (Link g.row.V.Denot)). lists_of (get s) c.self.inside.chains) c.vacant_key.ensures.rest_kept ∙ ap (λ s. s.lists) c.self.view_is)
    ∙ ap (λ o. finite.insert c.args.self.now.lists c.args.cell.now (unwrap_or o [] ++ c.args.value ∷ [])) (absent g c)
