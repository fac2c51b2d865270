use Rattle.std.proofs.Common.{◌≡◌, ◌<◌, ◌∙◌, Some, length, subst, sym}
use Rattle.slab.specs.Slab.{get}
use Rattle.lrp_holdings.specs.Chains.{owner_at}
use Rattle.lrp_holdings.proofs.Chained.{roomier, some_stands}
use Rattle.lrp_holdings.proofs.LetGo.{not_chained_yet}
use Rattle.lrp_holdings.proofs.Holding.{is_held_too, larger_held, loose_put, roomier_held, short_after, short_put, within_after}
use Rattle.lrp_holdings.proofs.Ordering.{larger_won, matched_but_it, roomier_won, won_with}
use Rattle.lrp_holdings.proofs.holdings.Holdings.hold.Goals as goal

pub invariant_of-self : goal.invariant_of-self
invariant_of-self g c = record {
  chained = roomier_held c.self.inside.slots c.self.inside.chains.items c.make_room.new.chains.items c.make_room.ensures.same c.self.invariant.chained;
  ranked = c.self.invariant.ranked;
}

pub invariant_of-self-in_err-make_room_for_match : goal.invariant_of-self-in_err-make_room_for_match
invariant_of-self-in_err-make_room_for_match g c = record {
  chained = roomier_held c.self.inside.slots c.self.inside.chains.items c.make_room.new.chains.items c.make_room.ensures.same c.self.invariant.chained;
  ranked = roomier_won g.V.Ranked.leads g.met.V.Ranked.itself g.met.V.Ranked.onward c.self.inside.slots c.self.inside.winners.items c.make_room_for_match.new.winners.items c.make_room_for_match.ensures.same c.make_room_for_match.ensures.more c.self.invariant.ranked;
}

pub invariant_of-self-in_err-owners : goal.invariant_of-self-in_err-owners
invariant_of-self-in_err-owners g c = record {
  chained = roomier_held c.self.inside.slots c.self.inside.chains.items c.make_room.new.chains.items c.make_room.ensures.same c.self.invariant.chained;
  ranked = roomier_won g.V.Ranked.leads g.met.V.Ranked.itself g.met.V.Ranked.onward c.self.inside.slots c.self.inside.winners.items c.make_room_for_match.new.winners.items c.make_room_for_match.ensures.same c.make_room_for_match.ensures.more c.self.invariant.ranked;
}

pub invariant_of-self-in_err-slot : goal.invariant_of-self-in_err-slot
invariant_of-self-in_err-slot g c = record {
  chained =
      larger_held c.self.inside.slots c.insert.new.self c.make_room.new.chains.items c.in_err-slot.ensures.err c.insert.ensures.capacity
      (roomier_held c.self.inside.slots c.self.inside.chains.items c.make_room.new.chains.items c.make_room.ensures.same c.self.invariant.chained);
  ranked =
      larger_won g.V.Ranked.leads g.met.V.Ranked.itself g.met.V.Ranked.onward c.self.inside.slots c.insert.new.self c.make_room_for_match.new.winners.items c.in_err-slot.ensures.err
      (roomier_won g.V.Ranked.leads g.met.V.Ranked.itself g.met.V.Ranked.onward c.self.inside.slots c.self.inside.winners.items c.make_room_for_match.new.winners.items c.make_room_for_match.ensures.same c.make_room_for_match.ensures.more c.self.invariant.ranked);
}

pub link_all-requires-clause-chained : goal.link_all-requires-clause-chained
link_all-requires-clause-chained g c =
    not_chained_yet c.self.inside.slots c.insert.new.self c.make_room.new.chains.items c.in_ok-slot.slot (record { value = c.args.value; owners = c.in_ok-owners.owners }) c.in_ok-slot.ensures.was_vacant c.in_ok-slot.ensures.updates
    (roomier (λ m o. owner_at (get c.self.inside.slots) m ≡ Some o) c.self.inside.chains.items c.make_room.new.chains.items c.make_room.ensures.same c.self.invariant.chained.chained)

pub link_all-requires-clause-loose : goal.link_all-requires-clause-loose
link_all-requires-clause-loose g c =
    loose_put c.self.inside.slots c.insert.new.self c.insert.new.self c.self.inside.chains.items c.make_room.new.chains.items c.in_ok-slot.slot (record { value = c.args.value; owners = c.in_ok-owners.owners }) c.args.numbers.now c.in_ok-slot.ensures.was_vacant c.in_ok-slot.ensures.updates c.in_ok-owners.ensures.made
    c.in_ok-make_room.ensures.room

pub link_all-requires-clause-held : goal.link_all-requires-clause-held
link_all-requires-clause-held g c = some_stands (get c.insert.new.self c.in_ok-slot.slot) (record { value = c.args.value; owners = c.in_ok-owners.owners }) c.in_ok-slot.ensures.updates.changed

pub link_all-requires-clause-short : goal.link_all-requires-clause-short
link_all-requires-clause-short g c =
    short_put c.self.inside.slots c.insert.new.self c.insert.new.self c.self.inside.chains.items c.make_room.new.chains.items c.in_ok-slot.slot (record { value = c.args.value; owners = c.in_ok-owners.owners }) c.args.numbers.now c.in_ok-slot.ensures.was_vacant c.in_ok-slot.ensures.updates c.in_ok-owners.ensures.made
    c.self.invariant.chained c.in_ok-owners.ensures.short c.in_ok-slot.slot

pub replay-requires-clause-within : goal.replay-requires-clause-within
replay-requires-clause-within g c = subst (λ k. k < length c.make_room_for_match.new.winners.items) (c.vacant_key-2.ensures.value ∙ sym c.in_ok-slot.ensures.key) c.in_ok-make_room_for_match.ensures.room.room

pub replay-requires-clause-others : goal.replay-requires-clause-others
replay-requires-clause-others g c =
    matched_but_it g.V.Ranked.leads g.met.V.Ranked.itself g.met.V.Ranked.onward c.self.inside.slots c.insert.new.self c.link_all.new.slots c.make_room_for_match.new.winners.items c.in_ok-slot.slot (record { value = c.args.value; owners = c.in_ok-owners.owners }) c.in_ok-slot.ensures.was_vacant c.in_ok-slot.ensures.updates c.link_all.ensures.same
    (roomier_won g.V.Ranked.leads g.met.V.Ranked.itself g.met.V.Ranked.onward c.self.inside.slots c.self.inside.winners.items c.make_room_for_match.new.winners.items c.make_room_for_match.ensures.same c.make_room_for_match.ensures.more c.self.invariant.ranked)

pub invariant_of-self-2 : goal.invariant_of-self-2
invariant_of-self-2 g c = record {
  chained = record {
    chained = c.link_all.ensures.chained;
    within = within_after c.self.inside.slots c.insert.new.self c.link_all.new.slots c.self.inside.chains.items c.make_room.new.chains.items c.in_ok-slot.slot (record { value = c.args.value; owners = c.in_ok-owners.owners }) c.args.numbers.now c.in_ok-slot.ensures.was_vacant c.in_ok-slot.ensures.updates c.in_ok-owners.ensures.made
        c.self.invariant.chained c.in_ok-slot.ensures.key_in_range c.insert.ensures.capacity c.link_all.ensures.same;
    short = short_after c.self.inside.slots c.insert.new.self c.link_all.new.slots c.self.inside.chains.items c.make_room.new.chains.items c.in_ok-slot.slot (record { value = c.args.value; owners = c.in_ok-owners.owners }) c.args.numbers.now c.in_ok-slot.ensures.was_vacant c.in_ok-slot.ensures.updates c.in_ok-owners.ensures.made
        c.self.invariant.chained c.in_ok-owners.ensures.short c.link_all.ensures.same;
  };
  ranked =
      won_with g.V.Ranked.leads g.met.V.Ranked.itself g.met.V.Ranked.onward c.self.inside.slots c.insert.new.self c.link_all.new.slots c.make_room_for_match.new.winners.items c.in_ok-slot.slot (record { value = c.args.value; owners = c.in_ok-owners.owners }) c.in_ok-slot.ensures.was_vacant c.in_ok-slot.ensures.updates c.link_all.ensures.same
      (roomier_won g.V.Ranked.leads g.met.V.Ranked.itself g.met.V.Ranked.onward c.self.inside.slots c.self.inside.winners.items c.make_room_for_match.new.winners.items c.make_room_for_match.ensures.same c.make_room_for_match.ensures.more c.self.invariant.ranked)
      c.replay.new.winners.items (subst (λ k. k < length c.make_room_for_match.new.winners.items) (c.vacant_key-2.ensures.value ∙ sym c.in_ok-slot.ensures.key) c.in_ok-make_room_for_match.ensures.room.room) c.replay.ensures.matched c.replay.ensures.size;
}

pub returns-clause-held : goal.returns-clause-held
returns-clause-held g c =
    is_held_too c.self.inside.slots c.insert.new.self c.link_all.new.slots c.self.inside.chains.items c.make_room.new.chains.items c.in_ok-slot.slot (record { value = c.args.value; owners = c.in_ok-owners.owners }) c.args.numbers.now c.in_ok-slot.ensures.was_vacant c.in_ok-slot.ensures.updates c.in_ok-owners.ensures.made
    c.args.self.now c.self.view_is c.link_all.ensures.same
