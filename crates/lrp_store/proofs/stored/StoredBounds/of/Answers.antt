-- The bounds of all places stand for the table, and eight of them need no memory.
use Rattle.std.proofs.Common.{◌≤◌, ◌+◌, arith, sym, ap, subst, ◌∙◌}
use Rattle.lrp_store.specs.Stored.{bounds_of}
use Rattle.lrp_store.proofs.Listed.{AreOf, all_listed, all_rows, table_of-all, pushed, passed, has_room, word_bound}
use Rattle.lrp_store.proofs.stored.StoredBounds.of.Goals as goal
use Rattle.lrp_store.proofs.stored.StoredBounds.of.Goals.{in-Some+in_ok-push, in_default}

pub returns-in_err-push-clause-succeeds : goal.returns-in_err-push-clause-succeeds
returns-in_err-push-clause-succeeds c = λ few.
    let failed = c.in_err-push.ensures.succeeds (has_room c.args.zone.now.bounds c.places_of-places.ensures.valid.size c.loop-place.place (omega (arith, c.loop-place-test.true, c.places_of-places.ensures.high)) c.loop-place.entries.items c.loop-place.invariant.listed c.in-Some.most c.loop-place.entries.capacity (sym c.in-Some.ensures.value) few c.loop-place.invariant.room) in
    cc

pub loop-place-preserved : goal.loop-place-preserved
loop-place-preserved c = elim c.match-bound_of.branch [
  | in-Some+in_ok-push w ↦ record {
    listed = pushed c.args.zone.now.bounds c.places_of-places.ensures.valid.size c.loop-place.place (omega (arith, c.loop-place-test.true, c.places_of-places.ensures.high)) c.loop-place.entries.items c.loop-place.invariant.listed w.in-Some.most _ w.at.result c.match-bound_of.entries.items (sym w.in-Some.ensures.value) (word_bound w.in-Some.most w.in-Some.ensures.small) w.at.ensures (ap (λ e. e.items) w.entries-is ∙ w.in_ok-push.ensures.ok);
    room = subst (λ e. 8 ≤ e.capacity) (sym w.entries-is) (omega (arith, c.loop-place.invariant.room, w.push.ensures.capacity));
  }
  | in_default w ↦ record {
    listed = subst (λ e. AreOf c.args.zone.now.bounds (c.loop-place.place + 1) (bounds_of e.items)) (sym w.entries-is) (passed c.args.zone.now.bounds c.places_of-places.ensures.valid.size c.loop-place.place (omega (arith, c.loop-place-test.true, c.places_of-places.ensures.high)) c.loop-place.entries.items c.loop-place.invariant.listed (sym w.in_default.ensures.value));
    room = subst (λ e. 8 ≤ e.capacity) (sym w.entries-is) c.loop-place.invariant.room;
  }
]

all_of : (c : goal.After-loop-place) → AreOf c.args.zone.now.bounds 81 (bounds_of c.loop-place.entries.items)
all_of c = all_rows c.args.zone.now c.places_of-places.ensures.valid c.loop-place.place (bounds_of c.loop-place.entries.items) (omega (arith, c.loop-place.auto.place-end, c.loop-place-test.false, c.places_of-places.ensures.value)) c.loop-place.invariant.listed

pub invariant_of-result : goal.invariant_of-result
invariant_of-result c = all_listed c.args.zone.now.bounds c.places_of-places.ensures.valid.size (bounds_of c.loop-place.entries.items) (all_of c)

pub returns-clause-ok : goal.returns-clause-ok
returns-clause-ok c = table_of-all c.args.zone.now.bounds c.places_of-places.ensures.valid.size (bounds_of c.loop-place.entries.items) (all_of c)
