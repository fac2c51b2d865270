-- The zone of all shifted bounds.
use Rattle.std.proofs.Common.{◌+◌, ◌<◌, ◌≤◌, ◌^◌, ◌++◌, ◌∷◌, [], List, length, take, get_or, sym, subst, arith}
use Rattle.std.specs.Prelude.{pos, nat_abs, All}
use Rattle.std.proofs.lemmas.List.{take_more, take_all}
use Rattle.lrp_model.specs.declared.relations.Bound.{Bound}
use Rattle.lrp_steps.specs.Conditions.{IsWithZone}
use Rattle.lrp_steps.specs.Rows.{offsets_reach, IsShifted, IsZoneOfBounds, HasNoBounded}
use Rattle.lrp_steps.proofs.ReadRows.{AreShifted, one_shifted, bound_room, shifted_between, shifted_fit, shifted_no, with_shifted, no_bounds}
use Rattle.lrp_steps.proofs.row_bounds.with_bounds.Goals as goal

pub shifted_bound-requires-clause-room : goal.shifted_bound-requires-clause-room
shifted_bound-requires-clause-room c =
    let low : c.loop-bound.bound-index < length c.args.bounds.now = subst (λ l. c.loop-bound.bound-index < length l) c.as_slice-bound-items.ensures c.loop-bound-test.true in
    subst (λ (l : List Bound). nat_abs (get_or l c.loop-bound.bound-index (record { left = 0; right = 0; most = pos 0 })).most + offsets_reach c.args.terms.now < 2 ^ 62) (sym c.as_slice-bound-items.ensures) (bound_room c.args.bounds.now c.args.terms.now c.loop-bound.bound-index (record { left = 0; right = 0; most = pos 0 }) c.requires.room low)

pub loop-bound-preserved : goal.loop-bound-preserved
loop-bound-preserved c =
    let low : c.loop-bound.bound-index < length c.args.bounds.now = subst (λ l. c.loop-bound.bound-index < length l) c.as_slice-bound-items.ensures c.loop-bound-test.true in
    let is : IsShifted c.args.times.now c.args.terms.now (get_or c.args.bounds.now c.loop-bound.bound-index (record { left = 0; right = 0; most = pos 0 })) c.shifted_bound.result = subst (λ l. IsShifted c.args.times.now c.args.terms.now (get_or l c.loop-bound.bound-index (record { left = 0; right = 0; most = pos 0 })) c.shifted_bound.result) c.as_slice-bound-items.ensures c.shifted_bound.ensures in
    subst (λ l. AreShifted c.args.times.now c.args.terms.now l c.push.new.self.items) (sym (take_more c.args.bounds.now c.loop-bound.bound-index (record { left = 0; right = 0; most = pos 0 }) low))
    (subst (λ l. AreShifted c.args.times.now c.args.terms.now (take c.loop-bound.bound-index c.args.bounds.now ++ get_or c.args.bounds.now c.loop-bound.bound-index (record { left = 0; right = 0; most = pos 0 }) ∷ []) l) (sym c.in_ok-push.ensures.items)
    (one_shifted c.args.times.now c.args.terms.now (take c.loop-bound.bound-index c.args.bounds.now) c.loop-bound.shifted.items (get_or c.args.bounds.now c.loop-bound.bound-index (record { left = 0; right = 0; most = pos 0 })) c.shifted_bound.result c.loop-bound.invariant is))

pub bounded-requires-clause-between : goal.bounded-requires-clause-between
bounded-requires-clause-between c =
    let are : AreShifted c.args.times.now c.args.terms.now c.args.bounds.now c.loop-bound.shifted.items = subst (λ l. AreShifted c.args.times.now c.args.terms.now l c.loop-bound.shifted.items) (take_all c.loop-bound.bound-index c.args.bounds.now (subst (λ l. length l ≤ c.loop-bound.bound-index) c.as_slice-bound-items.ensures c.loop-bound-test.false)) c.loop-bound.invariant in
    subst (λ n. All (λ (b : Bound). (b.left ≤ n) × (b.right ≤ n)) c.deref.result.now) (sym c.len-columns.ensures) (subst (λ l. All (λ (b : Bound). (b.left ≤ length c.args.times.now) × (b.right ≤ length c.args.times.now)) l) (sym c.deref.ensures.value) (shifted_between c.args.times.now c.args.terms.now c.args.bounds.now c.loop-bound.shifted.items are))

pub bounded-requires-clause-small : goal.bounded-requires-clause-small
bounded-requires-clause-small c =
    let are : AreShifted c.args.times.now c.args.terms.now c.args.bounds.now c.loop-bound.shifted.items = subst (λ l. AreShifted c.args.times.now c.args.terms.now l c.loop-bound.shifted.items) (take_all c.loop-bound.bound-index c.args.bounds.now (subst (λ l. length l ≤ c.loop-bound.bound-index) c.as_slice-bound-items.ensures c.loop-bound-test.false)) c.loop-bound.invariant in
    subst (λ l. All (λ (b : Bound). nat_abs b.most ≤ 2 ^ 62) l) (sym c.deref.ensures.value) (shifted_fit c.args.times.now c.args.terms.now c.args.bounds.now c.loop-bound.shifted.items are c.requires.room)

pub returns-in_ok-with_zone-in-Some : goal.returns-in_ok-with_zone-in-Some
returns-in_ok-with_zone-in-Some c =
    let are : AreShifted c.args.times.now c.args.terms.now c.args.bounds.now c.loop-bound.shifted.items = subst (λ l. AreShifted c.args.times.now c.args.terms.now l c.loop-bound.shifted.items) (take_all c.loop-bound.bound-index c.args.bounds.now (subst (λ l. length l ≤ c.loop-bound.bound-index) c.as_slice-bound-items.ensures c.loop-bound-test.false)) c.loop-bound.invariant in
    with_shifted c.args.times.now c.args.terms.now c.args.bounds.now c.loop-bound.shifted.items are c.in-Some.zone
    (subst (λ n. IsZoneOfBounds c.loop-bound.shifted.items n c.in-Some.zone) c.len-columns.ensures (subst (λ l. IsZoneOfBounds l c.len-columns.result c.in-Some.zone) c.deref.ensures.value c.in-Some.ensures.some))
    c.counted-places.result c.counted-places.ensures.size c.counted-places.ensures.each c.requires.few c.args.pattern _ c.requires.known
    (subst (λ n. IsWithZone c.args.pattern (record { zone = c.in-Some.zone; places = take n c.counted-places.result }) c.in_ok-with_zone-in-Some.field-0) c.len-columns.ensures c.in_ok-with_zone-in-Some.ensures)

pub returns-in-None : goal.returns-in-None
returns-in-None c =
    let are : AreShifted c.args.times.now c.args.terms.now c.args.bounds.now c.loop-bound.shifted.items = subst (λ l. AreShifted c.args.times.now c.args.terms.now l c.loop-bound.shifted.items) (take_all c.loop-bound.bound-index c.args.bounds.now (subst (λ l. length l ≤ c.loop-bound.bound-index) c.as_slice-bound-items.ensures c.loop-bound-test.false)) c.loop-bound.invariant in
    shifted_no c.args.times.now c.args.terms.now c.args.bounds.now c.loop-bound.shifted.items are (subst (λ n. HasNoBounded c.loop-bound.shifted.items n) c.len-columns.ensures (subst (λ l. HasNoBounded l c.len-columns.result) c.deref.ensures.value c.in-None.ensures.none))

pub returns-then-len-eq0 : goal.returns-then-len-eq0
returns-then-len-eq0 c = no_bounds c.args.times.now c.args.terms.now c.args.bounds.now (omega (arith, c.len.ensures, c.if-len-eq0.true)) c.args.pattern c.requires.known
