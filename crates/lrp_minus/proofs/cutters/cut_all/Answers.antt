-- One zone more is cut to the residues, or has no tuple there.
use Rattle.std.proofs.Common.{◌≡◌, ◌+◌, ◌-◌, ◌≤◌, ◌^◌, Some, length, take, arith, refl, sym, subst, ◌∙◌, to_z, of_z}
use Rattle.std.specs.Prelude.{ℤ, pos, nat_abs, slice_get, ◌≤ℤ◌}
use Rattle.std.specs.Int.{w64}
use Rattle.std.proofs.lemmas.Int.{ints}
use Rattle.lrp_theory.specs.Divides.{Divides}
use Rattle.lrp_zone.specs.Zones.{reach_of}
use Rattle.lrp_store.specs.Stores.{zones_at}
use Rattle.lrp_minus.specs.Cutters.{AreCutOf}
use Rattle.lrp_cutting.proofs.Lists.{read_begins, read_ends, read_goes, read_next}
use Rattle.lrp_minus.proofs.CutterLaws.{cut_end, cut_none, cut_less_at, cut_more_at, read_agrees, read_columns, read_period, read_reach, read_zone}
use Rattle.lrp_minus.proofs.cutters.cut_all.Goals as goal

pub loop-zone-init : goal.loop-zone-init
loop-zone-init c = read_begins _ (zones_at c.args.store.now c.args.cell.now) c.into_iter-zone-iterator.result (c.into_iter-zone-iterator.ensures.into_iter_gives ∙ c.zones_of-zone-items.ensures) (rw c.new-cutters.ensures (cut_none c.args.places.now _ c.args.residues.now))

pub cutter_of-requires-clause-zone : goal.cutter_of-requires-clause-zone
cutter_of-requires-clause-zone c = read_zone c.args.store.now c.requires.store c.args.cell.now c.loop-zone.invariant.place c.in-Some.zone (read_next _ (zones_at c.args.store.now c.args.cell.now) c.loop-zone.zone-iterator c.loop-zone.invariant c.in-Some.zone c.next.new.self c.in-Some.ensures.steps)

pub cutter_of-requires-clause-multiple : goal.cutter_of-requires-clause-multiple
cutter_of-requires-clause-multiple c =
    let read : slice_get (zones_at c.args.store.now c.args.cell.now) c.loop-zone.invariant.place ≡ Some c.in-Some.zone = read_next _ (zones_at c.args.store.now c.args.cell.now) c.loop-zone.zone-iterator c.loop-zone.invariant c.in-Some.zone c.next.new.self c.in-Some.ensures.steps in
    let w : to_z w64 (of_z w64 c.args.period) ≡ c.args.period = omega (arith, ints, c.ranges.period.sfits) in
    subst (λ k. Divides (pos k) (to_z w64 (of_z w64 c.args.period))) (sym (read_period c.args.store.now c.requires.store c.args.cell.now c.loop-zone.invariant.place c.in-Some.zone read)) (subst (λ (k : ℤ). Divides (pos c.args.store.now.period) k) (sym w) c.requires.multiple)

pub cutter_of-requires-clause-count : goal.cutter_of-requires-clause-count
cutter_of-requires-clause-count c =
    let read : slice_get (zones_at c.args.store.now c.args.cell.now) c.loop-zone.invariant.place ≡ Some c.in-Some.zone = read_next _ (zones_at c.args.store.now c.args.cell.now) c.loop-zone.zone-iterator c.loop-zone.invariant c.in-Some.zone c.next.new.self c.in-Some.ensures.steps in
    c.requires.count ∙ sym (read_columns c.args.store.now c.requires.store c.args.cell.now c.loop-zone.invariant.place c.in-Some.zone read)

pub cutter_of-requires-clause-agree : goal.cutter_of-requires-clause-agree
cutter_of-requires-clause-agree c =
    let read : slice_get (zones_at c.args.store.now c.args.cell.now) c.loop-zone.invariant.place ≡ Some c.in-Some.zone = read_next _ (zones_at c.args.store.now c.args.cell.now) c.loop-zone.zone-iterator c.loop-zone.invariant c.in-Some.zone c.next.new.self c.in-Some.ensures.steps in
    read_agrees c.args.store.now c.requires.store c.args.cell.now c.loop-zone.invariant.place c.in-Some.zone read c.args.places.now c.args.residues.now c.requires.agree

pub cutter_of-requires-clause-reach : goal.cutter_of-requires-clause-reach
cutter_of-requires-clause-reach c =
    let read : slice_get (zones_at c.args.store.now c.args.cell.now) c.loop-zone.invariant.place ≡ Some c.in-Some.zone = read_next _ (zones_at c.args.store.now c.args.cell.now) c.loop-zone.zone-iterator c.loop-zone.invariant c.in-Some.zone c.next.new.self c.in-Some.ensures.steps in
    let w : to_z w64 (of_z w64 c.args.period) ≡ c.args.period = omega (arith, ints, c.ranges.period.sfits) in
    let r : reach_of c.in-Some.zone ≤ 2 ^ 62 - nat_abs c.args.period = read_reach c.args.store.now c.requires.store c.args.cell.now c.loop-zone.invariant.place c.in-Some.zone read _ c.requires.reach in
    let h : nat_abs c.args.period ≤ 2 ^ 62 = c.requires.high in
    subst (λ k. reach_of c.in-Some.zone + nat_abs k ≤ 2 ^ 62) (sym w) (omega arith)

is_positive : (k : ℤ) → pos 1 ≤ℤ k → k ≡ pos (nat_abs k)
is_positive k low = omega (arith, ints)

pub loop-zone-preserved-in-Continue-1 : goal.loop-zone-preserved-in-Continue-1
loop-zone-preserved-in-Continue-1 c =
    let read : slice_get (zones_at c.args.store.now c.args.cell.now) c.loop-zone.invariant.place ≡ Some c.in-Some.zone = read_next _ (zones_at c.args.store.now c.args.cell.now) c.loop-zone.zone-iterator c.loop-zone.invariant c.in-Some.zone c.next.new.self c.in-Some.ensures.steps in
    let w : to_z w64 (of_z w64 c.args.period) ≡ c.args.period = omega (arith, ints, c.ranges.period.sfits) in
    let low : pos 1 ≤ℤ to_z w64 (of_z w64 c.args.period) = subst (λ k. pos 1 ≤ℤ k) (sym w) c.requires.low in
    let positive : to_z w64 (of_z w64 c.args.period) ≡ pos (nat_abs (to_z w64 (of_z w64 c.args.period))) = is_positive (to_z w64 (of_z w64 c.args.period)) low in
    read_goes _ _ (zones_at c.args.store.now c.args.cell.now) c.loop-zone.zone-iterator c.loop-zone.invariant c.in-Some.zone c.next.new.self c.in-Some.ensures.steps
    (cut_more_at (zones_at c.args.store.now c.args.cell.now) c.args.places.now (nat_abs (to_z w64 (of_z w64 c.args.period))) c.args.residues.now c.loop-zone.invariant.place c.loop-zone.cutters c.in-Some.zone read c.loop-zone.invariant.holds (to_z w64 (of_z w64 c.args.period)) positive c.push.new.self c.in-Some-cutter_of.cutter c.in_ok-push.ensures.ok c.in-Some-cutter_of.ensures.some)

pub loop-zone-preserved : goal.loop-zone-preserved
loop-zone-preserved c =
    let read : slice_get (zones_at c.args.store.now c.args.cell.now) c.loop-zone.invariant.place ≡ Some c.in-Some.zone = read_next _ (zones_at c.args.store.now c.args.cell.now) c.loop-zone.zone-iterator c.loop-zone.invariant c.in-Some.zone c.next.new.self c.in-Some.ensures.steps in
    let w : to_z w64 (of_z w64 c.args.period) ≡ c.args.period = omega (arith, ints, c.ranges.period.sfits) in
    let low : pos 1 ≤ℤ to_z w64 (of_z w64 c.args.period) = subst (λ k. pos 1 ≤ℤ k) (sym w) c.requires.low in
    let positive : to_z w64 (of_z w64 c.args.period) ≡ pos (nat_abs (to_z w64 (of_z w64 c.args.period))) = is_positive (to_z w64 (of_z w64 c.args.period)) low in
    read_goes _ _ (zones_at c.args.store.now c.args.cell.now) c.loop-zone.zone-iterator c.loop-zone.invariant c.in-Some.zone c.next.new.self c.in-Some.ensures.steps
    (cut_less_at (zones_at c.args.store.now c.args.cell.now) c.args.places.now (nat_abs (to_z w64 (of_z w64 c.args.period))) c.args.residues.now c.loop-zone.invariant.place c.loop-zone.cutters c.in-Some.zone read c.loop-zone.invariant.holds (to_z w64 (of_z w64 c.args.period)) positive c.loop-zone.cutters refl c.in_default.ensures.none)

pub returns : goal.returns
returns c =
    let w : to_z w64 (of_z w64 c.args.period) ≡ c.args.period = omega (arith, ints, c.ranges.period.sfits) in
    let all : c.loop-zone.invariant.place ≡ length (zones_at c.args.store.now c.args.cell.now) = read_ends _ (zones_at c.args.store.now c.args.cell.now) c.loop-zone.zone-iterator c.loop-zone.invariant c.in-None.ensures.steps.0 in
    cut_end (zones_at c.args.store.now c.args.cell.now) c.args.places.now (nat_abs c.args.period) c.args.residues.now c.loop-zone.invariant.place c.loop-zone.cutters all (subst (λ k. AreCutOf (take c.loop-zone.invariant.place (zones_at c.args.store.now c.args.cell.now)) c.args.places.now (nat_abs k) c.args.residues.now c.loop-zone.cutters) w c.loop-zone.invariant.holds)
