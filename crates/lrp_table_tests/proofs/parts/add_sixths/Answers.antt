-- A small zone of the store's period is added.
use Rattle.std.proofs.Common.{◌≡◌, ℕ, ◌+◌, ◌≤◌, ◌^◌, length, ap, sym, ◌∙◌, arith}
use Rattle.std.specs.Prelude.{pos}
use Rattle.std.proofs.lemmas.Int.{ints}
use Rattle.lrp_zone.specs.Zones.{reach_of}
use Rattle.lrp_store.proofs.Rooms.{grown_reach, own_period}
use Rattle.lrp_systems.proofs.LoneZones.{lone_fits, lone_within}
use Rattle.lrp_table_tests.proofs.parts.add_sixths.Goals as goal

six : (n : ℕ) → pos n ≡ pos 6 → n ≡ 6
six n e = omega (arith, ints)

pub add_system-requires-clause-fits : goal.add_system-requires-clause-fits
add_system-requires-clause-fits g c =
    let small : reach_of c.in-Some.zone + c.in-Some.zone.period ≤ 2 ^ 55 = c.in-Some.ensures.reach in
    let kept : c.args.store.now.period ≡ 6 = c.requires.period in
    lone_fits c.in-Some.zone c.in_order.result c.in_order.ensures.zone c.args.store.now c.shape.ensures.valid c.in_order.ensures.whole (ap length c.in-Some.ensures.residues ∙ sym c.requires.times) (own_period c.in-Some.zone.period _ (six _ c.in-Some.ensures.period ∙ sym c.requires.period)) (omega arith)

pub returns-clause-shape : goal.returns-clause-shape
returns-clause-shape g c = c.in-Ok.ensures.ok.grown.shape

pub returns-clause-period : goal.returns-clause-period
returns-clause-period g c = c.in-Ok.ensures.ok.grown.period

pub returns-clause-reach : goal.returns-clause-reach
returns-clause-reach g c =
    let small : reach_of c.in-Some.zone + c.in-Some.zone.period ≤ 2 ^ 55 = c.in-Some.ensures.reach in
    let own : c.in-Some.zone.period ≡ 6 = six _ c.in-Some.ensures.period in
    let kept : c.args.store.now.period ≡ 6 = c.requires.period in
    let within = lone_within c.in-Some.zone c.in_order.result c.in_order.ensures.zone c.args.store.now c.shape.ensures.valid c.in_order.ensures.whole (ap length c.in-Some.ensures.residues ∙ sym c.requires.times) in
    grown_reach _ _ _ (2 ^ 55) _ _ c.in-Ok.ensures.ok.grown (omega (arith, within)) c.requires.reach
