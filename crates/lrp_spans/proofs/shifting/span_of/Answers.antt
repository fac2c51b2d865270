-- The turns of both stored bounds.
use Rattle.std.proofs.Common.{◌≡◌, ◌^◌, ◌≤◌, Option, Some, None, arith, refl, to_z, of_z, w64}
use Rattle.std.specs.Prelude.{ℤ, pos, ◌-ℤ◌, ◌≤ℤ◌, ◌<ℤ◌}
use Rattle.std.proofs.lemmas.Int.{ints}
use Rattle.lrp_theory.specs.Entries.{AtMost, entry, node}
use Rattle.lrp_zone.specs.Zones.{IsTight, IsZone, ZoneView, columns_of}
use Rattle.lrp_spans.proofs.TurnLaws.{residue_of, span_made, tight_high, tight_low}
use Rattle.lrp_spans.proofs.shifting.span_of.Goals as goal

-- a period and a residue are words
period_word : (z : ZoneView) → IsZone z → (k : ℤ) → k ≡ pos z.period → to_z w64 (of_z w64 k) ≡ pos z.period
period_word z valid k e = let h : z.period ≤ 2 ^ 62 = valid.shape.period_high in omega (arith, ints)

residue_word : (z : ZoneView) → IsZone z → columns_of z ≡ 1 → (r : ℤ) → r ≡ node z.residues 1 → to_z w64 (of_z w64 r) ≡ node z.residues 1
residue_word z valid one r e =
    let i = residue_of z valid one in
    let l : pos 0 ≤ℤ node z.residues 1 = i.low in
    let u : node z.residues 1 <ℤ pos z.period = i.high in
    let h : z.period ≤ 2 ^ 62 = valid.shape.period_high in
    omega (arith, ints)

less : (z : ZoneView) → IsZone z → columns_of z ≡ 1 → (r k : ℤ) → r ≡ node z.residues 1 → k ≡ pos z.period → r <ℤ k
less z valid one r k e f = let u : node z.residues 1 <ℤ pos z.period = (residue_of z valid one).high in omega (arith, ints)

-- a tight bound is small
tight_small : (k w : ℤ) (e : Option ℤ) → IsTight k w e → AtMost (2 ^ 62) e
tight_small k w None h = tt
tight_small k w (Some a) h = h.1

pub least_of-requires-clause-small : goal.least_of-requires-clause-small
least_of-requires-clause-small c =
    let z = c.args.zone.now in
    tight_small (pos z.period) (node z.residues 0 -ℤ node z.residues 1) (entry z.bounds 0 1) (c.requires.valid.shape.tight 0 1 (omega arith) (omega (arith, c.requires.column)))

pub turn_of-requires-clause-bound : goal.turn_of-requires-clause-bound
turn_of-requires-clause-bound c = tight_low c.args.zone.now c.requires.valid c.requires.column _ _ c.least_of.result c.least_of.ensures
    (period_word c.args.zone.now c.requires.valid c.period-period.result c.period-period.ensures) (residue_word c.args.zone.now c.requires.valid c.requires.column c.residue-residue.result c.residue-residue.ensures)

pub turn_of-requires-clause-residue_high : goal.turn_of-requires-clause-residue_high
turn_of-requires-clause-residue_high c = less c.args.zone.now c.requires.valid c.requires.column _ _
    (residue_word c.args.zone.now c.requires.valid c.requires.column c.residue-residue.result c.residue-residue.ensures) (period_word c.args.zone.now c.requires.valid c.period-period.result c.period-period.ensures)

pub turn_of-requires-2-clause-residue_high : goal.turn_of-requires-2-clause-residue_high
turn_of-requires-2-clause-residue_high c = less c.args.zone.now c.requires.valid c.requires.column _ _
    (residue_word c.args.zone.now c.requires.valid c.requires.column c.residue-residue.result c.residue-residue.ensures) (period_word c.args.zone.now c.requires.valid c.period-period.result c.period-period.ensures)

pub turn_of-requires-2-clause-bound : goal.turn_of-requires-2-clause-bound
turn_of-requires-2-clause-bound c = tight_high c.args.zone.now c.requires.valid c.requires.column _ _ c.bound.result c.bound.ensures
    (period_word c.args.zone.now c.requires.valid c.period-period.result c.period-period.ensures) (residue_word c.args.zone.now c.requires.valid c.requires.column c.residue-residue.result c.residue-residue.ensures)

pub returns : goal.returns
returns c = span_made c.args.zone.now c.requires.valid c.requires.column _ _ _ c.least_of.result c.bound.result c.least_of.ensures c.bound.ensures c.turn_of.ensures.turn c.turn_of-2.ensures.turn c.turn_of.ensures.small c.turn_of-2.ensures.small
    (period_word c.args.zone.now c.requires.valid c.period-period.result c.period-period.ensures) (residue_word c.args.zone.now c.requires.valid c.requires.column c.residue-residue.result c.residue-residue.ensures) refl
