-- The zone of the bounds is seen in the store.
use Rattle.std.proofs.Common.{◌≡◌, ℕ, length, take, refl, sym, subst, arith, rules}
use Rattle.std.proofs.lemmas.List.{length-take-le}
use Rattle.lrp_store.specs.Stores.{IsStore}
use Rattle.lrp_zone.specs.Zones.{IsZone, columns_of}
use Rattle.lrp_store.specs.Least.{IsRoom, IsNearestTo}
use Rattle.lrp_store.proofs.Aligning.{zone_read, zone_valid}
use Rattle.lrp_store.proofs.store.Store.nearest_in.Goals as goal

pub nearest_of_cell-requires-clause-zone : goal.nearest_of_cell-requires-clause-zone
nearest_of_cell-requires-clause-zone c =
    subst (λ t. IsZone (record { period = c.self.inside.period; residues = take c.from-times.result c.args.cell.now.residues; bounds = t })) (c.is_free.ensures.0 c.if-is_free.true)
    (zone_valid (record { shape = c.self.inside.shape; period = c.self.inside.period; tables = c.self.inside.slots.lists; spare = c.self.inside.slots.spare }) c.args.self.now c.self.view_is (subst IsStore c.self.view_is c.self.invariant.valid) c.args.cell.now c.args.bounds.now c.from-times.result c.requires.held c.from-times.ensures)

pub nearest_of_cell-requires-clause-columns : goal.nearest_of_cell-requires-clause-columns
nearest_of_cell-requires-clause-columns c = let size : length c.args.cell.now.residues ≡ 8 = search rules in length-take-le c.from-times.result c.args.cell.now.residues (omega (arith, c.self.invariant.valid.times, c.from-times.ensures))

pub returns-then-is_free : goal.returns-then-is_free
returns-then-is_free c =
    subst (λ z. IsNearestTo z (columns_of z) c.nearest_of_cell.result) (zone_read (record { shape = c.self.inside.shape; period = c.self.inside.period; tables = c.self.inside.slots.lists; spare = c.self.inside.slots.spare }) c.args.self.now c.self.view_is c.args.cell.now c.args.bounds.now c.from-times.result (record { period = c.self.inside.period; residues = take c.from-times.result c.args.cell.now.residues; bounds = c.args.bounds.now }) c.from-times.ensures refl)
    (subst (λ n. IsNearestTo (record { period = c.self.inside.period; residues = take c.from-times.result c.args.cell.now.residues; bounds = c.args.bounds.now }) n c.nearest_of_cell.result) (sym (let size : length c.args.cell.now.residues ≡ 8 = search rules in length-take-le c.from-times.result c.args.cell.now.residues (omega (arith, c.self.invariant.valid.times, c.from-times.ensures))))
    (subst (λ t. IsNearestTo (record { period = c.self.inside.period; residues = take c.from-times.result c.args.cell.now.residues; bounds = t }) c.from-times.result c.nearest_of_cell.result) (sym (c.is_free.ensures.0 c.if-is_free.true)) c.nearest_of_cell.ensures))

pub zone-requires : goal.zone-requires
zone-requires c = zone_valid (record { shape = c.self.inside.shape; period = c.self.inside.period; tables = c.self.inside.slots.lists; spare = c.self.inside.slots.spare }) c.args.self.now c.self.view_is (subst IsStore c.self.view_is c.self.invariant.valid) c.args.cell.now c.args.bounds.now c.from-times.result c.requires.held c.from-times.ensures

pub nearest-requires : goal.nearest-requires
nearest-requires c = record { room = subst (λ z. (h : ℕ) × IsRoom z h) (sym (zone_read (record { shape = c.self.inside.shape; period = c.self.inside.period; tables = c.self.inside.slots.lists; spare = c.self.inside.slots.spare }) c.args.self.now c.self.view_is c.args.cell.now c.args.bounds.now c.from-times.result c.zone.result c.from-times.ensures c.zone.ensures)) c.requires.room }

pub returns : goal.returns
returns c = subst (λ z. IsNearestTo z (columns_of z) c.nearest.result) (zone_read (record { shape = c.self.inside.shape; period = c.self.inside.period; tables = c.self.inside.slots.lists; spare = c.self.inside.slots.spare }) c.args.self.now c.self.view_is c.args.cell.now c.args.bounds.now c.from-times.result c.zone.result c.from-times.ensures c.zone.ensures) c.nearest.ensures
