-- A cell is passed over where its first tuple without bounds is not before what was found.
use Rattle.std.proofs.Common.{◌≡◌, ℕ, List, length, take, replicate, None, arith, refl, sym, subst}
use Rattle.std.specs.Prelude.{ℤ}
use Rattle.std.proofs.lemmas.List.{length-take-le}
use Rattle.lrp_model.specs.declared.tuples.Cell.{Cell}
use Rattle.lrp_zone.specs.Zones.{IsZone}
use Rattle.lrp_store.specs.Stores.{StoreView, zone_of, IsStore}
use Rattle.lrp_store.specs.Least.{IsFoundSpot, IsNearestTo, IsNotAfter}
use Rattle.lrp_store.proofs.Held.{Table}
use Rattle.lrp_store.proofs.Added.{free_zone}
use Rattle.lrp_store.proofs.Aligning.{zone_read}
use Rattle.lrp_store.proofs.StoreFirst.{front_test}
use Rattle.lrp_store.proofs.store.Store.may_be_nearer.Goals as goal

pub nearest_of_cell-requires-clause-zone : goal.nearest_of_cell-requires-clause-zone
nearest_of_cell-requires-clause-zone c =
    subst (λ z. IsZone z) (sym (zone_read (record { shape = c.self.inside.shape; period = c.self.inside.period; tables = c.self.inside.slots.lists; spare = c.self.inside.slots.spare }) c.args.self.now c.self.view_is c.args.cell.now (replicate 81 None) c.from-times.result _ c.from-times.ensures refl))
    (free_zone c.args.self.now (subst IsStore c.self.view_is c.self.invariant.valid) c.args.cell.now c.requires.proper)

pub nearest_of_cell-requires-clause-columns : goal.nearest_of_cell-requires-clause-columns
nearest_of_cell-requires-clause-columns c = let size : length c.args.cell.now.residues ≡ 8 = c.requires.proper.residues.size in length-take-le c.from-times.result c.args.cell.now.residues (omega (arith, c.self.invariant.valid.times, c.from-times.ensures, size))

-- the first tuple of a zone, as it is seen in the store
read : (s now : StoreView) → s ≡ now → (cell : Cell) (t : Table) (times : ℕ) → times ≡ s.shape.times → (xs : List ℤ) → IsNearestTo (record { period = s.period; residues = take times cell.residues; bounds = t }) times xs → IsNearestTo (zone_of now cell t) now.shape.times xs
read s now same cell t times et xs near = subst (λ v. IsNearestTo (zone_of v cell t) v.shape.times xs) same (subst (λ n. IsNearestTo (record { period = s.period; residues = take n cell.residues; bounds = t }) n xs) et near)

pub returns : goal.returns
returns c = λ e ys ns h.
    subst (λ f. IsNotAfter c.args.self.now f ys ns) (sym c.in-Some.is)
    (front_test c.args.self.now (subst IsStore c.self.view_is c.self.invariant.valid) c.args.cell.now c.requires.proper c.is_before.result c.nearest_of_cell.result
    (read (record { shape = c.self.inside.shape; period = c.self.inside.period; tables = c.self.inside.slots.lists; spare = c.self.inside.slots.spare }) c.args.self.now c.self.view_is c.args.cell.now (replicate 81 None) c.from-times.result c.from-times.ensures c.nearest_of_cell.result c.nearest_of_cell.ensures)
    c.in-Some.old (subst (IsFoundSpot c.args.self.now) c.in-Some.is c.requires.found) c.is_before.ensures e ys ns h)
