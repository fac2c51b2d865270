-- A text or a residue is put at its place, and a bound at none.
use Rattle.std.proofs.Common.{◌≡◌, SFits, None, Some, ap, arith, of_z, refl, replicate, rules, to_z}
use Rattle.std.specs.Prelude.{◌-◌, slice_set}
use Rattle.std.specs.Int.{w64}
use Rattle.std.proofs.lemmas.Int.{to_z-of_z}
use Rattle.lrp_packed.proofs.Listed.{bound_put, residue_put, text_put}
use Rattle.lrp_packed.proofs.zones.put_in_cell.Goals as goal

pub returns-then-place-lt8 : goal.returns-then-place-lt8
returns-then-place-lt8 c = (text_put c.args.entry c.args.cell.now _ (replicate 81 None) (omega (arith, c.if-place-lt8.true, c.from-place.ensures)) (ap (λ i. slice_set c.args.cell.now.texts i c.args.entry.text) c.from-place.ensures) refl).cell_is

pub returns-then-place-lt16 : goal.returns-then-place-lt16
returns-then-place-lt16 c =
    let fits : SFits w64 c.args.entry.time = search rules in
    let same : to_z w64 (of_z w64 c.args.entry.time) ≡ c.args.entry.time = to_z-of_z w64 c.args.entry.time fits in
    (residue_put c.args.entry c.args.cell.now _ (replicate 81 None) (c.from-place.result - 8) (omega (arith, c.if-place-lt8.false, c.from-place.ensures)) (omega (arith, c.if-place-lt16.true)) refl (ap (slice_set c.args.cell.now.residues (c.from-place.result - 8)) same)).cell_is

pub returns-else-place-lt16 : goal.returns-else-place-lt16
returns-else-place-lt16 c =
    (bound_put c.args.entry c.args.cell.now (replicate 81 None) (slice_set (replicate 81 None) (c.from-place.result - 16) (Some c.args.entry.time)) (c.from-place.result - 16) (omega (arith, c.if-place-lt16.false, c.from-place.ensures)) (omega (arith, c.requires.low, c.from-place.ensures)) refl).cell_is
