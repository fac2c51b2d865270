-- A text or a residue is put into the cell, and a bound into the table.
use Rattle.std.proofs.Common.{◌≡◌, ◌∙◌, SFits, Some, ap, arith, of_z, rules, to_z}
use Rattle.std.specs.Prelude.{◌-◌, slice_set}
use Rattle.std.specs.Int.{w64}
use Rattle.std.proofs.lemmas.Int.{to_z-of_z}
use Rattle.lrp_packed.proofs.Listed.{bound_put, cell_put}
use Rattle.lrp_packed.proofs.zones.put.Goals as goal

pub returns-then-place-lt16 : goal.returns-then-place-lt16
returns-then-place-lt16 c = cell_put c.args.entry c.args.cell.now c.put_in_cell.new.cell c.args.bounds.now (omega (arith, c.if-place-lt16.true, c.from-place.ensures)) c.put_in_cell.ensures

pub returns-else-place-lt16 : goal.returns-else-place-lt16
returns-else-place-lt16 c =
    let fits : SFits w64 c.args.entry.time = search rules in
    let same : to_z w64 (of_z w64 c.args.entry.time) ≡ c.args.entry.time = to_z-of_z w64 c.args.entry.time fits in
    bound_put c.args.entry c.args.cell.now c.args.bounds.now c.set.new.self (c.from-place.result - 16) (omega (arith, c.if-place-lt16.false, c.from-place.ensures)) (omega (arith, c.requires.low, c.from-place.ensures)) (c.set.ensures.value ∙ ap (λ x. slice_set c.args.bounds.now (c.from-place.result - 16) (Some x)) same)
