-- The zone of the cell's period and residues, and of the bounds.
use Rattle.std.proofs.Common.{◌≡◌, ◌∙◌, ◌≤◌, ◌^◌, ap, arith, take, to_z, of_z, w64}
use Rattle.std.specs.Prelude.{pos}
use Rattle.std.proofs.lemmas.Int.{ints}
use Rattle.lrp_cutting.proofs.BoundedLaws.{given_all, none_meets, bounded_of}
use Rattle.lrp_cutting.proofs.bounded.bounded.Goals as goal

pub of-requires-clause-given : goal.of-requires-clause-given
of-requires-clause-given c =
    let high : c.args.cell.now.period ≤ 2 ^ 62 = c.columns-columns.ensures.valid.shape.period_high in
    let k : to_z w64 (of_z w64 c.period.result) ≡ pos c.args.cell.now.period = omega (arith, ints, c.period.ensures) in
    let rs : take c.columns-columns.result c.residues_of-residues.result ≡ c.args.cell.now.residues = ap (λ n. take n c.residues_of-residues.result) c.columns-columns.ensures.value ∙ c.residues_of-residues.ensures.value in
    given_all c.args.cell.now c.args.bounds.now c.requires _ _ k rs

pub returns-in_err-zone-clause-none : goal.returns-in_err-zone-clause-none
returns-in_err-zone-clause-none c =
    let high : c.args.cell.now.period ≤ 2 ^ 62 = c.columns-columns.ensures.valid.shape.period_high in
    let k : to_z w64 (of_z w64 c.period.result) ≡ pos c.args.cell.now.period = omega (arith, ints, c.period.ensures) in
    let rs : take c.columns-columns.result c.residues_of-residues.result ≡ c.args.cell.now.residues = ap (λ n. take n c.residues_of-residues.result) c.columns-columns.ensures.value ∙ c.residues_of-residues.ensures.value in
    rw c.from_residual.ensures (none_meets c.args.cell.now c.args.bounds.now c.requires _ _ k rs c.in_err-zone.ensures.none)

pub returns-clause-some : goal.returns-clause-some
returns-clause-some c =
    let high : c.args.cell.now.period ≤ 2 ^ 62 = c.columns-columns.ensures.valid.shape.period_high in
    let k : to_z w64 (of_z w64 c.period.result) ≡ pos c.args.cell.now.period = omega (arith, ints, c.period.ensures) in
    let rs : take c.columns-columns.result c.residues_of-residues.result ≡ c.args.cell.now.residues = ap (λ n. take n c.residues_of-residues.result) c.columns-columns.ensures.value ∙ c.residues_of-residues.ensures.value in
    bounded_of c.args.cell.now c.args.bounds.now c.requires _ _ k rs c.in_ok-zone.zone c.in_ok-zone.ensures.some c.columns.ensures.valid
