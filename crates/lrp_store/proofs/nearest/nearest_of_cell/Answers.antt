-- One column after the other.
use Rattle.std.proofs.Common.{◌≡◌, ◌<◌, ◌≤◌, arith, sym, subst, to_z, length, take}
use Rattle.std.specs.Prelude.{pos, ◌≤ℤ◌, ◌<ℤ◌}
use Rattle.std.specs.Int.{w64}
use Rattle.lrp_zone.specs.Order.{at}
use Rattle.lrp_store.proofs.Listed.{word_period}
use Rattle.lrp_store.proofs.WholeFirst.{AreNearest, one_nearest, residue_at, residue_word, near_kept, cell_nearest}
use Rattle.lrp_store.proofs.nearest.nearest_of_cell.Goals as goal

pub nearest_of-requires-clause-low : goal.nearest_of-requires-clause-low
nearest_of-requires-clause-low c = subst (λ v. pos 0 ≤ℤ v) (sym (residue_word c.args.period c.args.times c.args.residues.now c.requires.zone c.requires.columns c.loop-i.i c.loop-i-test.true)) (residue_at c.args.period c.args.times c.args.residues.now c.requires.zone c.requires.columns c.loop-i.i c.loop-i-test.true).low

pub nearest_of-requires-clause-high : goal.nearest_of-requires-clause-high
nearest_of-requires-clause-high c =
    subst (λ v. v <ℤ to_z w64 c.args.period) (sym (residue_word c.args.period c.args.times c.args.residues.now c.requires.zone c.requires.columns c.loop-i.i c.loop-i-test.true))
    (subst (λ k. at c.args.residues.now c.loop-i.i <ℤ k) (sym (word_period c.args.period c.requires.zone.shape.period_high)) (residue_at c.args.period c.args.times c.args.residues.now c.requires.zone c.requires.columns c.loop-i.i c.loop-i-test.true).high)

pub loop-i-preserved : goal.loop-i-preserved
loop-i-preserved c =
    let few : length (take c.args.times c.args.residues.now) ≤ 8 = c.requires.zone.shape.columns in
    let low : c.loop-i.i < 8 = omega (arith, c.requires.columns, c.loop-i-test.true) in
    one_nearest c.args.period c.args.residues.now c.loop-i.i c.loop-i.xs _ low
    (near_kept c.args.period c.requires.zone.shape.period_high _ _ _ c.nearest_of.result (word_period c.args.period c.requires.zone.shape.period_high) (residue_word c.args.period c.args.times c.args.residues.now c.requires.zone c.requires.columns c.loop-i.i c.loop-i-test.true) c.nearest_of.ensures) c.loop-i.invariant

pub returns : goal.returns
returns c =
    let end : c.loop-i.i ≡ c.args.times = omega arith in
    cell_nearest c.args.period c.args.times c.args.residues.now c.requires.zone c.requires.columns c.loop-i.xs (subst (λ n. AreNearest c.args.period c.args.residues.now n c.loop-i.xs) end c.loop-i.invariant)
