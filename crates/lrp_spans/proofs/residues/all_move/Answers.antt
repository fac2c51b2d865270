-- One more residue moves so, or it does not.
use Rattle.std.proofs.Common.{◌+◌, ◌<◌, ◌≡◌, arith, length, slice_index_or}
use Rattle.lrp_spans.specs.Repeating.{nth}
use Rattle.lrp_spans.proofs.Shifts.{first_more, move_holds, move_is}
use Rattle.lrp_spans.proofs.residues.all_move.Goals as goal

pub returns-then-number_at-residues : goal.returns-then-number_at-residues
returns-then-number_at-residues c =
    let some : 0 < length c.args.residues.now = omega (arith, c.requires.inside) in
    (λ f. absurd (cc f), λ m. absurd (c.if-number_at-residues.true (move_is c.args.period c.args.residues.now c.requires.residues some c.args.places c.requires.low c.requires.inside c.loop-i.i c.number_at.result c.number_at.ensures (m c.loop-i.i c.loop-i-test.true))))

pub loop-i-preserved : goal.loop-i-preserved
loop-i-preserved c =
    let some : 0 < length c.args.residues.now = omega (arith, c.requires.inside) in
    first_more (λ k. nth c.args.period c.args.residues.now (k + c.args.places) + nth c.args.period c.args.residues.now 0 ≡ slice_index_or c.args.residues.now k 0 + nth c.args.period c.args.residues.now c.args.places)
    c.loop-i.i c.loop-i.invariant
    (move_holds c.args.period c.args.residues.now c.requires.residues some c.args.places c.requires.low c.requires.inside c.loop-i.i c.number_at.result c.number_at.ensures c.if-number_at-residues.false)
