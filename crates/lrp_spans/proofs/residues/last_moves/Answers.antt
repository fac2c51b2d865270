-- Where all residues move so, the last one does.
use Rattle.std.proofs.Common.{◌<◌, ◌-◌, arith, length}
use Rattle.lrp_spans.proofs.Shifts.{move_is}
use Rattle.lrp_spans.proofs.residues.last_moves.Goals as goal

pub returns-then-number_at-residues : goal.returns-then-number_at-residues
returns-then-number_at-residues c = λ m.
    let some : 0 < length c.args.residues.now = omega (arith, c.requires.inside) in
    absurd (c.if-number_at-residues.true (move_is c.args.period c.args.residues.now c.requires.residues some c.args.places c.requires.low c.requires.inside (length c.args.residues.now - 1) c.number_at.result c.number_at.ensures (m (length c.args.residues.now - 1) (omega (arith, some)))))
