-- The residues stand once, and once more a period further on.
use Rattle.std.proofs.Common.{arith, sym}
use Rattle.lrp_spans.proofs.Turning.{nth_first, nth_second}
use Rattle.lrp_spans.proofs.residues.number_at.Goals as goal

pub returns-then-i-count : goal.returns-then-i-count
returns-then-i-count c = sym (nth_first c.args.period c.args.residues.now c.requires.residues (omega (arith, c.if-i-count.true)) c.args.i c.if-i-count.true)

pub returns-else-i-count : goal.returns-else-i-count
returns-else-i-count c = sym (nth_second c.args.period c.args.residues.now c.requires.residues (omega (arith, c.requires.place)) c.args.i (omega (arith, c.if-i-count.false)) c.requires.place)
