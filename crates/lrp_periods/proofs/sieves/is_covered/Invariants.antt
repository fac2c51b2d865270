-- None of the covers so far has the residue.
use Rattle.std.specs.Prelude.{pos}
use Rattle.lrp_periods.proofs.Sieving.{AreFirstOpen}
use Rattle.lrp_periods.proofs.sieves.is_covered.Given as goal

abbrev pub invariant-loop-cover : goal.invariant-loop-cover
invariant-loop-cover l = AreFirstOpen l.covers (pos l.residue) l.cover-index
