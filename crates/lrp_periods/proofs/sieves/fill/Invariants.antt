-- The residues so far are sifted.
use Rattle.lrp_periods.proofs.Sieving.{IsSifting}
use Rattle.lrp_periods.proofs.sieves.fill.Given as goal

abbrev pub invariant-loop-residue : goal.invariant-loop-residue
invariant-loop-residue l = IsSifting l.covers l.own l.cap l.fn.out l.residue l.out
