-- A cover for each part so far.
use Rattle.std.proofs.Common.{take}
use Rattle.lrp_periods.specs.Sieves.{AreCoversOf}
use Rattle.lrp_periods.proofs.sieves.covers_of.Given as goal

abbrev pub invariant-loop-part : goal.invariant-loop-part
invariant-loop-part l = AreCoversOf (take l.part-index l.parts) l.covers
