-- The zones so far come one after another, and two of them are parted where it is so told.
use Rattle.std.specs.Prelude.{IsTrue}
use Rattle.lrp_cutting.specs.Turns.{AreInTurnTo, ArePartedTo}
use Rattle.lrp_cutting.proofs.turns.stand_apart.Given as goal

abbrev pub invariant-loop-place : goal.invariant-loop-place
invariant-loop-place l = record {
  turns : AreInTurnTo l.zones l.place;
  parted : IsTrue l.are_parted → ArePartedTo l.zones l.place;
}
