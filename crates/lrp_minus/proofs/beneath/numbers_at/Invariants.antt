-- The first numbers were put.
use Rattle.lrp_minus.proofs.BeneathLaws.{FirstNumbers}
use Rattle.lrp_minus.proofs.beneath.numbers_at.Given as goal

abbrev pub invariant-loop-i : goal.invariant-loop-i
invariant-loop-i l = FirstNumbers l.places l.numbers l.i l.own
