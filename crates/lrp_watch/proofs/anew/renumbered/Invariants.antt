-- The texts so far have their numbers in the other domain.
use Rattle.lrp_watch.proofs.Renewals.{AreRenumbered}
use Rattle.lrp_watch.proofs.anew.renumbered.Given as goal

abbrev pub invariant-loop-place : goal.invariant-loop-place
invariant-loop-place l = AreRenumbered l.domain l.answer.domain l.spot.texts l.place l.texts
