-- Who reads the steps, among the first ones.
use Rattle.lrp_eval.specs.Freeing.{AreNoted}
use Rattle.lrp_eval.proofs.freeing.last_readers.Given as goal

abbrev pub invariant-loop-i : goal.invariant-loop-i
invariant-loop-i l = AreNoted l.steps l.i l.readers.items
