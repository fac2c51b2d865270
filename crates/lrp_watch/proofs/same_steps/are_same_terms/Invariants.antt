-- All are equal where those that are left are.
use Rattle.std.proofs.Common.{◌≡◌, drop}
use Rattle.lrp_watch.proofs.same_steps.are_same_terms.Given as goal

abbrev pub invariant-loop-i : goal.invariant-loop-i
invariant-loop-i l = drop l.i l.left ≡ drop l.i l.right → l.left ≡ l.right
