-- The references that were looked at stand in it.
use Rattle.std.proofs.Common.{◌≡◌, take}
use Rattle.lrp_steps.proofs.lent.zones_and.Given as goal

abbrev pub invariant-loop-placed : goal.invariant-loop-placed
invariant-loop-placed l = l.all.items ≡ take l.placed-index l.zones
