-- The parts of the zones that are after.
use Rattle.std.proofs.Common.{◌≡◌, map, take}
use Rattle.lrp_steps.specs.Patterns.{part_of}
use Rattle.lrp_steps.proofs.filling.parts_from.Given as goal

abbrev pub invariant-loop-placed : goal.invariant-loop-placed
invariant-loop-placed l = l.parts.items ≡ map part_of (take l.placed-index l.zones)
