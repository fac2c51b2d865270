-- The least answer of the parts so far.
use Rattle.std.proofs.Common.{◌<◌, length}
use Rattle.lrp_outputs.specs.PartLeasts.{IsLeastUpTo}
use Rattle.lrp_outputs.proofs.least.least_part.Given as goal

abbrev pub invariant-loop-part : goal.invariant-loop-part
invariant-loop-part l = record { place : l.found.part < length l.parts; least : IsLeastUpTo l.parts l.part l.found }
