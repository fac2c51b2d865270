-- The bounds so far are gathered.
use Rattle.std.proofs.Common.{pos}
use Rattle.lrp_zone.specs.Given.{IsGathered}
use Rattle.lrp_zone.proofs.gathering.gathered.Given as goal

abbrev pub invariant-loop-bound : goal.invariant-loop-bound
invariant-loop-bound l = IsGathered (pos l.period) l.residues l.bounds l.bound-index l.out
