-- What is stored for a bound is small.
use Rattle.lrp_zone.proofs.Stands.{stands_small}
use Rattle.lrp_zone.proofs.gathering.kept.Goals as goal

pub returns-clause-stands : goal.returns-clause-stands
returns-clause-stands c = stands_small _ c.tightened.ensures.small
