-- The lesser of two bounds that can stand can stand.
use Rattle.lrp_zone.proofs.Stands.{stands_lesser}
use Rattle.lrp_zone.proofs.gathering.gather.Goals as goal

pub put-requires-clause-stands : goal.put-requires-clause-stands
put-requires-clause-stands c = stands_lesser _ _ _ c.lesser-least.ensures c.at.ensures.stands c.kept.ensures.stands
