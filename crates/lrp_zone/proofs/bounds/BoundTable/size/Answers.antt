-- The list of the bounds is as long as that of the numbers.
use Rattle.lrp_zone.proofs.Stands.{view_size}
use Rattle.lrp_zone.proofs.bounds.BoundTable.size.Goals as goal

pub returns-clause-size : goal.returns-clause-size
returns-clause-size c = view_size _ _ c.self.invariant c.self.view_is
