-- A complement in the part's own period.
use Rattle.lrp_periods.proofs.TakenApart.{can_complement, lacked_part}
use Rattle.lrp_periods.proofs.complements.outside_of.Goals as goal

pub complement-requires : goal.complement-requires
complement-requires c = can_complement c.requires

pub returns : goal.returns
returns c = lacked_part c.requires c.small.result c.in_ok-made.ensures.complement.table c.small.ensures.same c.small.ensures.valid c.small.ensures.reach
