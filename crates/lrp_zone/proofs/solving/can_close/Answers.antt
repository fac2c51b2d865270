-- A copy of the bounds is closed.
use Rattle.std.proofs.Common.{arith}
use Rattle.lrp_zone.proofs.Solutions.{closes_where, small_copy}
use Rattle.lrp_zone.proofs.solving.can_close.Goals as goal

pub close-requires-clause-small : goal.close-requires-clause-small
close-requires-clause-small c = small_copy _ _ _ _ _ c.widened-cells.ensures (omega arith) c.requires.small

pub returns : goal.returns
returns c = closes_where _ _ _ _ _ c.widened-cells.ensures c.close.ensures.none c.close.ensures.some
