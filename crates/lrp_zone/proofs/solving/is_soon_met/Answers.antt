-- The numbers that meet the bounds are a solution.
use Rattle.std.proofs.Common.{pos}
use Rattle.std.specs.Prelude.{slice_index_or}
use Rattle.lrp_zone.proofs.solving.is_soon_met.Goals as goal

pub returns-then-meets : goal.returns-then-meets
returns-then-meets c = λ t. record { some = ((λ i. slice_index_or c.loop-turn.numbers i (pos 0)), c.meets.ensures.0 c.if-meets.true) }
