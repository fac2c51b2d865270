-- What is left of the first zones was added.
use Rattle.std.proofs.Common.{ℕ, ◌+◌, ◌*◌}
use Rattle.lrp_store.specs.Stores.{zones_at}
use Rattle.lrp_minus.specs.Cutters.{SidesHaveReach, IsSparedIn}
use Rattle.lrp_tables.proofs.Gathering.{IsGathering}
use Rattle.lrp_cutting.proofs.Lists.{IsReadTo}
use Rattle.lrp_minus.proofs.SparedLaws.{IsAfterZone}
use Rattle.lrp_store.specs.Growing.{GrowsByAtMost}
use Rattle.lrp_minus.specs.Counts.{HasAtMost, most_by}
use Rattle.lrp_minus.proofs.differences.add_same_cell.Given as goal

abbrev pub invariant-loop-zone : goal.invariant-loop-zone
invariant-loop-zone l =
    IsReadTo (λ i. ((high : ℕ) → SidesHaveReach l.difference.left.now l.difference.right.now high → IsGathering (IsSparedIn l.difference.places.now l.difference.left.now l.cell l.difference.right.now) (IsAfterZone (zones_at l.difference.left.now l.cell) i) l.difference.cap (high + 2 * l.difference.left.now.period) l.initial.out l.out) × ((n : ℕ) → HasAtMost n l.difference.right.now → GrowsByAtMost (i * most_by l.difference.left.now.shape.times n) l.cell l.initial.out l.out))
    (zones_at l.difference.left.now l.cell) l.zone-iterator
