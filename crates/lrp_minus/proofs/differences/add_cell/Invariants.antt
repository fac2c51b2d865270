-- What is left of the first zones was added.
use Rattle.std.proofs.Common.{◌≡◌, ℕ, ◌+◌, ◌*◌}
use Rattle.lrp_store.specs.Stores.{HasReach, zones_at}
use Rattle.lrp_minus.specs.Counts.{GrowsIn, HasAtMost, LiesInWideCell, most_by}
use Rattle.lrp_minus.specs.Cutters.{IsSparedIn}
use Rattle.lrp_tables.proofs.Gathering.{IsGathering}
use Rattle.lrp_cutting.proofs.Lists.{IsReadTo}
use Rattle.lrp_minus.proofs.SparedLaws.{IsAfterZone}
use Rattle.lrp_minus.proofs.differences.add_cell.Given as goal

abbrev pub invariant-loop-zone : goal.invariant-loop-zone
invariant-loop-zone l =
    IsReadTo (λ i. (l.out.shape ≡ l.initial.out.shape) × (l.out.period ≡ l.initial.out.period) × ((high : ℕ) → HasReach l.difference.left.now high → HasReach l.difference.right.now high → IsGathering (IsSparedIn l.difference.places.now l.difference.left.now l.cell l.difference.right.now) (IsAfterZone (zones_at l.difference.left.now l.cell) i) l.difference.cap (high + 2 * l.initial.out.period) l.initial.out l.out)
    × ((n : ℕ) → HasAtMost n l.difference.right.now → GrowsIn (LiesInWideCell l.difference.left.now.period l.cell) (λ within. i * most_by l.difference.left.now.shape.times n) l.initial.out l.out))
    (zones_at l.difference.left.now l.cell) l.zone-iterator
