-- What is left of the tuples of the cells that are after was added, and the cells that are remembered are held whole.
use Rattle.lrp_store.specs.Stores.{StoreView}
use Rattle.lrp_systems.specs.Wholes.{AreWhole}
use Rattle.lrp_steps.proofs.TimePassed.{AreDropping, IsBegunWithout, IsDroppingCell}
use Rattle.lrp_steps.proofs.time_drops.without_time.Given as goal

abbrev pub invariant-loop-cell : goal.invariant-loop-cell
invariant-loop-cell l = AreDropping l.place l.store l.initial.out l.out l.cell-iterator × AreWhole l.wholes l.out

abbrev pub invariant-loop-zone : goal.invariant-loop-zone
invariant-loop-zone l =
    ((start : StoreView) → IsBegunWithout l.store start → IsDroppingCell l.place l.store start l.initial.out l.rest l.initial.zone-iterator l.cell-iterator → IsDroppingCell l.place l.store start l.out l.rest l.zone-iterator l.cell-iterator)
    × AreWhole l.wholes l.out
