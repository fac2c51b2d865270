-- No mark is set.
use Rattle.lrp_systems.proofs.WholeCells.{none_marked}
use Rattle.lrp_systems.proofs.marks.Marks.new.Goals as goal

pub returns : goal.returns
returns c = none_marked _ _ (c.in_ok-marks.ensures.items_if_clones_equal (λ y e. e))
