use Rattle.lrp_slots.proofs.Linked.{none_linked}
use Rattle.lrp_slots.proofs.slots.Slots.new.Goals as goal

pub invariant_of-result : goal.invariant_of-result
invariant_of-result g c = none_linked c.new.result c.new-2.result c.new.ensures.empty c.new-2.ensures
