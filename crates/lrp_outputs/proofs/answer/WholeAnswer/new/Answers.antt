-- Zones with room have it for their text too.
use Rattle.lrp_outputs.proofs.RoomLemmas.{roomy}
use Rattle.lrp_outputs.proofs.answer.WholeAnswer.new.Goals as goal

pub invariant_of-result : goal.invariant_of-result
invariant_of-result c = record { room = roomy c.args.answer.store c.requires }
