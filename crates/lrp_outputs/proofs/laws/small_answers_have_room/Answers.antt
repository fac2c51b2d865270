use Rattle.lrp_outputs.proofs.SmallAnswers.{small_room}
use Rattle.lrp_outputs.proofs.laws.small_answers_have_room.Goals as goal

pub returns : goal.returns
returns c = small_room
