-- A store of integers has room.
use Rattle.lrp_table_tests.proofs.EndLemmas.{room}
use Rattle.lrp_table_tests.proofs.ends.instants.Goals as goal

pub returns-clause-room : goal.returns-clause-room
returns-clause-room g c = room _ c.shape.ensures.valid c.add-2.ensures
