-- An empty store has any reach.
use Rattle.std.proofs.Common.{◌^◌, ap}
use Rattle.lrp_store.proofs.Rooms.{empty_reach}
use Rattle.lrp_table_tests.proofs.parts.sixths.Goals as goal

pub add_sixths-requires-clause-reach : goal.add_sixths-requires-clause-reach
add_sixths-requires-clause-reach g c = empty_reach c.new-store.result (2 ^ 55) (ap (λ v. v.tables) c.new-store.ensures)
