-- The table is the one at the step's place.
use Rattle.std.proofs.Common.{rules}
use Rattle.lrp_eval.proofs.FreeingLaws.{left_done}
use Rattle.lrp_eval.proofs.freeing.give_up_one.Goals as goal

pub returns-then-readers-place : goal.returns-then-readers-place
returns-then-readers-place c = left_done c.args.readers.now c.args.tables.now.items c.args.of 0 c.nothing.result (search rules) (search rules) (search rules) (search rules)
