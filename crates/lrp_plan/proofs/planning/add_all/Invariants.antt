use Rattle.std.proofs.Common.{◌≡◌, ◌++◌, take}
use Rattle.lrp_database.specs.Once.{texts_among}
use Rattle.lrp_plan.proofs.planning.add_all.Given as goal

-- those of the texts so far were added
abbrev pub invariant-loop-entry : goal.invariant-loop-entry
invariant-loop-entry l = l.all.items ≡ l.fn.all.items ++ texts_among (take l.entry-index l.texts)
