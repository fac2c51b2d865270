-- The lists so far are those of the sets so far.
use Rattle.std.proofs.Common.{◌≡◌, map}
use Rattle.indexmap.specs.IndexSet.{keys}
use Rattle.lrp_database.proofs.texts.lists_of.Given as goal

abbrev pub invariant-loop-set : goal.invariant-loop-set
invariant-loop-set l = l.lists ≡ map keys l.yielded
