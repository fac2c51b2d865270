use Rattle.std.proofs.Common.{◌≡◌, ◌++◌, take}
use Rattle.std.specs.Prelude.{flat_map}
use Rattle.lrp_watch.specs.Watching.{texts_of_value}
use Rattle.lrp_watch.proofs.domains.add_values.Given as goal

-- those of the values so far were added
abbrev pub invariant-loop-value : goal.invariant-loop-value
invariant-loop-value l = l.all.items ≡ l.fn.all.items ++ flat_map texts_of_value (take l.value-index l.values)
