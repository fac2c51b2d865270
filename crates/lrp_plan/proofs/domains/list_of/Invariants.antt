use Rattle.std.proofs.Common.{◌≡◌, ◌++◌}
use Rattle.std.specs.BTreeSet.{keys}
use Rattle.lrp_plan.proofs.domains.list_of.Given as goal

-- those so far, and then those that are left, are the set's
abbrev pub invariant-loop-text : goal.invariant-loop-text
invariant-loop-text l = l.list.items ++ l.text-iterator ≡ keys l.texts
