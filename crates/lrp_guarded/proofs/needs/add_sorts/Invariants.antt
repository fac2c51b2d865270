use Rattle.std.proofs.Common.{◌≡◌, flat_map, map, take}
use Rattle.lrp_core.specs.FreeVariables.{variable_of, with_variables}
use Rattle.lrp_guarded.proofs.needs.add_sorts.Given as goal

-- the variables of those so far were added
abbrev pub invariant-loop-sort : goal.invariant-loop-sort
invariant-loop-sort l = map variable_of l.all ≡ with_variables (map variable_of l.fn.all) (flat_map (λ e. map variable_of e.variables.now) (take l.sort-index l.sorts))
