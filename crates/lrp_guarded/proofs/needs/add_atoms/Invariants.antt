use Rattle.std.proofs.Common.{◌≡◌, flat_map, map, take}
use Rattle.lrp_core.specs.FreeVariables.{variable_of, with_variables}
use Rattle.lrp_guarded.proofs.needs.add_atoms.Given as goal

-- the variables of those so far were added
abbrev pub invariant-loop-atom : goal.invariant-loop-atom
invariant-loop-atom l = map variable_of l.all ≡ with_variables (map variable_of l.fn.all) (flat_map (λ a. map variable_of a.variables.now) (take l.atom-index l.atoms))
