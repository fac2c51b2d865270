use Rattle.std.proofs.Common.{◌≡◌, flat_map, map, take}
use Rattle.lrp_core.specs.FreeVariables.{variable_of, with_variables}
use Rattle.lrp_guarded.specs.Choices.{part_variables}
use Rattle.lrp_guarded.proofs.needs.add_parts.Given as goal

-- the variables of those so far were added
abbrev pub invariant-loop-part : goal.invariant-loop-part
invariant-loop-part l = map variable_of l.all ≡ with_variables (map variable_of l.fn.all) (flat_map part_variables (take l.part-index l.parts))
