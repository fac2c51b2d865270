use Rattle.std.proofs.Common.{◌≡◌, take, map}
use Rattle.std.specs.List.{flat_map}
use Rattle.lrp_model.specs.RawTerms.{said_term}
use Rattle.lrp_model.specs.Variables.{variables_of_term}
use Rattle.lrp_core.specs.FreeVariables.{variable_of, with_variables}
use Rattle.lrp_core.proofs.variables.add_terms.Given as goal

-- the variables of the terms so far were added
abbrev pub invariant-loop-term : goal.invariant-loop-term
invariant-loop-term l = map variable_of l.all ≡ with_variables (map variable_of l.fn.all) (flat_map variables_of_term (map said_term (take l.term-index l.terms)))
