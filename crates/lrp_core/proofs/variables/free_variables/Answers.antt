use Rattle.std.proofs.Common.{map, ap, ◌∙◌}
use Rattle.lrp_model.specs.Variables.{is_among, free}
use Rattle.lrp_core.specs.Cores.{core_of}
use Rattle.lrp_core.specs.FreeVariables.{variable_of, with_variables}
use Rattle.lrp_core.proofs.VariableLists.{is_among-each_once}
use Rattle.lrp_core.proofs.variables.free_variables.Goals as goal

pub returns-clause-members : goal.returns-clause-members
returns-clause-members c v = ap (λ x. is_among x v) (c.in_ok-add_free.ensures ∙ ap (λ x. with_variables (map variable_of x) (free (core_of c.args.core.now))) c.in_ok-all.ensures) ∙ is_among-each_once (free (core_of c.args.core.now)) v
