use Rattle.std.proofs.Common.{refl, map, flat_map, ap, ◌∙◌}
use Rattle.lrp_model.specs.Variables.{variables_of_test}
use Rattle.lrp_core.specs.FreeVariables.{variable_of, with_variables}
use Rattle.lrp_guarded.proofs.Steps.{join_makes}
use Rattle.lrp_guarded.proofs.making.Making.join.Goals as goal

pub returns : goal.returns
returns c = λ a. join_makes c.args.left c.args.tests c.args.self.now _ c.join.new.self c.in_ok-columns.columns c.add_tests.new.all c.in_ok-columns.ensures (c.in_ok-add_tests.ensures ∙ ap (λ ts. with_variables (map variable_of c.in_ok-columns.columns) (flat_map variables_of_test ts)) c.as_slice.ensures) c.in_ok-join.ensures refl refl c.in_ok-push.ensures.items a
