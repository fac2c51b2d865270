use Rattle.std.proofs.Common.{◌≡◌, map, ap, subst, ◌∙◌}
use Rattle.std.specs.Result.{OnOk}
use Rattle.lrp_core.specs.FreeVariables.{variable_of, with_variables}
use Rattle.lrp_model.specs.Variables.{variables_of_test}
use Rattle.lrp_guarded.proofs.OnceEach.{with_once}
use Rattle.lrp_guarded.proofs.lists.add_test.Goals as goal

pub returns : goal.returns
returns c =
    subst (λ ws. OnOk c.add_variables.result (map variable_of c.add_variables.new.all ≡ ws))
    (ap (with_variables (map variable_of c.args.all.now)) (ap (map variable_of) c.as_slice.ensures ∙ c.in_ok-variables.ensures) ∙ with_once (map variable_of c.args.all.now) (variables_of_test c.args.test.now))
    c.add_variables.ensures
