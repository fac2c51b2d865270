use Rattle.std.proofs.Common.{◌≡◌, [], ◌∙◌, sym, ap, map, subst, false}
use Rattle.lrp_model.specs.Variables.{meet}
use Rattle.lrp_core.specs.FreeVariables.{variable_of}
use Rattle.lrp_plan.specs.Elements.{element_variables}
use Rattle.lrp_plan.specs.Waiting.{goes_first}
use Rattle.lrp_plan.proofs.WaitingLaws.{emptied, meet_nothing}
use Rattle.lrp_plan.proofs.waiting.none_goes.Goals as goal

pub returns-in-Meeting : goal.returns-in-Meeting
returns-in-Meeting c = λ e element.
    let none : c.args.variables.now ≡ [] = emptied c.args.variables.now (sym c.is_empty.ensures ∙ e) in
    subst (λ t. goes_first t c.args.variables.now element ≡ false) (sym c.in-Meeting.is) (ap (λ vs. meet (element_variables element) (map variable_of vs)) none ∙ meet_nothing (element_variables element))
