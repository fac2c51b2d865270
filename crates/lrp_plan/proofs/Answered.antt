-- Turns from the calls that make them.
use Rattle.std.proofs.Common.{◌≡◌, ℕ, List, Some, slice_get, Result, Ok, Err}
use Rattle.std.specs.Option.{is_some}
use Rattle.std.specs.Result.{OnOk}
use Rattle.lrp_core.specs.Cores.{core_of}
use Rattle.lrp_core.specs.declared.core_forms.Core.{Core}
use Rattle.lrp_model.specs.Formulas.{Form}
use Rattle.lrp_model.specs.Satisfaction.{Structure}
use Rattle.lrp_model.specs.Conjunctions.{first_or_0}
use Rattle.lrp_model.specs.Plans.{plan_of}
use Rattle.lrp_model.specs.declared.formulas.Test.{Test}
use Rattle.lrp_plan.specs.declared.drafts.Draft.{Draft}
use Rattle.lrp_plan.specs.declared.elements.Element.{Element}
use Rattle.lrp_plan.specs.declared.elements.Kind.{Kind}
use Rattle.lrp_plan.specs.declared.sources.Sources.{Sources}
use Rattle.lrp_plan.specs.declared.taking.Taking.{Taking}
use Rattle.lrp_plan.specs.Drafts.{Extends}
use Rattle.lrp_plan.specs.Taking.{NextTest, TakesElement, TakesTest}
use Rattle.lrp_plan.specs.Waiting.{goes_first, turn_of}
use Rattle.lrp_plan.specs.Elements.{element_variables, element_inner, AreInner, TakesAt, CanPlan, TakesNext, TurnsTest, element_of}
use Rattle.lrp_plan.specs.Sources.{AreSources}
use Rattle.lrp_plan.proofs.Turns.{turns_next, turns_test}

pub test_turned : {T E : Type 0} (r : Result T E) (mid after : Draft) (t : Test) (now next new : Taking) → NextTest now next (Some t) → OnOk r (TakesTest t next new mid after) → OnOk r (TurnsTest mid after now new)
test_turned (Ok x) mid after t now next new n takes = turns_test mid after t now next new n takes
test_turned (Err x) mid after t now next new n takes = tt

pub element_turned : {T E : Type 0} (r : Result T E) (kind : Kind) (sources : Sources) (fs : List Core) (qs rs : List Element) (mid last after : Draft) (e : Element) (now new : Taking) → TakesAt (first_or_0 (goes_first (turn_of kind (is_some now.result)) now.variables) qs) qs rs (Some e)
    → ((M : Structure) (K : ℕ) (core : Core) (f : Form) → AreSources M sources → slice_get fs e.index ≡ Some core → core_of core ≡ element_of kind f → AreInner (element_inner e) f → CanPlan M K f → Extends M K (plan_of f) mid last) → OnOk r (TakesElement kind (element_variables e) now new last after)
    → OnOk r ((M : Structure) → AreSources M sources → TakesNext kind M fs qs rs mid after now new)
element_turned (Ok x) kind sources fs qs rs mid last after e now new t plans takes = λ M s. turns_next kind M fs qs rs mid last after e now new t (λ K core f is taken inner can. plans M K core f s is taken inner can) takes
element_turned (Err x) kind sources fs qs rs mid last after e now new t plans takes = tt
