-- Elements of an `and` of the program that wait for their turn.
use Rattle.std.specs.Prelude.{◌≡◌, Bool, false, ◌&&◌, List, map}
use Rattle.std.specs.List.{AllByRecursion}
use Rattle.lrp_core.specs.FreeVariables.{variable_of}
use Rattle.lrp_core.specs.declared.variables.Variable.{Variable as ProgramVariable}
use Rattle.lrp_model.specs.Variables.{are_among, meet}
use Rattle.lrp_plan.specs.declared.elements.Element.{Element}
use Rattle.lrp_plan.specs.declared.elements.Kind.{Kind}
use Rattle.lrp_plan.specs.declared.elements.Kind.TheVariants.{Positive, Negation}
use Rattle.lrp_plan.specs.Elements.{element_variables}
use Rattle.lrp_plan.specs.declared.waiting.Turn.{Turn}
use Rattle.lrp_plan.specs.declared.waiting.Turn.TheVariants.{Meeting, Covered}

-- which elements of a kind go before the others, where there is a result so far or none
abbrev pub turn_of : Kind → Bool → Turn
turn_of Positive some = Meeting
turn_of Negation some = Covered some

-- whether an element goes before the others, where these variables were taken in
abbrev pub goes_first : Turn → List ProgramVariable → Element → Bool
goes_first Meeting vs e = meet (element_variables e) (map variable_of vs)
goes_first (Covered some) vs e = some && are_among (element_variables e) (map variable_of vs)

-- none of the elements goes before the others
abbrev pub FallAfter : Turn → List ProgramVariable → List Element → Type 0
FallAfter turn vs es = AllByRecursion (λ e. goes_first turn vs e ≡ false) es
