-- Variables of the program, and lists that hold each variable once.
use Rattle.std.specs.Prelude.{not, List, [], ◌∷◌, ◌++◌, filter, if◌then◌else◌}
use Rattle.lrp_model.specs.Variables.{Variable, time_variable, data_variable, same_variable, is_among}
use Rattle.lrp_core.specs.declared.variables.Variable.{Variable as ProgramVariable}
use Rattle.lrp_core.specs.declared.variables.Variable.TheVariants.{Time, Data}

-- the variable that a value of the program is
abbrev pub variable_of : ProgramVariable → Variable
variable_of (Time v) = time_variable v
variable_of (Data v) = data_variable v

-- a further variable after the others, where it is none of them
abbrev pub with_variable : List Variable → Variable → List Variable
with_variable vs v = if is_among vs v then vs else vs ++ v ∷ []

-- further variables, one after the other
abbrev pub with_variables : List Variable → List Variable → List Variable
with_variables vs [] = vs
with_variables vs (w ∷ ws) = with_variables (with_variable vs w) ws

-- each variable once, in order of first occurrences
abbrev pub each_once : List Variable → List Variable
each_once vs = with_variables [] vs

-- those that are not this one
abbrev pub others : Variable → List Variable → List Variable
others v vs = filter (λ w. not (same_variable v w)) vs
