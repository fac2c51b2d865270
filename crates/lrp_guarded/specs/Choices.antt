-- Which element of an `and` the program takes next.
use Rattle.std.specs.Prelude.{Bool, ◌||◌, List, map}
use Rattle.std.specs.List.{list_any}
use Rattle.lrp_core.specs.FreeVariables.{variable_of}
use Rattle.lrp_core.specs.declared.variable_trees.VariableTree.TheViews.{out-VariableTree}
use Rattle.lrp_model.specs.Variables.{Variable}
use Rattle.lrp_model.specs.declared.formulas.Test.{Test as TestOf}
use Rattle.lrp_plan_laws.specs.GuardedConjunctions.{compares, Choice as ChoiceOf, an_atom, a_sort, a_part, a_test, a_negation}
use Rattle.lrp_guarded.specs.declared.choices.Choice.{Choice}
use Rattle.lrp_guarded.specs.declared.choices.Choice.TheVariants.{Atom, Sort, Part, Test, Negation}
use Rattle.lrp_guarded.specs.declared.elements.Part.{Part as ProgramPart}

-- the element that a choice of the program is
abbrev pub choice_of : Choice → ChoiceOf
choice_of (Atom i) = an_atom i
choice_of (Sort i) = a_sort i
choice_of (Part i) = a_part i
choice_of (Test i) = a_test i
choice_of (Negation i) = a_negation i

-- the variables of an element with parts
abbrev pub part_variables : ProgramPart → List Variable
part_variables p = map variable_of (out-VariableTree p.tree.now).variables

-- a test links what was taken with these variables
unfoldable pub links : List Variable → List TestOf → List Variable → Bool
links taken tests vs = list_any (λ t. compares taken vs t || compares vs taken t) tests
