-- Columns by their names.
use Rattle.std.specs.Prelude.{◌≡◌, ℕ, ◌-◌, ◌<◌, cond, List, [], ◌∷◌, ◌++◌, Some, flat_map, slice_get}
use Rattle.std.specs.Str.{bytes_eq}
use Rattle.std.specs.List.{list_any, AllZip}
use Rattle.lrp_model.specs.Texts.{Identifier}
use Rattle.lrp_model.specs.declared.relations.Sort.{Sort}
use Rattle.lrp_model.specs.declared.relations.Sort.TheVariants.{Time, Data, Named}
use Rattle.lrp_model.specs.declared.relations.Column.{Column}
use Rattle.lrp_model.specs.declared.formulas.TimeTerm.{TimeTerm}
use Rattle.lrp_model.specs.declared.formulas.TimeTerm.TheVariants.{Var as time_var, Int as time_int}
use Rattle.lrp_model.specs.declared.formulas.DataTerm.{DataTerm}
use Rattle.lrp_model.specs.declared.formulas.DataTerm.TheVariants.{Var as data_var, Const as data_const}
use Rattle.lrp_model.specs.declared.formulas.Term.{Term}
use Rattle.lrp_model.specs.declared.formulas.Term.TheVariants.{Time as time_term, Data as data_term}
use Rattle.lrp_model.specs.declared.formulas.Test.{Test}
use Rattle.lrp_model.specs.declared.formulas.Test.TheVariants.{Compare, Member, Equal}

-- the columns of a step's table: the names, and after them those of the second list that are new, each once
abbrev pub joint : List Identifier → List Identifier → List Identifier
joint names [] = names
joint names (name ∷ more) = joint (cond (list_any (bytes_eq name) names) names (names ++ name ∷ [])) more

-- the name stands at this place among all of them, counted from 1
abbrev pub IsPlace : List Identifier → ℕ → Identifier → Type 0
IsPlace all place name = (0 < place) × (slice_get all (place - 1) ≡ Some name)

-- the places of the names among all of them, one for each name, in order
abbrev pub ArePlacesOf : List Identifier → List Identifier → List ℕ → Type 0
ArePlacesOf names all places = AllZip (IsPlace all) places names

-- the names in time terms, and those in data terms
abbrev pub names_of_time : TimeTerm → List Identifier
names_of_time (time_var v plus) = v ∷ []
names_of_time (time_int x) = []

abbrev pub names_of_data : DataTerm → List Identifier
names_of_data (data_var v) = v ∷ []
names_of_data (data_const t) = []

abbrev pub times_of_term : Term → List Identifier
times_of_term (time_term t) = names_of_time t
times_of_term (data_term t) = []

abbrev pub texts_of_term : Term → List Identifier
texts_of_term (time_term t) = []
texts_of_term (data_term t) = names_of_data t

-- the time variables of an atom's terms, and its data variables, each once
abbrev pub scan_times : List Term → List Identifier
scan_times terms = joint [] (flat_map times_of_term terms)

abbrev pub scan_texts : List Term → List Identifier
scan_texts terms = joint [] (flat_map texts_of_term terms)

-- the time variables of a test, and its data variables
abbrev pub times_of_test : Test → List Identifier
times_of_test (Compare left op right) = names_of_time left ++ names_of_time right
times_of_test (Member term point) = names_of_time term
times_of_test (Equal left right) = []

abbrev pub texts_of_test : Test → List Identifier
texts_of_test (Compare left op right) = []
texts_of_test (Member term point) = []
texts_of_test (Equal left right) = names_of_data left ++ names_of_data right

-- each once
abbrev pub test_times : Test → List Identifier
test_times test = joint [] (times_of_test test)

abbrev pub test_names : Test → List Identifier
test_names test = joint [] (texts_of_test test)

-- a name among the times, and a name among the texts, by the sort of its column
abbrev pub with_time_name : Sort → Identifier → List Identifier → List Identifier
with_time_name Time v rest = v ∷ rest
with_time_name Data v rest = rest
with_time_name (Named name) v rest = rest

abbrev pub text_name : Sort → Identifier → List Identifier → List Identifier
text_name Time v rest = rest
text_name Data v rest = v ∷ rest
text_name (Named name) v rest = v ∷ rest

-- the names of the time columns of a head, and those of its data columns, in head order
abbrev pub head_times : List Column → List Identifier
head_times [] = []
head_times (c ∷ cs) = with_time_name c.sort c.name (head_times cs)

abbrev pub head_texts : List Column → List Identifier
head_texts [] = []
head_texts (c ∷ cs) = text_name c.sort c.name (head_texts cs)
