-- What the answers of a query in kept form are derived from: for each disjunct one held row for each of its atoms.
use Rattle.std.specs.Prelude.{◌<◌, ◌≤◌, ℕ, List, [], ◌∷◌, length, take, filter, map, flat_map, Contains}
use Rattle.std.specs.List.{AllByRecursion, AllZip}
use Rattle.lrp_model.specs.Texts.{Text}
use Rattle.lrp_model.specs.Core.{conjuncts}
use Rattle.lrp_model.specs.Rows.{Datum, IsInRow, rows_of}
use Rattle.lrp_model.specs.Cells.{Differ, Many}
use Rattle.lrp_model.specs.Formulas.{Form, Forms, Question, test, exists, no_forms, form}
use Rattle.lrp_model.specs.Variables.{Variable, are_among, variables_of_term, variables_of_test}
use Rattle.lrp_model.specs.Satisfaction.{Structure, Assignment, IsOfSort, Passes, term_value, with_value}
use Rattle.lrp_model.specs.declared.formulas.Test.{Test}
use Rattle.lrp_model.specs.declared.relations.Row.{Row}
use Rattle.lrp_model.specs.declared.relations.Relation.{Relation}
use Rattle.lrp_plan_laws.specs.Atoms.{Atom, atoms, atoms_each}
use Rattle.lrp_tables.specs.Caps.{Inhabits}
use Rattle.lrp_kept.specs.KeptForm.{kept_elements, query_disjuncts}

-- formulas as a list
abbrev pub as_list : Forms → List Form
as_list no_forms = []
as_list (form f fs) = f ∷ as_list fs

-- the disjuncts of a query
abbrev pub listed_disjuncts : Question → List Form
listed_disjuncts q = as_list (query_disjuncts q)

-- the tests among formulas
abbrev pub tests_among : Forms → List Test
tests_among no_forms = []
tests_among (form (test t) fs) = t ∷ tests_among fs
tests_among (form f fs) = tests_among fs

-- the tests of a disjunct
abbrev pub disjunct_tests : Form → List Test
disjunct_tests f = tests_among (kept_elements f)

-- the variables of atoms
abbrev pub atom_variables : List Atom → List Variable
atom_variables all = flat_map (λ a. flat_map variables_of_term a.terms) all

-- the tests whose variables occur in the atoms
abbrev pub covered_tests : List Atom → List Test → List Test
covered_tests all tests = filter (λ t. are_among (variables_of_test t) (atom_variables all)) tests

-- the tests of a part: all that its atoms cover, and none where it has one atom alone
abbrev pub part_tests : List Atom → List Test → List Test
part_tests [] tests = []
part_tests (a ∷ []) tests = []
part_tests (a ∷ b ∷ more) tests = covered_tests (a ∷ b ∷ more) tests

-- the values of the atom's terms are a member of the row
abbrev pub Matches : Assignment → Atom → Row → Type 0
Matches env a row = IsInRow row (map (term_value env) a.terms)

-- each atom, standing for its row alone, and each of the tests is satisfied
pub record IsInChoice (all : List Atom) (tests : List Test) (rows : List Row) (env : Assignment) : Type 0 where
  pub rows_match : AllZip (Matches env) all rows
  pub tests_pass : AllByRecursion (Passes env) tests

-- a choice for a disjunct: a held row for each of its atoms
abbrev pub IsChoiceOf : List Relation → Form → List Row → Type 0
IsChoiceOf db f rows = AllZip (λ a row. Contains (rows_of db a.name) row) (atoms f) rows

-- what satisfies the part of so many atoms of a choice
abbrev pub IsInPart : Form → List Row → ℕ → Assignment → Type 0
IsInPart f rows count = IsInChoice (take count (atoms f)) (part_tests (take count (atoms f)) (disjunct_tests f)) (take count rows)

-- more than cap cells of the period are inhabited by what satisfies the part
abbrev pub HasManyCells : List Text → ℕ → ℕ → Form → List Row → ℕ → Type 0
HasManyCells domain period cap f rows count =
    let variables = atom_variables (take count (atoms f)) in
    Many (Differ variables) (Inhabits domain period variables (IsInPart f rows count)) cap

-- some part of some choice inhabits more than cap cells
pub record HasLargeChoicePart (db : List Relation) (q : Question) (domain : List Text) (period cap : ℕ) : Type 0 where
  pub disjunct : Form
  pub listed : Contains (listed_disjuncts q) disjunct
  pub rows : List Row
  pub choice : IsChoiceOf db disjunct rows
  pub count : ℕ
  pub low : 0 < count
  pub high : count ≤ length rows
  pub many : HasManyCells domain period cap disjunct rows count

-- held rows, one for each atom among the formulas, match, and each test among them passes
pub record IsChosenBy (db : List Relation) (fs : Forms) (env : Assignment) : Type 0 where
  pub rows : List Row
  pub held : AllZip (λ a row. Contains (rows_of db a.name) row) (atoms_each fs) rows
  pub is : IsInChoice (atoms_each fs) (tests_among fs) rows env

-- some values of the sorts of a disjunct's quantifiers, and a choice for what stands after them
abbrev pub ChosenWithValues : Form → Structure → Assignment → Type 0
ChosenWithValues (exists v s f) M env = (d : Datum) × IsOfSort M s d × ChosenWithValues f M (with_value v d env)
ChosenWithValues f M env = IsChosenBy M.relations (conjuncts f) env

-- some choice for one of the disjuncts
pub record IsDerived (M : Structure) (fs : Forms) (env : Assignment) : Type 0 where
  pub disjunct : Form
  pub listed : Contains (as_list fs) disjunct
  pub chosen : ChosenWithValues disjunct M env
