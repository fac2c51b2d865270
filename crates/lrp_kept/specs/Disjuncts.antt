-- The disjuncts of a query in kept form as they are derived: atoms with the numbers of their relations, and what each part tests.
use Rattle.std.specs.Prelude.{◌≡◌, Bool, ◌&&◌, ℕ, List, [], ◌∷◌, ◌++◌, Some, filter, slice_get}
use Rattle.std.specs.List.{AllZip, list_all, list_any}
use Rattle.std.specs.Str.{bytes_eq}
use Rattle.lrp_model.specs.Texts.{Identifier}
use Rattle.lrp_model.specs.Formulas.{Form, Question, exists}
use Rattle.lrp_model.specs.declared.formulas.Test.{Test}
use Rattle.lrp_model.specs.declared.relations.Column.{Column}
use Rattle.lrp_plan_laws.specs.Atoms.{Atom, atoms}
use Rattle.lrp_tables.specs.Columns.{joint, scan_times, scan_texts, times_of_test, texts_of_test}
use Rattle.lrp_kept.specs.Choices.{disjunct_tests, listed_disjuncts}
use Rattle.lrp_kept.specs.declared.disjuncts.JoinedAtom.{JoinedAtom}
use Rattle.lrp_kept.specs.declared.disjuncts.Disjunct.{Disjunct}

-- the columns of the variables that the `exists` before a formula bind, the innermost first
abbrev pub bound_columns : Form → List Column
bound_columns (exists v s f) = bound_columns f ++ record { name = v; sort = s } ∷ []
bound_columns f = []

-- the test has variables of these names alone
abbrev pub is_test_covered : List Identifier → List Identifier → Test → Bool
is_test_covered times texts t = list_all (λ v. list_any (bytes_eq v) times) (times_of_test t) && list_all (λ v. list_any (bytes_eq v) texts) (texts_of_test t)

-- the atom has these terms, and its relation the number of the name
pub record IsAtomOf (names : List Identifier) (a : Atom) (j : JoinedAtom) : Type 0 where
  pub terms : j.terms ≡ a.terms
  pub name : slice_get names j.relation ≡ Some a.name

-- after these variables each atom has the further ones of its terms, and the tests of no others
abbrev pub AreJoined : List Test → List Identifier → List Identifier → List JoinedAtom → Type 0
AreJoined tests times texts [] = Unit {0}
AreJoined tests times texts (a ∷ more) =
    (a.vars.times ≡ joint times (scan_times a.terms)) × (a.vars.texts ≡ joint texts (scan_texts a.terms)) × (a.tests ≡ filter (is_test_covered a.vars.times a.vars.texts) tests) × AreJoined tests a.vars.times a.vars.texts more

-- the disjunct is that of the formula, over relations of these names
pub record IsDisjunctOf (names : List Identifier) (f : Form) (d : Disjunct) : Type 0 where
  pub atoms_are : AllZip (IsAtomOf names) (atoms f) d.atoms.items
  pub tests_are : d.tests ≡ disjunct_tests f
  pub bound_are : d.bound ≡ bound_columns f
  pub joined : AreJoined d.tests [] [] d.atoms.items

-- the disjuncts are those of the query, and each has its number
pub record AreDisjunctsOf (names : List Identifier) (q : Question) (ds : List Disjunct) : Type 0 where
  pub each : AllZip (IsDisjunctOf names) (listed_disjuncts q) ds
  pub numbered : (i : ℕ) (d : Disjunct) → slice_get ds i ≡ Some d → d.number ≡ i
