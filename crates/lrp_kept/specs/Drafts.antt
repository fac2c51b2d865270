-- What disjuncts are made of: the atoms, the tests and the bound variables of core forms.
use Rattle.std.specs.Prelude.{◌≡◌, ℕ, List, [], ◌∷◌, ◌++◌, Contains, Some, filter, length, map, slice_get, true}
use Rattle.std.specs.List.{AllByRecursion, AllZip}
use Rattle.lrp_model.specs.Texts.{Identifier}
use Rattle.lrp_model.specs.Formulas.{Form, Forms, atom, no_forms, form}
use Rattle.lrp_model.specs.declared.formulas.Test.{Test}
use Rattle.lrp_plan_laws.specs.Atoms.{Atom, atoms}
use Rattle.lrp_tables.specs.declared.table.Vars.{Vars}
use Rattle.lrp_kept.specs.Choices.{disjunct_tests, tests_among}
use Rattle.lrp_kept.specs.Disjuncts.{AreJoined, IsAtomOf, IsDisjunctOf, bound_columns, is_test_covered}
use Rattle.lrp_kept.specs.KeptForm.{kept_elements, is_conjunctive}
use Rattle.lrp_kept.specs.declared.disjuncts.Disjunct.{Disjunct}
use Rattle.lrp_kept.specs.declared.disjuncts.DisjunctDraft.{DisjunctDraft}
use Rattle.lrp_kept.specs.declared.disjuncts.JoinedAtom.{JoinedAtom}
use Rattle.lrp_kept.specs.declared.disjuncts.NamedTerms.{NamedTerms}

-- ---- drafts

abbrev pub atom_in : NamedTerms → Atom
atom_in n = record { name = n.name; terms = n.terms }

-- the atoms among formulas
abbrev pub atoms_among : Forms → List Atom
atoms_among no_forms = []
atoms_among (form (atom name terms) fs) = record { name = name; terms = terms } ∷ atoms_among fs
atoms_among (form f fs) = atoms_among fs

-- the atoms and the tests among the formulas are added
pub record AreAdded (fs : Forms) (old new : DisjunctDraft) : Type 0 where
  pub atoms : map atom_in new.atoms.items ≡ map atom_in old.atoms.items ++ atoms_among fs
  pub tests : new.tests ≡ old.tests ++ tests_among fs
  pub bound : new.bound ≡ old.bound

-- those of a disjunct are added, and the variables that it binds
pub record IsDisjunctAdded (f : Form) (old new : DisjunctDraft) : Type 0 where
  pub atoms : map atom_in new.atoms.items ≡ map atom_in old.atoms.items ++ atoms_among (kept_elements f)
  pub tests : new.tests ≡ old.tests ++ disjunct_tests f
  pub bound : new.bound ≡ old.bound ++ bound_columns f

pub record DraftsDisjunct (f : Form) (draft : DisjunctDraft) : Type 0 where
  pub atoms : map atom_in draft.atoms.items ≡ atoms_among (kept_elements f)
  pub tests : draft.tests ≡ disjunct_tests f
  pub bound : draft.bound ≡ bound_columns f

-- ---- atoms as they are joined

-- the relation of each atom has one of the names
abbrev pub AreOfRelations : List Identifier → List Atom → Type 0
AreOfRelations names all = AllByRecursion (λ a. Contains names a.name) all

-- the atom as it is joined over these variables, with the tests that have no others
pub record IsJoinedAtom (names : List Identifier) (a : Atom) (tests : List Test) (vars : Vars) (j : JoinedAtom) : Type 0 where
  pub is : IsAtomOf names a j
  pub times : j.vars.times ≡ vars.times
  pub texts : j.vars.texts ≡ vars.texts
  pub covered : j.tests ≡ filter (is_test_covered vars.times vars.texts) tests

-- the variables after atoms
abbrev pub times_after : List Identifier → List JoinedAtom → List Identifier
times_after times [] = times
times_after times (a ∷ more) = times_after a.vars.times more

abbrev pub texts_after : List Identifier → List JoinedAtom → List Identifier
texts_after texts [] = texts
texts_after texts (a ∷ more) = texts_after a.vars.texts more

-- the atoms as they are joined one after the other
pub record AreAllJoined (names : List Identifier) (all : List Atom) (tests : List Test) (js : List JoinedAtom) : Type 0 where
  pub each : AllZip (IsAtomOf names) all js
  pub joined : AreJoined tests [] [] js

-- the disjunct that a draft makes
pub record MakesDisjunct (names : List Identifier) (draft : DisjunctDraft) (d : Disjunct) : Type 0 where
  pub atoms : AllZip (IsAtomOf names) (map atom_in draft.atoms.items) d.atoms.items
  pub tests : d.tests ≡ draft.tests
  pub bound : d.bound ≡ draft.bound
  pub joined : AreJoined d.tests [] [] d.atoms.items

-- ---- disjuncts

-- only atoms and tests stand after the quantifiers, and the relation of each atom has one of the names
pub record CanBeJoinedUp (names : List Identifier) (f : Form) : Type 0 where
  pub conjunctive : is_conjunctive (kept_elements f) ≡ true
  pub named : AreOfRelations names (atoms f)

-- each disjunct has its number
abbrev pub HaveTheirNumbers : List Disjunct → Type 0
HaveTheirNumbers ds = (i : ℕ) (d : Disjunct) → slice_get ds i ≡ Some d → d.number ≡ i

-- the disjuncts are those of the formulas, numbered
pub record AreDisjuncts (names : List Identifier) (fs : List Form) (ds : List Disjunct) : Type 0 where
  pub each : AllZip (IsDisjunctOf names) fs ds
  pub numbered : HaveTheirNumbers ds

-- the disjunct of one formula more
pub record IsOneMore (names : List Identifier) (f : Form) (old new : List Disjunct) : Type 0 where
  pub disjunct : Disjunct
  pub is : IsDisjunctOf names f disjunct
  pub number : disjunct.number ≡ length old
  pub new_is : new ≡ old ++ disjunct ∷ []
