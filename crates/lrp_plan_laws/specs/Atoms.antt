-- The atoms of a formula, and which of them fit a database.
use Rattle.std.specs.Prelude.{List, [], ◌∷◌, ◌++◌, Contains, MatchOption}
use Rattle.std.specs.List.{AllByRecursion, AllZip}
use Rattle.lrp_model.specs.Texts.{Text, Identifier}
use Rattle.lrp_model.specs.Sorts.{FitsColumn}
use Rattle.lrp_model.specs.Rows.{relation_named}
use Rattle.lrp_model.specs.Formulas.{Form, Forms, Question, atom, test, sorted, negation, conjunction, disjunction, implication, exists, forall, no_forms, form}
use Rattle.lrp_model.specs.Domains.{constants}
use Rattle.lrp_model.specs.declared.relations.Relation.{Relation}
use Rattle.lrp_model.specs.declared.formulas.DataTerm.TheVariants.{Const as data_const}
use Rattle.lrp_model.specs.declared.formulas.Term.{Term}
use Rattle.lrp_model.specs.declared.formulas.Term.TheVariants.{Data as data_term}

-- the relation that an atom names, and its terms
pub record Atom : Type 0 where
  pub name : Identifier
  pub terms : List Term

-- the atoms of a formula, in order of the text
abbrev mutual
  pub atoms : Form → List Atom
  atoms (atom name terms) = record { name = name; terms = terms } ∷ []
  atoms (test t) = []
  atoms (sorted s v) = []
  atoms (negation f) = atoms f
  atoms (conjunction fs) = atoms_each fs
  atoms (disjunction fs) = atoms_each fs
  atoms (implication f g) = atoms f ++ atoms g
  atoms (exists v s f) = atoms f
  atoms (forall v s f) = atoms f

  pub atoms_each : Forms → List Atom
  atoms_each no_forms = []
  atoms_each (form f fs) = atoms f ++ atoms_each fs

-- the database has the relation, and the terms are one for each column and fit them
abbrev pub FitsAtom : List Relation → Atom → Type 0
FitsAtom db a = MatchOption (relation_named db a.name) ⊥ (λ r. AllZip FitsColumn r.columns a.terms)

-- the texts among terms
abbrev pub texts_of_terms : List Term → List Text
texts_of_terms [] = []
texts_of_terms (data_term (data_const t) ∷ ts) = t ∷ texts_of_terms ts
texts_of_terms (t ∷ ts) = texts_of_terms ts

-- a scan is of an atom of the body, which fits the database, and the texts among its terms are constants
pub record IsKnownScan (db : List Relation) (q : Question) (a : Atom) : Type 0 where
  pub within : Contains (atoms q.body) a
  pub fits : FitsAtom db a
  pub texts : AllByRecursion (Contains (constants db q)) (texts_of_terms a.terms)
