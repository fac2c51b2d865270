-- Binders of one name each, and text variables of atoms that have the sorts of their columns.
use Rattle.std.specs.Prelude.{◌≡◌, ◌≢◌, List, ◌∷◌, length, Contains, MatchOption, Some}
use Rattle.std.specs.List.{AllByRecursion}
use Rattle.lrp_model.specs.Texts.{Identifier}
use Rattle.lrp_model.specs.Rows.{relation_named}
use Rattle.lrp_model.specs.Formulas.{Form, Forms, atom, test, sorted, negation, conjunction, disjunction, implication, exists, forall, no_forms, form}
use Rattle.lrp_model.specs.declared.relations.Column.{Column}
use Rattle.lrp_model.specs.declared.relations.Relation.{Relation}
use Rattle.lrp_model.specs.declared.formulas.DataTerm.TheVariants.{Var as data_var, Const as data_const}
use Rattle.lrp_model.specs.declared.formulas.Term.{Term}
use Rattle.lrp_model.specs.declared.formulas.Term.TheVariants.{Time as time_term, Data as data_term}

-- one of the binders has the variable's name and the column's sort
abbrev pub IsSortedTerm : List Column → Column → Term → Type 0
IsSortedTerm bs c (time_term t) = Unit {0}
IsSortedTerm bs c (data_term (data_var v)) = (b : Column) × Contains bs b × (b.name ≡ v) × (b.sort ≡ c.sort)
IsSortedTerm bs c (data_term (data_const t)) = Unit {0}

-- that of each term, in its column; an atom has a term for each column, so the last case is that of none
abbrev pub AreSortedTerms : List Column → List Column → List Term → Type 0
AreSortedTerms bs (c ∷ cs) (t ∷ ts) = IsSortedTerm bs c t × AreSortedTerms bs cs ts
AreSortedTerms bs _ _ = Unit {0}

-- a relation of the database has a column for each term, and the terms are sorted
pub record IsSortedAtom (bs : List Column) (terms : List Term) (r : Relation) : Type 0 where
  pub count : length terms ≡ length r.columns
  pub sorts : AreSortedTerms bs r.columns terms

-- within these binders each further one has a name of its own, and each atom's terms are sorted
abbrev mutual
  pub IsSortedForm : Form → List Relation → List Column → Type 0
  IsSortedForm (atom name terms) db bs = MatchOption (relation_named db name) ⊥ (IsSortedAtom bs terms)
  IsSortedForm (test t) db bs = Unit {0}
  IsSortedForm (sorted s v) db bs = Unit {0}
  IsSortedForm (negation f) db bs = IsSortedForm f db bs
  IsSortedForm (conjunction fs) db bs = AreSortedForms fs db bs
  IsSortedForm (disjunction fs) db bs = AreSortedForms fs db bs
  IsSortedForm (implication f g) db bs = IsSortedForm f db bs × IsSortedForm g db bs
  IsSortedForm (exists v s f) db bs = AllByRecursion (λ b. b.name ≢ v) bs × IsSortedForm f db (record { name = v; sort = s } ∷ bs)
  IsSortedForm (forall v s f) db bs = AllByRecursion (λ b. b.name ≢ v) bs × IsSortedForm f db (record { name = v; sort = s } ∷ bs)

  pub AreSortedForms : Forms → List Relation → List Column → Type 0
  AreSortedForms no_forms db bs = Unit {0}
  AreSortedForms (form f fs) db bs = IsSortedForm f db bs × AreSortedForms fs db bs

-- the binders around what stands after the `exists` that a formula begins with
abbrev pub binders_at : Form → List Column → List Column
binders_at (exists v s f) bs = binders_at f (record { name = v; sort = s } ∷ bs)
binders_at f bs = bs

-- of each name the other relations have one of the same columns
pub record HaveColumnsOf (db other : List Relation) : Type 0 where
  pub each : (name : Identifier) (r : Relation) → relation_named db name ≡ Some r → (s : Relation) × (relation_named other name ≡ Some s) × (s.columns ≡ r.columns)
