-- Each scan of a plan is of an atom of the body, and the texts among its terms are constants.
use Rattle.std.proofs.Common.{◌≡◌, ⊎_elim, ℕ, List, [], ◌∷◌, ◌++◌, Option, Some, None, Contains, subst, map}
use Rattle.std.specs.Prelude.{MatchOption}
use Rattle.std.specs.List.{AllByRecursion, AllZip}
use Rattle.lrp_model.specs.Texts.{Text, Identifier}
use Rattle.lrp_model.specs.Rows.{relation_named, columns_in}
use Rattle.lrp_model.specs.Formulas.{Form, Forms, Question, atom, test, sorted, negation, conjunction, disjunction, implication, exists, forall, no_forms, form}
use Rattle.lrp_model.specs.Variables.{Variable}
use Rattle.lrp_model.specs.Satisfaction.{structure}
use Rattle.lrp_model.specs.Domains.{database_texts, term_texts, form_texts, forms_texts, all_texts, constants}
use Rattle.lrp_model.specs.Steps.{PlanStep, Steps, step_at, formula_at}
use Rattle.lrp_model.specs.declared.relations.Sort.{Sort}
use Rattle.lrp_model.specs.declared.relations.Column.{Column}
use Rattle.lrp_model.specs.declared.relations.Relation.{Relation}
use Rattle.lrp_model.specs.declared.formulas.DataTerm.TheVariants.{Var as data_var, Const as data_const}
use Rattle.lrp_model.specs.declared.formulas.Term.{Term}
use Rattle.lrp_model.specs.declared.formulas.Term.TheVariants.{Time as time_term, Data as data_term}
use Rattle.lrp_model.specs.declared.plans.StepKind.TheVariants.{Scan}
use Rattle.lrp_model.proofs.Decided.{cons_cases, contains_first, contains_later, contains_none}
use Rattle.lrp_model.proofs.DomainLaws.{contains_in_order}
use Rattle.lrp_plan_laws.specs.Made.{IsStepFormula, IsMade}
use Rattle.lrp_plan_laws.specs.Atoms.{Atom, atoms, atoms_each, FitsAtom, texts_of_terms, IsKnownScan}
use Rattle.lrp_plan_laws.proofs.Members.{all_of, all_by, all_self, all_map, in_left, in_right, in_one}
use Rattle.lrp_plan_laws.proofs.Marks.{marks, marked_atom}
use Rattle.lrp_plan_laws.proofs.Dropping.{Rules}
use Rattle.lrp_plan_laws.proofs.Fronts.{IsFront, closed, head_after}
use Rattle.lrp_plan_laws.proofs.RisingLaws.{plan_made, step_marks}
use Rattle.lrp_model.specs.Sorts.{FitsColumn}

-- ---- the texts of an atom are the body's

-- the texts of an atom's terms, each with its sort
abbrev atom_texts : List Relation → Atom → List (Sort × Text)
atom_texts db a = term_texts (columns_in (relation_named db a.name)) a.terms

-- what is in one list is in that list before or after another
all_before : (xs ys : List (Sort × Text)) (zs : List (Sort × Text)) → AllByRecursion (Contains xs) zs → AllByRecursion (Contains (xs ++ ys)) zs
all_before xs ys zs h = all_map (Contains xs) (Contains (xs ++ ys)) zs (λ z c. in_left xs ys z c) h

-- and after
all_after : (xs ys : List (Sort × Text)) (zs : List (Sort × Text)) → AllByRecursion (Contains ys) zs → AllByRecursion (Contains (xs ++ ys)) zs
all_after xs ys zs h = all_map (Contains ys) (Contains (xs ++ ys)) zs (λ z c. in_right xs ys z c) h

mutual
  -- the texts of an atom's terms are among those of the formula
  atom_in : (f : Form) (db : List Relation) (columns : List Column) (a : Atom) → Contains (atoms f) a → AllByRecursion (Contains (form_texts f db columns)) (atom_texts db a)
  atom_in (atom name terms) db columns a c =
      ⊎_elim (λ e. subst (λ b. AllByRecursion (Contains (form_texts (atom name terms) db columns)) (atom_texts db b)) e (all_self (form_texts (atom name terms) db columns))) (λ d. absurd (contains_none a d))
      (cons_cases (record { name = name; terms = terms }) a [] c)
  atom_in (test t) db columns a c = absurd (contains_none a c)
  atom_in (sorted s v) db columns a c = absurd (contains_none a c)
  atom_in (negation f) db columns a c = atom_in f db columns a c
  atom_in (conjunction fs) db columns a c = atoms_in fs db columns a c
  atom_in (disjunction fs) db columns a c = atoms_in fs db columns a c
  atom_in (implication f g) db columns a c =
      ⊎_elim (λ d. all_before (form_texts f db columns) (form_texts g db columns) (atom_texts db a) (atom_in f db columns a d)) (λ d. all_after (form_texts f db columns) (form_texts g db columns) (atom_texts db a) (atom_in g db columns a d)) (in_one (atoms f) (atoms g) a c)
  atom_in (exists v s f) db columns a c = atom_in f db (record { name = v; sort = s } ∷ columns) a c
  atom_in (forall v s f) db columns a c = atom_in f db (record { name = v; sort = s } ∷ columns) a c

  -- and of a list of formulas
  atoms_in : (fs : Forms) (db : List Relation) (columns : List Column) (a : Atom) → Contains (atoms_each fs) a → AllByRecursion (Contains (forms_texts fs db columns)) (atom_texts db a)
  atoms_in no_forms db columns a c = absurd (contains_none a c)
  atoms_in (form f fs) db columns a c =
      ⊎_elim (λ d. all_before (form_texts f db columns) (forms_texts fs db columns) (atom_texts db a) (atom_in f db columns a d)) (λ d. all_after (form_texts f db columns) (forms_texts fs db columns) (atom_texts db a) (atoms_in fs db columns a d)) (in_one (atoms f) (atoms_each fs) a c)

-- ---- they are constants

-- the text of an entry is one of the texts
pub in_texts : (es : List (Sort × Text)) (e : Sort × Text) → Contains es e → Contains (map (λ entry. entry.1) es) e.1
in_texts [] e c = absurd (contains_none e c)
in_texts (d ∷ ds) e c = ⊎_elim (λ same. subst (λ x. Contains (d.1 ∷ map (λ entry. entry.1) ds) x.1) same (contains_first d.1 (map (λ entry. entry.1) ds))) (λ k. contains_later d.1 e.1 (map (λ entry. entry.1) ds) (in_texts ds e k)) (cons_cases d e ds c)

-- each text of a database and a query is a constant
entry_known : (db : List Relation) (q : Question) (e : Sort × Text) → Contains (all_texts db q) e → Contains (constants db q) e.1
entry_known db q e c = (contains_in_order (map (λ entry. entry.1) (all_texts db q)) e.1).1 (in_texts (all_texts db q) e c)

-- the texts of the database are constants
pub database_known : (db : List Relation) (q : Question) → AllByRecursion (λ entry. Contains (constants db q) entry.1) (database_texts db)
database_known db q =
    all_by (λ entry. Contains (constants db q) entry.1) (database_texts db) (λ e c. entry_known db q e (in_left (database_texts db) (form_texts q.body db q.head) e c))

-- texts among terms that fit columns are among the texts with sorts
among_known : (ds : List Text) (cs : List Column) (ts : List Term) → AllZip FitsColumn cs ts → AllByRecursion (λ entry. Contains ds entry.1) (term_texts cs ts) → AllByRecursion (Contains ds) (texts_of_terms ts)
among_known ds [] [] z h = tt
among_known ds [] (t ∷ ts) z h = absurd z
among_known ds (c ∷ cs) [] z h = tt
among_known ds (c ∷ cs) (data_term (data_const t) ∷ ts) z h = (h.0, among_known ds cs ts z.1 h.1)
among_known ds (c ∷ cs) (data_term (data_var v) ∷ ts) z h = among_known ds cs ts z.1 h
among_known ds (c ∷ cs) (time_term t ∷ ts) z h = among_known ds cs ts z.1 h

-- the texts among the terms of an atom that fits
atom_known : (db : List Relation) (q : Question) (a : Atom) (o : Option Relation) → MatchOption o ⊥ (λ r. AllZip FitsColumn r.columns a.terms) → AllByRecursion (λ entry. Contains (constants db q) entry.1) (term_texts (columns_in o) a.terms) → AllByRecursion (Contains (constants db q)) (texts_of_terms a.terms)
atom_known db q a None f h = absurd f
atom_known db q a (Some r) f h = among_known (constants db q) r.columns a.terms f h

-- ---- a scan

-- each scan is of an atom of the body, with constants among its terms
pub scan_known : (db : List Relation) (q : Question) (rules : Rules) (fits : List Variable → Type 0) (front : Steps) → IsFront db q rules fits front → AllByRecursion (FitsAtom db) (atoms q.body) → (s : ℕ) (step : PlanStep) → step_at (closed db q front) s ≡ Some step
    → (name : Identifier) (terms : List Term) → step.kind ≡ Scan name terms → IsKnownScan db q (record { name = name; terms = terms })
scan_known db q rules fits front w fit s step e name terms kind =
    let a : Atom = record { name = name; terms = terms } in
    let m : IsMade (structure db q) (head_after db q front) (closed db q front) s step = (plan_made db q rules fits front w s step e).made in
    let f : step.formula ≡ atom name terms = subst (λ k. IsStepFormula (structure db q) (head_after db q front) (formula_at (closed db q front)) k step.formula) kind m.formula in
    let c : Contains (atoms q.body) a = marked_atom name terms q.body db (subst (λ g. AllByRecursion (Contains (marks q.body db)) (marks g db)) f (step_marks db q rules fits front w s step e)) in
    let r : FitsAtom db a = all_of (FitsAtom db) (atoms q.body) a fit c in
    record {
      within = c;
      fits = r;
      texts = atom_known db q a (relation_named db name) r
          (all_map (Contains (form_texts q.body db q.head)) (λ entry. Contains (constants db q) entry.1) (atom_texts db a) (λ x k. entry_known db q x (in_right (database_texts db) (form_texts q.body db q.head) x k)) (atom_in q.body db q.head a c));
    }
