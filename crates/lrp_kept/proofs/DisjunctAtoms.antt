-- The atoms of a disjunct: rows that match them give each text variable a text of its binder's sort.
use Rattle.std.proofs.Common.{◌≡◌, ◌≢◌, ◌<◌, true, false, List, [], ◌∷◌, ◌++◌, flat_map, Contains, Option, Some, None, inl, inr, refl, sym, ap, subst, ◌∙◌, append-nil, arith}
use Rattle.std.specs.Prelude.{MatchOption}
use Rattle.std.specs.List.{AllByRecursion, AllZip}
use Rattle.std.proofs.lemmas.Bool.{or_cases}
use Rattle.lrp_model.specs.Domains.{database_texts}
use Rattle.lrp_model.specs.Formulas.{Form, Forms, atom, test, sorted, negation, conjunction, disjunction, implication, exists, forall, no_forms, form}
use Rattle.lrp_model.specs.Rows.{relation_named, rows_in, rows_of}
use Rattle.lrp_model.specs.Satisfaction.{Assignment}
use Rattle.lrp_model.specs.Texts.{Identifier}
use Rattle.lrp_model.specs.Variables.{data_variable, is_among, variables_of_term}
use Rattle.lrp_model.specs.declared.relations.Column.{Column}
use Rattle.lrp_model.specs.declared.relations.Relation.{Relation}
use Rattle.lrp_model.specs.declared.relations.Row.{Row}
use Rattle.lrp_model.proofs.Decided.{cons_cases, contains_first, contains_later}
use Rattle.lrp_plan_laws.specs.Atoms.{Atom, atoms, atoms_each}
use Rattle.lrp_tables.specs.Columns.{texts_of_term}
use Rattle.lrp_kept.specs.Choices.{Matches}
use Rattle.lrp_kept.specs.KeptForm.{kept_elements, is_atom_with, is_neither, some_passes}
use Rattle.lrp_kept.specs.SortedForms.{AreSortedForms, IsSortedAtom, IsSortedForm, binders_at}
use Rattle.lrp_kept.proofs.PartVariables.{text_among}
use Rattle.lrp_kept.proofs.MatchedTexts.{in_database, named_listed, text_in_row}

-- ---- elements

-- the atoms of a formula are those of its elements
pub atoms_are : (f : Form) → atoms f ≡ atoms_each (kept_elements f)
atoms_are (exists v s f) = atoms_are f
atoms_are (conjunction fs) = refl
atoms_are (atom name terms) = refl
atoms_are (test t) = refl
atoms_are (sorted s v) = refl
atoms_are (negation f) = sym (append-nil (atoms f))
atoms_are (disjunction fs) = sym (append-nil (atoms_each fs))
atoms_are (implication f g) = sym (append-nil (atoms f ++ atoms g))
atoms_are (forall v s f) = sym (append-nil (atoms f))

pub sorted_elements : (f : Form) (db : List Relation) (bs : List Column) → IsSortedForm f db bs → AreSortedForms (kept_elements f) db (binders_at f bs)
sorted_elements (exists v s f) db bs h = sorted_elements f db (record { name = v; sort = s } ∷ bs) h.1
sorted_elements (conjunction fs) db bs h = h
sorted_elements (atom name terms) db bs h = (h, tt)
sorted_elements (test t) db bs h = (h, tt)
sorted_elements (sorted s v) db bs h = (h, tt)
sorted_elements (negation f) db bs h = (h, tt)
sorted_elements (disjunction fs) db bs h = (h, tt)
sorted_elements (implication f g) db bs h = (h, tt)
sorted_elements (forall v s f) db bs h = (h, tt)

-- an atom that fits, with its terms sorted
abbrev pub IsSorted : List Relation → List Column → Atom → Type 0
IsSorted db bs a = MatchOption (relation_named db a.name) ⊥ (IsSortedAtom bs a.terms)

pub sorted_atoms : (fs : Forms) (db : List Relation) (bs : List Column) → some_passes is_neither fs ≡ false → AreSortedForms fs db bs → AllByRecursion (IsSorted db bs) (atoms_each fs)
sorted_atoms no_forms db bs e h = tt
sorted_atoms (form (atom name terms) fs) db bs e h = (h.0, sorted_atoms fs db bs e h.1)
sorted_atoms (form (test t) fs) db bs e h = sorted_atoms fs db bs e h.1
sorted_atoms (form (sorted s v) fs) db bs e h = cc
sorted_atoms (form (negation f) fs) db bs e h = cc
sorted_atoms (form (conjunction gs) fs) db bs e h = cc
sorted_atoms (form (disjunction gs) fs) db bs e h = cc
sorted_atoms (form (implication f g) fs) db bs e h = cc
sorted_atoms (form (exists v s f) fs) db bs e h = cc
sorted_atoms (form (forall v s f) fs) db bs e h = cc

-- ---- binders of one name each

abbrev pub HaveOwnNames : List Column → Type 0
HaveOwnNames bs = (b c : Column) → Contains bs b → Contains bs c → b.name ≡ c.name → b ≡ c

one_more_name : (bs : List Column) (d : Column) → HaveOwnNames bs → AllByRecursion (λ (b : Column). b.name ≢ d.name) bs → HaveOwnNames (d ∷ bs)
one_more_name bs d own new b c i j e = elim (cons_cases d b bs i) [
  | inl s ↦ elim (cons_cases d c bs j) [
    | inl t ↦ sym s ∙ t
    | inr k ↦ absurd (other bs new c k (sym e ∙ ap (λ (x : Column). x.name) (sym s)))
  ]
  | inr l ↦ elim (cons_cases d c bs j) [
    | inl t ↦ absurd (other bs new b l (e ∙ ap (λ (x : Column). x.name) (sym t)))
    | inr k ↦ own b c l k e
  ]
]
  where
    other : (xs : List Column) → AllByRecursion (λ (b : Column). b.name ≢ d.name) xs → (x : Column) → Contains xs x → x.name ≢ d.name
    other [] h x i = absurd (let l : i.0 < 0 = i.1 in omega (arith, l))
    other (y ∷ xs) h x i = elim (cons_cases y x xs i) [ inl s ↦ subst (λ (z : Column). z.name ≢ d.name) s h.0 | inr k ↦ other xs h.1 x k ]

pub own_names_at : (f : Form) (db : List Relation) (bs : List Column) → IsSortedForm f db bs → HaveOwnNames bs → HaveOwnNames (binders_at f bs)
own_names_at (exists v s f) db bs h own = own_names_at f db (record { name = v; sort = s } ∷ bs) h.1 (one_more_name bs (record { name = v; sort = s }) own h.0)
own_names_at (atom name terms) db bs h own = own
own_names_at (test t) db bs h own = own
own_names_at (sorted s v) db bs h own = own
own_names_at (negation f) db bs h own = own
own_names_at (conjunction fs) db bs h own = own
own_names_at (disjunction fs) db bs h own = own
own_names_at (implication f g) db bs h own = own
own_names_at (forall v s f) db bs h own = own

-- ---- occurrences

-- a text variable that occurs in an atom among formulas
atom_with : (fs : Forms) (v : Identifier) → some_passes is_neither fs ≡ false → some_passes (is_atom_with (data_variable v)) fs ≡ true → (a : Atom) × Contains (atoms_each fs) a × Contains (flat_map texts_of_term a.terms) v
atom_with no_forms v n e = cc
atom_with (form (atom name terms) fs) v n e =
    let a : Atom = record { name = name; terms = terms } in
    elim (or_cases (is_among (flat_map variables_of_term terms) (data_variable v)) (some_passes (is_atom_with (data_variable v)) fs) e) [
      | inl s ↦ (a, contains_first a (atoms_each fs), text_among terms v s)
      | inr k ↦ let r = atom_with fs v n k in (r.0, contains_later a r.0 (atoms_each fs) r.1, r.2)
    ]
atom_with (form (test t) fs) v n e = atom_with fs v n e
atom_with (form (sorted s w) fs) v n e = cc
atom_with (form (negation f) fs) v n e = cc
atom_with (form (conjunction gs) fs) v n e = cc
atom_with (form (disjunction gs) fs) v n e = cc
atom_with (form (implication f g) fs) v n e = cc
atom_with (form (exists w s f) fs) v n e = cc
atom_with (form (forall w s f) fs) v n e = cc

-- ---- texts

module _ (db : List Relation) (bs : List Column) where
  -- what one atom's row gives a text variable
  one_text : (env : Assignment) (a : Atom) (row : Row) (v : Identifier) → IsSorted db bs a → Contains (rows_of db a.name) row → Matches env a row → Contains (flat_map texts_of_term a.terms) v → (b : Column) × Contains bs b × (b.name ≡ v) × Contains (database_texts db) (b.sort, env.texts v)
  one_text env a row v h listed m i = by (relation_named db a.name) refl h
    where
      by : (o : Option Relation) → relation_named db a.name ≡ o → MatchOption o ⊥ (IsSortedAtom bs a.terms) → (b : Column) × Contains bs b × (b.name ≡ v) × Contains (database_texts db) (b.sort, env.texts v)
      by None e k = absurd k
      by (Some r) e k =
          let x = text_in_row bs env v r.columns row.values a.terms k.count k.sorts m.values i in
          (x.0, x.1, x.2, in_database db r row x.0.sort (env.texts v) (named_listed db a.name r e) (subst (λ xs. Contains xs row) (ap rows_in e) listed) x.3)

  -- what those of all atoms give it
  pub some_text : (env : Assignment) (all : List Atom) (rows : List Row) (a : Atom) (v : Identifier) → AllByRecursion (IsSorted db bs) all → AllZip (λ (x : Atom) row. Contains (rows_of db x.name) row) all rows → AllZip (Matches env) all rows → Contains all a → Contains (flat_map texts_of_term a.terms) v → (b : Column) × Contains bs b × (b.name ≡ v) × Contains (database_texts db) (b.sort, env.texts v)
  some_text env [] rows a v s h m i j = absurd (let l : i.0 < 0 = i.1 in omega (arith, l))
  some_text env (x ∷ all) [] a v s h m i j = absurd h
  some_text env (x ∷ all) (row ∷ rows) a v s h m i j = elim (cons_cases x a all i) [
    | inl e ↦ one_text env x row v s.0 h.0 m.0 (subst (λ (y : Atom). Contains (flat_map texts_of_term y.terms) v) (sym e) j)
    | inr more ↦ some_text env all rows a v s.1 h.1 m.1 more j
  ]

  -- a binder whose variable occurs has a text of its sort
  pub binder_text : (env : Assignment) (fs : Forms) (rows : List Row) (b : Column) → HaveOwnNames bs → some_passes is_neither fs ≡ false → AreSortedForms fs db bs → AllZip (λ (x : Atom) row. Contains (rows_of db x.name) row) (atoms_each fs) rows → AllZip (Matches env) (atoms_each fs) rows → Contains bs b → some_passes (is_atom_with (data_variable b.name)) fs ≡ true → Contains (database_texts db) (b.sort, env.texts b.name)
  binder_text env fs rows b own n s h m i e =
      let a = atom_with fs b.name n e in
      let x = some_text env (atoms_each fs) rows a.0 b.name (sorted_atoms fs db bs n s) h m a.1 a.2 in
      subst (λ (c : Column). Contains (database_texts db) (c.sort, env.texts b.name)) (own x.0 b x.1 i x.2) x.3
