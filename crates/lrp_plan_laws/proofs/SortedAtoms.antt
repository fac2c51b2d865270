-- The atoms of a well-sorted query fit the database.
use Rattle.std.proofs.Common.{◌≡◌, Bool, true, false, not, List, [], ◌∷◌, length, Option, Some, None, map, flat_map, arith}
use Rattle.std.specs.Prelude.{◌==◌, if◌then◌else◌, reverse, MatchOption}
use Rattle.std.specs.List.{AllByRecursion, AllZip}
use Rattle.std.proofs.lemmas.Bool.{eqb-true}
use Rattle.lrp_model.specs.Sorts.{same_sort, is_time, is_data, FitsColumn}
use Rattle.lrp_model.specs.Rows.{relation_named}
use Rattle.lrp_model.specs.Faults.{fault_if}
use Rattle.lrp_model.specs.RawQueries.{RawForm, RawForms, RawQuestion, raw_atom, raw_compare, raw_member, raw_not, raw_and, raw_or, raw_implies, raw_group, raw_exists, raw_forall, raw_ranged, raw_paired, no_raws, raw}
use Rattle.lrp_model.specs.Sorting.{Binders, binder_sort, alone_sort, shifted_sort, kind_sort, term_sort, is_data_term, differs, variable_faults, kind_faults, term_faults, column_faults, atom_faults, widened, form_faults, forms_faults, IsWellSorted}
use Rattle.lrp_model.specs.Checked.{term_of, plain, plain_each, plain_question}
use Rattle.lrp_model.specs.RawTerms.{time_of, data_of}
use Rattle.lrp_model.specs.declared.tokens.Place.{Place}
use Rattle.lrp_model.specs.declared.relations.Sort.{Sort}
use Rattle.lrp_model.specs.declared.relations.Sort.TheVariants.{Time}
use Rattle.lrp_model.specs.declared.relations.Column.{Column}
use Rattle.lrp_model.specs.declared.relations.Relation.{Relation}
use Rattle.lrp_model.specs.declared.formulas.TimeTerm.{TimeTerm}
use Rattle.lrp_model.specs.declared.formulas.DataTerm.{DataTerm}
use Rattle.lrp_model.specs.declared.formulas.Term.TheVariants.{Time as time_term, Data as data_term}
use Rattle.lrp_model.specs.declared.raw.RawTerm.{RawTerm}
use Rattle.lrp_model.specs.declared.raw.RawTermKind.{RawTermKind}
use Rattle.lrp_model.specs.declared.raw.RawTermKind.TheVariants.{Int, Text, Var, Shifted}
use Rattle.lrp_model.proofs.Logic.{all_append}
use Rattle.lrp_plan_laws.specs.Atoms.{atoms, atoms_each, FitsAtom}
use Rattle.lrp_model.proofs.NoFaults.{both_none, none_if, not_false, not_wide, not_wide_inside, same_kind, no_time}
use Rattle.lrp_plan_laws.proofs.SortedScopes.{parts_sorted}

-- a term of the column's sort fits it
of_kind : (c : Column) (d : DataTerm) (t : TimeTerm) (b : Bool) → is_data c.sort ≡ b → FitsColumn c (if b then data_term d else time_term t)
of_kind c d t true e = e
of_kind c d t false e = not_false (is_time c.sort) e

-- a term of a sort that is the column's
of_same : (s : Sort) (c : Column) (d : DataTerm) (t : TimeTerm) → not (same_sort s c.sort) ≡ false → FitsColumn c (if is_data s then data_term d else time_term t)
of_same s c d t e = of_kind c d t (is_data s) (same_kind c.sort s e)

-- a name alone
alone_fits : (o : Option Sort) (p : Place) (c : Column) (d : DataTerm) (t : TimeTerm) → variable_faults o false p ≡ [] → differs (alone_sort o) c.sort ≡ false → FitsColumn c (if is_data_term (alone_sort o) then data_term d else time_term t)
alone_fits None p c d t f e = cc
alone_fits (Some s) p c d t f e = of_same s c d t e

-- a name with an offset
shifted_fits : (o : Option Sort) (p : Place) (c : Column) (d : DataTerm) (t : TimeTerm) → variable_faults o true p ≡ [] → differs (shifted_sort o) c.sort ≡ false → FitsColumn c (if is_data_term (shifted_sort o) then data_term d else time_term t)
shifted_fits None p c d t f e = cc
shifted_fits (Some s) p c d t f e = of_same Time c d t e

-- a term without a fault fits its column
kind_fits : (bs : Binders) (p : Place) (k : RawTermKind) (c : Column) → kind_faults bs k p ≡ [] → differs (kind_sort bs k) c.sort ≡ false → FitsColumn c (if is_data_term (kind_sort bs k) then data_term (data_of k) else time_term (time_of k))
kind_fits bs p (Int x) c f e = of_same Time c (data_of (Int x)) (time_of (Int x)) e
kind_fits bs p (Text t) c f e = no_time c.sort e
kind_fits bs p (Var n) c f e = alone_fits (binder_sort bs n) p c (data_of (Var n)) (time_of (Var n)) f e
kind_fits bs p (Shifted n plus) c f e = shifted_fits (binder_sort bs n) p c (data_of (Shifted n plus)) (time_of (Shifted n plus)) f e

-- terms without a fault fit their columns, one for each
terms_fit : (bs : Binders) (ts : List RawTerm) (cs : List Column) → length ts ≡ length cs → flat_map (term_faults bs) ts ≡ [] → column_faults bs ts cs ≡ [] → AllZip FitsColumn cs (map (term_of bs) ts)
terms_fit bs [] [] l f e = tt
terms_fit bs [] (c ∷ cs) l f e = absurd (omega arith)
terms_fit bs (t ∷ ts) [] l f e = absurd (omega arith)
terms_fit bs (t ∷ ts) (c ∷ cs) l f e =
    let x = both_none (term_faults bs t) (flat_map (term_faults bs) ts) f in
    let y = both_none (fault_if (differs (term_sort bs t) c.sort) _) (column_faults bs ts cs) e in
    (kind_fits bs t.place t.kind c x.0 (none_if (differs (term_sort bs t) c.sort) _ y.0), terms_fit bs ts cs (omega arith) x.1 y.1)

-- an atom without a fault fits its relation
atom_fits : (bs : Binders) (p : Place) (ts : List RawTerm) (o : Option Relation) → flat_map (term_faults bs) ts ≡ [] → atom_faults bs p ts o ≡ [] → MatchOption o ⊥ (λ r. AllZip FitsColumn r.columns (map (term_of bs) ts))
atom_fits bs p ts None f e = cc
atom_fits bs p ts (Some r) f e =
    let x = both_none (fault_if (not (length ts == length r.columns)) _) (column_faults bs ts r.columns) e in
    terms_fit bs ts r.columns (eqb-true (length ts) (length r.columns) (not_false (length ts == length r.columns) (none_if (not (length ts == length r.columns)) _ x.0))) f x.1

mutual
  -- each atom of a formula without a fault fits
  atoms_fit : (f : RawForm) (db : List Relation) (bs : Binders) → form_faults f db bs ≡ [] → AllByRecursion (FitsAtom db) (atoms (plain f bs))
  atoms_fit (raw_atom p name ts) db bs e =
      let x = both_none (flat_map (term_faults bs) ts) (atom_faults bs p ts (relation_named db name)) e in
      (atom_fits bs p ts (relation_named db name) x.0 x.1, tt)
  atoms_fit (raw_compare p l op r) db bs e = tt
  atoms_fit (raw_member p t point) db bs e = tt
  atoms_fit (raw_not p f) db bs e = atoms_fit f db bs (not_wide bs [] f (form_faults f db bs) e).1
  atoms_fit (raw_and p fs) db bs e = all_fit fs db bs e
  atoms_fit (raw_or p fs) db bs e = all_fit fs db bs e
  atoms_fit (raw_implies p f g) db bs e =
      let x = both_none (widened bs [] f (form_faults f db bs)) (widened bs [] g (form_faults g db bs)) e in
      (all_append (FitsAtom db) (atoms (plain f bs)) (atoms (plain g bs))).1 (atoms_fit f db bs (not_wide bs [] f (form_faults f db bs) x.0).1, atoms_fit g db bs (not_wide bs [] g (form_faults g db bs) x.1).1)
  atoms_fit (raw_group p f) db bs e = atoms_fit f db bs (not_wide bs [] f (form_faults f db bs) e).1
  atoms_fit (raw_ranged word o from to f) db bs e = atoms_fit f db bs (not_wide bs [] f (form_faults f db bs) e).1
  atoms_fit (raw_paired word o f g) db bs e = atoms_fit g db bs (not_wide bs [] g (form_faults g db bs) e).1
  atoms_fit (raw_exists p c f) db bs e = atoms_fit f db (c ∷ bs) (not_wide_inside db bs c f (form_faults f db (c ∷ bs)) e).1
  atoms_fit (raw_forall p c f) db bs e = atoms_fit f db (c ∷ bs) (not_wide_inside db bs c f (form_faults f db (c ∷ bs)) e).1

  -- and each of a list
  all_fit : (fs : RawForms) (db : List Relation) (bs : Binders) → forms_faults fs db bs ≡ [] → AllByRecursion (FitsAtom db) (atoms_each (plain_each fs bs))
  all_fit no_raws db bs e = tt
  all_fit (raw f fs) db bs e =
      let x = both_none (widened bs [] f (form_faults f db bs)) (forms_faults fs db bs) e in
      (all_append (FitsAtom db) (atoms (plain f bs)) (atoms_each (plain_each fs bs))).1 (atoms_fit f db bs (not_wide bs [] f (form_faults f db bs) x.0).1, all_fit fs db bs x.1)

-- each atom of a well-sorted query fits the database
pub query_atoms : (db : List Relation) (q : RawQuestion) → IsWellSorted db q → AllByRecursion (FitsAtom db) (atoms (plain_question q).body)
query_atoms db q sorted = atoms_fit q.body db (reverse q.head) (not_wide (reverse q.head) [] q.body (form_faults q.body db (reverse q.head)) (parts_sorted db q sorted).1.1).1
