-- Each text of a well-sorted query and its database is of a sort of texts.
use Rattle.std.proofs.Common.{◌≡◌, Bool, true, false, not, ◌&&◌, List, [], ◌∷◌, length, append-nil, Option, Some, None, unwrap_or, map, flat_map, refl, sym, ap, subst, ◌∙◌}
use Rattle.std.specs.Prelude.{◌==◌, if◌then◌else◌, reverse}
use Rattle.std.specs.List.{AllByRecursion}
use Rattle.lrp_model.specs.Texts.{Identifier}
use Rattle.lrp_model.specs.Rows.{relation_named, columns_in}
use Rattle.lrp_model.specs.Sorts.{is_data}
use Rattle.lrp_model.specs.Faults.{fault_if}
use Rattle.lrp_model.specs.Domains.{database_texts, all_texts, term_texts, sort_beside, text_beside, test_texts, form_texts, forms_texts}
use Rattle.lrp_model.specs.RawQueries.{RawForm, RawForms, RawQuestion, raw_atom, raw_compare, raw_member, raw_not, raw_and, raw_or, raw_implies, raw_group, raw_exists, raw_forall, raw_ranged, raw_paired, no_raws, raw}
use Rattle.lrp_model.specs.Sorting.{Binders, binder_sort, alone_sort, shifted_sort, kind_sort, term_sort, is_data_term, differs, term_faults, column_faults, atom_faults, widened, form_faults, forms_faults, IsWellSorted}
use Rattle.lrp_model.specs.DatabaseMeaning.{column_of}
use Rattle.lrp_model.specs.Checked.{term_of, compare_of, plain, plain_each, plain_question}
use Rattle.lrp_model.specs.RawTerms.{time_of, data_of, is_equality}
use Rattle.lrp_model.specs.declared.tokens.Place.{Place}
use Rattle.lrp_model.specs.declared.relations.Sort.{Sort}
use Rattle.lrp_model.specs.declared.relations.Sort.TheVariants.{Data}
use Rattle.lrp_model.specs.declared.relations.Column.{Column}
use Rattle.lrp_model.specs.declared.relations.Relation.{Relation}
use Rattle.lrp_model.specs.declared.formulas.Term.{Term}
use Rattle.lrp_model.specs.declared.formulas.Term.TheVariants.{Time as time_term, Data as data_term}
use Rattle.lrp_model.specs.declared.formulas.DataTerm.{DataTerm}
use Rattle.lrp_model.specs.declared.formulas.DataTerm.TheVariants.{Var as data_var, Const as data_const}
use Rattle.lrp_model.specs.declared.formulas.Op.{Op}
use Rattle.lrp_model.specs.declared.formulas.Test.TheVariants.{Compare, Equal}
use Rattle.lrp_model.specs.declared.raw.RawTerm.{RawTerm}
use Rattle.lrp_model.specs.declared.raw.RawTermKind.{RawTermKind}
use Rattle.lrp_model.specs.declared.raw.RawTermKind.TheVariants.{Int, Text as TextTerm, Var, Shifted}
use Rattle.lrp_model.proofs.Logic.{all_append}
use Rattle.lrp_plan_laws.specs.Settled.{HasSortedTexts}
use Rattle.lrp_model.proofs.NoFaults.{both_none, none_if, no_time, not_wide, not_wide_inside}
use Rattle.lrp_plan_laws.proofs.SortedScopes.{parts_sorted}
use Rattle.lrp_plan_laws.proofs.SortedTexts.{Binds, binds_more, find_pick, pick, turned_pick}

-- a term of an atom, in its column
term_data : (bs : Binders) (k : RawTermKind) (c : Column) (cs : List Column) (us : List Term) → differs (kind_sort bs k) c.sort ≡ false → AllByRecursion (λ entry. is_data entry.0 ≡ true) (term_texts cs us)
    → AllByRecursion (λ entry. is_data entry.0 ≡ true) (term_texts (c ∷ cs) ((if is_data_term (kind_sort bs k) then data_term (data_of k) else time_term (time_of k)) ∷ us))
term_data bs (Int x) c cs us e rest = rest
term_data bs (TextTerm t) c cs us e rest = (no_time c.sort e, rest)
term_data bs (Var m) c cs us e rest = by_kind (is_data_term (alone_sort (binder_sort bs m)))
  where
    by_kind : (b : Bool) → AllByRecursion (λ entry. is_data entry.0 ≡ true) (term_texts (c ∷ cs) ((if b then data_term (data_of (Var m)) else time_term (time_of (Var m))) ∷ us))
    by_kind true = rest
    by_kind false = rest
term_data bs (Shifted m plus) c cs us e rest = by_sort (binder_sort bs m)
  where
    by_sort : (o : Option Sort) → AllByRecursion (λ entry. is_data entry.0 ≡ true) (term_texts (c ∷ cs) ((if is_data_term (shifted_sort o) then data_term (data_of (Shifted m plus)) else time_term (time_of (Shifted m plus))) ∷ us))
    by_sort None = rest
    by_sort (Some s) = rest

-- the terms of an atom, in their columns
terms_data : (bs : Binders) (ts : List RawTerm) (cs : List Column) → column_faults bs ts cs ≡ [] → AllByRecursion (λ entry. is_data entry.0 ≡ true) (term_texts cs (map (term_of bs) ts))
terms_data bs [] [] e = tt
terms_data bs [] (c ∷ cs) e = tt
terms_data bs (t ∷ ts) [] e = tt
terms_data bs (t ∷ ts) (c ∷ cs) e =
    let x = both_none (fault_if (differs (term_sort bs t) c.sort) _) (column_faults bs ts cs) e in
    term_data bs t.kind c cs (map (term_of bs) ts) (none_if (differs (term_sort bs t) c.sort) _ x.0) (terms_data bs ts cs x.1)

-- an atom without a fault
atom_data : (db : List Relation) (bs : Binders) (p : Place) (ts : List RawTerm) (o : Option Relation) → atom_faults bs p ts o ≡ []
    → AllByRecursion (λ entry. is_data entry.0 ≡ true) (term_texts (columns_in o) (map (term_of bs) ts))
atom_data db bs p ts None e = cc
atom_data db bs p ts (Some r) e = terms_data bs ts r.columns (both_none (fault_if (not (length ts == length r.columns)) _) (column_faults bs ts r.columns) e).1

module _ (columns : List Column) (bs : Binders) (binds : Binds columns bs) where
  -- a text beside a data term is of a sort of texts
  beside_data : (k : RawTermKind) → is_data_term (kind_sort bs k) ≡ true → is_data (sort_beside columns (data_of k)) ≡ true
  beside_data (Int x) d = refl
  beside_data (TextTerm t) d = refl
  beside_data (Shifted n plus) d = refl
  beside_data (Var n) d = subst (λ s. is_data s ≡ true) (sym (ap (λ o. unwrap_or o Data) (binds n))) (by_sort (binder_sort bs n) refl d)
    where
      by_sort : (o : Option Sort) → binder_sort bs n ≡ o → is_data_term (alone_sort o) ≡ true → is_data (unwrap_or o Data) ≡ true
      by_sort None e t = refl
      by_sort (Some s) e t = t

  -- a text beside a data term, or none
  text_data : (other this : DataTerm) → is_data (sort_beside columns other) ≡ true → AllByRecursion (λ entry. is_data entry.0 ≡ true) (text_beside columns other this)
  text_data other (data_var v) e = tt
  text_data other (data_const t) e = (e, tt)

  -- the texts of an `=`
  equal_data : (l r : RawTerm) (op : Op) (a d e : Bool) → is_data_term (term_sort bs l) ≡ d → is_data_term (term_sort bs r) ≡ e
      → AllByRecursion (λ entry. is_data entry.0 ≡ true) (test_texts columns (if a && d && e then Equal (data_of l.kind) (data_of r.kind) else Compare (time_of l.kind) op (time_of r.kind)))
  equal_data l r op true true true x y =
      (all_append (λ entry. is_data entry.0 ≡ true) (text_beside columns (data_of r.kind) (data_of l.kind)) (text_beside columns (data_of l.kind) (data_of r.kind))).1
      (text_data (data_of r.kind) (data_of l.kind) (beside_data r.kind y), text_data (data_of l.kind) (data_of r.kind) (beside_data l.kind x))
  equal_data l r op false d e x y = tt
  equal_data l r op true false e x y = tt
  equal_data l r op true true false x y = tt

  -- the texts of a comparison
  compare_data : (l r : RawTerm) (op : Op) → AllByRecursion (λ entry. is_data entry.0 ≡ true) (test_texts columns (compare_of bs l op r))
  compare_data l r op = equal_data l r op (is_equality op) (is_data_term (term_sort bs l)) (is_data_term (term_sort bs r)) refl refl

mutual
  -- each text of a formula without a fault is of a sort of texts
  form_data : (f : RawForm) (db : List Relation) (bs : Binders) (columns : List Column) → Binds columns bs → form_faults f db bs ≡ [] → AllByRecursion (λ entry. is_data entry.0 ≡ true) (form_texts (plain f bs) db columns)
  form_data (raw_atom p name ts) db bs columns m e =
      atom_data db bs p ts (relation_named db name)
      (both_none (flat_map (term_faults bs) ts) (atom_faults bs p ts (relation_named db name)) e).1
  form_data (raw_compare p l op r) db bs columns m e = compare_data columns bs m l r op
  form_data (raw_member p t point) db bs columns m e = tt
  form_data (raw_not p f) db bs columns m e = form_data f db bs columns m (not_wide bs [] f (form_faults f db bs) e).1
  form_data (raw_and p fs) db bs columns m e = forms_data fs db bs columns m e
  form_data (raw_or p fs) db bs columns m e = forms_data fs db bs columns m e
  form_data (raw_implies p f g) db bs columns m e =
      let x = both_none (widened bs [] f (form_faults f db bs)) (widened bs [] g (form_faults g db bs)) e in
      (all_append (λ entry. is_data entry.0 ≡ true) (form_texts (plain f bs) db columns) (form_texts (plain g bs) db columns)).1
      (form_data f db bs columns m (not_wide bs [] f (form_faults f db bs) x.0).1, form_data g db bs columns m (not_wide bs [] g (form_faults g db bs) x.1).1)
  form_data (raw_group p f) db bs columns m e = form_data f db bs columns m (not_wide bs [] f (form_faults f db bs) e).1
  form_data (raw_ranged word o from to f) db bs columns m e = form_data f db bs columns m (not_wide bs [] f (form_faults f db bs) e).1
  form_data (raw_paired word o f g) db bs columns m e = form_data g db bs columns m (not_wide bs [] g (form_faults g db bs) e).1
  form_data (raw_exists p c f) db bs columns m e =
      form_data f db (c ∷ bs) (record { name = c.name; sort = c.sort } ∷ columns) (binds_more c columns bs m) (not_wide_inside db bs c f (form_faults f db (c ∷ bs)) e).1
  form_data (raw_forall p c f) db bs columns m e =
      form_data f db (c ∷ bs) (record { name = c.name; sort = c.sort } ∷ columns) (binds_more c columns bs m) (not_wide_inside db bs c f (form_faults f db (c ∷ bs)) e).1

  -- and each of a list
  forms_data : (fs : RawForms) (db : List Relation) (bs : Binders) (columns : List Column) → Binds columns bs → forms_faults fs db bs ≡ [] → AllByRecursion (λ entry. is_data entry.0 ≡ true) (forms_texts (plain_each fs bs) db columns)
  forms_data no_raws db bs columns m e = tt
  forms_data (raw f fs) db bs columns m e =
      let x = both_none (widened bs [] f (form_faults f db bs)) (forms_faults fs db bs) e in
      (all_append (λ entry. is_data entry.0 ≡ true) (form_texts (plain f bs) db columns) (forms_texts (plain_each fs bs) db columns)).1
      (form_data f db bs columns m (not_wide bs [] f (form_faults f db bs) x.0).1, forms_data fs db bs columns m x.1)

-- each text of a well-sorted query and its database is of a sort of texts
pub query_data : (db : List Relation) (q : RawQuestion) → IsWellSorted db q → HasSortedTexts db → AllByRecursion (λ entry. is_data entry.0 ≡ true) (all_texts db (plain_question q))
query_data db q sorted texts =
    let turned : (n : Identifier) → binder_sort (reverse q.head) n ≡ pick q.head n None = λ n. ap (λ l. binder_sort l n) (sym (append-nil (reverse q.head))) ∙ turned_pick db q.head [] n (parts_sorted db q sorted).0 in
    let body : form_faults q.body db (reverse q.head) ≡ [] = (not_wide (reverse q.head) [] q.body (form_faults q.body db (reverse q.head)) (parts_sorted db q sorted).1.1).1 in
    (all_append (λ entry. is_data entry.0 ≡ true) (database_texts db) (form_texts (plain_question q).body db (plain_question q).head)).1
    (texts, form_data q.body db (reverse q.head) (map column_of q.head) (λ n. find_pick q.head n ∙ sym (turned n)) body)
