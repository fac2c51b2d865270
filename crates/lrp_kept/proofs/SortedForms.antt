-- A well-sorted query, its core form and its disjuncts: each binder has a name of its own, and each text variable of an atom the sort of its column.
use Rattle.std.proofs.Common.{◌≡◌, ◌≢◌, ◌<◌, zero, suc, Bool, true, false, not, List, [], ◌∷◌, length, Option, Some, None, map, flat_map, Contains, refl, sym, subst, ◌∙◌, bytes_eq, append-nil, arith}
use Rattle.std.specs.Prelude.{◌==◌, if◌then◌else◌, reverse, MatchOption}
use Rattle.std.proofs.lemmas.Bool.{eqb-true}
use Rattle.std.proofs.lemmas.List.{length-map}
use Rattle.std.specs.List.{AllByRecursion}
use Rattle.lrp_model.specs.Texts.{Identifier}
use Rattle.lrp_model.specs.Core.{positive, negative, positives, negatives, positive_test, negative_test, conjuncts, disjuncts, all_conjuncts, all_disjuncts, with_sort}
use Rattle.lrp_model.specs.DatabaseMeaning.{column_of}
use Rattle.lrp_model.specs.Faults.{fault_if}
use Rattle.lrp_model.specs.Formulas.{Form, Forms, atom, test, sorted, negation, conjunction, disjunction, implication, exists, forall, no_forms, form, joined}
use Rattle.lrp_model.specs.Rows.{relation_named}
use Rattle.lrp_model.specs.Sorts.{same_sort, is_data}
use Rattle.lrp_model.specs.RawQueries.{RawForm, RawForms, RawQuestion, raw_atom, raw_compare, raw_member, raw_not, raw_and, raw_or, raw_implies, raw_group, raw_exists, raw_forall, raw_ranged, raw_paired, no_raws, raw}
use Rattle.lrp_model.specs.Sorting.{Binders, binder_sort, alone_sort, shifted_sort, kind_sort, term_sort, is_data_term, differs, variable_faults, kind_faults, term_faults, column_faults, atom_faults, binder_faults, widened, form_faults, forms_faults, IsWellSorted}
use Rattle.lrp_model.specs.Checked.{term_of, plain, plain_each, plain_question}
use Rattle.lrp_model.specs.RawTerms.{time_of, data_of}
use Rattle.lrp_model.specs.declared.formulas.DataTerm.TheVariants.{Var as data_var}
use Rattle.lrp_model.specs.declared.formulas.Op.TheVariants.{Le, Lt, Ge, Gt, Eq}
use Rattle.lrp_model.specs.declared.formulas.Test.{Test}
use Rattle.lrp_model.specs.declared.formulas.Test.TheVariants.{Compare, Member, Equal}
use Rattle.lrp_model.specs.declared.formulas.Term.TheVariants.{Time as time_term, Data as data_term}
use Rattle.lrp_model.specs.declared.formulas.TimeTerm.{TimeTerm}
use Rattle.lrp_model.specs.declared.raw.RawColumn.{RawColumn}
use Rattle.lrp_model.specs.declared.raw.RawTerm.{RawTerm}
use Rattle.lrp_model.specs.declared.raw.RawTermKind.{RawTermKind}
use Rattle.lrp_model.specs.declared.raw.RawTermKind.TheVariants.{Int, Text, Var, Shifted}
use Rattle.lrp_model.specs.declared.relations.Column.{Column}
use Rattle.lrp_model.specs.declared.relations.Relation.{Relation}
use Rattle.lrp_model.specs.declared.relations.Sort.{Sort}
use Rattle.lrp_model.specs.declared.relations.Sort.TheVariants.{Time, Data, Named}
use Rattle.lrp_model.specs.declared.tokens.Place.{Place}
use Rattle.lrp_model.proofs.Decided.{contains_first, contains_later}
use Rattle.lrp_model.proofs.NoFaults.{same_sorts, both_none, none_if, not_false, not_wide, not_wide_inside}
use Rattle.lrp_plan_laws.proofs.SortedNames.{bound_here, bound_further, same_name}
use Rattle.lrp_plan_laws.proofs.SortedScopes.{head_first, names_in, parts_sorted}
use Rattle.lrp_kept.specs.Choices.{as_list, listed_disjuncts}
use Rattle.lrp_kept.specs.SortedForms.{AreSortedForms, AreSortedTerms, IsSortedAtom, IsSortedForm, IsSortedTerm}

-- ---- terms

-- the binder from which a name has its sort
found : (bs : Binders) (n : Identifier) (s : Sort) → binder_sort bs n ≡ Some s → (b : Column) × Contains (map column_of bs) b × (b.name ≡ n) × (b.sort ≡ s)
found [] n s e = cc
found (c ∷ bs) n s e = by (bytes_eq c.name n) refl (λ t. found bs n s (sym (bound_further c bs n t) ∙ e))
  where
    by : (b : Bool) → bytes_eq c.name n ≡ b → (bytes_eq c.name n ≡ false → (d : Column) × Contains (map column_of bs) d × (d.name ≡ n) × (d.sort ≡ s)) → (d : Column) × Contains (map column_of (c ∷ bs)) d × (d.name ≡ n) × (d.sort ≡ s)
    by true t rest = (column_of c, contains_first (column_of c) (map column_of bs), same_name c.name n t, (let x : Some c.sort ≡ Some s = sym (bound_here c bs n t) ∙ e in cc))
    by false t rest = let r = rest t in (r.0, contains_later (column_of c) r.0 (map column_of bs) r.1, r.2, r.3)

-- a name alone
alone_sorted : (bs : Binders) (n : Identifier) (c : Column) (o : Option Sort) (p : Place) (t : TimeTerm) → binder_sort bs n ≡ o → variable_faults o false p ≡ [] → differs (alone_sort o) c.sort ≡ false → IsSortedTerm (map column_of bs) c (if is_data_term (alone_sort o) then data_term (data_var n) else time_term t)
alone_sorted bs n c None p t is f e = cc
alone_sorted bs n c (Some s) p t is f e = by (is_data s)
  where
    by : (b : Bool) → IsSortedTerm (map column_of bs) c (if b then data_term (data_var n) else time_term t)
    by true = let r = found bs n s is in (r.0, r.1, r.2, r.3 ∙ same_sorts s c.sort (not_false (same_sort s c.sort) e))
    by false = tt

-- one with an offset is a time term
shifted_sorted : (bs : Binders) (n : Identifier) (c : Column) (o : Option Sort) (t : TimeTerm) → IsSortedTerm (map column_of bs) c (if is_data_term (shifted_sort o) then data_term (data_of (Var n)) else time_term t)
shifted_sorted bs n c None t = tt
shifted_sorted bs n c (Some s) t = tt

kind_sorted : (bs : Binders) (p : Place) (k : RawTermKind) (c : Column) → kind_faults bs k p ≡ [] → differs (kind_sort bs k) c.sort ≡ false → IsSortedTerm (map column_of bs) c (if is_data_term (kind_sort bs k) then data_term (data_of k) else time_term (time_of k))
kind_sorted bs p (Int x) c f e = tt
kind_sorted bs p (Text t) c f e = tt
kind_sorted bs p (Var n) c f e = alone_sorted bs n c (binder_sort bs n) p (time_of (Var n)) refl f e
kind_sorted bs p (Shifted n plus) c f e = by (binder_sort bs n)
  where
    by : (o : Option Sort) → IsSortedTerm (map column_of bs) c (if is_data_term (shifted_sort o) then data_term (data_of (Shifted n plus)) else time_term (time_of (Shifted n plus)))
    by None = tt
    by (Some s) = tt

terms_sorted : (bs : Binders) (ts : List RawTerm) (cs : List Column) → flat_map (term_faults bs) ts ≡ [] → column_faults bs ts cs ≡ [] → AreSortedTerms (map column_of bs) cs (map (term_of bs) ts)
terms_sorted bs [] [] f e = tt
terms_sorted bs [] (c ∷ cs) f e = tt
terms_sorted bs (t ∷ ts) [] f e = tt
terms_sorted bs (t ∷ ts) (c ∷ cs) f e =
    let x = both_none (term_faults bs t) (flat_map (term_faults bs) ts) f in
    let y = both_none (fault_if (differs (term_sort bs t) c.sort) _) (column_faults bs ts cs) e in
    (kind_sorted bs t.place t.kind c x.0 (none_if (differs (term_sort bs t) c.sort) _ y.0), terms_sorted bs ts cs x.1 y.1)

atom_sorted : (bs : Binders) (p : Place) (ts : List RawTerm) (o : Option Relation) → flat_map (term_faults bs) ts ≡ [] → atom_faults bs p ts o ≡ [] → MatchOption o ⊥ (IsSortedAtom (map column_of bs) (map (term_of bs) ts))
atom_sorted bs p ts None f e = cc
atom_sorted bs p ts (Some r) f e =
    let x = both_none (fault_if (not (length ts == length r.columns)) _) (column_faults bs ts r.columns) e in
    record {
      count = length-map ts (term_of bs) ∙ eqb-true (length ts) (length r.columns) (not_false (length ts == length r.columns) (none_if (not (length ts == length r.columns)) _ x.0));
      sorts = terms_sorted bs ts r.columns f x.1;
    }

-- ---- formulas

own_columns : (bs : Binders) (v : Identifier) → AllByRecursion (λ m. m ≢ v) (names_in bs) → AllByRecursion (λ (b : Column). b.name ≢ v) (map column_of bs)
own_columns [] v h = tt
own_columns (b ∷ bs) v h = (h.0, own_columns bs v h.1)

own_name_of : (db : List Relation) (bs : Binders) (c : RawColumn) → binder_faults db bs c ≡ [] → AllByRecursion (λ (b : Column). b.name ≢ c.name) (map column_of bs)
own_name_of db bs c e = own_columns bs c.name (head_first db bs c [] (append-nil (binder_faults db bs c) ∙ e)).0

mutual
  sorted_form : (f : RawForm) (db : List Relation) (bs : Binders) → form_faults f db bs ≡ [] → IsSortedForm (plain f bs) db (map column_of bs)
  sorted_form (raw_atom p name ts) db bs e =
      let x = both_none (flat_map (term_faults bs) ts) (atom_faults bs p ts (relation_named db name)) e in
      atom_sorted bs p ts (relation_named db name) x.0 x.1
  sorted_form (raw_compare p l op r) db bs e = tt
  sorted_form (raw_member p t point) db bs e = tt
  sorted_form (raw_not p f) db bs e = sorted_form f db bs (not_wide bs [] f (form_faults f db bs) e).1
  sorted_form (raw_and p fs) db bs e = sorted_forms fs db bs e
  sorted_form (raw_or p fs) db bs e = sorted_forms fs db bs e
  sorted_form (raw_implies p f g) db bs e =
      let x = both_none (widened bs [] f (form_faults f db bs)) (widened bs [] g (form_faults g db bs)) e in
      (sorted_form f db bs (not_wide bs [] f (form_faults f db bs) x.0).1, sorted_form g db bs (not_wide bs [] g (form_faults g db bs) x.1).1)
  sorted_form (raw_group p f) db bs e = sorted_form f db bs (not_wide bs [] f (form_faults f db bs) e).1
  sorted_form (raw_ranged word o from to f) db bs e = sorted_form f db bs (not_wide bs [] f (form_faults f db bs) e).1
  sorted_form (raw_paired word o f g) db bs e = sorted_form g db bs (not_wide bs [] g (form_faults g db bs) e).1
  sorted_form (raw_exists p c f) db bs e =
      (own_name_of db bs c (both_none (binder_faults db bs c) _ e).0, sorted_form f db (c ∷ bs) (not_wide_inside db bs c f (form_faults f db (c ∷ bs)) e).1)
  sorted_form (raw_forall p c f) db bs e =
      (own_name_of db bs c (both_none (binder_faults db bs c) _ e).0, sorted_form f db (c ∷ bs) (not_wide_inside db bs c f (form_faults f db (c ∷ bs)) e).1)

  sorted_forms : (fs : RawForms) (db : List Relation) (bs : Binders) → forms_faults fs db bs ≡ [] → AreSortedForms (plain_each fs bs) db (map column_of bs)
  sorted_forms no_raws db bs e = tt
  sorted_forms (raw f fs) db bs e =
      let x = both_none (widened bs [] f (form_faults f db bs)) (forms_faults fs db bs) e in
      (sorted_form f db bs (not_wide bs [] f (form_faults f db bs) x.0).1, sorted_forms fs db bs x.1)

-- ---- core forms

module _ (db : List Relation) where
  sorted_joined : (fs gs : Forms) (bs : List Column) → AreSortedForms fs db bs → AreSortedForms gs db bs → AreSortedForms (joined fs gs) db bs
  sorted_joined no_forms gs bs a b = b
  sorted_joined (form f fs) gs bs a b = (a.0, sorted_joined fs gs bs a.1 b)

  sorted_conjuncts : (f : Form) (bs : List Column) → IsSortedForm f db bs → AreSortedForms (conjuncts f) db bs
  sorted_conjuncts (conjunction fs) bs a = a
  sorted_conjuncts (atom name terms) bs a = (a, tt)
  sorted_conjuncts (test t) bs a = (a, tt)
  sorted_conjuncts (sorted s v) bs a = (a, tt)
  sorted_conjuncts (negation f) bs a = (a, tt)
  sorted_conjuncts (disjunction fs) bs a = (a, tt)
  sorted_conjuncts (implication f g) bs a = (a, tt)
  sorted_conjuncts (exists v s f) bs a = (a, tt)
  sorted_conjuncts (forall v s f) bs a = (a, tt)

  pub sorted_disjuncts : (f : Form) (bs : List Column) → IsSortedForm f db bs → AreSortedForms (disjuncts f) db bs
  sorted_disjuncts (disjunction fs) bs a = a
  sorted_disjuncts (atom name terms) bs a = (a, tt)
  sorted_disjuncts (test t) bs a = (a, tt)
  sorted_disjuncts (sorted s v) bs a = (a, tt)
  sorted_disjuncts (negation f) bs a = (a, tt)
  sorted_disjuncts (conjunction fs) bs a = (a, tt)
  sorted_disjuncts (implication f g) bs a = (a, tt)
  sorted_disjuncts (exists v s f) bs a = (a, tt)
  sorted_disjuncts (forall v s f) bs a = (a, tt)

  sorted_and : (fs : Forms) (bs : List Column) → AreSortedForms fs db bs → AreSortedForms (all_conjuncts fs) db bs
  sorted_and no_forms bs a = tt
  sorted_and (form f fs) bs a = sorted_joined (conjuncts f) (all_conjuncts fs) bs (sorted_conjuncts f bs a.0) (sorted_and fs bs a.1)

  sorted_or : (fs : Forms) (bs : List Column) → AreSortedForms fs db bs → AreSortedForms (all_disjuncts fs) db bs
  sorted_or no_forms bs a = tt
  sorted_or (form f fs) bs a = sorted_joined (disjuncts f) (all_disjuncts fs) bs (sorted_disjuncts f bs a.0) (sorted_or fs bs a.1)

  no_sort : (s : Sort) (v : Identifier) (f : Form) (bs : List Column) → IsSortedForm f db bs → IsSortedForm (with_sort false s v f) db bs
  no_sort Time v f bs a = a
  no_sort Data v f bs a = a
  no_sort (Named n) v f bs a = a

  sorted_positive_test : (t : Test) (bs : List Column) → IsSortedForm (positive_test t) db bs
  sorted_positive_test (Compare a Le b) bs = tt
  sorted_positive_test (Compare a Lt b) bs = tt
  sorted_positive_test (Compare a Ge b) bs = tt
  sorted_positive_test (Compare a Gt b) bs = tt
  sorted_positive_test (Compare a Eq b) bs = tt
  sorted_positive_test (Member term point) bs = tt
  sorted_positive_test (Equal a b) bs = tt

  sorted_negative_test : (t : Test) (bs : List Column) → IsSortedForm (negative_test t) db bs
  sorted_negative_test (Compare a Le b) bs = tt
  sorted_negative_test (Compare a Lt b) bs = tt
  sorted_negative_test (Compare a Ge b) bs = tt
  sorted_negative_test (Compare a Gt b) bs = tt
  sorted_negative_test (Compare a Eq b) bs = (tt, (tt, tt))
  sorted_negative_test (Member term point) bs = tt
  sorted_negative_test (Equal a b) bs = tt

  mutual
    pub sorted_positive : (f : Form) (bs : List Column) → IsSortedForm f db bs → IsSortedForm (positive f false) db bs
    sorted_positive (atom name terms) bs a = a
    sorted_positive (test t) bs a = sorted_positive_test t bs
    sorted_positive (sorted s v) bs a = tt
    sorted_positive (negation f) bs a = sorted_negative f bs a
    sorted_positive (conjunction fs) bs a = sorted_and (positives fs false) bs (sorted_positives fs bs a)
    sorted_positive (disjunction fs) bs a = sorted_or (positives fs false) bs (sorted_positives fs bs a)
    sorted_positive (implication f g) bs a = sorted_or (form (negative f false) (form (positive g false) no_forms)) bs (sorted_negative f bs a.0, (sorted_positive g bs a.1, tt))
    sorted_positive (exists v s f) bs a = (a.0, no_sort s v (positive f false) (record { name = v; sort = s } ∷ bs) (sorted_positive f (record { name = v; sort = s } ∷ bs) a.1))
    sorted_positive (forall v s f) bs a = (a.0, no_sort s v (negative f false) (record { name = v; sort = s } ∷ bs) (sorted_negative f (record { name = v; sort = s } ∷ bs) a.1))

    pub sorted_negative : (f : Form) (bs : List Column) → IsSortedForm f db bs → IsSortedForm (negative f false) db bs
    sorted_negative (atom name terms) bs a = a
    sorted_negative (test t) bs a = sorted_negative_test t bs
    sorted_negative (sorted s v) bs a = tt
    sorted_negative (negation f) bs a = sorted_positive f bs a
    sorted_negative (conjunction fs) bs a = sorted_and (positives fs false) bs (sorted_positives fs bs a)
    sorted_negative (disjunction fs) bs a = sorted_and (negatives fs false) bs (sorted_negatives fs bs a)
    sorted_negative (implication f g) bs a = sorted_and (form (positive f false) (form (negative g false) no_forms)) bs (sorted_positive f bs a.0, (sorted_negative g bs a.1, tt))
    sorted_negative (exists v s f) bs a = (a.0, no_sort s v (positive f false) (record { name = v; sort = s } ∷ bs) (sorted_positive f (record { name = v; sort = s } ∷ bs) a.1))
    sorted_negative (forall v s f) bs a = (a.0, no_sort s v (negative f false) (record { name = v; sort = s } ∷ bs) (sorted_negative f (record { name = v; sort = s } ∷ bs) a.1))

    sorted_positives : (fs : Forms) (bs : List Column) → AreSortedForms fs db bs → AreSortedForms (positives fs false) db bs
    sorted_positives no_forms bs a = tt
    sorted_positives (form f fs) bs a = (sorted_positive f bs a.0, sorted_positives fs bs a.1)

    sorted_negatives : (fs : Forms) (bs : List Column) → AreSortedForms fs db bs → AreSortedForms (negatives fs false) db bs
    sorted_negatives no_forms bs a = tt
    sorted_negatives (form f fs) bs a = (sorted_negative f bs a.0, sorted_negatives fs bs a.1)

  one_sorted : (fs : Forms) (f : Form) (bs : List Column) → AreSortedForms fs db bs → Contains (as_list fs) f → IsSortedForm f db bs
  one_sorted no_forms f bs a (i, low, is) = absurd (let l : i < 0 = low in omega (arith, l))
  one_sorted (form g fs) f bs a (zero, low, is) = subst (λ h. IsSortedForm h db bs) (let s : g ≡ f = cc in s) a.0
  one_sorted (form g fs) f bs a (suc i, low, is) = one_sorted fs f bs a.1 (i, omega (arith, low), is)

-- the disjuncts of a well-sorted query, within its head
pub disjuncts_sorted : (db : List Relation) (q : RawQuestion) → IsWellSorted db q → (f : Form) → Contains (listed_disjuncts (plain_question q)) f → IsSortedForm f db (map column_of (reverse q.head))
disjuncts_sorted db q well f i =
    let body : IsSortedForm (plain q.body (reverse q.head)) db (map column_of (reverse q.head)) = sorted_form q.body db (reverse q.head) (not_wide (reverse q.head) [] q.body (form_faults q.body db (reverse q.head)) (parts_sorted db q well).1.1).1 in
    one_sorted db (disjuncts (positive (plain q.body (reverse q.head)) false)) f (map column_of (reverse q.head)) (sorted_disjuncts db (positive (plain q.body (reverse q.head)) false) (map column_of (reverse q.head)) (sorted_positive db (plain q.body (reverse q.head)) (map column_of (reverse q.head)) body)) i
