-- What is expanded keeps numbers within the limits and `and` and `or` of two members at least, has no operator, and few texts.
use Rattle.std.proofs.Common.{◌≡◌, ℕ, suc, ◌+◌, ◌*◌, ◌≤◌, ◌<◌, Bool, true, false, not, cond, List, [], ◌∷◌, ◌++◌, Option, Some, None, map, length, refl, arith}
use Rattle.std.specs.Prelude.{nat_lt, find, flat_map, ◌==◌, if◌then◌else◌}
use Rattle.std.specs.List.{AllByRecursion}
use Rattle.std.proofs.lemmas.Bool.{ltb-true, ltb-false, eqb-true}
use Rattle.std.proofs.lemmas.List.Sums.{count_by-le-length}
use Rattle.lrp_model.specs.Texts.{Identifier}
use Rattle.lrp_model.specs.Kept.{AreKept, IsKept}
use Rattle.lrp_model.specs.Limits.{most_bytes}
use Rattle.lrp_model.specs.Rows.{relation_named, columns_in}
use Rattle.lrp_model.specs.Sorts.{time_count, text_count}
use Rattle.lrp_model.specs.Faults.{fault_if}
use Rattle.lrp_model.specs.Sorting.{Binders, atom_faults, column_faults, form_faults, forms_faults, term_faults, widened, query_fault}
use Rattle.lrp_model.specs.RawQueries.{RawForm, RawForms, RawDefinitionView, HasNoOperator, HaveNoOperator, raw_atom, raw_compare, raw_member, raw_not, raw_and, raw_or, raw_implies, raw_group, raw_exists, raw_forall, raw_ranged, raw_paired, no_raws, raw}
use Rattle.lrp_model.specs.declared.tokens.Place.{Place}
use Rattle.lrp_model.specs.declared.relations.Column.{Column}
use Rattle.lrp_model.specs.declared.relations.Relation.{Relation}
use Rattle.lrp_model.specs.declared.formulas.Op.TheVariants.{Eq}
use Rattle.lrp_model.specs.declared.raw.RawColumn.{RawColumn}
use Rattle.lrp_model.specs.declared.raw.RawTerm.{RawTerm}
use Rattle.lrp_model.specs.declared.raw.RawTermKind.{RawTermKind}
use Rattle.lrp_model.specs.declared.raw.RawTermKind.TheVariants.{Int, Text, Var, Shifted}
use Rattle.lrp_model.specs.declared.raw.Ranged.TheVariants.{Once, Always}
use Rattle.lrp_model.specs.declared.raw.Paired.TheVariants.{Since, Until}
use Rattle.lrp_model.specs.declared.faults.QueryKind.TheVariants.{Arity}
use Rattle.lrp_model.proofs.ColumnCounts.{counts_split}
use Rattle.lrp_model.proofs.NoFaults.{both_none, none_if, not_false, not_wide, not_wide_inside}
use Rattle.lrp_query.specs.Lawful.{FitsRawTerm, HasTwo, FitsRaw, FitRaws, formulas_in, formulas_of, is_raw_text, text_total, formula_texts, texts_of}
use Rattle.lrp_tense.specs.Expanding.{Naming, name_term, renamed, renamed_kind, renamed_to, moment_of, between_of, expanded, expanded_each}
use Rattle.lrp_wide.specs.Meaning.{is_star}
use Rattle.lrp_wide.specs.Inlining.{UseSetting, Known, Passed, itself, equal, set_kind, set_term, star_variable, star_columns, star_terms, some_each, passed, pass_variable, plain_variable, compared_columns, with_comparisons, compared_form, inlined_atom, known_named, known_with, known_of, meant_by, without_relation, plain_definition, inlined, inlined_each}

-- ---- numbers within the limits

abbrev pub TermFits : RawTerm → Type 0
TermFits t = FitsRawTerm t.kind

renamed_fits : (names : Naming) (k : RawTermKind) → FitsRawTerm k → FitsRawTerm (renamed_kind names k)
renamed_fits names (Int x) h = h
renamed_fits names (Text t) h = h
renamed_fits names (Var v) h = h
renamed_fits names (Shifted v plus) h = h

renamed_fit : (names : Naming) (ts : List RawTerm) → AllByRecursion TermFits ts → AllByRecursion TermFits (map (renamed names) ts)
renamed_fit names [] h = tt
renamed_fit names (t ∷ ts) h = (renamed_fits names t.kind h.0, renamed_fit names ts h.1)

two_expanded : (fs : RawForms) (number : Place → ℕ) (names : Naming) → HasTwo fs → HasTwo (expanded_each fs number names)
two_expanded no_raws number names h = h
two_expanded (raw f no_raws) number names h = h
two_expanded (raw f (raw g fs)) number names h = tt

mutual
  pub fits_expanded : (f : RawForm) (number : Place → ℕ) (names : Naming) → FitsRaw f → FitsRaw (expanded f number names)
  fits_expanded (raw_atom p n ts) number names h = renamed_fit names ts h
  fits_expanded (raw_compare p l op r) number names h = (renamed_fits names l.kind h.0, renamed_fits names r.kind h.1)
  fits_expanded (raw_member p t q) number names h = (renamed_fits names t.kind h.0, h.1)
  fits_expanded (raw_not p f) number names h = fits_expanded f number names h
  fits_expanded (raw_and p fs) number names h = (two_expanded fs number names h.0, fit_expanded fs number names h.1)
  fits_expanded (raw_or p fs) number names h = (two_expanded fs number names h.0, fit_expanded fs number names h.1)
  fits_expanded (raw_implies p f g) number names h = (fits_expanded f number names h.0, fits_expanded g number names h.1)
  fits_expanded (raw_group p f) number names h = fits_expanded f number names h
  fits_expanded (raw_exists p c f) number names h = fits_expanded f number (renamed_to c.name c.name ∷ names) h
  fits_expanded (raw_forall p c f) number names h = fits_expanded f number (renamed_to c.name c.name ∷ names) h
  fits_expanded (raw_ranged Once o from to f) number names h = (tt, ((tt, h.0), ((tt, h.1), (fits_expanded f number (renamed_to o.name (moment_of number o) ∷ names) h.2, tt))))
  fits_expanded (raw_ranged Always o from to f) number names h = ((tt, ((tt, h.0), ((tt, h.1), tt))), fits_expanded f number (renamed_to o.name (moment_of number o) ∷ names) h.2)
  fits_expanded (raw_paired Since o f g) number names h =
      (tt, ((tt, tt), (fits_expanded g number (renamed_to o.name (moment_of number o) ∷ names) h.1, (((tt, ((tt, tt), ((tt, tt), tt))), fits_expanded f number (renamed_to o.name (between_of number o) ∷ names) h.0), tt))))
  fits_expanded (raw_paired Until o f g) number names h =
      (tt, ((tt, tt), (fits_expanded g number (renamed_to o.name (moment_of number o) ∷ names) h.1, (((tt, ((tt, tt), ((tt, tt), tt))), fits_expanded f number (renamed_to o.name (between_of number o) ∷ names) h.0), tt))))

  fit_expanded : (fs : RawForms) (number : Place → ℕ) (names : Naming) → FitRaws fs → FitRaws (expanded_each fs number names)
  fit_expanded no_raws number names h = tt
  fit_expanded (raw f fs) number names h = (fits_expanded f number names h.0, fit_expanded fs number names h.1)

-- ---- atoms

set_fits : (s : UseSetting) (k : RawTermKind) → FitsRawTerm k → FitsRawTerm (set_kind s k)
set_fits s (Int x) h = h
set_fits s (Text t) h = h
set_fits s (Var v) h = h
set_fits s (Shifted v plus) h = h

set_all : (s : UseSetting) (ts : List RawTerm) → AllByRecursion TermFits ts → AllByRecursion TermFits (map (set_term s) ts)
set_all s [] h = tt
set_all s (t ∷ ts) h = (set_fits s t.kind h.0, set_all s ts h.1)

stars_fit : (s : UseSetting) (p : Place) (columns : List Column) (ts : List RawTerm) (k : ℕ) → AllByRecursion TermFits ts → AllByRecursion TermFits (star_terms s p k columns ts)
stars_fit s p [] ts k h = set_all s ts h
stars_fit s p (c ∷ columns) [] k h = tt
stars_fit s p (c ∷ columns) (t ∷ ts) k h = by_star (is_star t) (λ j. stars_fit s p columns ts j h.1)
  where
    by_star : (b : Bool) → ((j : ℕ) → AllByRecursion TermFits (star_terms s p j columns ts))
        → AllByRecursion TermFits (if b then name_term p (star_variable k) ∷ star_terms s p (suc k) columns ts else set_term s t ∷ star_terms s p k columns ts)
    by_star true r = (tt, r (suc k))
    by_star false r = (set_fits s t.kind h.0, r k)

-- a formula inside quantifiers
some_fits : (p : Place) (cs : List RawColumn) (f : RawForm) → FitsRaw f → FitsRaw (some_each p cs f)
some_fits p [] f h = h
some_fits p (c ∷ cs) f h = some_fits p cs f h

some_none : (p : Place) (cs : List RawColumn) (f : RawForm) → HasNoOperator f → HasNoOperator (some_each p cs f)
some_none p [] f h = h
some_none p (c ∷ cs) f h = some_none p cs f h

-- ---- uses

abbrev FitsPassed : Passed → Type 0
FitsPassed (itself c n) = Unit {0}
FitsPassed (equal b c t) = TermFits t

passed_fit : (s : UseSetting) (p : Place) (k : ℕ) (columns : List Column) (ts : List RawTerm) (j : ℕ) → AllByRecursion TermFits ts → AllByRecursion FitsPassed (passed s p k j columns ts)
passed_fit s p k [] ts j h = tt
passed_fit s p k (c ∷ columns) [] j h = tt
passed_fit s p k (c ∷ columns) (t ∷ ts) j h = by_star (is_star t) (plain_variable t.kind) (λ i. passed_fit s p k columns ts i h.1)
  where
    by_star : (b : Bool) (o : Option Identifier) → ((i : ℕ) → AllByRecursion FitsPassed (passed s p k i columns ts))
        → AllByRecursion FitsPassed (if b then itself c.name (star_variable j) ∷ passed s p k (suc j) columns ts else pass_variable s p k c t o ∷ passed s p k j columns ts)
    by_star true o r = (tt, r (suc j))
    by_star false (Some v) r = (tt, r j)
    by_star false None r = (set_fits s t.kind h.0, r j)

two_with : (p : Place) (g : RawForm) (ps : List Passed) (f : RawForm) → HasTwo (raw g (with_comparisons p ps f))
two_with p g [] f = tt
two_with p g (itself c n ∷ ps) f = two_with p g ps f
two_with p g (equal b c t ∷ ps) f = tt

two_compared : (p : Place) (ps : List Passed) (f : RawForm) (c : RawColumn) (cs : List RawColumn) → compared_columns ps ≡ c ∷ cs → HasTwo (with_comparisons p ps f)
two_compared p [] f c cs e = cc
two_compared p (itself d n ∷ ps) f c cs e = two_compared p ps f c cs e
two_compared p (equal b d t ∷ ps) f c cs e = two_with p (raw_compare p (name_term p b.name) Eq t) ps f

comparisons_fit : (p : Place) (ps : List Passed) (f : RawForm) → AllByRecursion FitsPassed ps → FitsRaw f → FitRaws (with_comparisons p ps f)
comparisons_fit p [] f h k = (k, tt)
comparisons_fit p (itself c n ∷ ps) f h k = comparisons_fit p ps f h.1 k
comparisons_fit p (equal b c t ∷ ps) f h k = ((tt, h.0), comparisons_fit p ps f h.1 k)

compared_fits : (p : Place) (ps : List Passed) (f : RawForm) → AllByRecursion FitsPassed ps → FitsRaw f → FitsRaw (compared_form p (compared_columns ps) ps f)
compared_fits p ps f h k = by_list (compared_columns ps) refl
  where
    by_list : (cs : List RawColumn) → compared_columns ps ≡ cs → FitsRaw (compared_form p cs ps f)
    by_list [] e = k
    by_list (c ∷ cs) e = some_fits p cs _ (two_compared p ps f c cs e, comparisons_fit p ps f h k)

comparisons_none : (p : Place) (ps : List Passed) (f : RawForm) → HasNoOperator f → HaveNoOperator (with_comparisons p ps f)
comparisons_none p [] f h = (h, tt)
comparisons_none p (itself c n ∷ ps) f h = comparisons_none p ps f h
comparisons_none p (equal b c t ∷ ps) f h = (tt, comparisons_none p ps f h)

compared_none : (p : Place) (cs : List RawColumn) (ps : List Passed) (f : RawForm) → HasNoOperator f → HasNoOperator (compared_form p cs ps f)
compared_none p [] ps f h = h
compared_none p (c ∷ cs) ps f h = some_none p cs _ (comparisons_none p ps f h)

-- ---- definitions

-- what holds of a definition's formula in each setting
abbrev pub EachForm : (RawForm → Type 0) → Known → Type 0
EachForm P d = (s : UseSetting) → P (d.form s)

abbrev pub EachFormOf : (RawForm → Type 0) → Option Known → Type 0
EachFormOf P None = Unit {0}
EachFormOf P (Some d) = EachForm P d

module _ (P : RawForm → Type 0) where
  found_form : (t : Known → Bool) (ks : List Known) → AllByRecursion (EachForm P) ks → EachFormOf P (find t ks)
  found_form t [] h = tt
  found_form t (k ∷ ks) h = at_test (t k) (found_form t ks h.1)
    where
      at_test : (b : Bool) → EachFormOf P (find t ks) → EachFormOf P (cond b (Some k) (find t ks))
      at_test true r = h.0
      at_test false r = r

  meant_form : (db : List Relation) (ks : List Known) (n : Identifier) → AllByRecursion (EachForm P) ks → EachFormOf P (meant_by db ks n)
  meant_form db ks n h = by_relation (relation_named db n) (found_form _ ks h)
    where
      by_relation : (o : Option Relation) → EachFormOf P (known_named ks n) → EachFormOf P (without_relation o (known_named ks n))
      by_relation None r = r
      by_relation (Some r) k = tt

  more_forms : (ks : List Known) (k : Known) → AllByRecursion (EachForm P) ks → EachForm P k → AllByRecursion (EachForm P) (ks ++ k ∷ [])
  more_forms [] k h g = (g, tt)
  more_forms (l ∷ ks) k h g = (h.0, more_forms ks k h.1 g)

  pub known_forms : (db : List Relation) (Q : RawDefinitionView → Type 0) → ((ks : List Known) (d : RawDefinitionView) → AllByRecursion (EachForm P) ks → Q d → (s : UseSetting) → P (inlined db ks (plain_definition d).body s))
      → (ds : List RawDefinitionView) (ks : List Known) → AllByRecursion Q ds → AllByRecursion (EachForm P) ks → AllByRecursion (EachForm P) (known_of db ks ds)
  known_forms db Q step [] ks q h = h
  known_forms db Q step (d ∷ ds) ks q h = known_forms db Q step ds (ks ++ known_with db ks d ∷ []) q.1 (more_forms ks (known_with db ks d) h (step ks d h q.0))

-- ---- formulas in settings

two_inlined : (db : List Relation) (ks : List Known) (fs : RawForms) (s : UseSetting) → HasTwo fs → HasTwo (inlined_each db ks fs s)
two_inlined db ks no_raws s h = h
two_inlined db ks (raw f no_raws) s h = h
two_inlined db ks (raw f (raw g fs)) s h = tt

module _ (db : List Relation) (ks : List Known) where
  atom_fits : (s : UseSetting) (p : Place) (k : ℕ) (n : Identifier) (columns : List Column) (ts : List RawTerm) (o : Option Known) → EachFormOf FitsRaw o → AllByRecursion TermFits ts → FitsRaw (inlined_atom s p k n columns ts o)
  atom_fits s p k n columns ts None h t = some_fits p (star_columns p k columns ts) _ (stars_fit s p columns ts k t)
  atom_fits s p k n columns ts (Some d) h t =
      some_fits p (star_columns p (suc k) d.columns ts) _ (compared_fits p (passed s p k (suc k) d.columns ts) _ (passed_fit s p k d.columns ts (suc k) t) (h _))

  atom_none : (s : UseSetting) (p : Place) (k : ℕ) (n : Identifier) (columns : List Column) (ts : List RawTerm) (o : Option Known) → EachFormOf HasNoOperator o → HasNoOperator (inlined_atom s p k n columns ts o)
  atom_none s p k n columns ts None h = some_none p (star_columns p k columns ts) _ tt
  atom_none s p k n columns ts (Some d) h =
      some_none p (star_columns p (suc k) d.columns ts) _ (compared_none p (compared_columns (passed s p k (suc k) d.columns ts)) (passed s p k (suc k) d.columns ts) _ (h _))

  module _ (all : AllByRecursion (EachForm FitsRaw) ks) where
    mutual
      pub fits_inlined : (f : RawForm) (s : UseSetting) → HasNoOperator f → FitsRaw f → FitsRaw (inlined db ks f s)
      fits_inlined (raw_atom p n ts) s o h = atom_fits s (s.place p) (s.number p) n (columns_in (relation_named db n)) ts (meant_by db ks n) (meant_form FitsRaw db ks n all) h
      fits_inlined (raw_compare p l op r) s o h = (set_fits s l.kind h.0, set_fits s r.kind h.1)
      fits_inlined (raw_member p t q) s o h = (set_fits s t.kind h.0, h.1)
      fits_inlined (raw_not p f) s o h = fits_inlined f s o h
      fits_inlined (raw_and p fs) s o h = (two_inlined db ks fs s h.0, fit_inlined fs s o h.1)
      fits_inlined (raw_or p fs) s o h = (two_inlined db ks fs s h.0, fit_inlined fs s o h.1)
      fits_inlined (raw_implies p f g) s o h = (fits_inlined f s o.0 h.0, fits_inlined g s o.1 h.1)
      fits_inlined (raw_group p f) s o h = fits_inlined f s o h
      fits_inlined (raw_exists p c f) s o h = fits_inlined f s o h
      fits_inlined (raw_forall p c f) s o h = fits_inlined f s o h
      fits_inlined (raw_ranged word q from to f) s o h = absurd o
      fits_inlined (raw_paired word q f g) s o h = absurd o

      fit_inlined : (fs : RawForms) (s : UseSetting) → HaveNoOperator fs → FitRaws fs → FitRaws (inlined_each db ks fs s)
      fit_inlined no_raws s o h = tt
      fit_inlined (raw f fs) s o h = (fits_inlined f s o.0 h.0, fit_inlined fs s o.1 h.1)

  module _ (all : AllByRecursion (EachForm HasNoOperator) ks) where
    mutual
      pub none_inlined : (f : RawForm) (s : UseSetting) → HasNoOperator f → HasNoOperator (inlined db ks f s)
      none_inlined (raw_atom p n ts) s o = atom_none s (s.place p) (s.number p) n (columns_in (relation_named db n)) ts (meant_by db ks n) (meant_form HasNoOperator db ks n all)
      none_inlined (raw_compare p l op r) s o = tt
      none_inlined (raw_member p t q) s o = tt
      none_inlined (raw_not p f) s o = none_inlined f s o
      none_inlined (raw_and p fs) s o = have_none_inlined fs s o
      none_inlined (raw_or p fs) s o = have_none_inlined fs s o
      none_inlined (raw_implies p f g) s o = (none_inlined f s o.0, none_inlined g s o.1)
      none_inlined (raw_group p f) s o = none_inlined f s o
      none_inlined (raw_exists p c f) s o = none_inlined f s o
      none_inlined (raw_forall p c f) s o = none_inlined f s o
      none_inlined (raw_ranged word q from to f) s o = absurd o
      none_inlined (raw_paired word q f g) s o = absurd o

      have_none_inlined : (fs : RawForms) (s : UseSetting) → HaveNoOperator fs → HaveNoOperator (inlined_each db ks fs s)
      have_none_inlined no_raws s o = tt
      have_none_inlined (raw f fs) s o = (none_inlined f s o.0, have_none_inlined fs s o.1)

-- ---- how many texts

-- relations of a database have few columns
abbrev pub IsNarrow : Relation → Type 0
IsNarrow r = length r.columns ≤ 16

abbrev IsNarrowOne : Option Relation → Type 0
IsNarrowOne None = Unit {0}
IsNarrowOne (Some r) = IsNarrow r

narrow : (rs : List Relation) → AllByRecursion IsKept rs → AllByRecursion IsNarrow rs
narrow [] h = tt
narrow (r ∷ rs) h =
    let all : time_count r.columns + text_count r.columns ≡ length r.columns = counts_split r.columns in
    let times : time_count r.columns ≤ 8 = h.0.times in
    let texts : text_count r.columns ≤ 8 = h.0.texts in
    (omega (arith, all, times, texts), narrow rs h.1)

narrow_found : (t : Relation → Bool) (rs : List Relation) → AllByRecursion IsNarrow rs → IsNarrowOne (find t rs)
narrow_found t [] h = tt
narrow_found t (r ∷ rs) h = at_test (t r) (narrow_found t rs h.1)
  where
    at_test : (b : Bool) → IsNarrowOne (find t rs) → IsNarrowOne (cond b (Some r) (find t rs))
    at_test true k = h.0
    at_test false k = k

few_terms : (bs : Binders) (p : Place) (ts : List RawTerm) (o : Option Relation) → IsNarrowOne o → atom_faults bs p ts o ≡ [] → length ts ≤ 16
few_terms bs p ts None h e = cc
few_terms bs p ts (Some r) h e =
    let x = both_none (fault_if (not (length ts == length r.columns)) (query_fault Arity p)) (column_faults bs ts r.columns) e in
    let same : length ts ≡ length r.columns = eqb-true (length ts) (length r.columns) (not_false (length ts == length r.columns) (none_if (not (length ts == length r.columns)) (query_fault Arity p) x.0)) in
    let few : length r.columns ≤ 16 = h in
    omega (arith, same, few)

text_few : (ts : List RawTerm) → text_total ts ≤ length ts
text_few ts = count_by-le-length (λ t. is_raw_text t.kind) ts

module _ (db : List Relation) (all : AllByRecursion IsNarrow db) where
  mutual
    pub texts_few : (f : RawForm) (bs : Binders) → HasNoOperator f → form_faults f db bs ≡ [] → formula_texts f ≤ 16 * formulas_in f
    texts_few (raw_atom p n ts) bs o e =
        let x = both_none (flat_map (term_faults bs) ts) (atom_faults bs p ts (relation_named db n)) e in
        let few : length ts ≤ 16 = few_terms bs p ts (relation_named db n) (narrow_found _ db all) x.1 in
        let k : text_total ts ≤ length ts = text_few ts in
        omega (arith, few, k)
    texts_few (raw_compare p l op r) bs o e = let k : text_total (l ∷ r ∷ []) ≤ length (l ∷ r ∷ []) = text_few (l ∷ r ∷ []) in omega (arith, k)
    texts_few (raw_member p t q) bs o e = let k : text_total (t ∷ []) ≤ length (t ∷ []) = text_few (t ∷ []) in omega (arith, k)
    texts_few (raw_not p f) bs o e = let k = texts_few f bs o (not_wide bs [] f (form_faults f db bs) e).1 in omega (arith, k)
    texts_few (raw_and p fs) bs o e = let k = all_few fs bs o e in omega (arith, k)
    texts_few (raw_or p fs) bs o e = let k = all_few fs bs o e in omega (arith, k)
    texts_few (raw_implies p f g) bs o e =
        let x = both_none (widened bs [] f (form_faults f db bs)) (widened bs [] g (form_faults g db bs)) e in
        let k = texts_few f bs o.0 (not_wide bs [] f (form_faults f db bs) x.0).1 in
        let m = texts_few g bs o.1 (not_wide bs [] g (form_faults g db bs) x.1).1 in
        omega (arith, k, m)
    texts_few (raw_group p f) bs o e = let k = texts_few f bs o (not_wide bs [] f (form_faults f db bs) e).1 in omega (arith, k)
    texts_few (raw_exists p c f) bs o e = let k = texts_few f (c ∷ bs) o (not_wide_inside db bs c f (form_faults f db (c ∷ bs)) e).1 in omega (arith, k)
    texts_few (raw_forall p c f) bs o e = let k = texts_few f (c ∷ bs) o (not_wide_inside db bs c f (form_faults f db (c ∷ bs)) e).1 in omega (arith, k)
    texts_few (raw_ranged word q from to f) bs o e = absurd o
    texts_few (raw_paired word q f g) bs o e = absurd o

    all_few : (fs : RawForms) (bs : Binders) → HaveNoOperator fs → forms_faults fs db bs ≡ [] → texts_of fs ≤ 16 * formulas_of fs
    all_few no_raws bs o e = omega arith
    all_few (raw f fs) bs o e =
        let x = both_none (widened bs [] f (form_faults f db bs)) (forms_faults fs db bs) e in
        let k = texts_few f bs o.0 (not_wide bs [] f (form_faults f db bs) x.0).1 in
        let m = all_few fs bs o.1 x.1 in
        omega (arith, k, m)

pub few_columns : (db : List Relation) → AreKept db → AllByRecursion IsNarrow db
few_columns db h = narrow db h.each

pub at_most : (m n : ℕ) → (m < n → ⊥) → n ≤ m
at_most m n h = at_test (nat_lt m n) refl
  where
    at_test : (b : Bool) → nat_lt m n ≡ b → n ≤ m
    at_test true e = absurd (h (ltb-true m n e))
    at_test false e = ltb-false m n e

-- of a million formulas
pub few_texts : (texts formulas : ℕ) → texts ≤ 16 * formulas → formulas ≤ 1000000 → texts < most_bytes
few_texts texts formulas h k = omega (arith, h, k)
