-- A text whose `*` alone are written out shows by having no fault that it is well-sorted as it stands.
use Rattle.std.proofs.Common.{◌≡◌, ℕ, suc, Bool, true, false, not, ◌==◌, List, [], ◌∷◌, ◌++◌, Option, Some, None, length, refl, sym, ap, subst, ◌∙◌, if◌then◌else◌, arith}
use Rattle.std.specs.Prelude.{flat_map}
use Rattle.std.proofs.lemmas.Bool.{eqb-true}
use Rattle.lrp_model.proofs.Logic.{all_append}
use Rattle.std.specs.List.{AllByRecursion}
use Rattle.lrp_model.specs.Texts.{Identifier}
use Rattle.lrp_model.specs.Faults.{fault_if}
use Rattle.lrp_model.specs.Rows.{relation_named, columns_in}
use Rattle.lrp_model.specs.Sorting.{Binders, binder_sort, kind_sort, term_sort, alone_sort, shifted_sort, variable_faults, kind_faults, term_faults, differs, column_faults, atom_faults, binder_faults, widened, form_faults, forms_faults, query_fault}
use Rattle.lrp_model.specs.RawQueries.{RawForm, RawForms, HasNoOperator, HaveNoOperator, raw_atom, raw_compare, raw_member, raw_not, raw_and, raw_or, raw_implies, raw_group, raw_exists, raw_forall, raw_ranged, raw_paired, no_raws, raw}
use Rattle.lrp_model.specs.declared.tokens.Place.{Place}
use Rattle.lrp_model.specs.declared.relations.Column.{Column}
use Rattle.lrp_model.specs.declared.relations.Relation.{Relation}
use Rattle.lrp_model.specs.declared.faults.QueryKind.TheVariants.{UnknownRelation, Arity, Sort as WrongSort}
use Rattle.lrp_model.specs.declared.raw.RawColumn.{RawColumn}
use Rattle.lrp_model.specs.declared.raw.RawTerm.{RawTerm}
use Rattle.lrp_model.specs.declared.raw.RawTermKind.{RawTermKind}
use Rattle.lrp_model.specs.declared.raw.RawTermKind.TheVariants.{Int, Text, Var, Shifted}
use Rattle.lrp_model.proofs.NoFaults.{both_none, none_if, not_false, not_wide, not_wide_inside}
use Rattle.lrp_tense.specs.Expanding.{name_term}
use Rattle.lrp_tense.proofs.Scoping.{other_name, bound_further}
use Rattle.lrp_tense.proofs.Timely.{timely}
use Rattle.lrp_wide.specs.Meaning.{is_star, atom_names, atom_names_each}
use Rattle.lrp_wide.specs.Inlining.{UseSetting, own_setting, set_kind, set_term, star_variable, column_added, some_each, star_columns, star_terms, starred_atom, inlined_atom, without_relation, meant_by, inlined, inlined_each}
use Rattle.lrp_wide.proofs.SatisfyNotions.{columns_of, Unless, FitsColumn, FitColumns, IsFit, AreFit}
use Rattle.lrp_wide.proofs.SatisfyFresh.{binder_new}
use Rattle.lrp_wide.proofs.FreshLetters.{HasLetter, no_tilde}
use Rattle.lrp_wide.proofs.FreshTexts.{HasLetterKind, HasLetterOrStar, HasLetters, HaveLetters}

-- ---- an `exists` for each of some columns

-- the binders inside
abbrev pub inside_each : List RawColumn → Binders → Binders
inside_each [] bs = bs
inside_each (c ∷ cs) bs = inside_each cs (c ∷ bs)

pub each_faultless : (p : Place) (vs : List RawColumn) (f : RawForm) (db : List Relation) (bs : Binders) → form_faults (some_each p vs f) db bs ≡ [] → form_faults f db (inside_each vs bs) ≡ []
each_faultless p [] f db bs e = e
each_faultless p (c ∷ vs) f db bs e = each_faultless p vs f db (c ∷ bs) (not_wide_inside db bs c (some_each p vs f) (form_faults (some_each p vs f) db (c ∷ bs)) e).1

-- the variables of `*` hide none of a text
pub stars_hide_none : (p : Place) (v : Identifier) → HasLetter v → (cs : List Column) (ts : List RawTerm) (k : ℕ) (bs : Binders) → binder_sort (inside_each (star_columns p k cs ts) bs) v ≡ binder_sort bs v
stars_hide_none p v h [] ts k bs = refl
stars_hide_none p v h (c ∷ cs) [] k bs = refl
stars_hide_none p v h (c ∷ cs) (t ∷ ts) k bs = by (is_star t) (λ i ds. stars_hide_none p v h cs ts i ds)
  where
    by : (b : Bool) → ((i : ℕ) (ds : Binders) → binder_sort (inside_each (star_columns p i cs ts) ds) v ≡ binder_sort ds v)
        → binder_sort (inside_each (if b then column_added p (star_variable k) c.sort ∷ star_columns p (suc k) cs ts else star_columns p k cs ts) bs) v ≡ binder_sort bs v
    by true r = r (suc k) (column_added p (star_variable k) c.sort ∷ bs) ∙ bound_further (column_added p (star_variable k) c.sort) bs v (other_name (star_variable k) v (λ e. no_tilde v _ h (sym e)))
    by false r = r k bs

-- ---- terms

-- a text's own setting changes no term
abbrev pub own_alone : UseSetting
own_alone = own_setting (λ p. 1)

pub own_kind : (number : Place → ℕ) (k : RawTermKind) → set_kind (own_setting number) k ≡ k
own_kind number (Int x) = refl
own_kind number (Text t) = refl
own_kind number (Var v) = refl
own_kind number (Shifted v plus) = refl

pub own_term : (number : Place → ℕ) (t : RawTerm) → set_term (own_setting number) t ≡ t
own_term number t = ap (λ (k : RawTermKind). record { kind = k; place = t.place }) (own_kind number t.kind)

-- scopes that have the same variables of a text
module _ (inner bs : Binders) (same : (v : Identifier) → HasLetter v → binder_sort inner v ≡ binder_sort bs v) where
  faults_there : (k : RawTermKind) (p : Place) → HasLetterKind k → kind_faults inner (set_kind own_alone k) p ≡ [] → kind_faults bs k p ≡ []
  faults_there (Int x) p h e = refl
  faults_there (Text t) p h e = refl
  faults_there (Var v) p h e = ap (λ o. variable_faults o false p) (sym (same v h)) ∙ e
  faults_there (Shifted v plus) p h e = ap (λ o. variable_faults o true p) (sym (same v h)) ∙ e

  sort_there : (k : RawTermKind) → HasLetterKind k → kind_sort inner (set_kind own_alone k) ≡ kind_sort bs k
  sort_there (Int x) h = refl
  sort_there (Text t) h = refl
  sort_there (Var v) h = ap alone_sort (same v h)
  sort_there (Shifted v plus) h = ap shifted_sort (same v h)

  -- the terms of an atom
  fit_columns : (p : Place) (k : ℕ) (cs : List Column) (ts : List RawTerm) → AllByRecursion HasLetterOrStar ts → flat_map (term_faults inner) (star_terms own_alone p k cs ts) ≡ []
      → length (star_terms own_alone p k cs ts) ≡ length cs → column_faults inner (star_terms own_alone p k cs ts) cs ≡ [] → FitColumns bs cs ts
  fit_columns p k [] [] l e n f = tt
  fit_columns p k [] (t ∷ ts) l e n f = cc
  fit_columns p k (c ∷ cs) [] l e n f = cc
  fit_columns p k (c ∷ cs) (t ∷ ts) l e n f = by (is_star t) l.0 e n f (λ i. fit_columns p i cs ts l.1)
    where
      by : (b : Bool) → Unless b (HasLetterKind t.kind) → flat_map (term_faults inner) (if b then name_term p (star_variable k) ∷ star_terms own_alone p (suc k) cs ts else set_term own_alone t ∷ star_terms own_alone p k cs ts) ≡ []
          → length (if b then name_term p (star_variable k) ∷ star_terms own_alone p (suc k) cs ts else set_term own_alone t ∷ star_terms own_alone p k cs ts) ≡ suc (length cs)
          → column_faults inner (if b then name_term p (star_variable k) ∷ star_terms own_alone p (suc k) cs ts else set_term own_alone t ∷ star_terms own_alone p k cs ts) (c ∷ cs) ≡ []
          → ((i : ℕ) → flat_map (term_faults inner) (star_terms own_alone p i cs ts) ≡ [] → length (star_terms own_alone p i cs ts) ≡ length cs → column_faults inner (star_terms own_alone p i cs ts) cs ≡ [] → FitColumns bs cs ts)
          → Unless b (FitsColumn bs c t) × FitColumns bs cs ts
      by true h e n f r =
          let x = both_none (term_faults inner (name_term p (star_variable k))) (flat_map (term_faults inner) (star_terms own_alone p (suc k) cs ts)) e in
          let y = both_none (fault_if (differs (term_sort inner (name_term p (star_variable k))) c.sort) (query_fault WrongSort p)) (column_faults inner (star_terms own_alone p (suc k) cs ts) cs) f in
          let m : length (star_terms own_alone p (suc k) cs ts) ≡ length cs = omega (arith, n) in
          (tt, r (suc k) x.1 m y.1)
      by false h e n f r =
          let x = both_none (term_faults inner (set_term own_alone t)) (flat_map (term_faults inner) (star_terms own_alone p k cs ts)) e in
          let y = both_none (fault_if (differs (term_sort inner (set_term own_alone t)) c.sort) (query_fault WrongSort t.place)) (column_faults inner (star_terms own_alone p k cs ts) cs) f in
          let m : length (star_terms own_alone p k cs ts) ≡ length cs = omega (arith, n) in
          let d : differs (term_sort inner (set_term own_alone t)) c.sort ≡ false = none_if (differs (term_sort inner (set_term own_alone t)) c.sort) (query_fault WrongSort t.place) y.0 in
          (record { bound = faults_there t.kind t.place h x.0; sort = ap (λ s. differs s c.sort) (sym (sort_there t.kind h)) ∙ d }, r k x.1 m y.1)

-- where no definition stands before, a name means none
pub none_before : (db : List Relation) (n : Identifier) → meant_by db [] n ≡ None
none_before db n = by (relation_named db n)
  where
    by : (o : Option Relation) → without_relation o None ≡ None
    by None = refl
    by (Some r) = refl

-- an atom's name is a relation's, and it has a term for each column
abbrev pub IsNamed : Option Relation → Type 0
IsNamed None = ⊥
IsNamed (Some r) = Unit {0}

atom_fits : (o : Option Relation) (p : Place) (ts : List RawTerm) (bs : Binders) → AllByRecursion HasLetterOrStar ts
    → flat_map (term_faults (inside_each (star_columns p 1 (columns_in o) ts) bs)) (star_terms own_alone p 1 (columns_in o) ts) ++ atom_faults (inside_each (star_columns p 1 (columns_in o) ts) bs) p (star_terms own_alone p 1 (columns_in o) ts) o ≡ []
    → IsNamed o × FitColumns bs (columns_in o) ts
atom_fits None p ts bs l e = let x = both_none (flat_map (term_faults bs) (star_terms own_alone p 1 [] ts)) (query_fault UnknownRelation p ∷ []) e in let y : query_fault UnknownRelation p ∷ [] ≡ [] = x.1 in cc
atom_fits (Some r) p ts bs l e =
    let inner : Binders = inside_each (star_columns p 1 r.columns ts) bs in
    let made : List RawTerm = star_terms own_alone p 1 r.columns ts in
    let x = both_none (flat_map (term_faults inner) made) (fault_if (not (length made == length r.columns)) (query_fault Arity p) ++ column_faults inner made r.columns) e in
    let y = both_none (fault_if (not (length made == length r.columns)) (query_fault Arity p)) (column_faults inner made r.columns) x.1 in
    let n : length made ≡ length r.columns = eqb-true (length made) (length r.columns) (not_false (length made == length r.columns) (none_if (not (length made == length r.columns)) (query_fault Arity p) y.0)) in
    (tt, fit_columns inner bs (λ v h. stars_hide_none p v h r.columns ts 1 bs) p 1 r.columns ts l x.0 n y.1)

-- ---- formulas

-- each name of an atom is a relation's
abbrev pub AreNamedIn : List Relation → List Identifier → Type 0
AreNamedIn db = AllByRecursion (λ n. IsNamed (relation_named db n))

both_named : (db : List Relation) (ms ns : List Identifier) → AreNamedIn db ms → AreNamedIn db ns → AreNamedIn db (ms ++ ns)
both_named db ms ns h k = (all_append (λ n. IsNamed (relation_named db n)) ms ns).1 (h, k)

-- a formula that is well-sorted and knows its names
pub record IsSound (db : List Relation) (bs : Binders) (f : RawForm) : Type 0 where
  pub fit : IsFit f (columns_of db) bs
  pub names : AreNamedIn db (atom_names f)

pub record AreSound (db : List Relation) (bs : Binders) (fs : RawForms) : Type 0 where
  pub fit : AreFit fs (columns_of db) bs
  pub names : AreNamedIn db (atom_names_each fs)

mutual
  pub sound : (f : RawForm) → HasNoOperator f → HasLetters f → (db : List Relation) (bs : Binders) → form_faults (inlined db [] f own_alone) db bs ≡ [] → IsSound db bs f
  sound (raw_atom p n ts) o l db bs e =
      let cs : List Column = columns_in (relation_named db n) in
      let d : form_faults (starred_atom own_alone p 1 n cs ts) db bs ≡ [] = subst (λ k. form_faults (inlined_atom own_alone p 1 n cs ts k) db bs ≡ []) (none_before db n) e in
      let x = atom_fits (relation_named db n) p ts bs l (each_faultless p (star_columns p 1 cs ts) (raw_atom p n (star_terms own_alone p 1 cs ts)) db bs d) in
      record { fit = x.1; names = (x.0, tt) }
  sound (raw_compare p l op r) o h db bs e =
      let d : form_faults (raw_compare p l op r) db bs ≡ [] = subst (λ x. form_faults (raw_compare p x op r) db bs ≡ []) (own_term (λ q. 1) l) (subst (λ x. form_faults (raw_compare p (set_term own_alone l) op x) db bs ≡ []) (own_term (λ q. 1) r) e) in
      record { fit = timely (raw_compare p l op r) db bs d; names = tt }
  sound (raw_member p t point) o h db bs e =
      let d : form_faults (raw_member p t point) db bs ≡ [] = subst (λ x. form_faults (raw_member p x point) db bs ≡ []) (own_term (λ q. 1) t) e in
      record { fit = timely (raw_member p t point) db bs d; names = tt }
  sound (raw_not p f) o l db bs e =
      let x = sound f o l db bs (not_wide bs [] (inlined db [] f own_alone) (form_faults (inlined db [] f own_alone) db bs) e).1 in
      record { fit = x.fit; names = x.names }
  sound (raw_and p fs) o l db bs e = let x = sound_each fs o l db bs e in record { fit = x.fit; names = x.names }
  sound (raw_or p fs) o l db bs e = let x = sound_each fs o l db bs e in record { fit = x.fit; names = x.names }
  sound (raw_implies p f g) o l db bs e =
      let a : RawForm = inlined db [] f own_alone in
      let b : RawForm = inlined db [] g own_alone in
      let x = both_none (widened bs [] a (form_faults a db bs)) (widened bs [] b (form_faults b db bs)) e in
      let y = sound f o.0 l.0 db bs (not_wide bs [] a (form_faults a db bs) x.0).1 in
      let z = sound g o.1 l.1 db bs (not_wide bs [] b (form_faults b db bs) x.1).1 in
      record { fit = (y.fit, z.fit); names = both_named db (atom_names f) (atom_names g) y.names z.names }
  sound (raw_group p f) o l db bs e =
      let x = sound f o l db bs (not_wide bs [] (inlined db [] f own_alone) (form_faults (inlined db [] f own_alone) db bs) e).1 in
      record { fit = x.fit; names = x.names }
  sound (raw_exists p c f) o l db bs e =
      let a : RawForm = inlined db [] f own_alone in
      let x = sound f o l.1 db (c ∷ bs) (not_wide_inside db bs c a (form_faults a db (c ∷ bs)) e).1 in
      record { fit = (binder_new db bs c (both_none (binder_faults db bs c) _ e).0, x.fit); names = x.names }
  sound (raw_forall p c f) o l db bs e =
      let a : RawForm = inlined db [] f own_alone in
      let x = sound f o l.1 db (c ∷ bs) (not_wide_inside db bs c a (form_faults a db (c ∷ bs)) e).1 in
      record { fit = (binder_new db bs c (both_none (binder_faults db bs c) _ e).0, x.fit); names = x.names }
  sound (raw_ranged word a from to f) o l db bs e = absurd o
  sound (raw_paired word a f g) o l db bs e = absurd o

  sound_each : (fs : RawForms) → HaveNoOperator fs → HaveLetters fs → (db : List Relation) (bs : Binders) → forms_faults (inlined_each db [] fs own_alone) db bs ≡ [] → AreSound db bs fs
  sound_each no_raws o l db bs e = record { fit = tt; names = tt }
  sound_each (raw f fs) o l db bs e =
      let a : RawForm = inlined db [] f own_alone in
      let x = both_none (widened bs [] a (form_faults a db bs)) (forms_faults (inlined_each db [] fs own_alone) db bs) e in
      let y = sound f o.0 l.0 db bs (not_wide bs [] a (form_faults a db bs) x.0).1 in
      let z = sound_each fs o.1 l.1 db bs x.1 in
      record { fit = (y.fit, z.fit); names = both_named db (atom_names f) (atom_names_each fs) y.names z.names }
