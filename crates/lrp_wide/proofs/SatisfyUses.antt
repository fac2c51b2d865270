-- A use of a definition: its columns have the values of the atom's terms, as variables of the atom or by comparisons.
use Rattle.std.proofs.Common.{◌≡◌, ◌↔◌, ℕ, suc, Bool, true, false, Contains, List, [], ◌∷◌, Option, Some, None, refl, sym, ap, subst, ◌∙◌}
use Rattle.std.specs.Prelude.{ℤ, pos, ◌+ℤ◌, ◌&&◌, if◌then◌else◌}
use Rattle.lrp_model.specs.Texts.{Identifier}
use Rattle.lrp_model.specs.Rows.{Datum, time, text}
use Rattle.lrp_model.specs.Sorts.{same_sort, is_time, is_data}
use Rattle.lrp_model.specs.Satisfaction.{Structure, Assignment, IsOfSort, Passes, Satisfies, SatisfiesAll, term_value, with_value}
use Rattle.lrp_model.specs.Sorting.{Binders, TermSort, of_sort, any_data, unsorted, binder_sort, alone_sort, shifted_sort, kind_sort, term_sort, is_data_term, differs, kind_faults, variable_faults}
use Rattle.lrp_model.specs.Checked.{term_of, compare_of, plain, plain_each}
use Rattle.lrp_model.specs.RawTerms.{time_of, data_of, term_by}
use Rattle.lrp_model.specs.RawQueries.{RawForm, raw_and}
use Rattle.lrp_model.specs.declared.tokens.Place.{Place}
use Rattle.lrp_model.specs.declared.relations.Sort.{Sort}
use Rattle.lrp_model.specs.declared.relations.Sort.TheVariants.{Time, Data, Named}
use Rattle.lrp_model.specs.declared.relations.Column.{Column}
use Rattle.lrp_model.specs.declared.formulas.Op.TheVariants.{Eq}
use Rattle.lrp_model.specs.declared.formulas.Test.TheVariants.{Compare, Equal}
use Rattle.lrp_model.specs.declared.raw.RawColumn.{RawColumn}
use Rattle.lrp_model.specs.declared.raw.RawTerm.{RawTerm}
use Rattle.lrp_model.specs.declared.raw.RawTermKind.{RawTermKind}
use Rattle.lrp_model.specs.declared.raw.RawTermKind.TheVariants.{Int, Text, Var, Shifted}
use Rattle.lrp_model.proofs.NoFaults.{IsKnown, kind_known, not_false, no_time, same_sorts}
use Rattle.lrp_model.proofs.Stable.{stable}
use Rattle.lrp_tense.specs.Expanding.{name_term}
use Rattle.lrp_tense.proofs.Iff.{plus_zero}
use Rattle.lrp_wide.specs.Meaning.{is_star}
use Rattle.lrp_wide.specs.Inlining.{UseSetting, Passed, itself, equal, set_term, column_added, some_each, passed, pass_variable, inner_name, star_variable, plain_variable, compared_columns, with_comparisons, compared_form}
use Rattle.lrp_wide.proofs.SatisfyNotions.{Unless, FitsColumn, FitColumns, BindsFresh, BindFresh, TextIn, TextsIn}
use Rattle.lrp_wide.proofs.SatisfyTerms.{IsValue, HasValue, Carries, Keeps, keeps_itself, keeps_more, carries_on, value_carried, value_here, bound_of, same_term, same_data}
use Rattle.lrp_wide.proofs.SatisfyAtoms.{TakenValue, Taken, taken_kept, variable_value}
use Rattle.lrp_wide.proofs.SatisfyNames.{variable_passed, NamedColumn, NamedBy}

-- ---- values of columns

-- each column has its value under the name that it has in the use
abbrev pub HasValues : (Identifier → Identifier) → Binders → Assignment → List Column → List Datum → Type 0
HasValues name cs other [] [] = Unit {0}
HasValues name cs other [] (d ∷ ds) = ⊥
HasValues name cs other (c ∷ columns) [] = ⊥
HasValues name cs other (c ∷ columns) (d ∷ ds) = HasValue cs other (name c.name) c.sort d × HasValues name cs other columns ds

-- a variable of the use's own has the column's value
abbrev pub OwnValue : Binders → Assignment → ℕ → Column → Datum → Option Identifier → Type 0
OwnValue cs other k c d (Some v) = Unit {0}
OwnValue cs other k c d None = HasValue cs other (inner_name k c.name) c.sort d

-- each of them has
abbrev pub Pinned : Binders → Assignment → ℕ → List Column → List RawTerm → List Datum → Type 0
Pinned cs other k [] ts ds = Unit {0}
Pinned cs other k (c ∷ columns) [] ds = Unit {0}
Pinned cs other k (c ∷ columns) (t ∷ ts) [] = ⊥
Pinned cs other k (c ∷ columns) (t ∷ ts) (d ∷ ds) = Unless (is_star t) (OwnValue cs other k c d (plain_variable t.kind)) × Pinned cs other k columns ts ds

-- and may have it
abbrev pub OwnSort : Structure → Column → Datum → Option Identifier → Type 0
OwnSort M c d (Some v) = Unit {0}
OwnSort M c d None = IsOfSort M c.sort d

abbrev pub MayPin : Structure → List Column → List RawTerm → List Datum → Type 0
MayPin M [] ts ds = Unit {0}
MayPin M (c ∷ columns) [] ds = Unit {0}
MayPin M (c ∷ columns) (t ∷ ts) [] = ⊥
MayPin M (c ∷ columns) (t ∷ ts) (d ∷ ds) = Unless (is_star t) (OwnSort M c d (plain_variable t.kind)) × MayPin M columns ts ds

-- ---- sorts of terms

-- a term that fits has its column's kind
known_kind : (a : TermSort) (s : Sort) → IsKnown a → differs a s ≡ false → is_data_term a ≡ is_data s
known_kind (of_sort u) s h e = ap is_data (same_sorts u s (not_false (same_sort u s) e))
known_kind any_data s h e = sym (no_time s e)
known_kind unsorted s h e = absurd h

fits_kind : (bs : Binders) (c : Column) (t : RawTerm) → FitsColumn bs c t → is_data_term (term_sort bs t) ≡ is_data c.sort
fits_kind bs c t f = known_kind (term_sort bs t) c.sort (kind_known bs t.place t.kind f.bound) f.sort

time_sort : (s : Sort) → differs (of_sort Time) s ≡ false → Time ≡ s
time_sort s e = same_sorts Time s (not_false (same_sort Time s) e)

-- the value of a term that is no variable alone is of its column's sort
module _ (M : Structure) (bs : Binders) (env : Assignment) (s : Sort) where
  a_time : (x : ℤ) → Time ≡ s → IsOfSort M s (time x)
  a_time x e = subst (λ u. IsOfSort M u (time x)) e tt

  a_text : (u : Sort) (t : List ℕ) → is_time u ≡ false → Contains (M.domain u) t → IsOfSort M u (text t)
  a_text Time t e h = cc
  a_text Data t e h = h
  a_text (Named n) t e h = h

  alone_of_sort : (k : RawTermKind) (q : Place) → kind_faults bs k q ≡ [] → differs (kind_sort bs k) s ≡ false → TextIn M s k → plain_variable k ≡ None → IsOfSort M s (term_value env (term_by (is_data_term (kind_sort bs k)) k))
  alone_of_sort (Int x) q f e i n = a_time x (time_sort s e)
  alone_of_sort (Text t) q f e i n = a_text s t e i
  alone_of_sort (Var v) q f e i n = cc
  alone_of_sort (Shifted v plus) q f e i n =
      let b = bound_of (binder_sort bs v) true q f in
      subst (λ o. IsOfSort M s (term_value env (term_by (is_data_term (shifted_sort o)) (Shifted v plus)))) (sym b.1)
      (a_time (env.times v +ℤ plus) (time_sort s (subst (λ o. differs (shifted_sort o) s ≡ false) b.1 e)))

-- ---- `x = T`

-- it says that the values are one
equal_iff : (cs : Binders) (other : Assignment) (l r : RawTerm) (a b : Bool) → is_data_term (term_sort cs l) ≡ a → is_data_term (term_sort cs r) ≡ b → a ≡ b
    → Passes other (if a && b then Equal (data_of l.kind) (data_of r.kind) else Compare (time_of l.kind) Eq (time_of r.kind)) ↔ (term_value other (term_by a l.kind) ≡ term_value other (term_by b r.kind))
equal_iff cs other l r true true e f g = ((λ h. ap text h), λ h. text_same _ _ h)
  where
    text_same : (t u : List ℕ) → text t ≡ text u → t ≡ u
    text_same t u h = cc
equal_iff cs other l r false false e f g = ((λ h. ap time h), λ h. time_same _ _ h)
  where
    time_same : (x y : ℤ) → time x ≡ time y → x ≡ y
    time_same x y h = cc
equal_iff cs other l r true false e f g = cc
equal_iff cs other l r false true e f g = cc

pub comparison : (s : UseSetting) (p : Place) (bs cs : Binders) (env other : Assignment) → Carries s.name bs cs env other → (c : Column) (t : RawTerm) (x : Identifier) (d : Datum) → HasValue cs other x c.sort d → FitsColumn bs c t
    → Passes other (compare_of cs (name_term p x) Eq (set_term s t)) ↔ (d ≡ term_value env (term_of bs t))
comparison s p bs cs env other carried c t x d h f =
    let left : d ≡ term_value other (term_of cs (name_term p x)) = variable_value cs other x c.sort d p h in
    let right : term_value env (term_of bs t) ≡ term_value other (term_of cs (set_term s t)) = same_term s bs cs env other carried t f.bound in
    let kinds : is_data_term (term_sort cs (name_term p x)) ≡ is_data_term (term_sort cs (set_term s t)) = ap (λ o. is_data_term (alone_sort o)) h.bound ∙ sym (fits_kind bs c t f) ∙ sym (same_data s bs cs env other carried t f.bound) in
    let r = equal_iff cs other (name_term p x) (set_term s t) (is_data_term (term_sort cs (name_term p x))) (is_data_term (term_sort cs (set_term s t))) refl refl kinds in
    ((λ y. left ∙ r.0 y ∙ sym right), λ e. r.1 (sym left ∙ e ∙ right))

-- ---- the columns of a use

module _ (s : UseSetting) (p : Place) (k : ℕ) (bs : Binders) (env : Assignment) where
  module _ (cs : Binders) (other : Assignment) (carried : Carries s.name bs cs env other) where
    -- a variable of the atom has the column's value
    variable_has : (c : Column) (v : Identifier) (q : Place) (d : Datum) → variable_faults (binder_sort bs v) false q ≡ [] → differs (alone_sort (binder_sort bs v)) c.sort ≡ false
        → d ≡ term_value env (term_by (is_data_term (alone_sort (binder_sort bs v))) (Var v)) → HasValue bs env v c.sort d
    variable_has c v q d f e g =
        let b = bound_of (binder_sort bs v) false q f in
        let same : b.0 ≡ c.sort = same_sorts b.0 c.sort (not_false (same_sort b.0 c.sort) (subst (λ o. differs (alone_sort o) c.sort ≡ false) b.1 e)) in
        let bound : binder_sort bs v ≡ Some c.sort = b.1 ∙ ap Some same in
        record { bound = bound; value = by_kind (is_data c.sort) refl (g ∙ ap (λ o. term_value env (term_by (is_data_term (alone_sort o)) (Var v))) bound) }
      where
        by_kind : (a : Bool) → is_data c.sort ≡ a → d ≡ term_value env (term_by a (Var v)) → IsValue env v c.sort d
        by_kind true i h = subst (λ x. IsValue env v c.sort x) (sym h) (i, refl)
        by_kind false i h = subst (λ x. IsValue env v c.sort x) (sym h) (i, sym (plus_zero (env.times v) (env.times v) refl))

    column_has : (c : Column) (n : Identifier) (q : Place) (d : Datum) (t : RawTermKind) → kind_faults bs t q ≡ [] → differs (kind_sort bs t) c.sort ≡ false → d ≡ term_value env (term_by (is_data_term (kind_sort bs t)) t)
        → OwnValue cs other k c d (plain_variable t) → n ≡ variable_passed s k c (plain_variable t) → HasValue cs other n c.sort d
    column_has c n q d (Int x) f e g o i = subst (λ m. HasValue cs other m c.sort d) (sym i) o
    column_has c n q d (Text t) f e g o i = subst (λ m. HasValue cs other m c.sort d) (sym i) o
    column_has c n q d (Shifted v plus) f e g o i = subst (λ m. HasValue cs other m c.sort d) (sym i) o
    column_has c n q d (Var v) f e g o i = subst (λ m. HasValue cs other m c.sort d) (sym i) (value_carried s.name bs cs env other carried v c.sort d (variable_has c v q d f e g))

    -- all columns have their values
    valued : (name : Identifier → Identifier) (columns : List Column) (ts : List RawTerm) (ds : List Datum) (j : ℕ) → FitColumns bs columns ts → Taken bs env cs other j columns ts ds → Pinned cs other k columns ts ds
        → NamedBy name s k j columns ts → HasValues name cs other columns ds
    valued name [] [] [] j f h o n = tt
    valued name [] [] (d ∷ ds) j f h o n = cc
    valued name [] (t ∷ ts) ds j f h o n = absurd f
    valued name (c ∷ columns) [] ds j f h o n = absurd f
    valued name (c ∷ columns) (t ∷ ts) [] j f h o n = absurd h
    valued name (c ∷ columns) (t ∷ ts) (d ∷ ds) j f h o n = by_star (is_star t) f.0 h o.0 n (λ i g m. valued name columns ts ds i f.1 g o.1 m)
      where
        by_star : (b : Bool) → Unless b (FitsColumn bs c t) → TakenValue cs other j c (term_value env (term_of bs t)) d b (λ i. Taken bs env cs other i columns ts ds)
            → Unless b (OwnValue cs other k c d (plain_variable t.kind)) → NamedColumn name j c (variable_passed s k c (plain_variable t.kind)) b (λ i. NamedBy name s k i columns ts)
            → ((i : ℕ) → Taken bs env cs other i columns ts ds → NamedBy name s k i columns ts → HasValues name cs other columns ds)
            → HasValue cs other (name c.name) c.sort d × HasValues name cs other columns ds
        by_star true f h o n r = (subst (λ m. HasValue cs other m c.sort d) (sym n.0) h.0, r (suc j) h.1 n.1)
        by_star false f h o n r = (column_has c (name c.name) t.place d t.kind f.bound f.sort h.0 o n.0, r j h.1 n.1)

    -- the comparisons hold, where the use's own variables have the columns' values
    compared : (columns : List Column) (ts : List RawTerm) (ds : List Datum) (j : ℕ) (f : RawForm) (M : Structure) → FitColumns bs columns ts → Pinned cs other k columns ts ds
        → Taken bs env cs other j columns ts ds → Satisfies (plain f cs) M other → SatisfiesAll (plain_each (with_comparisons p (passed s p k j columns ts) f) cs) M other
    compared [] ts ds j f M i o h y = (y, tt)
    compared (c ∷ columns) [] ds j f M i o h y = absurd i
    compared (c ∷ columns) (t ∷ ts) [] j f M i o h y = absurd h
    compared (c ∷ columns) (t ∷ ts) (d ∷ ds) j f M i o h y = by_star (is_star t) (plain_variable t.kind) i.0 h o.0 (λ n g. compared columns ts ds n f M i.1 o.1 g y)
      where
        by_star : (b : Bool) (a : Option Identifier) → Unless b (FitsColumn bs c t) → TakenValue cs other j c (term_value env (term_of bs t)) d b (λ i. Taken bs env cs other i columns ts ds) → Unless b (OwnValue cs other k c d a)
            → ((n : ℕ) → Taken bs env cs other n columns ts ds → SatisfiesAll (plain_each (with_comparisons p (passed s p k n columns ts) f) cs) M other)
            → SatisfiesAll (plain_each (with_comparisons p (if b then itself c.name (star_variable j) ∷ passed s p k (suc j) columns ts else pass_variable s p k c t a ∷ passed s p k j columns ts) f) cs) M other
        by_star true a i h o r = r (suc j) h.1
        by_star false (Some v) i h o r = r j h.1
        by_star false None i h o r = ((comparison s p bs cs env other carried c t (inner_name k c.name) d o i).1 h.0, r j h.1)

    -- and they say that these have them
    compares : (columns : List Column) (ts : List RawTerm) (ds es : List Datum) (j : ℕ) (f : RawForm) (M : Structure) → FitColumns bs columns ts → Taken bs env cs other j columns ts ds → Pinned cs other k columns ts es
        → SatisfiesAll (plain_each (with_comparisons p (passed s p k j columns ts) f) cs) M other → Pinned cs other k columns ts ds × Satisfies (plain f cs) M other
    compares [] ts ds es j f M i h o y = (tt, y.0)
    compares (c ∷ columns) [] ds es j f M i h o y = absurd i
    compares (c ∷ columns) (t ∷ ts) [] es j f M i h o y = absurd h
    compares (c ∷ columns) (t ∷ ts) (d ∷ ds) [] j f M i h o y = absurd o
    compares (c ∷ columns) (t ∷ ts) (d ∷ ds) (e ∷ es) j f M i h o y = by_star (is_star t) (plain_variable t.kind) i.0 h o.0 y (λ n g z. compares columns ts ds es n f M i.1 g o.1 z)
      where
        by_star : (b : Bool) (a : Option Identifier) → Unless b (FitsColumn bs c t) → TakenValue cs other j c (term_value env (term_of bs t)) d b (λ i. Taken bs env cs other i columns ts ds) → Unless b (OwnValue cs other k c e a)
            → SatisfiesAll (plain_each (with_comparisons p (if b then itself c.name (star_variable j) ∷ passed s p k (suc j) columns ts else pass_variable s p k c t a ∷ passed s p k j columns ts) f) cs) M other
            → ((n : ℕ) → Taken bs env cs other n columns ts ds → SatisfiesAll (plain_each (with_comparisons p (passed s p k n columns ts) f) cs) M other → Pinned cs other k columns ts ds × Satisfies (plain f cs) M other)
            → (Unless b (OwnValue cs other k c d a) × Pinned cs other k columns ts ds) × Satisfies (plain f cs) M other
        by_star true a i h o y r = let z = r (suc j) h.1 y in ((tt, z.0), z.1)
        by_star false (Some v) i h o y r = let z = r j h.1 y in ((tt, z.0), z.1)
        by_star false None i h o y r =
            let z = r j h.1 y.1 in
            let same : e ≡ d = (comparison s p bs cs env other carried c t (inner_name k c.name) e o i).0 y.0 ∙ sym h.0 in
            ((subst (λ x. HasValue cs other (inner_name k c.name) c.sort x) same o, z.0), z.1)

    -- where there is no variable of the use's own
    none_pinned : (columns : List Column) (ts : List RawTerm) (ds : List Datum) (j : ℕ) → Taken bs env cs other j columns ts ds → compared_columns (passed s p k j columns ts) ≡ [] → Pinned cs other k columns ts ds
    none_pinned [] ts ds j h e = tt
    none_pinned (c ∷ columns) [] ds j h e = tt
    none_pinned (c ∷ columns) (t ∷ ts) [] j h e = absurd h
    none_pinned (c ∷ columns) (t ∷ ts) (d ∷ ds) j h e = by_star (is_star t) (plain_variable t.kind) h e (λ n g z. none_pinned columns ts ds n g z)
      where
        by_star : (b : Bool) (a : Option Identifier) → TakenValue cs other j c (term_value env (term_of bs t)) d b (λ i. Taken bs env cs other i columns ts ds)
            → compared_columns (if b then itself c.name (star_variable j) ∷ passed s p k (suc j) columns ts else pass_variable s p k c t a ∷ passed s p k j columns ts) ≡ []
            → ((n : ℕ) → Taken bs env cs other n columns ts ds → compared_columns (passed s p k n columns ts) ≡ [] → Pinned cs other k columns ts ds)
            → Unless b (OwnValue cs other k c d a) × Pinned cs other k columns ts ds
        by_star true a h e r = (tt, r (suc j) h.1 e)
        by_star false (Some v) h e r = (tt, r j h.1 e)
        by_star false None h e r = cc

  -- ---- an `exists` for each variable of the use's own

  module _ (M : Structure) (g : RawForm) where
    abbrev Around : Binders → Assignment → List Column → List RawTerm → ℕ → Type 0
    Around cs other columns ts j = BindsFresh (some_each p (compared_columns (passed s p k j columns ts)) g) cs

    abbrev Says : Binders → Assignment → List Column → List RawTerm → ℕ → Type 0
    Says cs other columns ts j = Satisfies (plain (some_each p (compared_columns (passed s p k j columns ts)) g) cs) M other

    -- scopes in which they have these values
    abbrev IsScope : Binders → Assignment → List Column → List RawTerm → List Datum → Binders → Assignment → Type 0
    IsScope cs other columns ts ds last final = Keeps cs other last final × BindsFresh g last × Pinned last final k columns ts ds

    -- such a scope, in which the formula says what it says with all quantifiers
    abbrev IsThere : Binders → Assignment → List Column → List RawTerm → ℕ → List Datum → Type 0
    IsThere cs other columns ts j ds =
        (last : Binders) × ((final : Assignment) × (IsScope cs other columns ts ds last final × (Satisfies (plain g last) M final → Says cs other columns ts j)))

    there : (columns : List Column) (ts : List RawTerm) (ds : List Datum) (j : ℕ) (cs : Binders) (other : Assignment) → Around cs other columns ts j → MayPin M columns ts ds → IsThere cs other columns ts j ds
    there [] ts ds j cs other a m = (cs, (other, ((keeps_itself cs other, a, tt), λ y. y)))
    there (c ∷ columns) [] ds j cs other a m = (cs, (other, ((keeps_itself cs other, a, tt), λ y. y)))
    there (c ∷ columns) (t ∷ ts) [] j cs other a m = absurd m
    there (c ∷ columns) (t ∷ ts) (d ∷ ds) j cs other a m = by_star (is_star t) (plain_variable t.kind) a m.0 (λ i es o b. there columns ts ds i es o b m.1)
      where
        own : RawColumn
        own = column_added p (inner_name k c.name) c.sort

        by_star : (b : Bool) (v : Option Identifier) → BindsFresh (some_each p (compared_columns (if b then itself c.name (star_variable j) ∷ passed s p k (suc j) columns ts else pass_variable s p k c t v ∷ passed s p k j columns ts)) g) cs
            → Unless b (OwnSort M c d v) → ((i : ℕ) (es : Binders) (o : Assignment) → Around es o columns ts i → IsThere es o columns ts i ds)
            → (last : Binders) × ((final : Assignment) × ((Keeps cs other last final × BindsFresh g last × (Unless b (OwnValue last final k c d v) × Pinned last final k columns ts ds))
            × (Satisfies (plain g last) M final → Satisfies (plain (some_each p (compared_columns (if b then itself c.name (star_variable j) ∷ passed s p k (suc j) columns ts else pass_variable s p k c t v ∷ passed s p k j columns ts)) g) cs) M other)))
        by_star true v a m r = let z = r (suc j) cs other a in (z.0, (z.1.0, ((z.1.1.0.0, z.1.1.0.1, (tt, z.1.1.0.2)), z.1.1.1)))
        by_star false (Some v) a m r = let z = r j cs other a in (z.0, (z.1.0, ((z.1.1.0.0, z.1.1.0.1, (tt, z.1.1.0.2)), z.1.1.1)))
        by_star false None a m r =
            let z = r j (own ∷ cs) (with_value own.name d other) a.1 in (
              z.0,
              (
                z.1.0,
                (
                  (
                    carries_on (λ n. n) cs (own ∷ cs) z.0 other (with_value own.name d other) z.1.0 (keeps_more cs other own a.0 d) z.1.1.0.0,
                    z.1.1.0.1,
                    (value_carried (λ n. n) (own ∷ cs) z.0 (with_value own.name d other) z.1.0 z.1.1.0.0 own.name c.sort d (value_here M cs other own d m), z.1.1.0.2),
                  ),
                  λ y none. none d (m, z.1.1.1 y),
                ),
              ),
            )

    -- what the quantified formula says, it says in some such scope
    found : (columns : List Column) (ts : List RawTerm) (j : ℕ) (cs : Binders) (other : Assignment) → Around cs other columns ts j → Says cs other columns ts j
        → ((es : List Datum) (last : Binders) (final : Assignment) → IsScope cs other columns ts es last final → Satisfies (plain g last) M final → ⊥) → ⊥
    found [] ts j cs other a y n = n [] cs other (keeps_itself cs other, a, tt) y
    found (c ∷ columns) [] j cs other a y n = n [] cs other (keeps_itself cs other, a, tt) y
    found (c ∷ columns) (t ∷ ts) j cs other a y n = by_star (is_star t) (plain_variable t.kind) a y (λ d ds. n (d ∷ ds)) (λ i es o b z. found columns ts i es o b z)
      where
        own : RawColumn
        own = column_added p (inner_name k c.name) c.sort

        by_star : (b : Bool) (v : Option Identifier) → BindsFresh (some_each p (compared_columns (if b then itself c.name (star_variable j) ∷ passed s p k (suc j) columns ts else pass_variable s p k c t v ∷ passed s p k j columns ts)) g) cs
            → Satisfies (plain (some_each p (compared_columns (if b then itself c.name (star_variable j) ∷ passed s p k (suc j) columns ts else pass_variable s p k c t v ∷ passed s p k j columns ts)) g) cs) M other
            → ((d : Datum) (es : List Datum) (last : Binders) (final : Assignment) → (Keeps cs other last final × BindsFresh g last × (Unless b (OwnValue last final k c d v) × Pinned last final k columns ts es)) → Satisfies (plain g last) M final → ⊥)
            → ((i : ℕ) (es : Binders) (o : Assignment) → Around es o columns ts i → Says es o columns ts i → ((ds : List Datum) (last : Binders) (final : Assignment) → IsScope es o columns ts ds last final → Satisfies (plain g last) M final → ⊥) → ⊥) → ⊥
        by_star true v a y n r = r (suc j) cs other a y (λ ds last final z. n (time (pos 0)) ds last final (z.0, z.1, (tt, z.2)))
        by_star false (Some v) a y n r = r j cs other a y (λ ds last final z. n (time (pos 0)) ds last final (z.0, z.1, (tt, z.2)))
        by_star false None a y n r =
            y (λ d h. r j (own ∷ cs) (with_value own.name d other) a.1 h.1 (λ ds last final z. n d ds last final (
              carries_on (λ n. n) cs (own ∷ cs) last other (with_value own.name d other) final (keeps_more cs other own a.0 d) z.0,
              z.1,
              (value_carried (λ n. n) (own ∷ cs) last (with_value own.name d other) final z.0 own.name c.sort d (value_here M cs other own d h.0), z.2),
            )))

  -- ---- a use

  -- the formula stands last
  fresh_last : (ps : List Passed) (f : RawForm) (cs : Binders) → BindFresh (with_comparisons p ps f) cs → BindsFresh f cs
  fresh_last [] f cs h = h.0
  fresh_last (itself c n ∷ ps) f cs h = fresh_last ps f cs h
  fresh_last (equal b c t ∷ ps) f cs h = fresh_last ps f cs h.1

  -- the values of the use's own variables are of their sorts
  may_pin : (M : Structure) (cs : Binders) (other : Assignment) (columns : List Column) (ts : List RawTerm) (ds : List Datum) (j : ℕ) → FitColumns bs columns ts → TextsIn M columns ts → Taken bs env cs other j columns ts ds → MayPin M columns ts ds
  may_pin M cs other [] ts ds j f x h = tt
  may_pin M cs other (c ∷ columns) [] ds j f x h = tt
  may_pin M cs other (c ∷ columns) (t ∷ ts) [] j f x h = absurd h
  may_pin M cs other (c ∷ columns) (t ∷ ts) (d ∷ ds) j f x h = by_star (is_star t) f.0 h (λ i g. may_pin M cs other columns ts ds i f.1 x.1 g)
    where
      by_kind : (o : Option Identifier) → plain_variable t.kind ≡ o → FitsColumn bs c t → d ≡ term_value env (term_of bs t) → OwnSort M c d o
      by_kind (Some v) e f h = tt
      by_kind None e f h = subst (λ y. IsOfSort M c.sort y) (sym h) (alone_of_sort M bs env c.sort t.kind t.place f.bound f.sort x.0 e)

      by_star : (b : Bool) → Unless b (FitsColumn bs c t) → TakenValue cs other j c (term_value env (term_of bs t)) d b (λ i. Taken bs env cs other i columns ts ds)
          → ((i : ℕ) → Taken bs env cs other i columns ts ds → MayPin M columns ts ds) → Unless b (OwnSort M c d (plain_variable t.kind)) × MayPin M columns ts ds
      by_star true f h r = (tt, r (suc j) h.1)
      by_star false f h r = (by_kind (plain_variable t.kind) refl f h.0, r j h.1)

  -- where the definition's formula says X in each scope that gives its columns these values, the use says X
  pub use_says : (M : Structure) (cs : Binders) (other : Assignment) (columns : List Column) (ts : List RawTerm) (ds : List Datum) (j : ℕ) (name : Identifier → Identifier) (f : RawForm) (X : Type 0)
      → Carries s.name bs cs env other → FitColumns bs columns ts → TextsIn M columns ts → Taken bs env cs other j columns ts ds → NamedBy name s k j columns ts
      → BindsFresh (compared_form p (compared_columns (passed s p k j columns ts)) (passed s p k j columns ts) f) cs
      → ((last : Binders) (final : Assignment) → BindsFresh f last → HasValues name last final columns ds → X ↔ Satisfies (plain f last) M final)
      → X ↔ Satisfies (plain (compared_form p (compared_columns (passed s p k j columns ts)) (passed s p k j columns ts) f) cs) M other
  use_says M cs other columns ts ds j name f X carried fits texts taken names fresh says = by_list (compared_columns ps) refl fresh
    where
      ps : List Passed
      ps = passed s p k j columns ts

      g : RawForm
      g = raw_and p (with_comparisons p ps f)

      inside : (last : Binders) (final : Assignment) → Keeps cs other last final → BindsFresh f last → Pinned last final k columns ts ds → X ↔ Satisfies (plain f last) M final
      inside last final kept b pinned =
          says last final b (valued last final (carries_on s.name bs cs last env other final carried kept) name columns ts ds j fits (taken_kept bs env cs last other final kept columns ts ds j taken) pinned names)

      all : (l : List RawColumn) → compared_columns ps ≡ l → BindsFresh (some_each p l g) cs → X ↔ Satisfies (plain (some_each p l g) cs) M other
      all l e b =
          let around : BindsFresh (some_each p (compared_columns ps) g) cs = subst (λ l. BindsFresh (some_each p l g) cs) (sym e) b in
          let z = there M g columns ts ds j cs other around (may_pin M cs other columns ts ds j fits texts taken) in
          let w = inside z.0 z.1.0 z.1.1.0.0 (fresh_last ps f z.0 z.1.1.0.1) z.1.1.0.2 in
          let kept_there = carries_on s.name bs cs z.0 env other z.1.0 carried z.1.1.0.0 in
          let taken_there = taken_kept bs env cs z.0 other z.1.0 z.1.1.0.0 columns ts ds j taken in
          subst (λ l. X ↔ Satisfies (plain (some_each p l g) cs) M other) e (
            (λ x. z.1.1.1 (compared z.0 z.1.0 kept_there columns ts ds j f M fits z.1.1.0.2 taken_there (w.0 x))),
            λ y. w.1 (stable (plain f z.0) M z.1.0 (λ n. found M g columns ts j cs other around y (λ es last final scope sat.
                let c = compares last final (carries_on s.name bs cs last env other final carried scope.0) columns ts ds es j f M fits (taken_kept bs env cs last other final scope.0 columns ts ds j taken) scope.2 sat in
                n (w.0 ((inside last final scope.0 (fresh_last ps f last scope.1) c.0).1 c.1))))),
          )

      by_list : (l : List RawColumn) → compared_columns ps ≡ l → BindsFresh (compared_form p l ps f) cs → X ↔ Satisfies (plain (compared_form p l ps f) cs) M other
      by_list [] e b = inside cs other (keeps_itself cs other) b (none_pinned cs other carried columns ts ds j taken e)
      by_list (c ∷ l) e b = all (c ∷ l) e b
