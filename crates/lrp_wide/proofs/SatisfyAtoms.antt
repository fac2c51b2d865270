-- A `*` in an atom is a variable that an `exists` directly around the atom binds.
use Rattle.std.proofs.Common.{◌≡◌, ◌↔◌, ℕ, suc, Bool, true, false, List, [], ◌∷◌, map, refl, sym, ap, ap₂, ◌∙◌}
use Rattle.std.specs.Prelude.{if◌then◌else◌}
use Rattle.lrp_model.specs.Texts.{Identifier}
use Rattle.lrp_model.specs.Rows.{Datum, time, text, Holds}
use Rattle.lrp_model.specs.Satisfaction.{Structure, Assignment, Satisfies, with_value, term_value}
use Rattle.lrp_model.specs.Sorting.{Binders, binder_sort, alone_sort, is_data_term}
use Rattle.lrp_model.specs.Checked.{term_of, plain}
use Rattle.lrp_model.specs.RawTerms.{term_by}
use Rattle.lrp_model.specs.RawQueries.{RawForm, raw_atom}
use Rattle.lrp_model.specs.declared.tokens.Place.{Place}
use Rattle.lrp_model.specs.declared.relations.Sort.{Sort}
use Rattle.lrp_model.specs.declared.relations.Column.{Column}
use Rattle.lrp_model.specs.declared.raw.RawColumn.{RawColumn}
use Rattle.lrp_model.specs.declared.raw.RawTerm.{RawTerm}
use Rattle.lrp_model.specs.declared.raw.RawTermKind.TheVariants.{Var}
use Rattle.lrp_model.proofs.Logic.{then_iff}
use Rattle.lrp_tense.specs.Expanding.{name_term}
use Rattle.lrp_tense.proofs.Iff.{some_iff, plus_zero}
use Rattle.lrp_tense.proofs.Terms.{by_equal}
use Rattle.lrp_wide.specs.Meaning.{HoldsOf, ForValue, is_star}
use Rattle.lrp_wide.specs.Inlining.{UseSetting, set_term, column_added, star_variable, star_columns, star_terms, some_each, starred_atom}
use Rattle.lrp_wide.proofs.SatisfyNotions.{Unless, FitsColumn, FitColumns, BindsFresh}
use Rattle.lrp_wide.proofs.SatisfyTerms.{HasValue, Carries, Keeps, keeps_itself, keeps_more, carries_on, value_carried, value_here, same_term}

-- ---- the values of an atom

-- a column's value is that of the variable of its `*`, or that of its term; the next `*` has the next number
abbrev pub TakenValue : Binders → Assignment → ℕ → Column → Datum → Datum → Bool → (ℕ → Type 0) → Type 0
TakenValue cs other k c v d true P = HasValue cs other (star_variable k) c.sort d × P (suc k)
TakenValue cs other k c v d false P = (d ≡ v) × P k

-- the values of all columns
abbrev pub Taken : Binders → Assignment → Binders → Assignment → ℕ → List Column → List RawTerm → List Datum → Type 0
Taken bs env cs other k [] ts ds = ds ≡ []
Taken bs env cs other k (c ∷ columns) [] ds = ds ≡ []
Taken bs env cs other k (c ∷ columns) (t ∷ ts) [] = ⊥
Taken bs env cs other k (c ∷ columns) (t ∷ ts) (d ∷ ds) = TakenValue cs other k c (term_value env (term_of bs t)) d (is_star t) (λ j. Taken bs env cs other j columns ts ds)

-- they stay where variables are added
module _ (bs : Binders) (env : Assignment) (cs last : Binders) (other final : Assignment) (kept : Keeps cs other last final) where
  pub taken_kept : (columns : List Column) (ts : List RawTerm) (ds : List Datum) (k : ℕ) → Taken bs env cs other k columns ts ds → Taken bs env last final k columns ts ds
  taken_kept [] ts ds k h = h
  taken_kept (c ∷ columns) [] ds k h = h
  taken_kept (c ∷ columns) (t ∷ ts) [] k h = h
  taken_kept (c ∷ columns) (t ∷ ts) (d ∷ ds) k h = by_star (is_star t) h (λ j. taken_kept columns ts ds j)
    where
      by_star : (b : Bool) → TakenValue cs other k c (term_value env (term_of bs t)) d b (λ j. Taken bs env cs other j columns ts ds) → ((j : ℕ) → Taken bs env cs other j columns ts ds → Taken bs env last final j columns ts ds)
          → TakenValue last final k c (term_value env (term_of bs t)) d b (λ j. Taken bs env last final j columns ts ds)
      by_star true h r = (value_carried (λ n. n) cs last other final kept (star_variable k) c.sort d h.0, r (suc k) h.1)
      by_star false h r = (h.0, r k h.1)

-- ---- an `exists` for each `*`

module _ (M : Structure) (bs : Binders) (env : Assignment) (p : Place) (g : RawForm) where
  -- what the values are to have is what the formula says, in each scope that has the variables
  abbrev Says : Binders → Assignment → List Column → List RawTerm → ℕ → (List Datum → Type 0) → Type 0
  Says cs other columns ts k P =
      (ds : List Datum) (last : Binders) (final : Assignment) → Keeps cs other last final → BindsFresh g last → Taken bs env last final k columns ts ds → P ds ↔ Satisfies (plain g last) M final

  abbrev IsChosen : Binders → Assignment → List Column → List RawTerm → ℕ → (List Datum → Type 0) → Type 0
  IsChosen cs other columns ts k P =
      BindsFresh (some_each p (star_columns p k columns ts) g) cs → Says cs other columns ts k P → HoldsOf M bs env P columns ts ↔ Satisfies (plain (some_each p (star_columns p k columns ts) g) cs) M other

  pub chosen : (columns : List Column) (ts : List RawTerm) (k : ℕ) (P : List Datum → Type 0) (cs : Binders) (other : Assignment) → IsChosen cs other columns ts k P
  chosen [] ts k P cs other = λ f s. s [] cs other (keeps_itself cs other) f refl
  chosen (c ∷ columns) [] k P cs other = λ f s. s [] cs other (keeps_itself cs other) f refl
  chosen (c ∷ columns) (t ∷ ts) k P cs other = λ f s. by_star (is_star t) f (λ d ds. s (d ∷ ds)) (λ d j. chosen columns ts j (λ ds. P (d ∷ ds)))
    where
      star : RawColumn
      star = column_added p (star_variable k) c.sort

      value : Datum
      value = term_value env (term_of bs t)

      by_star : (b : Bool) → BindsFresh (some_each p (if b then column_added p (star_variable k) c.sort ∷ star_columns p (suc k) columns ts else star_columns p k columns ts) g) cs
          → ((d : Datum) (ds : List Datum) (last : Binders) (final : Assignment) → Keeps cs other last final → BindsFresh g last → TakenValue last final k c (term_value env (term_of bs t)) d b (λ j. Taken bs env last final j columns ts ds) → P (d ∷ ds) ↔ Satisfies (plain g last) M final)
          → ((d : Datum) (j : ℕ) (ds : Binders) (o : Assignment) → IsChosen ds o columns ts j (λ es. P (d ∷ es)))
          → ForValue M c (term_value env (term_of bs t)) b (λ d. HoldsOf M bs env (λ ds. P (d ∷ ds)) columns ts)
          ↔ Satisfies (plain (some_each p (if b then column_added p (star_variable k) c.sort ∷ star_columns p (suc k) columns ts else star_columns p k columns ts) g) cs) M other
      by_star true f s r =
          some_iff (λ d o. r d (suc k) (star ∷ cs) (with_value star.name d other) f.1
          (λ ds last final kept fresh taken. s d ds last final (carries_on (λ n. n) cs (star ∷ cs) last other (with_value star.name d other) final (keeps_more cs other star f.0 d) kept) fresh
          (value_carried (λ n. n) (star ∷ cs) last (with_value star.name d other) final kept star.name c.sort d (value_here M cs other star d o), taken)))
      by_star false f s r = r value k cs other f (λ ds last final kept fresh taken. s value ds last final kept fresh (refl, taken))

-- ---- atoms of relations

pub variable_value : (cs : Binders) (other : Assignment) (n : Identifier) (s : Sort) (d : Datum) (p : Place) → HasValue cs other n s d → d ≡ term_value other (term_of cs (name_term p n))
variable_value cs other n s (time x) p h =
    let e : is_data_term (alone_sort (binder_sort cs n)) ≡ false = ap (λ o. is_data_term (alone_sort o)) h.bound ∙ h.value.0 in
    sym (ap (λ b. term_value other (term_by b (Var n))) e ∙ ap time (plus_zero (other.times n) x h.value.1))
variable_value cs other n s (text t) p h =
    let e : is_data_term (alone_sort (binder_sort cs n)) ≡ true = ap (λ o. is_data_term (alone_sort o)) h.bound ∙ h.value.0 in
    sym (ap (λ b. term_value other (term_by b (Var n))) e ∙ ap text h.value.1)

module _ (s : UseSetting) (p : Place) (bs cs : Binders) (env other : Assignment) (carried : Carries s.name bs cs env other) where
  values_same : (columns : List Column) (ts : List RawTerm) (ds : List Datum) (k : ℕ) → FitColumns bs columns ts → Taken bs env cs other k columns ts ds → ds ≡ map (term_value other) (map (term_of cs) (star_terms s p k columns ts))
  values_same [] [] ds k f h = h
  values_same [] (t ∷ ts) ds k f h = absurd f
  values_same (c ∷ columns) [] ds k f h = absurd f
  values_same (c ∷ columns) (t ∷ ts) [] k f h = absurd h
  values_same (c ∷ columns) (t ∷ ts) (d ∷ ds) k f h = by_star (is_star t) f.0 h (λ j. values_same columns ts ds j f.1)
    where
      by_star : (b : Bool) → Unless b (FitsColumn bs c t) → TakenValue cs other k c (term_value env (term_of bs t)) d b (λ j. Taken bs env cs other j columns ts ds)
          → ((j : ℕ) → Taken bs env cs other j columns ts ds → ds ≡ map (term_value other) (map (term_of cs) (star_terms s p j columns ts)))
          → d ∷ ds ≡ map (term_value other) (map (term_of cs) (if b then name_term p (star_variable k) ∷ star_terms s p (suc k) columns ts else set_term s t ∷ star_terms s p k columns ts))
      by_star true f h r = ap₂ (λ x xs. x ∷ xs) (variable_value cs other (star_variable k) c.sort d p h.0) (r (suc k) h.1)
      by_star false f h r = ap₂ (λ x xs. x ∷ xs) (h.0 ∙ same_term s bs cs env other carried t f.bound) (r k h.1)

-- an atom whose name means a relation
pub relation_holds : (M : Structure) (s : UseSetting) (p : Place) (k : ℕ) (n : Identifier) (columns : List Column) (ts : List RawTerm) (P : List Datum → Type 0) (bs cs : Binders) (env other : Assignment)
    → Carries s.name bs cs env other → FitColumns bs columns ts → BindsFresh (starred_atom s p k n columns ts) cs → ((ds : List Datum) → P ds ↔ Holds M.relations n ds)
    → HoldsOf M bs env P columns ts ↔ Satisfies (plain (starred_atom s p k n columns ts) cs) M other
relation_holds M s p k n columns ts P bs cs env other carried fits fresh means =
    chosen M bs env p (raw_atom p n (star_terms s p k columns ts)) columns ts k P cs other fresh
    (λ ds last final kept f taken. then_iff (means ds)
    (by_equal (Holds M.relations n) ds (map (term_value final) (map (term_of last) (star_terms s p k columns ts)))
    (values_same s p bs last env final (carries_on s.name bs cs last env other final carried kept) columns ts ds k fits taken)))
