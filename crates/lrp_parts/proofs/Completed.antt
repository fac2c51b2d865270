-- Values for the quantifiers of a disjunct: those of its sorts are those that its bound columns can have.
use Rattle.std.proofs.Common.{◌≡◌, ◌≢◌, ℕ, true, cond, List, [], ◌∷◌, ◌++◌, Contains, refl, ap, subst, ◌∙◌}
use Rattle.std.specs.Prelude.{ℤ}
use Rattle.lrp_model.specs.Core.{conjuncts}
use Rattle.lrp_model.specs.Formulas.{Form, atom, test, sorted, negation, conjunction, disjunction, implication, exists, forall}
use Rattle.lrp_model.specs.Rows.{Datum, time, text}
use Rattle.lrp_model.specs.Satisfaction.{Assignment, IsOfSort, Structure, with_value}
use Rattle.lrp_model.specs.Sorts.{is_time, is_data}
use Rattle.lrp_model.specs.Texts.{Identifier, Text}
use Rattle.lrp_model.specs.declared.relations.Column.{Column}
use Rattle.lrp_model.specs.declared.relations.Relation.{Relation}
use Rattle.lrp_model.specs.declared.relations.Sort.{Sort}
use Rattle.lrp_model.specs.declared.relations.Sort.TheVariants.{Time, Data, Named}
use Rattle.lrp_model.proofs.Decided.{contains_first, contains_later}
use Rattle.lrp_plan_laws.proofs.CoreLaws.{own_name}
use Rattle.lrp_plan_laws.proofs.Members.{all_of}
use Rattle.lrp_parts.specs.Bound.{AreCompleted, CanBeValue, IsCompleted}
use Rattle.lrp_kept.specs.Choices.{ChosenWithValues, IsChosenBy}
use Rattle.lrp_kept.specs.Disjuncts.{bound_columns}
use Rattle.lrp_kept.specs.KeptForm.{matrix}
use Rattle.lrp_kept.specs.SortedForms.{IsSortedForm, binders_at}
use Rattle.lrp_tables.proofs.TupleLaws.{other_text, other_time}

-- ---- one value

pub own_text : (v : Identifier) (t : Text) (env : Assignment) → (with_value v (text t) env).texts v ≡ t
own_text v t env = ap (λ b. cond b t (env.texts v)) (own_name v)

module _ (domain : List Text) where
  -- ---- the outermost column last

  pub completed_last : (xs : List Column) (c : Column) (set : Assignment → Type 0) (env : Assignment) → AreCompleted domain (xs ++ c ∷ []) set env → IsCompleted domain c (AreCompleted domain xs set) env
  completed_last [] c set env h = record { value = h.value; can = h.can; is = h.is }
  completed_last (x ∷ xs) c set env h = let r = completed_last xs c (IsCompleted domain x set) env h in record { value = r.value; can = r.can; is = r.is }

  pub completed_more : (xs : List Column) (c : Column) (set : Assignment → Type 0) (env : Assignment) → IsCompleted domain c (AreCompleted domain xs set) env → AreCompleted domain (xs ++ c ∷ []) set env
  completed_more [] c set env h = record { value = h.value; can = h.can; is = h.is }
  completed_more (x ∷ xs) c set env h = completed_more xs c (IsCompleted domain x set) env (record { value = h.value; can = h.can; is = h.is })

  -- ---- the assignment in the end

  -- a member of the set that leaves the binders as they were
  pub record IsLast (set : Assignment → Type 0) (bs : List Column) (env : Assignment) : Type 0 where
    pub last : Assignment
    pub member : set last
    pub times : (b : Column) → Contains bs b → last.times b.name ≡ env.times b.name
    pub texts : (b : Column) → Contains bs b → last.texts b.name ≡ env.texts b.name

  pub in_the_end : (f : Form) (db : List Relation) (bs : List Column) (set : Assignment → Type 0) (env : Assignment) → IsSortedForm f db bs → AreCompleted domain (bound_columns f) set env → IsLast set bs env
  in_the_end (exists v s f) db bs set env h x =
      let c : Column = record { name = v; sort = s } in
      let y = completed_last (bound_columns f) c set env x in
      let r = in_the_end f db (c ∷ bs) set (with_value v y.value env) h.1 y.is in
      record {
        last = r.last;
        member = r.member;
        times = λ b i. r.times b (contains_later c b bs i) ∙ other_time v b.name y.value env (all_of (λ (k : Column). k.name ≢ v) bs b h.0 i);
        texts = λ b i. r.texts b (contains_later c b bs i) ∙ other_text v b.name y.value env (all_of (λ (k : Column). k.name ≢ v) bs b h.0 i);
      }
  in_the_end (atom name terms) db bs set env h x = record { last = env; member = x; times = λ b i. refl; texts = λ b i. refl }
  in_the_end (test t) db bs set env h x = record { last = env; member = x; times = λ b i. refl; texts = λ b i. refl }
  in_the_end (sorted s v) db bs set env h x = record { last = env; member = x; times = λ b i. refl; texts = λ b i. refl }
  in_the_end (negation f) db bs set env h x = record { last = env; member = x; times = λ b i. refl; texts = λ b i. refl }
  in_the_end (conjunction fs) db bs set env h x = record { last = env; member = x; times = λ b i. refl; texts = λ b i. refl }
  in_the_end (disjunction fs) db bs set env h x = record { last = env; member = x; times = λ b i. refl; texts = λ b i. refl }
  in_the_end (implication f g) db bs set env h x = record { last = env; member = x; times = λ b i. refl; texts = λ b i. refl }
  in_the_end (forall v s f) db bs set env h x = record { last = env; member = x; times = λ b i. refl; texts = λ b i. refl }

  pub binders_stay : (f : Form) (bs : List Column) (b : Column) → Contains bs b → Contains (binders_at f bs) b
  binders_stay (exists v s f) bs b i = binders_stay f (record { name = v; sort = s } ∷ bs) b (contains_later (record { name = v; sort = s }) b bs i)
  binders_stay (atom name terms) bs b i = i
  binders_stay (test t) bs b i = i
  binders_stay (sorted s v) bs b i = i
  binders_stay (negation f) bs b i = i
  binders_stay (conjunction fs) bs b i = i
  binders_stay (disjunction fs) bs b i = i
  binders_stay (implication f g) bs b i = i
  binders_stay (forall v s f) bs b i = i

  module _ (M : Structure) where
    -- ---- sorts

    time_of_sort : (s : Sort) (x : ℤ) → is_time s ≡ true → IsOfSort M s (time x)
    time_of_sort Time x e = tt
    time_of_sort Data x e = cc
    time_of_sort (Named n) x e = cc

    pub text_of_sort : (s : Sort) (t : Text) → is_data s ≡ true → Contains (M.domain s) t → IsOfSort M s (text t)
    text_of_sort Time t e i = cc
    text_of_sort Data t e i = i
    text_of_sort (Named n) t e i = i

    pub can_be : ((s : Sort) (t : Text) → Contains (M.domain s) t → Contains domain t) → (c : Column) (d : Datum) → IsOfSort M c.sort d → CanBeValue domain c d
    can_be known c d h = by c.sort d h
      where
        by : (s : Sort) (d : Datum) → IsOfSort M s d → CanBeValue domain (record { name = c.name; sort = s }) d
        by Time (time x) h = refl
        by Time (text t) h = absurd h
        by Data (time x) h = absurd h
        by Data (text t) h = (refl, known Data t h)
        by (Named n) (time x) h = absurd h
        by (Named n) (text t) h = (refl, known (Named n) t h)

    -- ---- from choices and to them

    -- each binder of a data sort has a text of its sort
    abbrev pub HasSortedTexts : (Assignment → Type 0) → List Column → Type 0
    HasSortedTexts set bs = (env : Assignment) → set env → (b : Column) → Contains bs b → is_data b.sort ≡ true → Contains (M.domain b.sort) (env.texts b.name)

    pub to_chosen : (f : Form) (db : List Relation) (bs : List Column) (set : Assignment → Type 0) → IsSortedForm f db bs → HasSortedTexts set (binders_at f bs) → ((env : Assignment) → set env → IsChosenBy M.relations (conjuncts (matrix f)) env) → (env : Assignment) → AreCompleted domain (bound_columns f) set env → ChosenWithValues f M env
    to_chosen (exists v s f) db bs set h texts base env x =
        let c : Column = record { name = v; sort = s } in
        let y = completed_last (bound_columns f) c set env x in
        (y.value, of_sort y.value y.can y.is, to_chosen f db (c ∷ bs) set h.1 texts base (with_value v y.value env) y.is)
      where
        of_sort : (d : Datum) → CanBeValue domain (record { name = v; sort = s }) d → AreCompleted domain (bound_columns f) set (with_value v d env) → IsOfSort M s d
        of_sort (time n) can y = time_of_sort s n can
        of_sort (text t) can y =
            let c : Column = record { name = v; sort = s } in
            let r = in_the_end f db (c ∷ bs) set (with_value v (text t) env) h.1 y in
            text_of_sort s t can.0 (subst (λ u. Contains (M.domain s) u) (r.texts c (contains_first c bs) ∙ own_text v t env) (texts r.last r.member c (binders_stay f (c ∷ bs) c (contains_first c bs)) can.0))
    to_chosen (atom name terms) db bs set h texts base env x = base env x
    to_chosen (test t) db bs set h texts base env x = base env x
    to_chosen (sorted s v) db bs set h texts base env x = base env x
    to_chosen (negation f) db bs set h texts base env x = base env x
    to_chosen (conjunction fs) db bs set h texts base env x = base env x
    to_chosen (disjunction fs) db bs set h texts base env x = base env x
    to_chosen (implication f g) db bs set h texts base env x = base env x
    to_chosen (forall v s f) db bs set h texts base env x = base env x

    pub from_chosen : ((s : Sort) (t : Text) → Contains (M.domain s) t → Contains domain t) → (f : Form) (good : List ℕ → Type 0) (set : List ℕ → Assignment → Type 0) → ((env : Assignment) → IsChosenBy M.relations (conjuncts (matrix f)) env → (keys : List ℕ) × good keys × set keys env) → (env : Assignment) → ChosenWithValues f M env → (keys : List ℕ) × good keys × AreCompleted domain (bound_columns f) (set keys) env
    from_chosen known (exists v s f) good set base env x =
        let c : Column = record { name = v; sort = s } in
        let r = from_chosen known f good set base (with_value v x.0 env) x.2 in
        (r.0, r.1, completed_more (bound_columns f) c (set r.0) env (record { value = x.0; can = can_be known c x.0 x.1; is = r.2 }))
    from_chosen known (atom name terms) good set base env x = base env x
    from_chosen known (test t) good set base env x = base env x
    from_chosen known (sorted s v) good set base env x = base env x
    from_chosen known (negation f) good set base env x = base env x
    from_chosen known (conjunction fs) good set base env x = base env x
    from_chosen known (disjunction fs) good set base env x = base env x
    from_chosen known (implication f g) good set base env x = base env x
    from_chosen known (forall v s f) good set base env x = base env x
