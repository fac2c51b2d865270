-- Variables that keep their sorts and values under other names, and terms of such variables.
use Rattle.std.proofs.Common.{◌≡◌, ◌≢◌, ◌↔◌, Bool, true, false, ◌&&◌, cond, [], ◌∷◌, Option, Some, None, refl, sym, ap, ap₂, subst, ◌∙◌, bytes_eq}
use Rattle.std.specs.Prelude.{pos, ◌+ℤ◌, if◌then◌else◌}
use Rattle.std.specs.Cmp.Lexicographic.{bytes_decides}
use Rattle.lrp_model.specs.Texts.{Identifier}
use Rattle.lrp_model.specs.Rows.{Datum, time, text}
use Rattle.lrp_model.specs.Sorts.{is_data}
use Rattle.lrp_model.specs.Satisfaction.{Structure, Assignment, Compares, Passes, IsOfSort, with_value, time_value, text_value, term_value}
use Rattle.lrp_model.specs.Sorting.{Binders, binder_sort, alone_sort, shifted_sort, kind_sort, term_sort, is_data_term, variable_faults, kind_faults, term_faults, time_faults}
use Rattle.lrp_model.specs.Checked.{term_of, compare_of}
use Rattle.lrp_model.specs.RawTerms.{time_of, data_of, is_equality}
use Rattle.lrp_model.specs.RawQueries.{raw_compare}
use Rattle.lrp_model.specs.declared.tokens.Place.{Place}
use Rattle.lrp_model.specs.declared.relations.Sort.{Sort}
use Rattle.lrp_model.specs.declared.relations.Sort.TheVariants.{Time, Data, Named}
use Rattle.lrp_model.specs.declared.relations.RowPoint.{RowPoint}
use Rattle.lrp_model.specs.declared.formulas.Term.TheVariants.{Time as time_term, Data as data_term}
use Rattle.lrp_model.specs.declared.formulas.Op.{Op}
use Rattle.lrp_model.specs.declared.formulas.Test.TheVariants.{Compare, Member, Equal}
use Rattle.lrp_model.specs.declared.raw.RawColumn.{RawColumn}
use Rattle.lrp_model.specs.declared.raw.RawTerm.{RawTerm}
use Rattle.lrp_model.specs.declared.raw.RawTermKind.{RawTermKind}
use Rattle.lrp_model.specs.declared.raw.RawTermKind.TheVariants.{Int, Text, Var, Shifted}
use Rattle.lrp_model.proofs.NoFaults.{none_if}
use Rattle.lrp_tense.proofs.Scoping.{own_name, other_name, bound_here, bound_further, set_own, set_other}
use Rattle.lrp_tense.proofs.Terms.{by_equal}
use Rattle.lrp_tense.proofs.Timely.{IsTimely, shifted_times, read_times, read_texts}
use Rattle.lrp_theory.specs.Divides.{IsPointMember}
use Rattle.lrp_wide.specs.Inlining.{UseSetting, set_kind, set_term}

-- ---- values

-- the variable has this value, of its sort's kind
abbrev pub IsValue : Assignment → Identifier → Sort → Datum → Type 0
IsValue env n s (time x) = (is_data s ≡ false) × (env.times n ≡ x)
IsValue env n s (text t) = (is_data s ≡ true) × (env.texts n ≡ t)

-- it is bound, of this sort and with this value
pub record HasValue (bs : Binders) (env : Assignment) (n : Identifier) (s : Sort) (d : Datum) : Type 0 where
  pub bound : binder_sort bs n ≡ Some s
  pub value : IsValue env n s d

-- each variable that is bound has its sort and its value under its other name too
pub record Carries (name : Identifier → Identifier) (bs cs : Binders) (env other : Assignment) : Type 0 where
  pub sorts : (w : Identifier) (s : Sort) → binder_sort bs w ≡ Some s → binder_sort cs (name w) ≡ Some s
  pub times : (w : Identifier) (s : Sort) → binder_sort bs w ≡ Some s → is_data s ≡ false → other.times (name w) ≡ env.times w
  pub texts : (w : Identifier) (s : Sort) → binder_sort bs w ≡ Some s → is_data s ≡ true → other.texts (name w) ≡ env.texts w

-- and under its own name
abbrev pub Keeps : Binders → Assignment → Binders → Assignment → Type 0
Keeps bs env cs other = Carries (λ n. n) bs cs env other

pub keeps_itself : (bs : Binders) (env : Assignment) → Keeps bs env bs env
keeps_itself bs env = record { sorts = λ w s b. b; times = λ w s b k. refl; texts = λ w s b k. refl }

pub carries_on : (name : Identifier → Identifier) (bs cs ds : Binders) (env other last : Assignment) → Carries name bs cs env other → Keeps cs other ds last → Carries name bs ds env last
carries_on name bs cs ds env other last h k = record {
  sorts = λ w s b. k.sorts (name w) s (h.sorts w s b);
  times = λ w s b i. k.times (name w) s (h.sorts w s b) i ∙ h.times w s b i;
  texts = λ w s b i. k.texts (name w) s (h.sorts w s b) i ∙ h.texts w s b i;
}

pub value_carried : (name : Identifier → Identifier) (bs cs : Binders) (env other : Assignment) → Carries name bs cs env other → (n : Identifier) (s : Sort) (d : Datum) → HasValue bs env n s d → HasValue cs other (name n) s d
value_carried name bs cs env other h n s (time x) v = record { bound = h.sorts n s v.bound; value = (v.value.0, h.times n s v.bound v.value.0 ∙ v.value.1) }
value_carried name bs cs env other h n s (text t) v = record { bound = h.sorts n s v.bound; value = (v.value.0, h.texts n s v.bound v.value.0 ∙ v.value.1) }

-- ---- one variable more

value_set : (M : Structure) (env : Assignment) (n : Identifier) (s : Sort) (d : Datum) → IsOfSort M s d → IsValue (with_value n d env) n s d
value_set M env n Time (time x) o = (refl, set_own n x (env.times n))
value_set M env n Time (text t) o = absurd o
value_set M env n Data (time x) o = absurd o
value_set M env n Data (text t) o = (refl, set_own n t (env.texts n))
value_set M env n (Named m) (time x) o = absurd o
value_set M env n (Named m) (text t) o = (refl, set_own n t (env.texts n))

pub value_here : (M : Structure) (bs : Binders) (env : Assignment) (c : RawColumn) (d : Datum) → IsOfSort M c.sort d → HasValue (c ∷ bs) (with_value c.name d env) c.name c.sort d
value_here M bs env c d o = record { bound = bound_here c bs c.name (own_name c.name); value = value_set M env c.name c.sort d o }

-- it hides none that is bound
module _ (bs : Binders) (env : Assignment) (c : RawColumn) (free : binder_sort bs c.name ≡ None) where
  hides_none : (w : Identifier) (s : Sort) → binder_sort bs w ≡ Some s → c.name ≢ w
  hides_none w s b e = let f : binder_sort bs w ≡ None = subst (λ n. binder_sort bs n ≡ None) e free in cc

  pub keeps_more : (d : Datum) → Keeps bs env (c ∷ bs) (with_value c.name d env)
  keeps_more (time x) = record {
    sorts = λ w s b. bound_further c bs w (other_name c.name w (hides_none w s b)) ∙ b;
    times = λ w s b i. set_other c.name w x (env.times w) (hides_none w s b);
    texts = λ w s b i. refl;
  }
  keeps_more (text t) = record {
    sorts = λ w s b. bound_further c bs w (other_name c.name w (hides_none w s b)) ∙ b;
    times = λ w s b i. refl;
    texts = λ w s b i. set_other c.name w t (env.texts w) (hides_none w s b);
  }

-- a variable with a value that another name has already
module _ (name : Identifier → Identifier) (bs cs : Binders) (env other : Assignment) (c : RawColumn) (h : Carries name bs cs env other) where
  sorts_with : binder_sort cs (name c.name) ≡ Some c.sort → (w : Identifier) (s : Sort) → binder_sort (c ∷ bs) w ≡ Some s → (b : Bool) → bytes_eq c.name w ≡ b → binder_sort cs (name w) ≡ Some s
  sorts_with v w s f true e = subst (λ n. binder_sort cs (name n) ≡ Some s) ((bytes_decides c.name w).0 e) (v ∙ sym (bound_here c bs w e) ∙ f)
  sorts_with v w s f false e = h.sorts w s (sym (bound_further c bs w e) ∙ f)

  module _ {A : Type 0} (of : Assignment → Identifier → A) (k : Bool) (old : (w : Identifier) (s : Sort) → binder_sort bs w ≡ Some s → is_data s ≡ k → of other (name w) ≡ of env w) where
    set_with : (x : A) → of other (name c.name) ≡ x → (w : Identifier) (s : Sort) → binder_sort (c ∷ bs) w ≡ Some s → is_data s ≡ k → (b : Bool) → bytes_eq c.name w ≡ b → of other (name w) ≡ cond b x (of env w)
    set_with x v w s f i true e = subst (λ n. of other (name n) ≡ x) ((bytes_decides c.name w).0 e) v
    set_with x v w s f i false e = old w s (sym (bound_further c bs w e) ∙ f) i

    left_with : (is_data c.sort ≡ k → ⊥) → (w : Identifier) (s : Sort) → binder_sort (c ∷ bs) w ≡ Some s → is_data s ≡ k → (b : Bool) → bytes_eq c.name w ≡ b → of other (name w) ≡ of env w
    left_with n w s f i true e = let same : Some s ≡ Some c.sort = sym f ∙ bound_here c bs w e in let g : s ≡ c.sort = cc in absurd (n (sym (ap is_data g) ∙ i))
    left_with n w s f i false e = old w s (sym (bound_further c bs w e) ∙ f) i

  pub carries_value : (d : Datum) → HasValue cs other (name c.name) c.sort d → Carries name (c ∷ bs) cs (with_value c.name d env) other
  carries_value (time x) v = record {
    sorts = λ w s f. sorts_with v.bound w s f (bytes_eq c.name w) refl;
    times = λ w s f i. set_with (λ a. a.times) false h.times x v.value.1 w s f i (bytes_eq c.name w) refl;
    texts = λ w s f i. left_with (λ a. a.texts) true h.texts (λ e. let k : is_data c.sort ≡ false = v.value.0 in cc) w s f i (bytes_eq c.name w) refl;
  }
  carries_value (text t) v = record {
    sorts = λ w s f. sorts_with v.bound w s f (bytes_eq c.name w) refl;
    times = λ w s f i. left_with (λ a. a.times) false h.times (λ e. let k : is_data c.sort ≡ true = v.value.0 in cc) w s f i (bytes_eq c.name w) refl;
    texts = λ w s f i. set_with (λ a. a.texts) true h.texts t v.value.1 w s f i (bytes_eq c.name w) refl;
  }

-- a quantifier's variable, of a new name
pub carries_binder : (M : Structure) (name : Identifier → Identifier) (bs cs : Binders) (env other : Assignment) (c e : RawColumn) → e.name ≡ name c.name → e.sort ≡ c.sort → binder_sort cs e.name ≡ None
    → Carries name bs cs env other → (d : Datum) → IsOfSort M c.sort d → Carries name (c ∷ bs) (e ∷ cs) (with_value c.name d env) (with_value (name c.name) d other)
carries_binder M name bs cs env other c e named same free h d o =
    let k : Keeps cs other (e ∷ cs) (with_value e.name d other) = keeps_more cs other e free d in
    let v : HasValue (e ∷ cs) (with_value e.name d other) e.name e.sort d = value_here M cs other e d (subst (λ s. IsOfSort M s d) (sym same) o) in
    let w : HasValue (e ∷ cs) (with_value e.name d other) (name c.name) c.sort d = subst (λ s. HasValue (e ∷ cs) (with_value e.name d other) (name c.name) s d) same (subst (λ n. HasValue (e ∷ cs) (with_value e.name d other) n e.sort d) named v) in
    let r : Carries name (c ∷ bs) (e ∷ cs) (with_value c.name d env) (with_value e.name d other) = carries_value name bs (e ∷ cs) env (with_value e.name d other) c (carries_on name bs cs (e ∷ cs) env other (with_value e.name d other) h k) d w in
    subst (λ n. Carries name (c ∷ bs) (e ∷ cs) (with_value c.name d env) (with_value n d other)) named r

-- ---- terms

-- a variable without a fault is bound
pub bound_of : (o : Option Sort) (shifted : Bool) (p : Place) → variable_faults o shifted p ≡ [] → (s : Sort) × (o ≡ Some s)
bound_of None shifted p f = cc
bound_of (Some s) shifted p f = (s, refl)

-- the sides of an `=` are both texts
abbrev are_texts : Op → Binders → RawTerm → RawTerm → Bool
are_texts op bs l r = is_equality op && is_data_term (term_sort bs l) && is_data_term (term_sort bs r)

module _ (s : UseSetting) (bs cs : Binders) (env other : Assignment) (h : Carries s.name bs cs env other) where
  same_sort : (k : RawTermKind) (q : Place) → kind_faults bs k q ≡ [] → kind_sort cs (set_kind s k) ≡ kind_sort bs k
  same_sort (Int x) q f = refl
  same_sort (Text t) q f = refl
  same_sort (Var n) q f = let b = bound_of (binder_sort bs n) false q f in ap alone_sort (h.sorts n b.0 b.1 ∙ sym b.1)
  same_sort (Shifted n plus) q f = let b = bound_of (binder_sort bs n) true q f in ap shifted_sort (h.sorts n b.0 b.1 ∙ sym b.1)

  same_time : (k : RawTermKind) (q : Place) → kind_faults bs k q ≡ [] → is_data_term (kind_sort bs k) ≡ false → time_value other (time_of (set_kind s k)) ≡ time_value env (time_of k)
  same_time (Int x) q f e = refl
  same_time (Text t) q f e = refl
  same_time (Var n) q f e =
      let b = bound_of (binder_sort bs n) false q f in
      ap (λ x. x +ℤ pos 0) (h.times n b.0 b.1 (subst (λ o. is_data_term (alone_sort o) ≡ false) b.1 e))
  same_time (Shifted n plus) q f e =
      let b = bound_of (binder_sort bs n) true q f in
      ap (λ x. x +ℤ plus) (h.times n b.0 b.1 (subst (λ o. is_data_term (alone_sort o) ≡ false) b.1 (shifted_times (binder_sort bs n) q f)))

  same_text : (k : RawTermKind) (q : Place) → kind_faults bs k q ≡ [] → is_data_term (kind_sort bs k) ≡ true → text_value other (data_of (set_kind s k)) ≡ text_value env (data_of k)
  same_text (Int x) q f e = refl
  same_text (Text t) q f e = refl
  same_text (Var n) q f e =
      let b = bound_of (binder_sort bs n) false q f in
      h.texts n b.0 b.1 (subst (λ o. is_data_term (alone_sort o) ≡ true) b.1 e)
  same_text (Shifted n plus) q f e = refl

  pub same_term : (t : RawTerm) → term_faults bs t ≡ [] → term_value env (term_of bs t) ≡ term_value other (term_of cs (set_term s t))
  same_term t f = by_kind (is_data_term (term_sort bs t)) (is_data_term (term_sort cs (set_term s t))) refl (ap is_data_term (same_sort t.kind t.place f))
    where
      by_kind : (c b : Bool) → is_data_term (term_sort bs t) ≡ c → b ≡ is_data_term (term_sort bs t)
          → term_value env (if c then data_term (data_of t.kind) else time_term (time_of t.kind)) ≡ term_value other (if b then data_term (data_of (set_kind s t.kind)) else time_term (time_of (set_kind s t.kind)))
      by_kind true true i e = ap text (sym (same_text t.kind t.place f i))
      by_kind false false i e = ap time (sym (same_time t.kind t.place f i))
      by_kind true false i e = cc
      by_kind false true i e = cc

  pub same_data : (t : RawTerm) → term_faults bs t ≡ [] → is_data_term (term_sort cs (set_term s t)) ≡ is_data_term (term_sort bs t)
  same_data t f = ap is_data_term (same_sort t.kind t.place f)

  pub same_member : (t : RawTerm) (point : RowPoint) → term_faults bs t ≡ [] → time_faults bs t ≡ []
      → Passes env (Member (time_of t.kind) point) ↔ Passes other (Member (time_of (set_kind s t.kind)) point)
  same_member t point f e =
      let k : is_data_term (term_sort bs t) ≡ false = none_if (is_data_term (term_sort bs t)) _ e in
      by_equal (λ x. IsPointMember point.offset point.period x) (time_value env (time_of t.kind)) (time_value other (time_of (set_kind s t.kind))) (sym (same_time t.kind t.place f k))

  pub same_compare : (op : Op) (q : Place) (l r : RawTerm) → IsTimely (raw_compare q l op r) bs → Passes env (compare_of bs l op r) ↔ Passes other (compare_of cs (set_term s l) op (set_term s r))
  same_compare op q l r t = by_kind (are_texts op bs l r) (are_texts op cs (set_term s l) (set_term s r)) refl (ap₂ (λ a b. is_equality op && is_data_term a && is_data_term b) (same_sort l.kind l.place t.0) (same_sort r.kind r.place t.1.0))
    where
      by_kind : (c b : Bool) → are_texts op bs l r ≡ c → b ≡ are_texts op bs l r
          → Passes env (if c then Equal (data_of l.kind) (data_of r.kind) else Compare (time_of l.kind) op (time_of r.kind))
          ↔ Passes other (if b then Equal (data_of (set_kind s l.kind)) (data_of (set_kind s r.kind)) else Compare (time_of (set_kind s l.kind)) op (time_of (set_kind s r.kind)))
      by_kind true true i e =
          let x = read_texts op bs l r i in
          let a = same_text l.kind l.place t.0 x.0 in
          let b = same_text r.kind r.place t.1.0 x.1 in
          ((λ k. a ∙ k ∙ sym b), λ k. sym a ∙ k ∙ b)
      by_kind false false i e =
          let x = read_times op bs q l r t i in
          let a = same_time l.kind l.place t.0 x.0 in
          let b = same_time r.kind r.place t.1.0 x.1 in (
            (λ k. subst (λ v. Compares op v (time_value other (time_of (set_kind s r.kind)))) (sym a) (subst (λ v. Compares op (time_value env (time_of l.kind)) v) (sym b) k)),
            λ k. subst (λ v. Compares op v (time_value env (time_of r.kind))) a (subst (λ v. Compares op (time_value other (time_of (set_kind s l.kind))) v) b k),
          )
      by_kind true false i e = cc
      by_kind false true i e = cc
