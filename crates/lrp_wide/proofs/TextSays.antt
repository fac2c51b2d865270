-- When a data text stands in a formula with a sort, and in one whose names bring texts of their own.
use Rattle.std.proofs.Common.{◌≡◌, ◌↔◌, ◌⊎◌, inl, inr, ⊎_elim, Bool, true, false, List, [], ◌∷◌, ◌++◌, Option, Some, None, map, refl, sym, ap, ap₂, subst, ◌∙◌, if◌then◌else◌}
use Rattle.std.specs.Prelude.{◌&&◌, unwrap_or}
use Rattle.lrp_model.specs.Texts.{Text, Identifier}
use Rattle.lrp_model.specs.DatabaseMeaning.{column_of}
use Rattle.lrp_model.specs.RawTerms.{time_of, data_of, term_by, is_equality}
use Rattle.lrp_model.specs.Checked.{term_of, compare_of}
use Rattle.lrp_model.specs.Domains.{term_texts, test_texts, text_beside, sort_beside}
use Rattle.lrp_model.specs.Sorting.{Binders, binder_sort, alone_sort, shifted_sort, kind_sort, is_data_term}
use Rattle.lrp_model.specs.RawQueries.{RawForm, RawForms, raw_atom, raw_compare, raw_member, raw_not, raw_and, raw_or, raw_implies, raw_group, raw_exists, raw_forall, raw_ranged, raw_paired, no_raws, raw}
use Rattle.lrp_model.specs.declared.relations.Sort.{Sort}
use Rattle.lrp_model.specs.declared.relations.Sort.TheVariants.{Data}
use Rattle.lrp_model.specs.declared.relations.Column.{Column}
use Rattle.lrp_model.specs.declared.formulas.Op.{Op}
use Rattle.lrp_model.specs.declared.formulas.DataTerm.{DataTerm}
use Rattle.lrp_model.specs.declared.formulas.Test.TheVariants.{Compare, Equal}
use Rattle.lrp_model.specs.declared.raw.RawTerm.{RawTerm}
use Rattle.lrp_model.specs.declared.raw.RawTermKind.{RawTermKind}
use Rattle.lrp_model.specs.declared.raw.RawTermKind.TheVariants.{Int, Text as text_kind, Var, Shifted}
use Rattle.lrp_tense.proofs.HeadNames.{sort_among}
use Rattle.lrp_tense.specs.Meaning.{operator_variable}
use Rattle.lrp_wide.specs.Meaning.{Signature, own_texts, own_texts_each, atom_names, atom_names_each}

-- ---- lists

-- it is one of the list
abbrev pub Among : {A : Type 0} → A → List A → Type 0
Among x [] = ⊥
Among x (y ∷ ys) = (y ≡ x) ⊎ Among x ys

-- one of the list has the property
abbrev pub AnyOf : {A : Type 0} → (A → Type 0) → List A → Type 0
AnyOf B [] = ⊥
AnyOf B (n ∷ ns) = B n ⊎ AnyOf B ns

-- ---- the one or the other

pub either : {P Q R S : Type 0} → P ↔ R → Q ↔ S → (P ⊎ Q) ↔ (R ⊎ S)
either a b = ((λ h. ⊎_elim (λ x. inl (a.0 x)) (λ y. inr (b.0 y)) h), λ h. ⊎_elim (λ x. inl (a.1 x)) (λ y. inr (b.1 y)) h)

pub swapped : {P Q : Type 0} → (P ⊎ Q) ↔ (Q ⊎ P)
swapped = ((λ h. ⊎_elim (λ x. inr x) (λ y. inl y) h), λ h. ⊎_elim (λ x. inr x) (λ y. inl y) h)

pub no_second : {P Q : Type 0} → (Q → ⊥) → (P ⊎ Q) ↔ P
no_second n = ((λ h. ⊎_elim (λ x. x) (λ y. absurd (n y)) h), λ x. inl x)

pub no_first : {P Q : Type 0} → (P → ⊥) → (P ⊎ Q) ↔ Q
no_first n = ((λ h. ⊎_elim (λ x. absurd (n x)) (λ y. y) h), λ y. inr y)

pub regroup : {P Q R : Type 0} → ((P ⊎ Q) ⊎ R) ↔ (P ⊎ (Q ⊎ R))
regroup = (
  (λ h. ⊎_elim (λ x. ⊎_elim (λ p. inl p) (λ q. inr (inl q)) x) (λ r. inr (inr r)) h),
  λ h. ⊎_elim (λ p. inl (inl p)) (λ y. ⊎_elim (λ q. inl (inr q)) (λ r. inr r) y) h,
)

-- four in two pairs
pub crosswise : {P Q R S : Type 0} → ((P ⊎ Q) ⊎ (R ⊎ S)) ↔ ((P ⊎ R) ⊎ (Q ⊎ S))
crosswise = (
  (λ h. ⊎_elim (λ x. ⊎_elim (λ p. inl (inl p)) (λ q. inr (inl q)) x) (λ y. ⊎_elim (λ r. inl (inr r)) (λ s. inr (inr s)) y) h),
  λ h. ⊎_elim (λ x. ⊎_elim (λ p. inl (inl p)) (λ r. inr (inl r)) x) (λ y. ⊎_elim (λ q. inl (inr q)) (λ s. inr (inr s)) y) h,
)

pub same_iff : {P : Type 0} → P ↔ P
same_iff = ((λ x. x), λ x. x)

pub by_list : {A : Type 0} (x : A) (xs ys : List A) → xs ≡ ys → Among x xs ↔ Among x ys
by_list x xs ys e = ((λ h. subst (Among x) e h), λ h. subst (Among x) (sym e) h)

pub iff_then : {P Q R : Type 0} → P ↔ Q → Q ↔ R → P ↔ R
iff_then a b = ((λ x. b.0 (a.0 x)), λ x. a.1 (b.1 x))

pub turned_iff : {P Q : Type 0} → P ↔ Q → Q ↔ P
turned_iff a = (a.1, a.0)

pub among_both : {A : Type 0} (x : A) (xs ys : List A) → Among x (xs ++ ys) ↔ (Among x xs ⊎ Among x ys)
among_both x [] ys = turned_iff (no_first (λ n. n))
among_both x (y ∷ xs) ys = iff_then (either same_iff (among_both x xs ys)) (turned_iff regroup)

pub any_both : {A : Type 0} (B : A → Type 0) (xs ys : List A) → AnyOf B (xs ++ ys) ↔ (AnyOf B xs ⊎ AnyOf B ys)
any_both B [] ys = turned_iff (no_first (λ n. n))
any_both B (y ∷ xs) ys = iff_then (either same_iff (any_both B xs ys)) (turned_iff regroup)

-- ---- terms of an atom

-- a text among an atom's terms, with its column's sort
abbrev pub text_in : Sort → RawTermKind → List (Sort × Text) → List (Sort × Text)
text_in s (Int x) rest = rest
text_in s (text_kind t) rest = (s, t) ∷ rest
text_in s (Var v) rest = rest
text_in s (Shifted v plus) rest = rest

abbrev pub argument_texts : List Column → List RawTerm → List (Sort × Text)
argument_texts (c ∷ cs) (t ∷ ts) = text_in c.sort t.kind (argument_texts cs ts)
argument_texts _ _ = []

pub shifted_is_time : (o : Option Sort) → is_data_term (shifted_sort o) ≡ false
shifted_is_time None = refl
shifted_is_time (Some s) = refl

-- they are the texts of the terms, whatever the binders
pub terms_say : (cs : List Column) (ts : List RawTerm) (bs : Binders) → term_texts cs (map (term_of bs) ts) ≡ argument_texts cs ts
terms_say [] ts bs = refl
terms_say (c ∷ cs) [] bs = refl
terms_say (c ∷ cs) (t ∷ ts) bs = by t.kind (terms_say cs ts bs)
  where
    alone : (b : Bool) (v : Identifier) → term_texts (c ∷ cs) (term_by b (Var v) ∷ map (term_of bs) ts) ≡ term_texts cs (map (term_of bs) ts)
    alone true v = refl
    alone false v = refl

    by : (k : RawTermKind) → term_texts cs (map (term_of bs) ts) ≡ argument_texts cs ts → term_texts (c ∷ cs) (term_by (is_data_term (kind_sort bs k)) k ∷ map (term_of bs) ts) ≡ text_in c.sort k (argument_texts cs ts)
    by (Int x) r = r
    by (text_kind u) r = ap (λ l. (c.sort, u) ∷ l) r
    by (Var v) r = alone (is_data_term (alone_sort (binder_sort bs v))) v ∙ r
    by (Shifted v plus) r = ap (λ b. term_texts (c ∷ cs) (term_by b (Shifted v plus) ∷ map (term_of bs) ts)) (shifted_is_time (binder_sort bs v)) ∙ r

-- ---- formulas

-- x is one of the texts of the formula, by the columns of its names, or one of its names brings it
module _ (x : Sort × Text) (S : Signature) (B : Identifier → Type 0) where
  abbrev mutual
    pub Says : RawForm → Binders → Type 0
    Says (raw_atom p n ts) bs = Among x (argument_texts (S n) ts) ⊎ B n
    Says (raw_compare p l op r) bs = Among x (test_texts (map column_of bs) (compare_of bs l op r))
    Says (raw_member p t point) bs = ⊥
    Says (raw_not p f) bs = Says f bs
    Says (raw_and p fs) bs = SaysOne fs bs
    Says (raw_or p fs) bs = SaysOne fs bs
    Says (raw_implies p f g) bs = Says f bs ⊎ Says g bs
    Says (raw_group p f) bs = Says f bs
    Says (raw_exists p c f) bs = Says f (c ∷ bs)
    Says (raw_forall p c f) bs = Says f (c ∷ bs)
    Says (raw_ranged word o from to f) bs = Says f (operator_variable o ∷ bs)
    Says (raw_paired word o f g) bs = Says f (operator_variable o ∷ bs) ⊎ Says g (operator_variable o ∷ bs)

    pub SaysOne : RawForms → Binders → Type 0
    SaysOne no_raws bs = ⊥
    SaysOne (raw f fs) bs = Says f bs ⊎ SaysOne fs bs

  -- so it is one of the formula's own texts, or one of its names brings it
  both_said : (xs ys : List (Sort × Text)) (ms ns : List Identifier) (P Q : Type 0) → P ↔ (Among x xs ⊎ AnyOf B ms) → Q ↔ (Among x ys ⊎ AnyOf B ns) → (P ⊎ Q) ↔ (Among x (xs ++ ys) ⊎ AnyOf B (ms ++ ns))
  both_said xs ys ms ns P Q a b = iff_then (either a b) (iff_then crosswise (either (turned_iff (among_both x xs ys)) (turned_iff (any_both B ms ns))))

  alone_said : (xs : List (Sort × Text)) → Among x xs ↔ (Among x xs ⊎ AnyOf B [])
  alone_said xs = turned_iff (no_second (λ n. n))

  mutual
    pub own_said : (f : RawForm) (bs : Binders) → Says f bs ↔ (Among x (own_texts f S bs) ⊎ AnyOf B (atom_names f))
    own_said (raw_atom p n ts) bs = either (by_list x (argument_texts (S n) ts) (term_texts (S n) (map (term_of bs) ts)) (sym (terms_say (S n) ts bs))) (turned_iff (no_second (λ e. e)))
    own_said (raw_compare p l op r) bs = alone_said (test_texts (map column_of bs) (compare_of bs l op r))
    own_said (raw_member p t point) bs = alone_said []
    own_said (raw_not p f) bs = own_said f bs
    own_said (raw_and p fs) bs = own_said_each fs bs
    own_said (raw_or p fs) bs = own_said_each fs bs
    own_said (raw_implies p f g) bs = both_said (own_texts f S bs) (own_texts g S bs) (atom_names f) (atom_names g) _ _ (own_said f bs) (own_said g bs)
    own_said (raw_group p f) bs = own_said f bs
    own_said (raw_exists p c f) bs = own_said f (c ∷ bs)
    own_said (raw_forall p c f) bs = own_said f (c ∷ bs)
    own_said (raw_ranged word o from to f) bs = own_said f (operator_variable o ∷ bs)
    own_said (raw_paired word o f g) bs =
        let is : Binders = operator_variable o ∷ bs in
        both_said (own_texts f S is) (own_texts g S is) (atom_names f) (atom_names g) _ _ (own_said f is) (own_said g is)

    own_said_each : (fs : RawForms) (bs : Binders) → SaysOne fs bs ↔ (Among x (own_texts_each fs S bs) ⊎ AnyOf B (atom_names_each fs))
    own_said_each no_raws bs = alone_said []
    own_said_each (raw f fs) bs = both_said (own_texts f S bs) (own_texts_each fs S bs) (atom_names f) (atom_names_each fs) _ _ (own_said f bs) (own_said_each fs bs)

-- ---- comparisons

-- the texts on both sides, where both are data terms
abbrev pub shown : Bool → List Column → DataTerm → DataTerm → List (Sort × Text)
shown true cs a b = text_beside cs b a ++ text_beside cs a b
shown false cs a b = []

abbrev pub are_data : Binders → RawTermKind → Op → RawTermKind → Bool
are_data bs k op j = is_equality op && is_data_term (kind_sort bs k) && is_data_term (kind_sort bs j)

pub shown_is : (b : Bool) (cs : List Column) (k j : RawTermKind) (op : Op) → test_texts cs (if b then Equal (data_of k) (data_of j) else Compare (time_of k) op (time_of j)) ≡ shown b cs (data_of k) (data_of j)
shown_is true cs k j op = refl
shown_is false cs k j op = refl

pub compare_shown : (bs : Binders) (l : RawTerm) (op : Op) (r : RawTerm) → test_texts (map column_of bs) (compare_of bs l op r) ≡ shown (are_data bs l.kind op r.kind) (map column_of bs) (data_of l.kind) (data_of r.kind)
compare_shown bs l op r = shown_is (are_data bs l.kind op r.kind) (map column_of bs) l.kind r.kind op

-- a term with another name
abbrev pub put_name : (Identifier → Identifier) → RawTermKind → RawTermKind
put_name name (Int x) = Int x
put_name name (text_kind t) = text_kind t
put_name name (Var v) = Var (name v)
put_name name (Shifted v plus) = Shifted (name v) plus

-- its variable has the same sort by both names
abbrev pub SameSort : (Identifier → Identifier) → Binders → Binders → RawTermKind → Type 0
SameSort name bs cs (Int x) = Unit {0}
SameSort name bs cs (text_kind t) = Unit {0}
SameSort name bs cs (Var v) = binder_sort cs (name v) ≡ binder_sort bs v
SameSort name bs cs (Shifted v plus) = binder_sort cs (name v) ≡ binder_sort bs v

module _ (name : Identifier → Identifier) (bs cs : Binders) where
  same_kind_sort : (k : RawTermKind) → SameSort name bs cs k → kind_sort cs (put_name name k) ≡ kind_sort bs k
  same_kind_sort (Int x) e = refl
  same_kind_sort (text_kind t) e = refl
  same_kind_sort (Var v) e = ap alone_sort e
  same_kind_sort (Shifted v plus) e = ap shifted_sort e

  same_beside : (k : RawTermKind) → SameSort name bs cs k → sort_beside (map column_of cs) (data_of (put_name name k)) ≡ sort_beside (map column_of bs) (data_of k)
  same_beside (Int x) e = refl
  same_beside (text_kind t) e = refl
  same_beside (Var v) e = ap (λ o. unwrap_or o Data) (sort_among cs (name v) ∙ e ∙ sym (sort_among bs v))
  same_beside (Shifted v plus) e = refl

  same_text : (k j : RawTermKind) → SameSort name bs cs j → text_beside (map column_of cs) (data_of (put_name name j)) (data_of (put_name name k)) ≡ text_beside (map column_of bs) (data_of j) (data_of k)
  same_text (Int x) j e = ap (λ s. (s, []) ∷ []) (same_beside j e)
  same_text (text_kind t) j e = ap (λ s. (s, t) ∷ []) (same_beside j e)
  same_text (Var v) j e = refl
  same_text (Shifted v plus) j e = ap (λ s. (s, []) ∷ []) (same_beside j e)

  both_shown : (b : Bool) (k j : RawTermKind) → SameSort name bs cs k → SameSort name bs cs j
      → shown b (map column_of cs) (data_of (put_name name k)) (data_of (put_name name j)) ≡ shown b (map column_of bs) (data_of k) (data_of j)
  both_shown true k j e f = ap₂ (λ xs ys. xs ++ ys) (same_text k j f) (same_text j k e)
  both_shown false k j e f = refl

  -- a comparison says the same texts by the other names
  pub same_compare : (l : RawTerm) (op : Op) (r m n : RawTerm) → m.kind ≡ put_name name l.kind → n.kind ≡ put_name name r.kind → SameSort name bs cs l.kind → SameSort name bs cs r.kind
      → test_texts (map column_of cs) (compare_of cs m op n) ≡ test_texts (map column_of bs) (compare_of bs l op r)
  same_compare l op r m n i j e f =
      compare_shown cs m op n
      ∙ ap₂ (λ a b. shown (are_data cs a op b) (map column_of cs) (data_of a) (data_of b)) i j
      ∙ ap₂ (λ a b. shown (is_equality op && is_data_term a && is_data_term b) (map column_of cs) (data_of (put_name name l.kind)) (data_of (put_name name r.kind))) (same_kind_sort l.kind e) (same_kind_sort r.kind f)
      ∙ both_shown (are_data bs l.kind op r.kind) l.kind r.kind e f
      ∙ sym (compare_shown bs l op r)
