-- Texts in which nothing is written out but uses of definitions stay as they are.
use Rattle.std.proofs.Common.{◌≡◌, ◌+◌, ◌<◌, ℕ, zero, suc, cond, List, [], ◌∷◌, map, length, take, get_or, refl, ap, ap₂, subst, sym, ◌∙◌, arith}
use Rattle.std.specs.List.{AllByRecursion}
use Rattle.lrp_model.specs.RawQueries.{HasNoOperator, HaveNoOperator, RawForm, RawForms, RawQuestion, raw_form_of, raw_forms_of, raw_atom, raw_compare, raw_member, raw_not, raw_and, raw_or, raw_implies, raw_group, raw_exists, raw_forall, raw_ranged, raw_paired, no_raws, raw}
use Rattle.lrp_model.specs.Rows.{columns_in, relation_named}
use Rattle.lrp_model.specs.declared.raw.RawColumn.{RawColumn}
use Rattle.lrp_model.specs.declared.raw.RawFormula.{RawFormula}
use Rattle.lrp_model.specs.declared.raw.RawTerm.{RawTerm}
use Rattle.lrp_model.specs.declared.raw.RawTermKind.{RawTermKind}
use Rattle.lrp_model.specs.declared.raw.RawTermKind.TheVariants.{Int, Text, Var, Shifted}
use Rattle.lrp_model.specs.declared.relations.Column.{Column}
use Rattle.lrp_model.specs.declared.relations.Relation.{Relation}
use Rattle.lrp_model.specs.declared.tokens.Place.{Place}
use Rattle.lrp_tense.specs.Expanding.{name_term}
use Rattle.lrp_wide.specs.Inlining.{UseSetting, column_added, inlined, inlined_atom, inlined_each, own_setting, set_kind, set_term, some_each, star_columns, star_terms, star_total, star_variable}
use Rattle.lrp_wide.specs.Narrow.{AreUnstarred, AreStarredBy, HasNoStar, IsUnstarred}
use Rattle.lrp_wide.specs.WideSorting.{starred_plain}
use Rattle.lrp_wide.proofs.InlineAtoms.{none_left}

-- ---- atoms without a `*`

pub no_total : (cs : List Column) (ts : List RawTerm) → AllByRecursion HasNoStar ts → star_total cs ts ≡ 0
no_total [] ts h = refl
no_total (c ∷ cs) [] h = refl
no_total (c ∷ cs) (t ∷ ts) h = ap (λ b. cond b (suc (star_total cs ts)) (star_total cs ts)) h.0 ∙ no_total cs ts h.1

pub no_columns : (p : Place) (k : ℕ) (cs : List Column) (ts : List RawTerm) → AllByRecursion HasNoStar ts → star_columns p k cs ts ≡ []
no_columns p k [] ts h = refl
no_columns p k (c ∷ cs) [] h = refl
no_columns p k (c ∷ cs) (t ∷ ts) h = ap (λ b. cond b (column_added p (star_variable k) c.sort ∷ star_columns p (suc k) cs ts) (star_columns p k cs ts)) h.0 ∙ no_columns p k cs ts h.1

pub no_terms : (s : UseSetting) (p : Place) (k : ℕ) (cs : List Column) (ts : List RawTerm) → AllByRecursion HasNoStar ts → star_terms s p k cs ts ≡ map (set_term s) ts
no_terms s p k [] ts h = refl
no_terms s p k (c ∷ cs) [] h = refl
no_terms s p k (c ∷ cs) (t ∷ ts) h =
    ap (λ b. cond b (name_term p (star_variable k) ∷ star_terms s p (suc k) cs ts) (set_term s t ∷ star_terms s p k cs ts)) h.0 ∙ ap (λ l. set_term s t ∷ l) (no_terms s p k cs ts h.1)

-- no columns say the same of it as its own
pub starred_by_none : (ts : List RawTerm) (cs : List Column) → AllByRecursion HasNoStar ts → AreStarredBy ts cs []
starred_by_none ts cs h = record {
  columns = λ p k. sym (no_columns p k cs ts h);
  terms = λ s p k. sym (no_terms s p k cs ts h);
}

pub starred_by_own : (ts : List RawTerm) (cs made : List Column) → made ≡ cs → AreStarredBy ts cs made
starred_by_own ts cs made e = record {
  columns = λ p k. ap (λ l. star_columns p k l ts) e;
  terms = λ s p k. ap (λ l. star_terms s p k l ts) e;
}

-- ---- the query's own text

module _ (db : List Relation) (number : Place → ℕ) where
  abbrev own : UseSetting
  own = own_setting number

  own_kind : (k : RawTermKind) → set_kind own k ≡ k
  own_kind (Int x) = refl
  own_kind (Text t) = refl
  own_kind (Var v) = refl
  own_kind (Shifted v plus) = refl

  pub own_term : (t : RawTerm) → set_term own t ≡ t
  own_term t = ap (λ k. record { kind = k; place = t.place }) (own_kind t.kind)

  own_terms : (ts : List RawTerm) → map (set_term own) ts ≡ ts
  own_terms [] = refl
  own_terms (t ∷ ts) = ap₂ (λ x xs. x ∷ xs) (own_term t) (own_terms ts)

  mutual
    narrow_own : (f : RawForm) → IsUnstarred f → inlined db [] f own ≡ f
    narrow_own (raw_atom p n ts) h =
        let cs : List Column = columns_in (relation_named db n) in
        ap (inlined_atom own p (number p) n cs ts) (none_left (relation_named db n))
        ∙ ap₂ (λ x y. some_each p x (raw_atom p n y)) (no_columns p (number p) cs ts h) (no_terms own p (number p) cs ts h ∙ own_terms ts)
    narrow_own (raw_compare p l op r) h = ap₂ (λ x y. raw_compare p x op y) (own_term l) (own_term r)
    narrow_own (raw_member p t point) h = ap (λ x. raw_member p x point) (own_term t)
    narrow_own (raw_not p f) h = ap (raw_not p) (narrow_own f h)
    narrow_own (raw_and p fs) h = ap (raw_and p) (narrow_each fs h)
    narrow_own (raw_or p fs) h = ap (raw_or p) (narrow_each fs h)
    narrow_own (raw_implies p f g) h = ap₂ (raw_implies p) (narrow_own f h.0) (narrow_own g h.1)
    narrow_own (raw_group p f) h = ap (raw_group p) (narrow_own f h)
    narrow_own (raw_exists p c f) h = ap (raw_exists p c) (narrow_own f h)
    narrow_own (raw_forall p c f) h = ap (raw_forall p c) (narrow_own f h)
    narrow_own (raw_ranged word o from to f) h = absurd h
    narrow_own (raw_paired word o f g) h = absurd h

    narrow_each : (fs : RawForms) → AreUnstarred fs → inlined_each db [] fs own ≡ fs
    narrow_each no_raws h = refl
    narrow_each (raw f fs) h = ap₂ raw (narrow_own f h.0) (narrow_each fs h.1)

-- a text as a query in which nothing is a `*`
pub narrow_starred : (db : List Relation) (q : RawQuestion) → IsUnstarred q.body → starred_plain db q ≡ q
narrow_starred db q h = ap (λ f. record { head = q.head; body = f }) (narrow_own db (λ p. 1) q.body h)

-- ---- one more

-- what holds of the elements so far, and of one more
pub all_more : {X : Type 0} (P : X → Type 0) (xs : List X) (i : ℕ) (x : X) → i < length xs → x ≡ get_or xs i x → AllByRecursion P (take i xs) → P x → AllByRecursion P (take (i + 1) xs)
all_more P [] i x lt e h one = absurd (omega (arith, lt))
all_more P (y ∷ xs) zero x lt e h one = (subst P e one, tt)
all_more P (y ∷ xs) (suc i) x lt e h one =
    let n : suc (i + 1) ≡ suc i + 1 = omega arith in
    subst (λ k. AllByRecursion P (take k (y ∷ xs))) n (h.0, all_more P xs i x (omega (arith, lt)) e h.1 one)

pub narrow_more : (fs : List RawFormula) (i : ℕ) (f : RawFormula) → i < length fs → f ≡ get_or fs i f → AreUnstarred (raw_forms_of (take i fs)) → IsUnstarred (raw_form_of f) → AreUnstarred (raw_forms_of (take (i + 1) fs))
narrow_more [] i f lt e h one = absurd (omega (arith, lt))
narrow_more (x ∷ fs) zero f lt e h one = (subst (λ y. IsUnstarred (raw_form_of y)) e one, tt)
narrow_more (x ∷ fs) (suc i) f lt e h one =
    let n : suc (i + 1) ≡ suc i + 1 = omega arith in
    subst (λ k. AreUnstarred (raw_forms_of (take k (x ∷ fs)))) n (h.0, narrow_more fs i f (omega (arith, lt)) e h.1 one)

pub plain_more : (fs : List RawFormula) (i : ℕ) (f : RawFormula) → i < length fs → f ≡ get_or fs i f → HaveNoOperator (raw_forms_of (take i fs)) → HasNoOperator (raw_form_of f) → HaveNoOperator (raw_forms_of (take (i + 1) fs))
plain_more [] i f lt e h one = absurd (omega (arith, lt))
plain_more (x ∷ fs) zero f lt e h one = (subst (λ y. HasNoOperator (raw_form_of y)) e one, tt)
plain_more (x ∷ fs) (suc i) f lt e h one =
    let n : suc (i + 1) ≡ suc i + 1 = omega arith in
    subst (λ k. HaveNoOperator (raw_forms_of (take k (x ∷ fs)))) n (h.0, plain_more fs i f (omega (arith, lt)) e h.1 one)
