-- The data texts of a query, one term, one binder and one formula more.
use Rattle.std.proofs.Common.{◌≡◌, ◌<◌, ◌≤◌, ◌+◌, ℕ, zero, suc, Bool, true, false, cond, List, [], ◌∷◌, ◌++◌, length, take, get_or, map, Option, Some, None, find, slice_get, option_map, unwrap_or, Result, refl, sym, ap, subst, ◌∙◌, append_assoc, append-nil, arith}
use Rattle.std.specs.Result.{IfOk}
use Rattle.std.specs.Str.{bytes_eq}
use Rattle.std.proofs.lemmas.List.{take_more}
use Rattle.lrp_model.specs.Texts.{Text, Identifier}
use Rattle.lrp_model.specs.Formulas.{Form, Forms, form_of, forms_of, no_forms, form, joined}
use Rattle.lrp_model.specs.Domains.{term_texts, form_texts, forms_texts, sort_beside}
use Rattle.lrp_model.specs.declared.relations.Relation.{Relation}
use Rattle.lrp_model.specs.declared.relations.Column.{Column}
use Rattle.lrp_model.specs.declared.relations.Sort.{Sort}
use Rattle.lrp_model.specs.declared.relations.Sort.TheVariants.{Data}
use Rattle.lrp_model.specs.RawTerms.{said_term}
use Rattle.lrp_model.specs.declared.raw.RawTerm.{RawTerm}
use Rattle.lrp_model.specs.declared.raw.RawFormula.{RawFormula}
use Rattle.lrp_model.proofs.Everywhere.{map_count}
use Rattle.lrp_model.specs.declared.formulas.Term.{Term}
use Rattle.lrp_model.specs.declared.formulas.Term.TheVariants.{Time as time_term, Data as data_term}
use Rattle.lrp_model.specs.declared.formulas.DataTerm.TheVariants.{Var as data_var, Const as data_const}
use Rattle.lrp_model.proofs.Views.{forms_of-append}
use Rattle.lrp_core.specs.Literals.{AddsTexts, one_text, one_in}
use Rattle.lrp_core.proofs.Said.{said_more}

-- ---- terms

pub no_terms : (cs : List Column) → term_texts cs [] ≡ []
no_terms [] = refl
no_terms (c ∷ cs) = refl

term_push : (cs : List Column) (ts : List Term) (t : Term) → term_texts cs (ts ++ t ∷ []) ≡ term_texts cs ts ++ one_in (slice_get cs (length ts)) t
term_push [] ts t = refl
term_push (c ∷ cs) [] (time_term x) = no_terms cs
term_push (c ∷ cs) [] (data_term (data_var v)) = no_terms cs
term_push (c ∷ cs) [] (data_term (data_const x)) = ap (λ ys. (c.sort, x) ∷ ys) (no_terms cs)
term_push (c ∷ cs) (time_term x ∷ ts) t = term_push cs ts t
term_push (c ∷ cs) (data_term (data_var v) ∷ ts) t = term_push cs ts t
term_push (c ∷ cs) (data_term (data_const x) ∷ ts) t = ap (λ ys. (c.sort, x) ∷ ys) (term_push cs ts t)

take_length : {X : Type 0} (xs : List X) (i : ℕ) → i ≤ length xs → length (take i xs) ≡ i
take_length xs zero h = refl
take_length [] (suc i) h = absurd (omega arith)
take_length (x ∷ xs) (suc i) h = ap suc (take_length xs i (omega arith))

pub terms_more : (cs : List Column) (ts : List RawTerm) (i : ℕ) (t : RawTerm) (old mid new : List (Sort × Text)) → i < length ts → t ≡ get_or ts i t → mid ≡ old ++ term_texts cs (map said_term (take i ts)) → new ≡ mid ++ one_in (slice_get cs i) (said_term t) → new ≡ old ++ term_texts cs (map said_term (take (i + 1) ts))
terms_more cs ts i t old mid new lt is h k =
    let before : List Term = map said_term (take i ts) in
    let n : length before ≡ i = map_count said_term (take i ts) ∙ take_length ts i (omega arith) in
    let e : term_texts cs (map said_term (take (i + 1) ts)) ≡ term_texts cs before ++ one_in (slice_get cs i) (said_term t) =
    ap (term_texts cs) (said_more ts i t lt is) ∙ term_push cs before (said_term t) ∙ ap (λ m. term_texts cs before ++ one_in (slice_get cs m) (said_term t)) n in
    k ∙ ap (λ ys. ys ++ one_in (slice_get cs i) (said_term t)) h ∙ append_assoc old (term_texts cs before) (one_in (slice_get cs i) (said_term t)) ∙ ap (λ ys. old ++ ys) (sym e)

-- one more term that is no text
pub still_none : (cs : List Column) (ts : List RawTerm) (i : ℕ) (t : RawTerm) → i < length ts → t ≡ get_or ts i t → ((s : Sort) → one_text s (said_term t) ≡ []) → term_texts cs (map said_term (take i ts)) ≡ [] → term_texts cs (map said_term (take (i + 1) ts)) ≡ []
still_none cs ts i t lt is none before =
    let said : List Term = map said_term (take i ts) in
    ap (term_texts cs) (said_more ts i t lt is) ∙ term_push cs said (said_term t) ∙ ap (λ ys. ys ++ one_in (slice_get cs (length said)) (said_term t)) before ∙ in_none (slice_get cs (length said))
  where
    in_none : (o : Option Column) → one_in o (said_term t) ≡ []
    in_none None = refl
    in_none (Some c) = none c.sort

get_from : {X : Type 0} (xs : List X) (i : ℕ) (x : X) → i < length xs → x ≡ get_or xs i x → slice_get xs i ≡ Some x
get_from [] i x lt e = absurd (omega arith)
get_from (y ∷ xs) zero x lt e = ap Some (sym e)
get_from (y ∷ xs) (suc i) x lt e = get_from xs i x (omega arith) e

pub column_there : (cs : List Column) (i : ℕ) (c : Column) (t : Term) → i < length cs → c ≡ get_or cs i c → one_text (get_or cs i c).sort t ≡ one_in (slice_get cs i) t
column_there cs i c t lt is = ap (λ d. one_text d.sort t) (sym is) ∙ sym (ap (λ o. one_in o t) (get_from cs i c lt is))

none_past : {X : Type 0} (xs : List X) (i : ℕ) → length xs ≤ i → slice_get xs i ≡ None
none_past [] i h = refl
none_past (x ∷ xs) zero h = absurd (omega arith)
none_past (x ∷ xs) (suc i) h = none_past xs i (omega arith)

pub column_past : (cs : List Column) (i : ℕ) (t : Term) (all : List (Sort × Text)) → length cs ≤ i → all ≡ all ++ one_in (slice_get cs i) t
column_past cs i t all h = sym (append-nil all) ∙ ap (λ o. all ++ one_in o t) (sym (none_past cs i h))

-- ---- binders

find_by : (p : Column → Bool) (b : Bool) (y x : Column) (F G : Option Column) → p y ≡ b → cond b (Some y) F ≡ None → (F ≡ None → G ≡ Some x) → cond b (Some y) G ≡ Some x
find_by p true y x F G e h k = cc
find_by p false y x F G e h k = k h

find_at : (p : Column → Bool) (xs : List Column) (i : ℕ) (x : Column) → i < length xs → x ≡ get_or xs i x → find p (take i xs) ≡ None → p x ≡ true → find p xs ≡ Some x
find_at p [] i x lt is n h = absurd (omega arith)
find_at p (y ∷ xs) zero x lt is n h = ap (λ z. cond (p z) (Some z) (find p xs)) (sym is) ∙ ap (λ b. cond b (Some x) (find p xs)) h
find_at p (y ∷ xs) (suc i) x lt is n h = find_by p (p y) y x (find p (take i xs)) (find p xs) refl n (λ k. find_at p xs i x (omega arith) is k h)

none_by : (b : Bool) (y : Column) (F G : Option Column) → cond b (Some y) F ≡ None → (F ≡ None → G ≡ None) → cond b (Some y) G ≡ None
none_by true y F G h k = cc
none_by false y F G h k = k h

none_push : (p : Column → Bool) (xs : List Column) (x : Column) → find p xs ≡ None → p x ≡ false → find p (xs ++ x ∷ []) ≡ None
none_push p [] x n h = ap (λ b. cond b (Some x) None) h
none_push p (y ∷ xs) x n h = none_by (p y) y (find p xs) (find p (xs ++ x ∷ [])) n (λ k. none_push p xs x k h)

pub none_yet : (cs : List Column) (name : Identifier) (i : ℕ) (c : Column) → i < length cs → c ≡ get_or cs i c → find (λ (x : Column). bytes_eq x.name name) (take i cs) ≡ None → bytes_eq c.name name ≡ false → find (λ (x : Column). bytes_eq x.name name) (take (i + 1) cs) ≡ None
none_yet cs name i c lt is n h = ap (find (λ (x : Column). bytes_eq x.name name)) (take_more cs i c lt ∙ ap (λ x. take i cs ++ x ∷ []) (sym is)) ∙ none_push (λ x. bytes_eq x.name name) (take i cs) c n h

pub sort_found : {E : Type 0} (r : Result Sort E) (cs : List Column) (name : Identifier) (i : ℕ) (c : Column) → i < length cs → c ≡ get_or cs i c → find (λ (x : Column). bytes_eq x.name name) (take i cs) ≡ None → bytes_eq c.name name ≡ true → IfOk r (λ s. s ≡ c.sort) → IfOk r (λ s. s ≡ sort_beside cs (data_var name))
sort_found r cs name i c lt is n h k = subst (λ o. IfOk r (λ s. s ≡ unwrap_or (option_map (λ (x : Column). x.sort) o) Data)) (sym (find_at (λ x. bytes_eq x.name name) cs i c lt is n h)) k

-- ---- formulas

forms_push : (fs : Forms) (f : Form) (db : List Relation) (bs : List Column) → forms_texts (joined fs (form f no_forms)) db bs ≡ forms_texts fs db bs ++ form_texts f db bs
forms_push no_forms f db bs = append-nil (form_texts f db bs)
forms_push (form g fs) f db bs = ap (λ ys. form_texts g db bs ++ ys) (forms_push fs f db bs) ∙ sym (append_assoc (form_texts g db bs) (forms_texts fs db bs) (form_texts f db bs))

pub texts_more : (db : List Relation) (fs : List RawFormula) (i : ℕ) (f : RawFormula) (bs cs ds : List Column) (old mid new : List (Sort × Text)) → i < length fs → f ≡ get_or fs i f → AddsTexts (forms_texts (forms_of (take i fs)) db bs) bs cs old mid → AddsTexts (form_texts (form_of f) db cs) cs ds mid new
    → AddsTexts (forms_texts (forms_of (take (i + 1) fs)) db bs) bs ds old new
texts_more db fs i f bs cs ds old mid new lt is h k =
    let e : forms_texts (forms_of (take (i + 1) fs)) db bs ≡ forms_texts (forms_of (take i fs)) db bs ++ form_texts (form_of f) db bs =
    ap (λ gs. forms_texts gs db bs) (ap forms_of (take_more fs i f lt ∙ ap (λ x. take i fs ++ x ∷ []) (sym is)) ∙ forms_of-append (take i fs) (f ∷ [])) ∙ forms_push (forms_of (take i fs)) (form_of f) db bs in
    record {
      same = k.same ∙ h.same;
      more = k.more ∙ ap (λ xs. mid ++ form_texts (form_of f) db xs) h.same ∙ ap (λ ys. ys ++ form_texts (form_of f) db bs) h.more ∙ append_assoc old (forms_texts (forms_of (take i fs)) db bs) (form_texts (form_of f) db bs) ∙ ap (λ ys. old ++ ys) (sym e);
    }
