-- The formula of the last step holds for exactly the answers.
use Rattle.std.proofs.Common.{◌≡◌, ◌≢◌, ◌↔◌, Bool, true, false, cond, List, [], ◌∷◌, Contains, refl, sym, ap, subst, ◌∙◌, bytes_eq, filter, map, length, ℤ}
use Rattle.std.specs.List.{AllByRecursion, AllZip}
use Rattle.std.specs.Cmp.Lexicographic.{bytes_decides}
use Rattle.lrp_model.specs.Texts.{Text, Identifier, in_order}
use Rattle.lrp_model.specs.Rows.{Datum, time, text, texts_of}
use Rattle.lrp_model.specs.Formulas.{Question, no_forms, form, joined}
use Rattle.lrp_model.specs.Satisfaction.{Structure, Assignment, Satisfies, SatisfiesAll, IsOfSort, IsOfKind, HasShape, HaveDistinctNames, with_value, assign, assignment, structure, IsAnswer}
use Rattle.lrp_model.specs.Core.{column_elements, head_elements, guarded, has_named_sort, is_named}
use Rattle.lrp_model.specs.Domains.{same_sort, domain, constants, all_texts}
use Rattle.lrp_model.specs.Steps.{Steps, formula_at}
use Rattle.lrp_model.specs.Plans.{HasNoNamedSorts}
use Rattle.lrp_plan_laws.proofs.Elements.{formula_made}
use Rattle.lrp_model.specs.declared.relations.Sort.{Sort}
use Rattle.lrp_model.specs.declared.relations.Sort.TheVariants.{Time, Data, Named}
use Rattle.lrp_model.specs.declared.relations.Column.{Column}
use Rattle.lrp_model.specs.declared.relations.Relation.{Relation}
use Rattle.lrp_model.proofs.Logic.{same}
use Rattle.lrp_plan_laws.proofs.Fronts.{closed}
use Rattle.lrp_plan_laws.proofs.CoreLaws.{all_joined, own_name}

is_false : (b : Bool) → (b ≡ true → ⊥) → b ≡ false
is_false true h = absurd (h refl)
is_false false h = refl

pub other_name : (v w : Identifier) → w ≢ v → bytes_eq v w ≡ false
other_name v w n = is_false (bytes_eq v w) (λ e. n (sym ((bytes_decides v w).0 e)))

one_other : (v w : Identifier) (d : Datum) (env : Assignment) → w ≢ v → (with_value v d env).texts w ≡ env.texts w
one_other v w (time x) env n = refl
one_other v w (text t) env n = ap (λ b. cond b t (env.texts w)) (other_name v w n)

-- a variable of no column keeps its text
others : (cs : List Column) (ds : List Datum) (env : Assignment) (w : Identifier) → AllByRecursion (λ c. w ≢ c.name) cs → (assign cs ds env).texts w ≡ env.texts w
others [] [] env w h = refl
others [] (d ∷ ds) env w h = refl
others (c ∷ cs) [] env w h = refl
others (c ∷ cs) (d ∷ ds) env w h = others cs ds (with_value c.name d env) w h.1 ∙ one_other c.name w d env h.0

pub own_text : (v : Identifier) (t : Text) (env : Assignment) → (with_value v (text t) env).texts v ≡ t
own_text v t env = ap (λ b. cond b t (env.texts v)) (own_name v)

-- the sort element of one column
one_element : (M : Structure) (s : Sort) (v : Identifier) (d : Datum) (env : Assignment) → IsOfKind s d → ((t : Text) → d ≡ text t → env.texts v ≡ t) → SatisfiesAll (column_elements s v) M env ↔ IsOfSort M s d
one_element M Time v (time x) env k h = same
one_element M Time v (text t) env k h = absurd k
one_element M Data v (time x) env k h = absurd k
one_element M Data v (text t) env k h = ((λ x. subst (λ u. Contains (M.domain Data) u) (h t refl) x.0), λ c. (subst (λ u. Contains (M.domain Data) u) (sym (h t refl)) c, tt))
one_element M (Named name) v (time x) env k h = absurd k
one_element M (Named name) v (text t) env k h = ((λ x. subst (λ u. Contains (M.domain (Named name)) u) (h t refl) x.0), λ c. (subst (λ u. Contains (M.domain (Named name)) u) (sym (h t refl)) c, tt))

elements_are : (M : Structure) (cs : List Column) (ds : List Datum) (env : Assignment) → HaveDistinctNames cs → HasShape cs ds → SatisfiesAll (head_elements cs) M (assign cs ds env) ↔ AllZip (λ c d. IsOfSort M c.sort d) cs ds
elements_are M [] [] env n k = same
elements_are M [] (d ∷ ds) env n k = absurd k
elements_are M (c ∷ cs) [] env n k = absurd k
elements_are M (c ∷ cs) (d ∷ ds) env n k =
    let last : Assignment = assign cs ds (with_value c.name d env) in
    let j : SatisfiesAll (joined (column_elements c.sort c.name) (head_elements cs)) M last ↔ (SatisfiesAll (column_elements c.sort c.name) M last × SatisfiesAll (head_elements cs) M last) = all_joined M last (column_elements c.sort c.name) (head_elements cs) in
    let o : SatisfiesAll (column_elements c.sort c.name) M last ↔ IsOfSort M c.sort d =
    one_element M c.sort c.name d last k.0 (λ t e. others cs ds (with_value c.name d env) c.name n.0 ∙ ap (λ x. (with_value c.name x env).texts c.name) e ∙ own_text c.name t env) in
    let r : SatisfiesAll (head_elements cs) M last ↔ AllZip (λ c d. IsOfSort M c.sort d) cs ds = elements_are M cs ds (with_value c.name d env) n.1 k.1 in
    ((λ h. let x = j.0 h in (o.0 x.0, r.0 x.1)), λ h. j.1 (o.1 h.0, r.1 h.1))

pub head_named : (db : List Relation) (q : Question) (tuple : List Datum) → HaveDistinctNames q.head → HasShape q.head tuple → Satisfies (guarded true q.head q.body) (structure db q) (assignment q.head tuple) ↔ IsAnswer db q tuple
head_named db q tuple n k =
    let M : Structure = structure db q in
    let env : Assignment = assignment q.head tuple in
    let j : SatisfiesAll (joined (head_elements q.head) (form q.body no_forms)) M env ↔ (SatisfiesAll (head_elements q.head) M env × (Satisfies q.body M env × Unit {0})) = all_joined M env (head_elements q.head) (form q.body no_forms) in
    let e : SatisfiesAll (head_elements q.head) M env ↔ AllZip (λ c d. IsOfSort M c.sort d) q.head tuple = elements_are M q.head tuple _ n k in
    ((λ h. let x = j.0 h in record { fits = e.0 x.0; satisfies = x.1.0 }), λ a. j.1 (e.1 a.fits, (a.satisfies, tt)))

-- where none are named, it holds for exactly the answers among the tuples with a text of its sort in each data column
pub head_plain : (db : List Relation) (q : Question) (tuple : List Datum) → AllZip (λ c d. IsOfSort (structure db q) c.sort d) q.head tuple → Satisfies (guarded false q.head q.body) (structure db q) (assignment q.head tuple) ↔ IsAnswer db q tuple
head_plain db q tuple k = ((λ h. record { fits = k; satisfies = h }), λ a. a.satisfies)

-- ---- with or without named sorts

all_pass : (es : List (Sort × Text)) → AllByRecursion (λ e. e.0 ≡ Data) es → filter (λ e. same_sort e.0 Data) es ≡ es
all_pass [] h = refl
all_pass (e ∷ es) h = ap (λ s. cond (same_sort s Data) (e ∷ filter (λ e. same_sort e.0 Data) es) (filter (λ e. same_sort e.0 Data) es)) h.0 ∙ ap (λ r. e ∷ r) (all_pass es h.1)

pub one_domain : (db : List Relation) (q : Question) → HasNoNamedSorts db q → domain db q Data ≡ constants db q
one_domain db q plain = ap (λ es. in_order (map (λ entry. entry.1) es)) (all_pass (all_texts db q) plain.texts)

fits_plain : (db : List Relation) (q : Question) → HasNoNamedSorts db q → (cs : List Column) (ds : List Datum) → AllByRecursion (λ c. is_named c.sort ≡ false) cs → HasShape cs ds → AllByRecursion (Contains (constants db q)) (texts_of ds) → AllZip (λ c d. IsOfSort (structure db q) c.sort d) cs ds
fits_plain db q plain [] [] n k h = tt
fits_plain db q plain [] (d ∷ ds) n k h = absurd k
fits_plain db q plain (c ∷ cs) [] n k h = absurd k
fits_plain db q plain (c ∷ cs) (time x ∷ ds) n k h = (of_time c.sort x k.0, fits_plain db q plain cs ds n.1 k.1 h)
  where
    of_time : (s : Sort) (x : ℤ) → IsOfKind s (time x) → IsOfSort (structure db q) s (time x)
    of_time Time x k = tt
    of_time Data x k = absurd k
    of_time (Named name) x k = absurd k
fits_plain db q plain (c ∷ cs) (text t ∷ ds) n k h = (of_text c.sort t n.0 k.0 h.0, fits_plain db q plain cs ds n.1 k.1 h.1)
  where
    of_text : (s : Sort) (t : Text) → is_named s ≡ false → IsOfKind s (text t) → Contains (constants db q) t → IsOfSort (structure db q) s (text t)
    of_text Time t n k c = absurd k
    of_text Data t n k c = subst (λ texts. Contains texts t) (sym (one_domain db q plain)) c
    of_text (Named name) t n k c = cc

by_named : (named : Bool) (db : List Relation) (q : Question) (tuple : List Datum) → (named ≡ false → HasNoNamedSorts db q) → HaveDistinctNames q.head → HasShape q.head tuple → AllByRecursion (Contains (constants db q)) (texts_of tuple)
    → Satisfies (guarded named q.head q.body) (structure db q) (assignment q.head tuple) ↔ IsAnswer db q tuple
by_named true db q tuple plain n k h = head_named db q tuple n k
by_named false db q tuple plain n k h = head_plain db q tuple (fits_plain db q (plain refl) q.head tuple (plain refl).head k h)

-- the formula of the last step holds for exactly the answers, among the tuples of the head's shape whose texts are constants
pub last_is : (db : List Relation) (q : Question) (front : Steps) (tuple : List Datum) → (has_named_sort db ≡ false → HasNoNamedSorts db q) → HaveDistinctNames q.head → HasShape q.head tuple → AllByRecursion (Contains (constants db q)) (texts_of tuple)
    → Satisfies (formula_at (closed db q front) (length (closed db q front))) (structure db q) (assignment q.head tuple) ↔ IsAnswer db q tuple
last_is db q front tuple plain n k h =
    subst (λ f. Satisfies f (structure db q) (assignment q.head tuple) ↔ IsAnswer db q tuple) (sym (formula_made (structure db q) _ (guarded (has_named_sort db) q.head q.body) front))
    (by_named (has_named_sort db) db q tuple plain n k h)
