-- Variables by the names of columns: those of tables, atoms, tests and heads.
use Rattle.std.proofs.Common.{◌≡◌, ◌↔◌, ◌⊎◌, ◌||◌, inl, inr, ⊎_elim, Bool, true, false, cond, not, List, [], ◌∷◌, ◌++◌, Contains, refl, sym, ap, subst, map, filter, bytes_eq}
use Rattle.std.specs.Prelude.{flat_map}
use Rattle.std.specs.List.{AllByRecursion, list_any}
use Rattle.std.specs.Cmp.Lexicographic.{bytes_decides}
use Rattle.lrp_model.specs.Texts.{Text, Identifier, without as other_names}
use Rattle.lrp_model.specs.Variables.{Variable, time_variable, data_variable, bound_by, variables_of_time, variables_of_data, variables_of_term, variables_of_test, head_variables, free, same_variable}
use Rattle.lrp_model.specs.Satisfaction.{Assignment}
use Rattle.lrp_model.specs.Formulas.{atom}
use Rattle.lrp_model.specs.declared.relations.Sort.{Sort}
use Rattle.lrp_model.specs.declared.relations.Sort.TheVariants.{Time, Data, Named}
use Rattle.lrp_model.specs.declared.relations.Column.{Column}
use Rattle.lrp_model.specs.declared.formulas.TimeTerm.{TimeTerm}
use Rattle.lrp_model.specs.declared.formulas.TimeTerm.TheVariants.{Var as time_var, Int as time_int}
use Rattle.lrp_model.specs.declared.formulas.DataTerm.{DataTerm}
use Rattle.lrp_model.specs.declared.formulas.DataTerm.TheVariants.{Var as data_var, Const as data_const}
use Rattle.lrp_model.specs.declared.formulas.Term.{Term}
use Rattle.lrp_model.specs.declared.formulas.Term.TheVariants.{Time as time_term, Data as data_term}
use Rattle.lrp_model.specs.declared.formulas.Test.{Test}
use Rattle.lrp_model.specs.declared.formulas.Test.TheVariants.{Compare, Member, Equal}
use Rattle.lrp_model.proofs.Decided.{cons_cases, contains_first, contains_later, contains_none}
use Rattle.lrp_tables.specs.Columns.{joint, names_of_time, names_of_data, times_of_term, texts_of_term, scan_times, scan_texts, times_of_test, texts_of_test, test_times, test_names, with_time_name, text_name, head_times, head_texts}
use Rattle.lrp_tables.specs.Tables.{named_variables, HasTexts}
use Rattle.lrp_eval.specs.Running.{HasConstants, SameVariables}
use Rattle.lrp_eval.proofs.Denotes.{in_filter, of_filter, others}
use Rattle.lrp_plan_laws.proofs.Members.{all_by, in_left, in_one, in_right}
use Rattle.lrp_theory.proofs.Members.{in_map}

-- ---- lists

pub all_of : {X : Type 0} (p : X → Type 0) (xs : List X) (x : X) → AllByRecursion p xs → Contains xs x → p x
all_of p [] x h c = absurd (contains_none x c)
all_of p (y ∷ ys) x h c = ⊎_elim (λ e. subst p e h.0) (λ d. all_of p ys x h.1 d) (cons_cases y x ys c)

-- ---- names and variables

time_back : (ns : List Identifier) (v : Identifier) → Contains (map time_variable ns) (time_variable v) → Contains ns v
time_back [] v c = absurd (contains_none _ c)
time_back (n ∷ ns) v c = ⊎_elim (λ e. let s : n ≡ v = cc in subst (λ z. Contains (n ∷ ns) z) s (contains_first n ns)) (λ d. contains_later n v ns (time_back ns v d)) (cons_cases (time_variable n) (time_variable v) (map time_variable ns) c)

data_back : (ns : List Identifier) (v : Identifier) → Contains (map data_variable ns) (data_variable v) → Contains ns v
data_back [] v c = absurd (contains_none _ c)
data_back (n ∷ ns) v c = ⊎_elim (λ e. let s : n ≡ v = cc in subst (λ z. Contains (n ∷ ns) z) s (contains_first n ns)) (λ d. contains_later n v ns (data_back ns v d)) (cons_cases (data_variable n) (data_variable v) (map data_variable ns) c)

no_time : (ns : List Identifier) (v : Identifier) → Contains (map time_variable ns) (data_variable v) → ⊥
no_time [] v c = contains_none _ c
no_time (n ∷ ns) v c = ⊎_elim (λ e. cc) (λ d. no_time ns v d) (cons_cases (time_variable n) (data_variable v) (map time_variable ns) c)

no_data : (ns : List Identifier) (v : Identifier) → Contains (map data_variable ns) (time_variable v) → ⊥
no_data [] v c = contains_none _ c
no_data (n ∷ ns) v c = ⊎_elim (λ e. cc) (λ d. no_data ns v d) (cons_cases (data_variable n) (time_variable v) (map data_variable ns) c)

pub time_named : (times texts : List Identifier) (v : Identifier) → Contains (named_variables times texts) (time_variable v) ↔ Contains times v
time_named times texts v = (
  (λ c. ⊎_elim (λ l. time_back times v l) (λ r. absurd (no_data texts v r)) (in_one (map time_variable times) (map data_variable texts) (time_variable v) c)),
  λ c. in_left (map time_variable times) (map data_variable texts) (time_variable v) (in_map time_variable times v c),
)

pub data_named : (times texts : List Identifier) (v : Identifier) → Contains (named_variables times texts) (data_variable v) ↔ Contains texts v
data_named times texts v = (
  (λ c. ⊎_elim (λ l. absurd (no_time times v l)) (λ r. data_back texts v r) (in_one (map time_variable times) (map data_variable texts) (data_variable v) c)),
  λ c. in_right (map time_variable times) (map data_variable texts) (data_variable v) (in_map data_variable texts v c),
)

-- texts of the domain, by names and by variables
pub texts_are : (domain : List Text) (times texts : List Identifier) (env : Assignment) → HasTexts domain texts env → HasConstants domain (named_variables times texts) env
texts_are domain times texts env h v c = all_of (λ n. Contains domain (env.texts n)) texts v h ((data_named times texts v).0 c)

pub are_texts : (domain : List Text) (times texts : List Identifier) (env : Assignment) → HasConstants domain (named_variables times texts) env → HasTexts domain texts env
are_texts domain times texts env h = all_by (λ n. Contains domain (env.texts n)) texts (λ v c. h v ((data_named times texts v).1 c))

-- the same variables, by kind
pub same_by_kind : (vs ws : List Variable) → ((v : Identifier) → Contains vs (time_variable v) ↔ Contains ws (time_variable v)) → ((v : Identifier) → Contains vs (data_variable v) ↔ Contains ws (data_variable v)) → SameVariables vs ws
same_by_kind vs ws t d (time_variable v) = t v
same_by_kind vs ws t d (data_variable v) = d v

-- ---- columns of two tables

equal_name : (w v : Identifier) → bytes_eq w v ≡ true → w ≡ v
equal_name w v e = (bytes_decides w v).0 e

any_at : (b c : Bool) (n m : Identifier) (ms : List Identifier) → bytes_eq n m ≡ b → (c ≡ true → Contains ms n) → (b || c) ≡ true → Contains (m ∷ ms) n
any_at true c n m ms t h e = subst (λ z. Contains (m ∷ ms) z) (sym (equal_name n m t)) (contains_first m ms)
any_at false c n m ms t h e = contains_later m n ms (h e)

any_in : (n : Identifier) (ns : List Identifier) → list_any (bytes_eq n) ns ≡ true → Contains ns n
any_in n [] e = cc
any_in n (m ∷ ms) e = any_at (bytes_eq n m) (list_any (bytes_eq n) ms) n m ms refl (any_in n ms) e

joined_in : (b : Bool) (n v : Identifier) (ns : List Identifier) → (b ≡ true → Contains ns n) → Contains (cond b ns (ns ++ n ∷ [])) v ↔ (Contains ns v ⊎ (n ≡ v))
joined_in true n v ns h = ((λ c. inl c), λ c. ⊎_elim (λ l. l) (λ e. subst (λ z. Contains ns z) e (h refl)) c)
joined_in false n v ns h = (
  (λ c. ⊎_elim (λ l. inl l) (λ r. ⊎_elim (λ e. inr e) (λ d. absurd (contains_none v d)) (cons_cases n v [] r)) (in_one ns (n ∷ []) v c)),
  λ c. ⊎_elim (λ l. in_left ns (n ∷ []) v l) (λ e. in_right ns (n ∷ []) v (subst (λ z. Contains (n ∷ []) z) e (contains_first n []))) c,
)

pub in_joint : (ns more : List Identifier) (v : Identifier) → Contains (joint ns more) v ↔ (Contains ns v ⊎ Contains more v)
in_joint ns [] v = ((λ c. inl c), λ c. ⊎_elim (λ l. l) (λ r. absurd (contains_none v r)) c)
in_joint ns (n ∷ more) v =
    let i = in_joint (cond (list_any (bytes_eq n) ns) ns (ns ++ n ∷ [])) more v in
    let j = joined_in (list_any (bytes_eq n) ns) n v ns (any_in n ns) in (
      (λ c. ⊎_elim (λ l. ⊎_elim (λ a. inl a) (λ e. inr (subst (λ z. Contains (n ∷ more) z) e (contains_first n more))) (j.0 l)) (λ r. inr (contains_later n v more r)) (i.0 c)),
      λ c. ⊎_elim (λ l. i.1 (inl (j.1 (inl l)))) (λ r. ⊎_elim (λ e. i.1 (inl (j.1 (inr e)))) (λ d. i.1 (inr d)) (cons_cases n v more r)) c,
    )

-- ---- which variables the columns of a step have

both : {A B C D : Type 0} → (A ↔ B) → (C ↔ D) → (A ⊎ C) ↔ (B ⊎ D)
both p q = ((λ h. ⊎_elim (λ a. inl (p.0 a)) (λ c. inr (q.0 c)) h), λ h. ⊎_elim (λ b. inl (p.1 b)) (λ d. inr (q.1 d)) h)

chain : {A B C : Type 0} → (A ↔ B) → (B ↔ C) → A ↔ C
chain p q = ((λ a. q.0 (p.0 a)), λ c. p.1 (q.1 c))

back : {A B : Type 0} → (A ↔ B) → B ↔ A
back p = (p.1, p.0)

in_append : {X : Type 0} (xs ys : List X) (x : X) → Contains (xs ++ ys) x ↔ (Contains xs x ⊎ Contains ys x)
in_append xs ys x = ((λ c. in_one xs ys x c), λ h. ⊎_elim (λ l. in_left xs ys x l) (λ r. in_right xs ys x r) h)

-- the columns of two tables are those of the one and those of the other
pub joint_variables : (xs ts ys us : List Identifier) → SameVariables (named_variables (joint xs ys) (joint ts us)) (named_variables xs ts ++ named_variables ys us)
joint_variables xs ts ys us = same_by_kind (named_variables (joint xs ys) (joint ts us)) (named_variables xs ts ++ named_variables ys us)
    (λ v. chain (chain (time_named (joint xs ys) (joint ts us) v) (in_joint xs ys v)) (back (chain (in_append (named_variables xs ts) (named_variables ys us) (time_variable v)) (both (time_named xs ts v) (time_named ys us v)))))
    (λ v. chain (chain (data_named (joint xs ys) (joint ts us) v) (in_joint ts us v)) (back (chain (in_append (named_variables xs ts) (named_variables ys us) (data_variable v)) (both (data_named xs ts v) (data_named ys us v)))))

filtered : {X : Type 0} (p : X → Bool) (xs : List X) (x : X) → Contains (filter p xs) x ↔ (Contains xs x × (p x ≡ true))
filtered p xs x = ((λ c. of_filter p xs x c), λ h. in_filter p xs x h.0 h.1)

with_fact : {A B C : Type 0} → (A ↔ B) → (A × C) ↔ (B × C)
with_fact p = ((λ h. (p.0 h.0, h.1)), λ h. (p.1 h.0, h.1))

without_fact : {A B C : Type 0} → C → (A ↔ B) → A ↔ (B × C)
without_fact c p = ((λ h. (p.0 h, c)), λ h. p.1 h.0)

-- without a time column, and without a data column
pub time_dropped : (n : Identifier) (xs ts : List Identifier) → SameVariables (named_variables (other_names n xs) ts) (others (time_variable n) (named_variables xs ts))
time_dropped n xs ts = same_by_kind (named_variables (other_names n xs) ts) (others (time_variable n) (named_variables xs ts))
    (λ v. chain (chain (time_named (other_names n xs) ts v) (filtered (λ m. not (bytes_eq n m)) xs v)) (back (chain (filtered (λ w. not (same_variable (time_variable n) w)) (named_variables xs ts) (time_variable v)) (with_fact (time_named xs ts v)))))
    (λ v. chain (data_named (other_names n xs) ts v) (back (chain (filtered (λ w. not (same_variable (time_variable n) w)) (named_variables xs ts) (data_variable v)) (back (without_fact refl (back (data_named xs ts v)))))))

pub text_dropped : (n : Identifier) (xs ts : List Identifier) → SameVariables (named_variables xs (other_names n ts)) (others (data_variable n) (named_variables xs ts))
text_dropped n xs ts = same_by_kind (named_variables xs (other_names n ts)) (others (data_variable n) (named_variables xs ts))
    (λ v. chain (time_named xs (other_names n ts) v) (back (chain (filtered (λ w. not (same_variable (data_variable n) w)) (named_variables xs ts) (time_variable v)) (back (without_fact refl (back (time_named xs ts v)))))))
    (λ v. chain (chain (data_named xs (other_names n ts) v) (filtered (λ m. not (bytes_eq n m)) ts v)) (back (chain (filtered (λ w. not (same_variable (data_variable n) w)) (named_variables xs ts) (data_variable v)) (with_fact (data_named xs ts v)))))

-- ---- terms and tests

in_none : {X : Type 0} (x : X) → Contains [] x ↔ ⊥
in_none x = ((λ c. contains_none x c), λ b. absurd b)

neither : {A : Type 0} → (A ⊎ ⊥) ↔ A
neither = ((λ h. ⊎_elim (λ a. a) (λ b. absurd b) h), λ a. inl a)

joint_none : (more : List Identifier) (v : Identifier) → Contains (joint [] more) v ↔ Contains more v
joint_none more v = ((λ c. ⊎_elim (λ l. absurd (contains_none v l)) (λ r. r) ((in_joint [] more v).0 c)), λ c. (in_joint [] more v).1 (inr c))

first_time : (n v : Identifier) → Contains (n ∷ []) v ↔ Contains (time_variable n ∷ []) (time_variable v)
first_time n v = (
  (λ c. in_map time_variable (n ∷ []) v c),
  λ c. time_back (n ∷ []) v c,
)

first_data : (n v : Identifier) → Contains (n ∷ []) v ↔ Contains (data_variable n ∷ []) (data_variable v)
first_data n v = (
  (λ c. in_map data_variable (n ∷ []) v c),
  λ c. data_back (n ∷ []) v c,
)

time_in_time : (t : TimeTerm) (v : Identifier) → Contains (names_of_time t) v ↔ Contains (variables_of_time t) (time_variable v)
time_in_time (time_var n plus) v = first_time n v
time_in_time (time_int x) v = chain (in_none v) (back (in_none (time_variable v)))

data_in_time : (t : TimeTerm) (v : Identifier) → Contains (variables_of_time t) (data_variable v) → ⊥
data_in_time (time_var n plus) v c = no_time (n ∷ []) v c
data_in_time (time_int x) v c = contains_none (data_variable v) c

data_in_data : (t : DataTerm) (v : Identifier) → Contains (names_of_data t) v ↔ Contains (variables_of_data t) (data_variable v)
data_in_data (data_var n) v = first_data n v
data_in_data (data_const x) v = chain (in_none v) (back (in_none (data_variable v)))

time_in_data : (t : DataTerm) (v : Identifier) → Contains (variables_of_data t) (time_variable v) → ⊥
time_in_data (data_var n) v c = no_data (n ∷ []) v c
time_in_data (data_const x) v c = contains_none (time_variable v) c

no_such : {A B : Type 0} → (A → ⊥) → (B → ⊥) → A ↔ B
no_such p q = ((λ a. absurd (p a)), λ b. absurd (q b))

pub times_in_test : (t : Test) (v : Identifier) → Contains (times_of_test t) v ↔ Contains (variables_of_test t) (time_variable v)
times_in_test (Compare left op right) v =
    chain (chain (in_append (names_of_time left) (names_of_time right) v) (both (time_in_time left v) (time_in_time right v))) (back (in_append (variables_of_time left) (variables_of_time right) (time_variable v)))
times_in_test (Member term point) v = time_in_time term v
times_in_test (Equal left right) v =
    no_such (λ c. contains_none v c) (λ c. ⊎_elim (λ l. time_in_data left v l) (λ r. time_in_data right v r) (in_one (variables_of_data left) (variables_of_data right) (time_variable v) c))

pub texts_in_test : (t : Test) (v : Identifier) → Contains (texts_of_test t) v ↔ Contains (variables_of_test t) (data_variable v)
texts_in_test (Equal left right) v =
    chain (chain (in_append (names_of_data left) (names_of_data right) v) (both (data_in_data left v) (data_in_data right v))) (back (in_append (variables_of_data left) (variables_of_data right) (data_variable v)))
texts_in_test (Member term point) v = no_such (λ c. contains_none v c) (λ c. data_in_time term v c)
texts_in_test (Compare left op right) v =
    no_such (λ c. contains_none v c) (λ c. ⊎_elim (λ l. data_in_time left v l) (λ r. data_in_time right v r) (in_one (variables_of_time left) (variables_of_time right) (data_variable v) c))

-- the columns of a test's table are its variables
pub test_variables : (t : Test) → SameVariables (named_variables (test_times t) (test_names t)) (variables_of_test t)
test_variables t = same_by_kind (named_variables (test_times t) (test_names t)) (variables_of_test t)
    (λ v. chain (chain (time_named (test_times t) (test_names t) v) (joint_none (times_of_test t) v)) (times_in_test t v))
    (λ v. chain (chain (data_named (test_times t) (test_names t) v) (joint_none (texts_of_test t) v)) (texts_in_test t v))

times_in_term : (t : Term) (v : Identifier) → Contains (times_of_term t) v ↔ Contains (variables_of_term t) (time_variable v)
times_in_term (time_term t) v = time_in_time t v
times_in_term (data_term t) v = no_such (λ c. contains_none v c) (λ c. time_in_data t v c)

texts_in_term : (t : Term) (v : Identifier) → Contains (texts_of_term t) v ↔ Contains (variables_of_term t) (data_variable v)
texts_in_term (time_term t) v = no_such (λ c. contains_none v c) (λ c. data_in_time t v c)
texts_in_term (data_term t) v = data_in_data t v

times_in_terms : (ts : List Term) (v : Identifier) → Contains (flat_map times_of_term ts) v ↔ Contains (flat_map variables_of_term ts) (time_variable v)
times_in_terms [] v = no_such (λ c. contains_none v c) (λ c. contains_none (time_variable v) c)
times_in_terms (t ∷ ts) v =
    chain (chain (in_append (times_of_term t) (flat_map times_of_term ts) v) (both (times_in_term t v) (times_in_terms ts v))) (back (in_append (variables_of_term t) (flat_map variables_of_term ts) (time_variable v)))

texts_in_terms : (ts : List Term) (v : Identifier) → Contains (flat_map texts_of_term ts) v ↔ Contains (flat_map variables_of_term ts) (data_variable v)
texts_in_terms [] v = no_such (λ c. contains_none v c) (λ c. contains_none (data_variable v) c)
texts_in_terms (t ∷ ts) v =
    chain (chain (in_append (texts_of_term t) (flat_map texts_of_term ts) v) (both (texts_in_term t v) (texts_in_terms ts v))) (back (in_append (variables_of_term t) (flat_map variables_of_term ts) (data_variable v)))

-- the columns of an atom's table are its variables
pub scan_variables : (name : Identifier) (ts : List Term) → SameVariables (named_variables (scan_times ts) (scan_texts ts)) (free (atom name ts))
scan_variables name ts = same_by_kind (named_variables (scan_times ts) (scan_texts ts)) (flat_map variables_of_term ts)
    (λ v. chain (chain (time_named (scan_times ts) (scan_texts ts) v) (joint_none (flat_map times_of_term ts) v)) (times_in_terms ts v))
    (λ v. chain (chain (data_named (scan_times ts) (scan_texts ts) v) (joint_none (flat_map texts_of_term ts) v)) (texts_in_terms ts v))

-- ---- heads

in_cons : {X : Type 0} (x : X) (xs : List X) (y : X) → Contains (x ∷ xs) y ↔ ((x ≡ y) ⊎ Contains xs y)
in_cons x xs y = ((λ c. cons_cases x y xs c), λ h. ⊎_elim (λ e. subst (λ z. Contains (x ∷ xs) z) e (contains_first x xs)) (λ d. contains_later x y xs d) h)

more_time : (s : Sort) (n v : Identifier) (ns : List Identifier) (vs : List Variable) → Contains ns v ↔ Contains vs (time_variable v) → Contains (with_time_name s n ns) v ↔ Contains (bound_by s n ∷ vs) (time_variable v)
more_time Time n v ns vs h = chain (chain (in_cons n ns v) (both ((λ e. ap time_variable e), λ e. cc) h)) (back (in_cons (time_variable n) vs (time_variable v)))
more_time Data n v ns vs h = ((λ c. contains_later (data_variable n) (time_variable v) vs (h.0 c)), λ c. ⊎_elim (λ e. cc) (λ d. h.1 d) (cons_cases (data_variable n) (time_variable v) vs c))
more_time (Named name) n v ns vs h = ((λ c. contains_later (data_variable n) (time_variable v) vs (h.0 c)), λ c. ⊎_elim (λ e. cc) (λ d. h.1 d) (cons_cases (data_variable n) (time_variable v) vs c))

more_text : (s : Sort) (n v : Identifier) (ns : List Identifier) (vs : List Variable) → Contains ns v ↔ Contains vs (data_variable v) → Contains (text_name s n ns) v ↔ Contains (bound_by s n ∷ vs) (data_variable v)
more_text Data n v ns vs h = chain (chain (in_cons n ns v) (both ((λ e. ap data_variable e), λ e. cc) h)) (back (in_cons (data_variable n) vs (data_variable v)))
more_text (Named name) n v ns vs h = chain (chain (in_cons n ns v) (both ((λ e. ap data_variable e), λ e. cc) h)) (back (in_cons (data_variable n) vs (data_variable v)))
more_text Time n v ns vs h = ((λ c. contains_later (time_variable n) (data_variable v) vs (h.0 c)), λ c. ⊎_elim (λ e. cc) (λ d. h.1 d) (cons_cases (time_variable n) (data_variable v) vs c))

pub times_in_head : (cs : List Column) (v : Identifier) → Contains (head_times cs) v ↔ Contains (head_variables cs) (time_variable v)
times_in_head [] v = no_such (λ c. contains_none v c) (λ c. contains_none (time_variable v) c)
times_in_head (c ∷ cs) v = more_time c.sort c.name v (head_times cs) (head_variables cs) (times_in_head cs v)

pub texts_in_head : (cs : List Column) (v : Identifier) → Contains (head_texts cs) v ↔ Contains (head_variables cs) (data_variable v)
texts_in_head [] v = no_such (λ c. contains_none v c) (λ c. contains_none (data_variable v) c)
texts_in_head (c ∷ cs) v = more_text c.sort c.name v (head_texts cs) (head_variables cs) (texts_in_head cs v)

-- the columns of a head are its variables
pub head_columns : (cs : List Column) → SameVariables (named_variables (head_times cs) (head_texts cs)) (head_variables cs)
head_columns cs = same_by_kind (named_variables (head_times cs) (head_texts cs)) (head_variables cs)
    (λ v. chain (time_named (head_times cs) (head_texts cs) v) (times_in_head cs v))
    (λ v. chain (data_named (head_times cs) (head_texts cs) v) (texts_in_head cs v))
