-- The disjuncts of a well-sorted query: each part has few variables, and the free ones are the head's.
use Rattle.std.proofs.Common.{◌≢◌, ◌≤◌, List, [], ◌∷◌, ◌++◌, length, Contains, inl, inr, sym, subst, false}
use Rattle.std.specs.List.{AllByRecursion}
use Rattle.lrp_model.specs.Checked.{plain_question}
use Rattle.lrp_model.specs.Core.{core_form, disjuncts}
use Rattle.lrp_model.specs.Formulas.{Form, Forms, Question, atom, test, sorted, negation, conjunction, disjunction, implication, exists, forall, no_forms, form}
use Rattle.lrp_model.specs.RawQueries.{RawQuestion}
use Rattle.lrp_model.specs.Satisfaction.{HaveDistinctNames}
use Rattle.lrp_model.specs.Sorting.{IsWellSorted}
use Rattle.lrp_model.specs.Texts.{Identifier, AreDistinct}
use Rattle.lrp_model.specs.Variables.{Variable, time_variable, data_variable, bound_by, free, free_each, head_variables}
use Rattle.lrp_model.specs.declared.relations.Column.{Column}
use Rattle.lrp_model.specs.declared.relations.Relation.{Relation}
use Rattle.lrp_model.specs.declared.relations.Sort.{Sort}
use Rattle.lrp_model.specs.declared.relations.Sort.TheVariants.{Time, Data, Named}
use Rattle.lrp_model.proofs.Decided.{cons_cases, contains_first, contains_later, contains_none}
use Rattle.lrp_plan_laws.specs.Scopes.{EachOfScope, EachScope, IsNarrow}
use Rattle.lrp_plan_laws.proofs.CoreNames.{positive_named, scope_core}
use Rattle.lrp_plan_laws.proofs.Marks.{marks}
use Rattle.lrp_plan_laws.proofs.Members.{all_by, all_map, all_of, in_left, in_right}
use Rattle.lrp_plan_laws.proofs.Names.{names_self}
use Rattle.lrp_plan_laws.proofs.SortedScopes.{body_in_head, head_names, narrow_body, narrow_head}
use Rattle.lrp_tables.specs.Columns.{head_texts, head_times, text_name, with_time_name}
use Rattle.lrp_kept.specs.Choices.{as_list, listed_disjuncts}

-- fewer variables are narrow
narrow_part : (vs ws : List Variable) → AllByRecursion (Contains ws) vs → IsNarrow ws → IsNarrow vs
narrow_part vs ws part n = record {
  times = λ names d h. n.times names d (all_map (λ m. Contains vs (time_variable m)) (λ m. Contains ws (time_variable m)) names (λ m c. all_of (Contains ws) vs (time_variable m) part c) h);
  texts = λ names d h. n.texts names d (all_map (λ m. Contains vs (data_variable m)) (λ m. Contains ws (data_variable m)) names (λ m c. all_of (Contains ws) vs (data_variable m) part c) h);
  kinds = λ m c e. n.kinds m (all_of (Contains ws) vs (time_variable m) part c) (all_of (Contains ws) vs (data_variable m) part e);
}

-- ---- the formulas of an `or`

scopes_of : (fits : List Variable → Type 0) (f : Form) → EachScope fits f → EachOfScope fits (disjuncts f)
scopes_of fits (disjunction fs) h = h.1
scopes_of fits (atom name terms) h = (h, tt)
scopes_of fits (test t) h = (h, tt)
scopes_of fits (sorted s v) h = (h, tt)
scopes_of fits (negation f) h = (h, tt)
scopes_of fits (conjunction fs) h = (h, tt)
scopes_of fits (implication f g) h = (h, tt)
scopes_of fits (exists v s f) h = (h, tt)
scopes_of fits (forall v s f) h = (h, tt)

scope_of : (fits : List Variable → Type 0) (fs : Forms) (f : Form) → EachOfScope fits fs → Contains (as_list fs) f → EachScope fits f
scope_of fits no_forms f h c = absurd (contains_none f c)
scope_of fits (form g fs) f h c = elim (cons_cases g f (as_list fs) c) [ inl s ↦ subst (EachScope fits) s h.0 | inr d ↦ scope_of fits fs f h.1 d ]

free_in : (fs : Forms) (f : Form) (w : Variable) → Contains (as_list fs) f → Contains (free f) w → Contains (free_each fs) w
free_in no_forms f w c i = absurd (contains_none f c)
free_in (form g fs) f w c i = elim (cons_cases g f (as_list fs) c) [
  | inl s ↦ in_left (free g) (free_each fs) w (subst (λ h. Contains (free h) w) (sym s) i)
  | inr d ↦ in_right (free g) (free_each fs) w (free_in fs f w d i)
]

only_one : (g f : Form) (w : Variable) → Contains (g ∷ []) f → Contains (free f) w → Contains (free g) w
only_one g f w c i = elim (cons_cases g f [] c) [ inl s ↦ subst (λ h. Contains (free h) w) (sym s) i | inr d ↦ absurd (contains_none f d) ]

free_of_or : (g f : Form) (w : Variable) → Contains (as_list (disjuncts g)) f → Contains (free f) w → Contains (free g) w
free_of_or (disjunction fs) f w c i = free_in fs f w c i
free_of_or (atom name terms) f w c i = only_one (atom name terms) f w c i
free_of_or (test t) f w c i = only_one (test t) f w c i
free_of_or (sorted s v) f w c i = only_one (sorted s v) f w c i
free_of_or (negation g) f w c i = only_one (negation g) f w c i
free_of_or (conjunction fs) f w c i = only_one (conjunction fs) f w c i
free_of_or (implication g h) f w c i = only_one (implication g h) f w c i
free_of_or (exists v s g) f w c i = only_one (exists v s g) f w c i
free_of_or (forall v s g) f w c i = only_one (forall v s g) f w c i

-- ---- heads

time_names_other : (n : Identifier) (cs : List Column) → AllByRecursion (λ (d : Column). n ≢ d.name) cs → AllByRecursion (λ m. n ≢ m) (head_times cs)
time_names_other n [] h = tt
time_names_other n (c ∷ cs) h = by c.sort (time_names_other n cs h.1)
  where
    by : (s : Sort) → AllByRecursion (λ m. n ≢ m) (head_times cs) → AllByRecursion (λ m. n ≢ m) (with_time_name s c.name (head_times cs))
    by Time r = (h.0, r)
    by Data r = r
    by (Named name) r = r

text_names_other : (n : Identifier) (cs : List Column) → AllByRecursion (λ (d : Column). n ≢ d.name) cs → AllByRecursion (λ m. n ≢ m) (head_texts cs)
text_names_other n [] h = tt
text_names_other n (c ∷ cs) h = by c.sort (text_names_other n cs h.1)
  where
    by : (s : Sort) → AllByRecursion (λ m. n ≢ m) (head_texts cs) → AllByRecursion (λ m. n ≢ m) (text_name s c.name (head_texts cs))
    by Time r = r
    by Data r = (h.0, r)
    by (Named name) r = (h.0, r)

times_distinct : (cs : List Column) → HaveDistinctNames cs → AreDistinct (head_times cs)
times_distinct [] h = tt
times_distinct (c ∷ cs) h = by c.sort (times_distinct cs h.1)
  where
    by : (s : Sort) → AreDistinct (head_times cs) → AreDistinct (with_time_name s c.name (head_times cs))
    by Time r = (time_names_other c.name cs h.0, r)
    by Data r = r
    by (Named name) r = r

texts_distinct : (cs : List Column) → HaveDistinctNames cs → AreDistinct (head_texts cs)
texts_distinct [] h = tt
texts_distinct (c ∷ cs) h = by c.sort (texts_distinct cs h.1)
  where
    by : (s : Sort) → AreDistinct (head_texts cs) → AreDistinct (text_name s c.name (head_texts cs))
    by Time r = r
    by Data r = (text_names_other c.name cs h.0, r)
    by (Named name) r = (text_names_other c.name cs h.0, r)

times_in_head : (cs : List Column) (v : Identifier) → Contains (head_times cs) v → Contains (head_variables cs) (time_variable v)
times_in_head [] v c = absurd (contains_none v c)
times_in_head (k ∷ cs) v c = by k.sort c (λ d. times_in_head cs v d)
  where
    by : (s : Sort) → Contains (with_time_name s k.name (head_times cs)) v → (Contains (head_times cs) v → Contains (head_variables cs) (time_variable v)) → Contains (bound_by s k.name ∷ head_variables cs) (time_variable v)
    by Time d rest = elim (cons_cases k.name v (head_times cs) d) [ inl e ↦ subst (λ n. Contains (time_variable k.name ∷ head_variables cs) (time_variable n)) e (contains_first (time_variable k.name) (head_variables cs)) | inr m ↦ contains_later (time_variable k.name) (time_variable v) (head_variables cs) (rest m) ]
    by Data d rest = contains_later (data_variable k.name) (time_variable v) (head_variables cs) (rest d)
    by (Named name) d rest = contains_later (data_variable k.name) (time_variable v) (head_variables cs) (rest d)

texts_in_head : (cs : List Column) (v : Identifier) → Contains (head_texts cs) v → Contains (head_variables cs) (data_variable v)
texts_in_head [] v c = absurd (contains_none v c)
texts_in_head (k ∷ cs) v c = by k.sort c (λ d. texts_in_head cs v d)
  where
    by : (s : Sort) → Contains (text_name s k.name (head_texts cs)) v → (Contains (head_texts cs) v → Contains (head_variables cs) (data_variable v)) → Contains (bound_by s k.name ∷ head_variables cs) (data_variable v)
    by Time d rest = contains_later (time_variable k.name) (data_variable v) (head_variables cs) (rest d)
    by Data d rest = elim (cons_cases k.name v (head_texts cs) d) [ inl e ↦ subst (λ n. Contains (data_variable k.name ∷ head_variables cs) (data_variable n)) e (contains_first (data_variable k.name) (head_variables cs)) | inr m ↦ contains_later (data_variable k.name) (data_variable v) (head_variables cs) (rest m) ]
    by (Named name) d rest = elim (cons_cases k.name v (head_texts cs) d) [ inl e ↦ subst (λ n. Contains (data_variable k.name ∷ head_variables cs) (data_variable n)) e (contains_first (data_variable k.name) (head_variables cs)) | inr m ↦ contains_later (data_variable k.name) (data_variable v) (head_variables cs) (rest m) ]

-- ---- a well-sorted query

module _ (db : List Relation) (q : RawQuestion) (well : IsWellSorted db q) where
  abbrev Q : Question
  Q = plain_question q

  core_narrow : EachScope IsNarrow (core_form false Q)
  core_narrow = scope_core IsNarrow narrow_part db false Q (narrow_head db q well) (narrow_body db q well)

  pub disjunct_narrow : (f : Form) → Contains (listed_disjuncts Q) f → EachScope IsNarrow f
  disjunct_narrow f c = scope_of IsNarrow (disjuncts (core_form false Q)) f (scopes_of IsNarrow (core_form false Q) core_narrow) c

  pub disjunct_in_head : (f : Form) → Contains (listed_disjuncts Q) f → (w : Variable) → Contains (free f) w → Contains (head_variables Q.head) w
  disjunct_in_head f c w i =
      let named = (positive_named Q.body false db (free Q.body) (marks Q.body db)).1 (names_self db Q.body) in
      body_in_head db q well w (all_of (Contains (free Q.body)) (free (core_form false Q)) w named.0 (free_of_or (core_form false Q) f w c i))

  pub head_named : HaveDistinctNames Q.head
  head_named = head_names db q well

  pub few_head_times : length (head_times Q.head) ≤ 8
  few_head_times = (narrow_head db q well).times (head_times Q.head) (times_distinct Q.head head_named) (all_by (λ n. Contains (head_variables Q.head ++ free Q.body) (time_variable n)) (head_times Q.head) (λ v c. in_left (head_variables Q.head) (free Q.body) (time_variable v) (times_in_head Q.head v c)))

  pub few_head_texts : length (head_texts Q.head) ≤ 8
  few_head_texts = (narrow_head db q well).texts (head_texts Q.head) (texts_distinct Q.head head_named) (all_by (λ n. Contains (head_variables Q.head ++ free Q.body) (data_variable n)) (head_texts Q.head) (λ v c. in_left (head_variables Q.head) (free Q.body) (data_variable v) (texts_in_head Q.head v c)))
