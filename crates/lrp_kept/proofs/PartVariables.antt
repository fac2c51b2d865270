-- The variables and the tests of a part: those of its atoms, as they are joined.
use Rattle.std.proofs.Common.{◌≡◌, ◌<◌, Bool, true, List, [], ◌∷◌, ◌++◌, map, flat_map, Contains, ◌⊎◌, inl, inr, refl, sym, subst, ◌∙◌, bytes_eq, arith}
use Rattle.std.specs.List.{list_all, list_any}
use Rattle.std.specs.Cmp.Lexicographic.{bytes_decides}
use Rattle.std.proofs.lemmas.Bool.{and_from, and_parts, or_cases, or_left, or_right}
use Rattle.std.proofs.lemmas.List.Folds.{list_all-append}
use Rattle.lrp_model.specs.Texts.{Identifier}
use Rattle.lrp_model.specs.Variables.{Variable, are_among, data_variable, is_among, same_variable, time_variable, variables_of_data, variables_of_term, variables_of_test, variables_of_time}
use Rattle.lrp_model.specs.declared.formulas.DataTerm.{DataTerm}
use Rattle.lrp_model.specs.declared.formulas.DataTerm.TheVariants.{Var as data_var, Const as data_const}
use Rattle.lrp_model.specs.declared.formulas.Term.{Term}
use Rattle.lrp_model.specs.declared.formulas.Term.TheVariants.{Time as time_term, Data as data_term}
use Rattle.lrp_model.specs.declared.formulas.Test.{Test}
use Rattle.lrp_model.specs.declared.formulas.Test.TheVariants.{Compare, Member, Equal}
use Rattle.lrp_model.specs.declared.formulas.TimeTerm.{TimeTerm}
use Rattle.lrp_model.specs.declared.formulas.TimeTerm.TheVariants.{Var as time_var, Int as time_int}
use Rattle.lrp_model.proofs.Decided.{cons_cases, contains_first, contains_later}
use Rattle.lrp_plan_laws.proofs.Members.{in_left, in_right, in_one}
use Rattle.lrp_plan_laws.proofs.Names.{are_among_is, same_own}
use Rattle.lrp_tables.specs.Columns.{names_of_data, names_of_time, texts_of_term, times_of_term}
use Rattle.lrp_tables.specs.Tables.{named_variables}
use Rattle.lrp_tables.proofs.Joining.{found_in}
use Rattle.lrp_kept.specs.Disjuncts.{is_test_covered}
use Rattle.lrp_theory.proofs.Members.{from_map, in_map}

-- ---- variables by their names

-- the variable's name is one of the times, or one of the texts
abbrev pub IsNamed : List Identifier → List Identifier → Variable → Type 0
IsNamed times texts (time_variable n) = Contains times n
IsNamed times texts (data_variable n) = Contains texts n

pub named_in : (times texts : List Identifier) (v : Variable) → IsNamed times texts v → Contains (named_variables times texts) v
named_in times texts (time_variable n) h = in_left (map time_variable times) (map data_variable texts) (time_variable n) (in_map time_variable times n h)
named_in times texts (data_variable n) h = in_right (map time_variable times) (map data_variable texts) (data_variable n) (in_map data_variable texts n h)

pub in_named : (times texts : List Identifier) (v : Variable) → Contains (named_variables times texts) v → IsNamed times texts v
in_named times texts v i = elim (in_one (map time_variable times) (map data_variable texts) v i) [
  | inl t ↦ (let r = from_map time_variable times v t in subst (λ w. IsNamed times texts w) r.2 r.1)
  | inr d ↦ (let r = from_map data_variable texts v d in subst (λ w. IsNamed times texts w) r.2 r.1)
]

-- ---- those of terms

pub term_named : (ts : List Term) (v : Variable) → Contains (flat_map variables_of_term ts) v → IsNamed (flat_map times_of_term ts) (flat_map texts_of_term ts) v
term_named [] v i = absurd (let l : i.0 < 0 = i.1 in omega (arith, l))
term_named (time_term (time_int x) ∷ ts) v i = term_named ts v i
term_named (data_term (data_const t) ∷ ts) v i = term_named ts v i
term_named (time_term (time_var n plus) ∷ ts) v i = by v (cons_cases (time_variable n) v (flat_map variables_of_term ts) i) (λ j. term_named ts v j)
  where
    by : (v : Variable) → (time_variable n ≡ v) ⊎ Contains (flat_map variables_of_term ts) v → (Contains (flat_map variables_of_term ts) v → IsNamed (flat_map times_of_term ts) (flat_map texts_of_term ts) v) → IsNamed (n ∷ flat_map times_of_term ts) (flat_map texts_of_term ts) v
    by v (inl e) rest = subst (λ w. IsNamed (n ∷ flat_map times_of_term ts) (flat_map texts_of_term ts) w) e (contains_first n (flat_map times_of_term ts))
    by (time_variable m) (inr j) rest = contains_later n m (flat_map times_of_term ts) (rest j)
    by (data_variable m) (inr j) rest = rest j
term_named (data_term (data_var n) ∷ ts) v i = by v (cons_cases (data_variable n) v (flat_map variables_of_term ts) i) (λ j. term_named ts v j)
  where
    by : (v : Variable) → (data_variable n ≡ v) ⊎ Contains (flat_map variables_of_term ts) v → (Contains (flat_map variables_of_term ts) v → IsNamed (flat_map times_of_term ts) (flat_map texts_of_term ts) v) → IsNamed (flat_map times_of_term ts) (n ∷ flat_map texts_of_term ts) v
    by v (inl e) rest = subst (λ w. IsNamed (flat_map times_of_term ts) (n ∷ flat_map texts_of_term ts) w) e (contains_first n (flat_map texts_of_term ts))
    by (time_variable m) (inr j) rest = rest j
    by (data_variable m) (inr j) rest = contains_later n m (flat_map texts_of_term ts) (rest j)

pub time_named : (ts : List Term) (n : Identifier) → Contains (flat_map times_of_term ts) n → Contains (flat_map variables_of_term ts) (time_variable n)
time_named [] n i = absurd (let l : i.0 < 0 = i.1 in omega (arith, l))
time_named (time_term (time_int x) ∷ ts) n i = time_named ts n i
time_named (data_term (data_const t) ∷ ts) n i = time_named ts n i
time_named (data_term (data_var m) ∷ ts) n i = contains_later (data_variable m) (time_variable n) (flat_map variables_of_term ts) (time_named ts n i)
time_named (time_term (time_var m plus) ∷ ts) n i = elim (cons_cases m n (flat_map times_of_term ts) i) [
  | inl e ↦ subst (λ k. Contains (time_variable m ∷ flat_map variables_of_term ts) (time_variable k)) e (contains_first (time_variable m) (flat_map variables_of_term ts))
  | inr more ↦ contains_later (time_variable m) (time_variable n) (flat_map variables_of_term ts) (time_named ts n more)
]

pub text_named : (ts : List Term) (n : Identifier) → Contains (flat_map texts_of_term ts) n → Contains (flat_map variables_of_term ts) (data_variable n)
text_named [] n i = absurd (let l : i.0 < 0 = i.1 in omega (arith, l))
text_named (time_term (time_int x) ∷ ts) n i = text_named ts n i
text_named (data_term (data_const t) ∷ ts) n i = text_named ts n i
text_named (time_term (time_var m plus) ∷ ts) n i = contains_later (time_variable m) (data_variable n) (flat_map variables_of_term ts) (text_named ts n i)
text_named (data_term (data_var m) ∷ ts) n i = elim (cons_cases m n (flat_map texts_of_term ts) i) [
  | inl e ↦ subst (λ k. Contains (data_variable m ∷ flat_map variables_of_term ts) (data_variable k)) e (contains_first (data_variable m) (flat_map variables_of_term ts))
  | inr more ↦ contains_later (data_variable m) (data_variable n) (flat_map variables_of_term ts) (text_named ts n more)
]

-- a variable that is found among others is one of them
among_in : (vs : List Variable) (v : Variable) → is_among vs v ≡ true → Contains vs v
among_in vs v e = (are_among_is (v ∷ []) vs (and_from (is_among vs v) true e refl)).0

-- so one that is found among those of terms is a name of theirs
pub time_among : (ts : List Term) (v : Identifier) → is_among (flat_map variables_of_term ts) (time_variable v) ≡ true → Contains (flat_map times_of_term ts) v
time_among ts v e = term_named ts (time_variable v) (among_in (flat_map variables_of_term ts) (time_variable v) e)

pub text_among : (ts : List Term) (v : Identifier) → is_among (flat_map variables_of_term ts) (data_variable v) ≡ true → Contains (flat_map texts_of_term ts) v
text_among ts v e = term_named ts (data_variable v) (among_in (flat_map variables_of_term ts) (data_variable v) e)

-- ---- covered tests

all_both : {X : Type 0} (p : X → Bool) (xs ys : List X) → list_all p (xs ++ ys) ≡ true → (list_all p xs ≡ true) × (list_all p ys ≡ true)
all_both p xs ys e = and_parts (list_all p xs) (list_all p ys) (sym (list_all-append p xs ys) ∙ e)

all_joined : {X : Type 0} (p : X → Bool) (xs ys : List X) → list_all p xs ≡ true → list_all p ys ≡ true → list_all p (xs ++ ys) ≡ true
all_joined p xs ys e f = list_all-append p xs ys ∙ and_from (list_all p xs) (list_all p ys) e f

-- a test is covered by names where each of its variables has a property that only variables of these names have
module _ (p : Variable → Bool) (ts xs : List Identifier) (times : (v : Identifier) → p (time_variable v) ≡ true → Contains ts v) (texts : (v : Identifier) → p (data_variable v) ≡ true → Contains xs v) where
  time_covered : (t : TimeTerm) → list_all p (variables_of_time t) ≡ true → list_all (λ v. list_any (bytes_eq v) ts) (names_of_time t) ≡ true
  time_covered (time_int x) e = refl
  time_covered (time_var v plus) e = and_from (list_any (bytes_eq v) ts) true (found_in v ts (times v (and_parts (p (time_variable v)) true e).0)) refl

  text_covered : (t : DataTerm) → list_all p (variables_of_data t) ≡ true → list_all (λ v. list_any (bytes_eq v) xs) (names_of_data t) ≡ true
  text_covered (data_const t) e = refl
  text_covered (data_var v) e = and_from (list_any (bytes_eq v) xs) true (found_in v xs (texts v (and_parts (p (data_variable v)) true e).0)) refl

  pub all_covered : (t : Test) → list_all p (variables_of_test t) ≡ true → is_test_covered ts xs t ≡ true
  all_covered (Compare left op right) e =
      let r = all_both p (variables_of_time left) (variables_of_time right) e in
      and_from (list_all (λ v. list_any (bytes_eq v) ts) (names_of_time left ++ names_of_time right)) true (all_joined (λ v. list_any (bytes_eq v) ts) (names_of_time left) (names_of_time right) (time_covered left r.0) (time_covered right r.1)) refl
  all_covered (Member term point) e = and_from (list_all (λ v. list_any (bytes_eq v) ts) (names_of_time term)) true (time_covered term e) refl
  all_covered (Equal left right) e =
      let r = all_both p (variables_of_data left) (variables_of_data right) e in
      all_joined (λ v. list_any (bytes_eq v) xs) (names_of_data left) (names_of_data right) (text_covered left r.0) (text_covered right r.1)

-- a name that is found among others is one of them
pub found_name : (ns : List Identifier) (v : Identifier) → list_any (bytes_eq v) ns ≡ true → Contains ns v
found_name [] v e = cc
found_name (n ∷ ns) v e = elim (or_cases (bytes_eq v n) (list_any (bytes_eq v) ns) e) [
  | inl s ↦ subst (λ x. Contains (n ∷ ns) x) (sym ((bytes_decides v n).0 s)) (contains_first n ns)
  | inr k ↦ contains_later n v ns (found_name ns v k)
]

among_found : (vs : List Variable) (v : Variable) → Contains vs v → is_among vs v ≡ true
among_found [] v i = absurd (let l : i.0 < 0 = i.1 in omega (arith, l))
among_found (w ∷ vs) v i = elim (cons_cases w v vs i) [
  | inl e ↦ or_left (same_variable v w) (is_among vs v) (subst (λ x. same_variable v x ≡ true) (sym e) (same_own v))
  | inr k ↦ or_right (same_variable v w) (is_among vs v) (among_found vs v k)
]

module _ (vs : List Variable) (ts xs : List Identifier) (to : (v : Variable) → Contains vs v → IsNamed ts xs v) (from : (v : Variable) → IsNamed ts xs v → Contains vs v) where
  abbrev in_times : Identifier → Bool
  in_times v = list_any (bytes_eq v) ts

  abbrev in_texts : Identifier → Bool
  in_texts v = list_any (bytes_eq v) xs

  time_from : (t : TimeTerm) → list_all in_times (names_of_time t) ≡ true → list_all (is_among vs) (variables_of_time t) ≡ true
  time_from (time_int x) e = refl
  time_from (time_var v plus) e = and_from (is_among vs (time_variable v)) true (among_found vs (time_variable v) (from (time_variable v) (found_name ts v (and_parts (in_times v) true e).0))) refl

  data_from : (t : DataTerm) → list_all in_texts (names_of_data t) ≡ true → list_all (is_among vs) (variables_of_data t) ≡ true
  data_from (data_const t) e = refl
  data_from (data_var v) e = and_from (is_among vs (data_variable v)) true (among_found vs (data_variable v) (from (data_variable v) (found_name xs v (and_parts (in_texts v) true e).0))) refl

  -- a test of the variables is one of the names
  pub covered_to : (t : Test) → are_among (variables_of_test t) vs ≡ true → is_test_covered ts xs t ≡ true
  covered_to t e = all_covered (is_among vs) ts xs (λ v h. to (time_variable v) (among_in vs (time_variable v) h)) (λ v h. to (data_variable v) (among_in vs (data_variable v) h)) t e

  pub covered_from : (t : Test) → is_test_covered ts xs t ≡ true → are_among (variables_of_test t) vs ≡ true
  covered_from (Compare left op right) e =
      let r = all_both in_times (names_of_time left) (names_of_time right) (and_parts (list_all in_times (names_of_time left ++ names_of_time right)) true e).0 in
      all_joined (is_among vs) (variables_of_time left) (variables_of_time right) (time_from left r.0) (time_from right r.1)
  covered_from (Member term point) e = time_from term (and_parts (list_all in_times (names_of_time term)) true e).0
  covered_from (Equal left right) e =
      let r = all_both in_texts (names_of_data left) (names_of_data right) e in
      all_joined (is_among vs) (variables_of_data left) (variables_of_data right) (data_from left r.0) (data_from right r.1)
