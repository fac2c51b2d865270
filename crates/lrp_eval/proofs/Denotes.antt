-- What a step's table stands for: a set of assignments that is the meaning of the step's formula. Each call of the algebra keeps it.
use Rattle.std.proofs.Common.{◌≡◌, ◌≢◌, ◌↔◌, ◌⊎◌, inl, inr, ⊎_elim, Bool, true, false, cond, not, List, [], ◌∷◌, ◌++◌, Contains, refl, sym, ap, subst, ◌∙◌, map, filter, bytes_eq}
use Rattle.std.specs.Prelude.{ℤ}
use Rattle.std.specs.Cmp.Lexicographic.{bytes_decides}
use Rattle.std.specs.List.{AllByRecursion}
use Rattle.lrp_model.specs.Texts.{Text, Identifier}
use Rattle.lrp_model.specs.Rows.{Datum, time, text, Holds}
use Rattle.lrp_model.specs.Formulas.{Form, atom, test, sorted, negation, conjunction, disjunction, exists, no_forms, form}
use Rattle.lrp_model.specs.Variables.{Variable, time_variable, data_variable, same_variable, variables_of_test, free, free_each}
use Rattle.lrp_model.specs.Satisfaction.{Structure, Assignment, Satisfies, SatisfiesAll, Passes, term_value, with_value, ForSome, IsOfSort}
use Rattle.lrp_model.specs.Steps.{tests_as_forms}
use Rattle.lrp_model.specs.declared.relations.Sort.{Sort}
use Rattle.lrp_model.specs.declared.relations.Sort.TheVariants.{Time}
use Rattle.lrp_model.specs.declared.formulas.Term.{Term}
use Rattle.lrp_model.specs.declared.formulas.Test.{Test}
use Rattle.lrp_plan_laws.specs.Made.{AreWithout}
use Rattle.lrp_eval.specs.Running.{HasConstants, SameVariables}
use Rattle.lrp_model.proofs.Decided.{Decided, stable_of, cons_cases, contains_first, contains_later, contains_none}
use Rattle.lrp_plan_laws.proofs.Members.{in_left, in_one, in_right}

-- ---- what is said

-- a set of assignments
abbrev pub Set : Type 1
Set = Assignment → Type 0

abbrev pub IsDecided : Set → Type 0
IsDecided set = (env : Assignment) → Decided (set env)

-- a set over these variables is the meaning of the formula, as long as data variables have constants
pub record Denotes (domain : List Text) (M : Structure) (vs : List Variable) (set : Assignment → Type 0) (f : Form) : Type 0 where
  pub variables : SameVariables vs (free f)
  pub means : (env : Assignment) → HasConstants domain vs env → set env ↔ Satisfies f M env

-- ---- the contracts of the calls, as properties of the sets

abbrev pub IsScan : List Text → Structure → List Variable → Identifier → List Term → Set → Type 0
IsScan domain M vs name terms set = (env : Assignment) → set env ↔ (HasConstants domain vs env × Holds M.relations name (map (term_value env) terms))

abbrev pub IsLeaf : List Text → List Variable → Test → Set → Type 0
IsLeaf domain vs t set = (env : Assignment) → set env ↔ (HasConstants domain vs env × Passes env t)

abbrev pub IsTexts : List Text → Identifier → Set → Type 0
IsTexts texts v set = (env : Assignment) → set env ↔ Contains texts (env.texts v)

abbrev pub IsJoin : Set → Set → List Test → Set → Type 0
IsJoin left right tests set = (env : Assignment) → set env ↔ (left env × right env × AllByRecursion (Passes env) tests)

abbrev pub IsSelect : Set → Test → Set → Type 0
IsSelect of t set = (env : Assignment) → set env ↔ (of env × Passes env t)

abbrev pub IsUnion : List Text → List Variable → Set → Set → Set → Type 0
IsUnion domain vs left right set = (env : Assignment) → set env ↔ (HasConstants domain vs env × (left env ⊎ right env))

abbrev pub IsMinus : Set → Set → Set → Type 0
IsMinus left right set = (env : Assignment) → set env ↔ (left env × (right env → ⊥))

abbrev pub IsComplement : List Text → List Variable → Set → Set → Type 0
IsComplement domain vs of set = (env : Assignment) → set env ↔ (HasConstants domain vs env × (of env → ⊥))

abbrev pub IsDropTime : Identifier → Set → Set → Type 0
IsDropTime v of set = (env : Assignment) → set env ↔ ((x : ℤ) × of (with_value v (time x) env))

abbrev pub IsDropData : List Text → Identifier → Set → Set → Type 0
IsDropData domain v of set = (env : Assignment) → set env ↔ ((t : Text) × Contains domain t × of (with_value v (text t) env))

abbrev pub IsExtend : List Text → List Variable → Set → Set → Type 0
IsExtend domain vs of set = (env : Assignment) → set env ↔ (HasConstants domain vs env × of env)

-- ---- lists

first_at : {X : Type 0} (b : Bool) (y x : X) (zs : List X) → b ≡ true → y ≡ x → Contains (cond b (y ∷ zs) zs) x
first_at true y x zs e same = subst (λ z. Contains (y ∷ zs) z) same (contains_first y zs)
first_at false y x zs e same = cc

later_at : {X : Type 0} (b : Bool) (y x : X) (zs : List X) → Contains zs x → Contains (cond b (y ∷ zs) zs) x
later_at true y x zs c = contains_later y x zs c
later_at false y x zs c = c

from_at : {X : Type 0} (b : Bool) (y x : X) (zs : List X) → Contains (cond b (y ∷ zs) zs) x → ((b ≡ true) × (y ≡ x)) ⊎ Contains zs x
from_at true y x zs c = ⊎_elim (λ e. inl (refl, e)) (λ d. inr d) (cons_cases y x zs c)
from_at false y x zs c = inr c

pub in_filter : {X : Type 0} (p : X → Bool) (xs : List X) (x : X) → Contains xs x → p x ≡ true → Contains (filter p xs) x
in_filter p [] x c e = absurd (contains_none x c)
in_filter p (y ∷ ys) x c e =
    ⊎_elim (λ same. first_at (p y) y x (filter p ys) (subst (λ z. p z ≡ true) (sym same) e) same)
    (λ d. later_at (p y) y x (filter p ys) (in_filter p ys x d e)) (cons_cases y x ys c)

pub of_filter : {X : Type 0} (p : X → Bool) (xs : List X) (x : X) → Contains (filter p xs) x → Contains xs x × (p x ≡ true)
of_filter p [] x c = absurd (contains_none x c)
of_filter p (y ∷ ys) x c =
    ⊎_elim (λ h. (subst (λ z. Contains (y ∷ ys) z) h.1 (contains_first y ys), subst (λ z. p z ≡ true) h.1 h.0))
    (λ d. let r : Contains ys x × (p x ≡ true) = of_filter p ys x d in (contains_later y x ys r.0, r.1)) (from_at (p y) y x (filter p ys) c)

-- ---- sets of variables

pub same_filter : (p : Variable → Bool) (vs ws : List Variable) → SameVariables vs ws → SameVariables (filter p vs) (filter p ws)
same_filter p vs ws s v =
    ((λ c. let r = of_filter p vs v c in in_filter p ws v ((s v).0 r.0) r.1), λ c. let r = of_filter p ws v c in in_filter p vs v ((s v).1 r.0) r.1)

pub same_append : (vs ws xs ys : List Variable) → SameVariables vs xs → SameVariables ws ys → SameVariables (vs ++ ws) (xs ++ ys)
same_append vs ws xs ys s t v = (
  (λ c. ⊎_elim (λ l. in_left xs ys v ((s v).0 l)) (λ r. in_right xs ys v ((t v).0 r)) (in_one vs ws v c)),
  λ c. ⊎_elim (λ l. in_left vs ws v ((s v).1 l)) (λ r. in_right vs ws v ((t v).1 r)) (in_one xs ys v c),
)

-- more variables that are there already
pub same_more : (vs ws more : List Variable) → SameVariables vs ws → ((v : Variable) → Contains more v → Contains vs v) → SameVariables vs (ws ++ more)
same_more vs ws more s known v = ((λ c. in_left ws more v ((s v).0 c)), λ c. ⊎_elim (λ l. (s v).1 l) (λ r. known v r) (in_one ws more v c))

-- ---- each call keeps the meaning

pub scan_keeps : (domain : List Text) (M : Structure) (vs : List Variable) (name : Identifier) (terms : List Term) (set : Set) → SameVariables vs (free (atom name terms)) → IsScan domain M vs name terms set → Denotes domain M vs set (atom name terms)
scan_keeps domain M vs name terms set s is = record { variables = s; means = λ env k. ((λ h. ((is env).0 h).1), λ h. (is env).1 (k, h)) }

pub leaf_keeps : (domain : List Text) (M : Structure) (vs : List Variable) (t : Test) (set : Set) → SameVariables vs (variables_of_test t) → IsLeaf domain vs t set → Denotes domain M vs set (test t)
leaf_keeps domain M vs t set s is = record { variables = s; means = λ env k. ((λ h. ((is env).0 h).1), λ h. (is env).1 (k, h)) }

pub sort_keeps : (domain : List Text) (M : Structure) (vs : List Variable) (s : Sort) (v : Identifier) (set : Set) → SameVariables vs (data_variable v ∷ []) → IsTexts (M.domain s) v set → Denotes domain M vs set (sorted s v)
sort_keeps domain M vs s v set same is = record { variables = same; means = λ env k. is env }

all_tests : (M : Structure) (env : Assignment) (ts : List Test) → AllByRecursion (Passes env) ts ↔ SatisfiesAll (tests_as_forms ts) M env
all_tests M env [] = ((λ h. h), λ h. h)
all_tests M env (t ∷ ts) = let r : AllByRecursion (Passes env) ts ↔ SatisfiesAll (tests_as_forms ts) M env = all_tests M env ts in ((λ h. (h.0, r.0 h.1)), λ h. (h.0, r.1 h.1))

append_assoc : {X : Type 0} (xs ys zs : List X) (x : X) → Contains ((xs ++ ys) ++ zs) x ↔ Contains (xs ++ (ys ++ zs)) x
append_assoc xs ys zs x = (
  (λ c. ⊎_elim (λ l. ⊎_elim (λ a. in_left xs (ys ++ zs) x a) (λ b. in_right xs (ys ++ zs) x (in_left ys zs x b)) (in_one xs ys x l)) (λ r. in_right xs (ys ++ zs) x (in_right ys zs x r)) (in_one (xs ++ ys) zs x c)),
  λ c. ⊎_elim (λ a. in_left (xs ++ ys) zs x (in_left xs ys x a)) (λ r. ⊎_elim (λ b. in_left (xs ++ ys) zs x (in_right xs ys x b)) (λ d. in_right (xs ++ ys) zs x d) (in_one ys zs x r)) (in_one xs (ys ++ zs) x c),
)

pub join_keeps : (domain : List Text) (M : Structure) (vs ws us : List Variable) (left right set : Set) (f g : Form) (tests : List Test)
    → Denotes domain M vs left f → Denotes domain M ws right g → SameVariables us (vs ++ ws) → ((v : Variable) → Contains (free_each (tests_as_forms tests)) v → Contains us v)
    → IsJoin left right tests set → Denotes domain M us set (conjunction (form f (form g (tests_as_forms tests))))
join_keeps domain M vs ws us left right set f g tests a b s known is = record {
  variables = λ v.
      let r : SameVariables us ((free f ++ free g) ++ free_each (tests_as_forms tests)) =
      same_more us (free f ++ free g) (free_each (tests_as_forms tests)) (λ w. let q = same_append vs ws (free f) (free g) a.variables b.variables w in ((λ c. q.0 ((s w).0 c)), λ c. (s w).1 (q.1 c))) known in
      let q = append_assoc (free f) (free g) (free_each (tests_as_forms tests)) v in
      ((λ c. q.0 ((r v).0 c)), λ c. (r v).1 (q.1 c));
  means = λ env k.
      let l : left env ↔ Satisfies f M env = a.means env (λ v c. k v ((s (data_variable v)).1 (in_left vs ws (data_variable v) c))) in
      let r : right env ↔ Satisfies g M env = b.means env (λ v c. k v ((s (data_variable v)).1 (in_right vs ws (data_variable v) c))) in
      let t : AllByRecursion (Passes env) tests ↔ SatisfiesAll (tests_as_forms tests) M env = all_tests M env tests in
      ((λ h. let x = (is env).0 h in (l.0 x.0, (r.0 x.1, t.0 x.2))), λ h. (is env).1 (l.1 h.0, r.1 h.1.0, t.1 h.1.1));
}

pub select_keeps : (domain : List Text) (M : Structure) (vs : List Variable) (of set : Set) (f : Form) (t : Test)
    → Denotes domain M vs of f → ((v : Variable) → Contains (variables_of_test t ++ []) v → Contains vs v)
    → IsSelect of t set → Denotes domain M vs set (conjunction (form f (form (test t) no_forms)))
select_keeps domain M vs of set f t a known is = record {
  variables = same_more vs (free f) (variables_of_test t ++ []) a.variables known;
  means = λ env k. let l : of env ↔ Satisfies f M env = a.means env k in ((λ h. let x = (is env).0 h in (l.0 x.0, (x.1, tt))), λ h. (is env).1 (l.1 h.0, h.1.0));
}

pub minus_keeps : (domain : List Text) (M : Structure) (vs ws : List Variable) (left right set : Set) (f g : Form)
    → Denotes domain M vs left f → Denotes domain M ws right g → ((v : Variable) → Contains ws v → Contains vs v)
    → IsMinus left right set → Denotes domain M vs set (conjunction (form f (form (negation g) no_forms)))
minus_keeps domain M vs ws left right set f g a b known is = record {
  variables = same_more vs (free f) (free g ++ []) a.variables (λ v c. known v ((b.variables v).1 (⊎_elim (λ l. l) (λ r. absurd (contains_none v r)) (in_one (free g) [] v c))));
  means = λ env k.
      let l : left env ↔ Satisfies f M env = a.means env k in
      let r : right env ↔ Satisfies g M env = b.means env (λ v c. k v (known (data_variable v) c)) in
      ((λ h. let x = (is env).0 h in (l.0 x.0, ((λ y. x.1 (r.1 y)), tt))), λ h. (is env).1 (l.1 h.0, λ y. h.1.0 (r.0 y)));
}

pub complement_keeps : (domain : List Text) (M : Structure) (vs : List Variable) (of set : Set) (f : Form)
    → Denotes domain M vs of f → IsComplement domain vs of set → Denotes domain M vs set (negation f)
complement_keeps domain M vs of set f a is = record {
  variables = a.variables;
  means = λ env k. let l : of env ↔ Satisfies f M env = a.means env k in ((λ h y. ((is env).0 h).1 (l.1 y)), λ n. (is env).1 (k, λ y. n (l.0 y)));
}

pub union_keeps : (domain : List Text) (M : Structure) (vs ws us : List Variable) (left right set : Set) (f g : Form)
    → Denotes domain M vs left f → Denotes domain M ws right g → SameVariables us (vs ++ ws) → IsDecided set
    → IsUnion domain us left right set → Denotes domain M us set (disjunction (form f (form g no_forms)))
union_keeps domain M vs ws us left right set f g a b s decided is = record {
  variables = λ v.
      let q = same_append vs ws (free f) (free g ++ []) a.variables (same_more ws (free g) [] b.variables (λ w c. absurd (contains_none w c))) v in
      ((λ c. q.0 ((s v).0 c)), λ c. (s v).1 (q.1 c));
  means = λ env k.
      let l : left env ↔ Satisfies f M env = a.means env (λ v c. k v ((s (data_variable v)).1 (in_left vs ws (data_variable v) c))) in
      let r : right env ↔ Satisfies g M env = b.means env (λ v c. k v ((s (data_variable v)).1 (in_right vs ws (data_variable v) c))) in (
        (λ h m n. ⊎_elim (λ x. m (l.0 x)) (λ y. n (λ p q. p (r.0 y))) ((is env).0 h).1),
        λ h. stable_of (decided env) (λ none. h (λ x. none ((is env).1 (k, inl (l.1 x)))) (λ y. y (λ z. none ((is env).1 (k, inr (r.1 z)))) (λ z. z))),
      );
}

-- ---- a value for one more variable

at_cond : {X : Type 0} (p : X → Type 0) (b : Bool) (x y : X) → p x → (not b ≡ true → p y) → p (cond b x y)
at_cond p true x y h k = h
at_cond p false x y h k = k refl

abbrev pub others : Variable → List Variable → List Variable
others v vs = filter (λ w. not (same_variable v w)) vs

pub constants_time : (domain : List Text) (vs : List Variable) (env : Assignment) (v : Identifier) (x : ℤ) → HasConstants domain (others (time_variable v) vs) env → HasConstants domain vs (with_value v (time x) env)
constants_time domain vs env v x k w c = k w (in_filter (λ u. not (same_variable (time_variable v) u)) vs (data_variable w) c refl)

constants_data : (domain : List Text) (vs : List Variable) (env : Assignment) (v : Identifier) (t : Text) → Contains domain t → HasConstants domain (others (data_variable v) vs) env → HasConstants domain vs (with_value v (text t) env)
constants_data domain vs env v t of k w c = at_cond (λ u. Contains domain u) (bytes_eq v w) t (env.texts w) of (λ e. k w (in_filter (λ u. not (same_variable (data_variable v) u)) vs (data_variable w) c e))

pub same_others : (v : Variable) (vs ws us : List Variable) → SameVariables vs ws → SameVariables us (others v vs) → SameVariables us (others v ws)
same_others v vs ws us s t w = let q = same_filter (λ u. not (same_variable v u)) vs ws s w in ((λ c. q.0 ((t w).0 c)), λ c. (t w).1 (q.1 c))

pub drop_time_keeps : (domain : List Text) (M : Structure) (vs us : List Variable) (of set : Set) (f : Form) (v : Identifier)
    → Denotes domain M vs of f → SameVariables us (others (time_variable v) vs) → IsDecided set
    → IsDropTime v of set → Denotes domain M us set (exists v Time f)
drop_time_keeps domain M vs us of set f v a s decided is = record {
  variables = same_others (time_variable v) vs (free f) us a.variables s;
  means = λ env k.
      let l : (x : ℤ) → of (with_value v (time x) env) ↔ Satisfies f M (with_value v (time x) env) =
      λ x. a.means (with_value v (time x) env) (constants_time domain vs env v x (λ w c. k w ((s (data_variable w)).1 c))) in
      ((λ h none. let x = (is env).0 h in none (time x.0) (tt, (l x.0).0 x.1)), λ h. stable_of (decided env) (λ n. h (each env l n)));
}
  where
    each : (env : Assignment) → ((x : ℤ) → of (with_value v (time x) env) ↔ Satisfies f M (with_value v (time x) env)) → (set env → ⊥) → (d : Datum) → IsOfSort M Time d × Satisfies f M (with_value v d env) → ⊥
    each env l n (time x) h = n ((is env).1 (x, (l x).1 h.1))
    each env l n (text t) h = absurd h.0

-- a variable is the same as another one, or not
other_apart : (v : Identifier) (w : Variable) → not (same_variable (data_variable v) w) ≡ true → w ≢ data_variable v
other_apart v w e same = let self : bytes_eq v v ≡ true = (bytes_decides v v).1 refl in let x : same_variable (data_variable v) w ≡ true = ap (λ u. same_variable (data_variable v) u) same ∙ self in cc

apart_other : (v : Identifier) (w : Variable) → w ≢ data_variable v → not (same_variable (data_variable v) w) ≡ true
apart_other v (time_variable m) apart = refl
apart_other v (data_variable m) apart = by (bytes_eq v m) refl
  where
    by : (b : Bool) → bytes_eq v m ≡ b → not (bytes_eq v m) ≡ true
    by true e = absurd (apart (ap data_variable (sym ((bytes_decides v m).0 e))))
    by false e = ap not e

-- the variables of a drop of texts
pub same_without : (v : Identifier) (vs ws us xs : List Variable) → SameVariables vs ws → SameVariables us (others (data_variable v) vs) → AreWithout v ws xs → SameVariables us xs
same_without v vs ws us xs s t without w = (
  (λ c. let r = of_filter (λ u. not (same_variable (data_variable v) u)) vs w ((t w).0 c) in (without w).1 ((s w).0 r.0, other_apart v w r.1)),
  λ c. let r = (without w).0 c in (t w).1 (in_filter (λ u. not (same_variable (data_variable v) u)) vs w ((s w).1 r.0) (apart_other v w r.1)),
)

-- the formula of a drop of texts holds where some constant completes the assignment
pub drop_data_keeps : (domain : List Text) (M : Structure) (vs us : List Variable) (of set : Set) (f g : Form) (v : Identifier)
    → Denotes domain M vs of f → SameVariables us (others (data_variable v) vs) → IsDecided set → IsDropData domain v of set → AreWithout v (free f) (free g)
    → ((env : Assignment) → Satisfies g M env ↔ ForSome (λ t. Contains domain t × Satisfies f M (with_value v (text t) env))) → Denotes domain M us set g
drop_data_keeps domain M vs us of set f g v a same decided is without says = record {
  variables = same_without v vs (free f) us (free g) a.variables same without;
  means = λ env k.
      let l : (t : Text) → Contains domain t → of (with_value v (text t) env) ↔ Satisfies f M (with_value v (text t) env) =
      λ t c. a.means (with_value v (text t) env) (constants_data domain vs env v t c (λ w d. k w ((same (data_variable w)).1 d))) in (
        (λ h. let x = (is env).0 h in (says env).1 (λ none. none x.0 (x.1, (l x.0 x.1).0 x.2))),
        λ h. stable_of (decided env) (λ n. (says env).0 h (λ t y. n ((is env).1 (t, y.0, (l t y.0).1 y.1)))),
      );
}
