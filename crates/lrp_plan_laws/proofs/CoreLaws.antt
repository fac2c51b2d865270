-- The core form of a formula keeps its meaning, and that of its negation denies it.
use Rattle.std.proofs.Common.{◌≡◌, ◌↔◌, Bool, true, false, cond, List, Contains, refl, sym, subst, arith, bytes_eq}
use Rattle.std.specs.Prelude.{ℤ, ◌≤ℤ◌, ◌<ℤ◌}
use Rattle.std.specs.Cmp.Lexicographic.{bytes_decides}
use Rattle.std.proofs.lemmas.Int.{ints, by_lt_z}
use Rattle.lrp_model.specs.Texts.{Text, Identifier}
use Rattle.lrp_model.specs.Rows.{Datum, time, text}
use Rattle.lrp_model.specs.Formulas.{Form, Forms, Question, atom, test, sorted, negation, conjunction, disjunction, implication, exists, forall, no_forms, form, joined}
use Rattle.lrp_model.specs.Satisfaction.{Structure, Assignment, Satisfies, SatisfiesAll, SatisfiesSome, Passes, Either, ForSome, IsOfSort, with_value}
use Rattle.lrp_model.specs.Core.{conjuncts, disjuncts, all_conjuncts, all_disjuncts, and_list, or_list, and_two, or_two, positive_test, negative_test, with_sort, positive, negative, positives, negatives, head_elements, guarded, core_form}
use Rattle.lrp_model.proofs.Logic.{same, then_iff, not_iff}
use Rattle.lrp_model.specs.declared.relations.Sort.{Sort}
use Rattle.lrp_model.specs.declared.relations.Sort.TheVariants.{Time, Data, Named}
use Rattle.lrp_model.specs.declared.formulas.Op.TheVariants.{Le, Lt, Ge, Gt, Eq}
use Rattle.lrp_model.specs.declared.formulas.Test.{Test}
use Rattle.lrp_model.specs.declared.formulas.Test.TheVariants.{Compare, Member, Equal}
use Rattle.lrp_model.proofs.Stable.{stable}

-- ---- lists of formulas

module _ (M : Structure) (env : Assignment) where
  pub all_joined : (fs gs : Forms) → SatisfiesAll (joined fs gs) M env ↔ (SatisfiesAll fs M env × SatisfiesAll gs M env)
  all_joined no_forms gs = ((λ h. (tt, h)), λ h. h.1)
  all_joined (form f fs) gs =
      let r : SatisfiesAll (joined fs gs) M env ↔ (SatisfiesAll fs M env × SatisfiesAll gs M env) = all_joined fs gs in
      ((λ h. ((h.0, (r.0 h.1).0), (r.0 h.1).1)), λ h. (h.0.0, r.1 (h.0.1, h.1)))

  pub some_joined : (fs gs : Forms) → SatisfiesSome (joined fs gs) M env ↔ Either (SatisfiesSome fs M env) (SatisfiesSome gs M env)
  some_joined no_forms gs = ((λ h a b. b h), λ h. stable_list gs (λ n. h (λ x. x) n))
    where
      stable_list : (hs : Forms) → ((SatisfiesSome hs M env → ⊥) → ⊥) → SatisfiesSome hs M env
      stable_list no_forms k = k (λ x. x)
      stable_list (form g hs) k = λ a b. k (λ n. n a b)
  some_joined (form f fs) gs =
      let r : SatisfiesSome (joined fs gs) M env ↔ Either (SatisfiesSome fs M env) (SatisfiesSome gs M env) = some_joined fs gs in (
        (λ h a b. h (λ x. a (λ m n. m x)) (λ y. r.0 y (λ z. a (λ m n. n z)) b)),
        λ h a b. h (λ x. x a (λ y. b (r.1 (λ m n. m y)))) (λ z. b (r.1 (λ m n. n z))),
      )

  conjuncts_is : (f : Form) → SatisfiesAll (conjuncts f) M env ↔ Satisfies f M env
  conjuncts_is (conjunction fs) = same
  conjuncts_is f = ((λ h. h.0), λ s. (s, tt))

  disjuncts_is : (f : Form) → SatisfiesSome (disjuncts f) M env ↔ Satisfies f M env
  disjuncts_is (disjunction fs) = same
  disjuncts_is f = ((λ h. stable f M env (λ n. h n (λ x. x))), λ s a b. a s)

  pub and_list_is : (fs : Forms) → Satisfies (and_list fs) M env ↔ SatisfiesAll fs M env
  and_list_is no_forms = same
  and_list_is (form f fs) =
      let c : SatisfiesAll (conjuncts f) M env ↔ Satisfies f M env = conjuncts_is f in
      let r : SatisfiesAll (all_conjuncts fs) M env ↔ SatisfiesAll fs M env = and_list_is fs in
      let j : SatisfiesAll (joined (conjuncts f) (all_conjuncts fs)) M env ↔ (SatisfiesAll (conjuncts f) M env × SatisfiesAll (all_conjuncts fs) M env) = all_joined (conjuncts f) (all_conjuncts fs) in
      ((λ h. (c.0 (j.0 h).0, r.0 (j.0 h).1)), λ h. j.1 (c.1 h.0, r.1 h.1))

  pub or_list_is : (fs : Forms) → Satisfies (or_list fs) M env ↔ SatisfiesSome fs M env
  or_list_is no_forms = same
  or_list_is (form f fs) =
      let c : SatisfiesSome (disjuncts f) M env ↔ Satisfies f M env = disjuncts_is f in
      let r : SatisfiesSome (all_disjuncts fs) M env ↔ SatisfiesSome fs M env = or_list_is fs in
      let j : SatisfiesSome (joined (disjuncts f) (all_disjuncts fs)) M env ↔ Either (SatisfiesSome (disjuncts f) M env) (SatisfiesSome (all_disjuncts fs) M env) = some_joined (disjuncts f) (all_disjuncts fs) in
      ((λ h a b. j.0 h (λ x. a (c.0 x)) (λ y. b (r.0 y))), λ h. j.1 (λ a b. h (λ x. a (c.1 x)) (λ y. b (r.1 y))))

-- ---- tests

lt_not_le : (x y : ℤ) → (y <ℤ x) ↔ (x ≤ℤ y → ⊥)
lt_not_le x y = ((λ lt le. absurd (omega (arith, ints))), λ n. by_lt_z y x (λ lt. lt) (λ le. absurd (n le)))

le_not_lt : (x y : ℤ) → (y ≤ℤ x) ↔ (x <ℤ y → ⊥)
le_not_lt x y = ((λ le lt. absurd (omega (arith, ints))), λ n. by_lt_z x y (λ lt. absurd (n lt)) (λ le. le))

lt_not_eq : (x y : ℤ) → x <ℤ y → x ≡ y → ⊥
lt_not_eq x y lt e = omega (arith, ints)

gt_not_eq : (x y : ℤ) → y <ℤ x → x ≡ y → ⊥
gt_not_eq x y lt e = omega (arith, ints)

both_le : (x y : ℤ) → x ≤ℤ y → y ≤ℤ x → x ≡ y
both_le x y h k = omega (arith, ints)

either_not_eq : (x y : ℤ) → Either (x <ℤ y) (Either (y <ℤ x) ⊥) ↔ (x ≡ y → ⊥)
either_not_eq x y = (
  (λ h e. h (λ lt. lt_not_eq x y lt e) (λ k. k (λ lt. gt_not_eq x y lt e) (λ n. n))),
  λ n a b. by_lt_z x y a (λ le. by_lt_z y x (λ lt. b (λ m o. m lt)) (λ ge. n (both_le x y ge le))),
)

keeps_test : (t : Test) (M : Structure) (env : Assignment) → Satisfies (positive_test t) M env ↔ Passes env t
keeps_test (Compare a Le b) M env = same
keeps_test (Compare a Lt b) M env = same
keeps_test (Compare a Ge b) M env = same
keeps_test (Compare a Gt b) M env = same
keeps_test (Compare a Eq b) M env = same
keeps_test (Member term point) M env = same
keeps_test (Equal a b) M env = same

denies_test : (t : Test) (M : Structure) (env : Assignment) → Satisfies (negative_test t) M env ↔ (Passes env t → ⊥)
denies_test (Compare a Le b) M env = lt_not_le _ _
denies_test (Compare a Lt b) M env = le_not_lt _ _
denies_test (Compare a Ge b) M env = lt_not_le _ _
denies_test (Compare a Gt b) M env = le_not_lt _ _
denies_test (Compare a Eq b) M env = either_not_eq _ _
denies_test (Member term point) M env = same
denies_test (Equal a b) M env = same

-- ---- sort elements

pub own_name : (v : Identifier) → bytes_eq v v ≡ true
own_name v = (bytes_decides v v).1 refl

at_own : (ts : List Text) (v : Identifier) (t u : Text) → Contains ts t → Contains ts (cond (bytes_eq v v) t u)
at_own ts v t u c = subst (λ b. Contains ts (cond b t u)) (sym (own_name v)) c

sort_is : (named : Bool) (s : Sort) (v : Identifier) (f : Form) (M : Structure) (env : Assignment) (d : Datum) → IsOfSort M s d
    → Satisfies (with_sort named s v f) M (with_value v d env) ↔ Satisfies f M (with_value v d env)
sort_is named Time v f M env d of = same
sort_is false Data v f M env d of = same
sort_is true Data v f M env (time x) of = absurd of
sort_is true Data v f M env (text t) of =
    let w : Satisfies (and_two (sorted Data v) f) M (with_value v (text t) env) ↔ SatisfiesAll (form (sorted Data v) (form f no_forms)) M (with_value v (text t) env) = and_list_is M (with_value v (text t) env) (form (sorted Data v) (form f no_forms)) in
    ((λ h. (w.0 h).1.0), λ s. w.1 (at_own (M.domain Data) v t (env.texts v) of, (s, tt)))
sort_is false (Named name) v f M env d of = same
sort_is true (Named name) v f M env (time x) of = absurd of
sort_is true (Named name) v f M env (text t) of =
    let w : Satisfies (and_two (sorted (Named name) v) f) M (with_value v (text t) env) ↔ SatisfiesAll (form (sorted (Named name) v) (form f no_forms)) M (with_value v (text t) env) = and_list_is M (with_value v (text t) env) (form (sorted (Named name) v) (form f no_forms)) in
    ((λ h. (w.0 h).1.0), λ s. w.1 (at_own (M.domain (Named name)) v t (env.texts v) of, (s, tt)))

-- ---- formulas

some_value : (M : Structure) (s : Sort) (p q : Datum → Type 0) → ((d : Datum) → IsOfSort M s d → p d → q d) → ForSome (λ d. IsOfSort M s d × p d) → ForSome (λ d. IsOfSort M s d × q d)
some_value M s p q f h none = h (λ d x. none d (x.0, f d x.0 x.1))

mutual
  pub keeps : (f : Form) (named : Bool) (M : Structure) (env : Assignment) → Satisfies (positive f named) M env ↔ Satisfies f M env
  keeps (atom name terms) named M env = same
  keeps (test t) named M env = keeps_test t M env
  keeps (sorted s v) named M env = same
  keeps (negation f) named M env = denies f named M env
  keeps (conjunction fs) named M env = then_iff (and_list_is M env (positives fs named)) (keeps_all fs named M env)
  keeps (disjunction fs) named M env = then_iff (or_list_is M env (positives fs named)) (keeps_some fs named M env)
  keeps (implication f g) named M env =
      let w : Satisfies (or_two (negative f named) (positive g named)) M env ↔ SatisfiesSome (form (negative f named) (form (positive g named) no_forms)) M env = or_list_is M env (form (negative f named) (form (positive g named) no_forms)) in
      let df : Satisfies (negative f named) M env ↔ (Satisfies f M env → ⊥) = denies f named M env in
      let kg : Satisfies (positive g named) M env ↔ Satisfies g M env = keeps g named M env in (
        (λ h sf. stable g M env (λ ng. w.0 h (λ nf. df.0 nf sf) (λ k. k (λ pg. ng (kg.0 pg)) (λ x. x)))),
        λ i. w.1 (λ a b. a (df.1 (λ sf. b (λ m n. m (kg.1 (i sf)))))),
      )
  keeps (exists v s f) named M env =
      let k : (d : Datum) → Satisfies (positive f named) M (with_value v d env) ↔ Satisfies f M (with_value v d env) = λ d. keeps f named M (with_value v d env) in (
        some_value M s _ _ (λ d of x. (k d).0 ((sort_is named s v (positive f named) M env d of).0 x)),
        some_value M s _ _ (λ d of x. (sort_is named s v (positive f named) M env d of).1 ((k d).1 x)),
      )
  keeps (forall v s f) named M env =
      let k : (d : Datum) → Satisfies (negative f named) M (with_value v d env) ↔ (Satisfies f M (with_value v d env) → ⊥) = λ d. denies f named M (with_value v d env) in (
        (λ h d of. stable f M (with_value v d env) (λ n. h (λ none. none d (of, (sort_is named s v (negative f named) M env d of).1 ((k d).1 n))))),
        λ all some. some (λ d x. (k d).0 ((sort_is named s v (negative f named) M env d x.0).0 x.1) (all d x.0)),
      )

  pub denies : (f : Form) (named : Bool) (M : Structure) (env : Assignment) → Satisfies (negative f named) M env ↔ (Satisfies f M env → ⊥)
  denies (atom name terms) named M env = same
  denies (test t) named M env = denies_test t M env
  denies (sorted s v) named M env = same
  denies (negation f) named M env =
      let k : Satisfies (positive f named) M env ↔ Satisfies f M env = keeps f named M env in
      ((λ h n. n (k.0 h)), λ h. k.1 (stable f M env h))
  denies (conjunction fs) named M env = not_iff (then_iff (and_list_is M env (positives fs named)) (keeps_all fs named M env))
  denies (disjunction fs) named M env = then_iff (and_list_is M env (negatives fs named)) (denies_all fs named M env)
  denies (implication f g) named M env =
      let w : Satisfies (and_two (positive f named) (negative g named)) M env ↔ SatisfiesAll (form (positive f named) (form (negative g named) no_forms)) M env = and_list_is M env (form (positive f named) (form (negative g named) no_forms)) in
      let kf : Satisfies (positive f named) M env ↔ Satisfies f M env = keeps f named M env in
      let dg : Satisfies (negative g named) M env ↔ (Satisfies g M env → ⊥) = denies g named M env in (
        (λ h i. dg.0 (w.0 h).1.0 (i (kf.0 (w.0 h).0))),
        λ n. w.1 (kf.1 (stable f M env (λ nf. n (λ x. absurd (nf x)))), (dg.1 (λ y. n (λ x. y)), tt)),
      )
  denies (exists v s f) named M env =
      let k : (d : Datum) → Satisfies (positive f named) M (with_value v d env) ↔ Satisfies f M (with_value v d env) = λ d. keeps f named M (with_value v d env) in
      not_iff (
        some_value M s _ _ (λ d of x. (k d).0 ((sort_is named s v (positive f named) M env d of).0 x)),
        some_value M s _ _ (λ d of x. (sort_is named s v (positive f named) M env d of).1 ((k d).1 x)),
      )
  denies (forall v s f) named M env =
      let k : (d : Datum) → Satisfies (negative f named) M (with_value v d env) ↔ (Satisfies f M (with_value v d env) → ⊥) = λ d. denies f named M (with_value v d env) in (
        (λ some all. some (λ d x. (k d).0 ((sort_is named s v (negative f named) M env d x.0).0 x.1) (all d x.0))),
        λ na none. na (λ d of. stable f M (with_value v d env) (λ n. none d (of, (sort_is named s v (negative f named) M env d of).1 ((k d).1 n)))),
      )

  pub keeps_all : (fs : Forms) (named : Bool) (M : Structure) (env : Assignment) → SatisfiesAll (positives fs named) M env ↔ SatisfiesAll fs M env
  keeps_all no_forms named M env = same
  keeps_all (form f fs) named M env =
      let k : Satisfies (positive f named) M env ↔ Satisfies f M env = keeps f named M env in
      let r : SatisfiesAll (positives fs named) M env ↔ SatisfiesAll fs M env = keeps_all fs named M env in
      ((λ h. (k.0 h.0, r.0 h.1)), λ h. (k.1 h.0, r.1 h.1))

  pub keeps_some : (fs : Forms) (named : Bool) (M : Structure) (env : Assignment) → SatisfiesSome (positives fs named) M env ↔ SatisfiesSome fs M env
  keeps_some no_forms named M env = same
  keeps_some (form f fs) named M env =
      let k : Satisfies (positive f named) M env ↔ Satisfies f M env = keeps f named M env in
      let r : SatisfiesSome (positives fs named) M env ↔ SatisfiesSome fs M env = keeps_some fs named M env in
      ((λ h a b. h (λ x. a (k.0 x)) (λ y. b (r.0 y))), λ h a b. h (λ x. a (k.1 x)) (λ y. b (r.1 y)))

  pub denies_all : (fs : Forms) (named : Bool) (M : Structure) (env : Assignment) → SatisfiesAll (negatives fs named) M env ↔ (SatisfiesSome fs M env → ⊥)
  denies_all no_forms named M env = ((λ h x. x), λ h. tt)
  denies_all (form f fs) named M env =
      let k : Satisfies (negative f named) M env ↔ (Satisfies f M env → ⊥) = denies f named M env in
      let r : SatisfiesAll (negatives fs named) M env ↔ (SatisfiesSome fs M env → ⊥) = denies_all fs named M env in
      ((λ h e. e (k.0 h.0) (r.0 h.1)), λ n. (k.1 (λ x. n (λ a b. a x)), r.1 (λ y. n (λ a b. b y))))

-- ---- the core form of a query

pub core_is : (named : Bool) (q : Question) (M : Structure) (env : Assignment) → Satisfies (core_form named q) M env ↔ Satisfies (guarded named q.head q.body) M env
core_is false q M env = keeps q.body false M env
core_is true q M env =
    let k : Satisfies (positive q.body true) M env ↔ Satisfies q.body M env = keeps q.body true M env in
    let a : SatisfiesAll (joined (head_elements q.head) (form (positive q.body true) no_forms)) M env ↔ (SatisfiesAll (head_elements q.head) M env × (Satisfies (positive q.body true) M env × Unit {0})) = all_joined M env (head_elements q.head) (form (positive q.body true) no_forms) in
    let b : SatisfiesAll (joined (head_elements q.head) (form q.body no_forms)) M env ↔ (SatisfiesAll (head_elements q.head) M env × (Satisfies q.body M env × Unit {0})) = all_joined M env (head_elements q.head) (form q.body no_forms) in
    let w : Satisfies (and_list (joined (head_elements q.head) (form (positive q.body true) no_forms))) M env ↔ SatisfiesAll (joined (head_elements q.head) (form (positive q.body true) no_forms)) M env = and_list_is M env (joined (head_elements q.head) (form (positive q.body true) no_forms)) in (
      (λ h. let x : SatisfiesAll (head_elements q.head) M env × (Satisfies (positive q.body true) M env × Unit {0}) = a.0 (w.0 h) in b.1 (x.0, (k.0 x.1.0, tt))),
      λ h. let x : SatisfiesAll (head_elements q.head) M env × (Satisfies q.body M env × Unit {0}) = b.0 h in w.1 (a.1 (x.0, (k.1 x.1.0, tt))),
    )
