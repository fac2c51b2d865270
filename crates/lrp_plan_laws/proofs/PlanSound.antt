-- The plan of a query: the step before `head` says what the step `head` says.
use Rattle.std.proofs.Common.{◌≡◌, ◌↔◌, ◌<◌, ◌+◌, ℕ, Bool, true, false, cond, List, [], ◌∷◌, length, append-nil, refl, sym, subst, arith}
use Rattle.std.specs.List.{AllByRecursion}
use Rattle.lrp_model.specs.Texts.{Identifier}
use Rattle.lrp_model.specs.Formulas.{Form, Forms, Question, atom, test, sorted, negation, conjunction, disjunction, implication, exists, forall, no_forms, form, joined}
use Rattle.lrp_model.specs.Satisfaction.{Structure, Assignment, Satisfies, SatisfiesAll, SatisfiesSome, Either, with_value, structure}
use Rattle.lrp_model.specs.Core.{conjuncts, disjuncts, all_conjuncts, all_disjuncts, and_list, or_list, positive_test, negative_test, with_sort, positive, negative, positives, negatives, column_elements, head_elements, guarded, core_form, has_named_sort, IsCore, AreCore, HasElement, HasElements, HaveElements}
use Rattle.lrp_model.specs.Steps.{Steps, formula_at, Rule, union}
use Rattle.lrp_model.specs.Conjunctions.{Element, tests_in, ranked, put_ranked, fewer, nothing_taken, conjunction_rule, as_positive}
use Rattle.lrp_model.specs.Plans.{plan_of, plan_of_others, positives_in, negations_in, core_steps}
use Rattle.lrp_model.specs.declared.relations.Sort.{Sort}
use Rattle.lrp_model.specs.declared.relations.Sort.TheVariants.{Time, Data, Named}
use Rattle.lrp_model.specs.declared.relations.Column.{Column}
use Rattle.lrp_model.specs.declared.relations.Relation.{Relation}
use Rattle.lrp_model.specs.declared.formulas.Op.TheVariants.{Le, Lt, Ge, Gt, Eq}
use Rattle.lrp_model.specs.declared.formulas.Test.{Test}
use Rattle.lrp_model.specs.declared.formulas.Test.TheVariants.{Compare, Member, Equal}
use Rattle.lrp_model.proofs.Stable.{stable}
use Rattle.lrp_model.proofs.Logic.{same, then_iff}
use Rattle.lrp_plan_laws.proofs.CoreLaws.{core_is}
use Rattle.lrp_model.proofs.Logic.{all_append}
use Rattle.lrp_plan_laws.proofs.PlanLaws.{Makes, by_first, by_next, same_saying, kept, chain, Left, IsSound, all_taken, complement_makes}

-- ---- the elements of an `and`, in whatever order

pub put_all : {X : Type 0} (p : X → Type 0) (b : Bool) (e f : X) (fs gs : List X) → AllByRecursion p gs ↔ (p e × AllByRecursion p fs) → AllByRecursion p (cond b (e ∷ f ∷ fs) (f ∷ gs)) ↔ (p e × AllByRecursion p (f ∷ fs))
put_all p true e f fs gs r = same
put_all p false e f fs gs r = ((λ h. ((r.0 h.1).0, (h.0, (r.0 h.1).1))), λ h. (h.1.0, r.1 (h.0, h.1.1)))

put_ranked_all : (p : Element → Type 0) (M : Structure) (e : Element) (fs : List Element) → AllByRecursion p (put_ranked M e fs) ↔ (p e × AllByRecursion p fs)
put_ranked_all p M e [] = same
put_ranked_all p M e (f ∷ fs) = put_all p (fewer (e.rows M) (f.rows M)) e f fs (put_ranked M e fs) (put_ranked_all p M e fs)

pub ranked_all : (p : Element → Type 0) (M : Structure) (es : List Element) → AllByRecursion p (ranked M es) ↔ AllByRecursion p es
ranked_all p M [] = same
ranked_all p M (e ∷ es) =
    let r : AllByRecursion p (ranked M es) ↔ AllByRecursion p es = ranked_all p M es in
    let q : AllByRecursion p (put_ranked M e (ranked M es)) ↔ (p e × AllByRecursion p (ranked M es)) = put_ranked_all p M e (ranked M es) in
    ((λ h. ((q.0 h).0, r.0 (q.0 h).1)), λ h. q.1 (h.0, r.1 h.1))

cond_some : {X : Type 0} (b : Bool) (e f : X) (fs gs : List X) → 0 < length (cond b (e ∷ f ∷ fs) (f ∷ gs))
cond_some true e f fs gs = omega arith
cond_some false e f fs gs = omega arith

put_some : (M : Structure) (e : Element) (fs : List Element) → 0 < length (put_ranked M e fs)
put_some M e [] = omega arith
put_some M e (f ∷ fs) = cond_some (fewer (e.rows M) (f.rows M)) e f fs (put_ranked M e fs)

-- ---- an `and` is its positives, its tests and its negations

pub first_positive : (A B C D : Type 0) → B ↔ (C × D) → (A × B) ↔ ((A × C) × D)
first_positive A B C D r = ((λ h. ((h.0, (r.0 h.1).0), (r.0 h.1).1)), λ h. (h.0.0, r.1 (h.0.1, h.1)))

pub first_test : (A B C D E : Type 0) → B ↔ (C × (D × E)) → (A × B) ↔ (C × ((A × D) × E))
first_test A B C D E r = ((λ h. let x = r.0 h.1 in (x.0, ((h.0, x.1.0), x.1.1))), λ h. (h.1.0.0, r.1 (h.0, (h.1.0.1, h.1.1))))

pub first_negation : (A B C D E : Type 0) → B ↔ (C × (D × E)) → (A × B) ↔ (C × (D × (A × E)))
first_negation A B C D E r = ((λ h. let x = r.0 h.1 in (x.0, (x.1.0, (h.0, x.1.1)))), λ h. (h.1.1.0, r.1 (h.0, (h.1.0, h.1.1.1))))

parts : (fs : Forms) (M : Structure) (env : Assignment) → SatisfiesAll fs M env ↔ Left M (positives_in fs) (tests_in fs) (negations_in fs) env
parts no_forms M env = ((λ h. (tt, (tt, tt))), λ h. tt)
parts (form (atom name terms) fs) M env = first_positive _ _ _ _ (parts fs M env)
parts (form (test (Compare left op right)) fs) M env = first_test _ _ _ _ _ (parts fs M env)
parts (form (test (Member term point)) fs) M env = first_positive _ _ _ _ (parts fs M env)
parts (form (test (Equal left right)) fs) M env = first_test _ _ _ _ _ (parts fs M env)
parts (form (sorted s v) fs) M env = first_positive _ _ _ _ (parts fs M env)
parts (form (negation g) fs) M env = first_negation _ _ _ _ _ (parts fs M env)
parts (form (conjunction gs) fs) M env = first_positive _ _ _ _ (parts fs M env)
parts (form (disjunction gs) fs) M env = first_positive _ _ _ _ (parts fs M env)
parts (form (implication f g) fs) M env = first_positive _ _ _ _ (parts fs M env)
parts (form (exists v s f) fs) M env = first_positive _ _ _ _ (parts fs M env)
parts (form (forall v s f) fs) M env = first_positive _ _ _ _ (parts fs M env)

abbrev pub count : Structure → Forms → ℕ
count M fs = length (ranked M (positives_in fs)) + length (tests_in fs) + length (negations_in fs)

ranked_some : (M : Structure) (es : List Element) → 0 < length es → 0 < length (ranked M es)
ranked_some M [] h = h
ranked_some M (e ∷ es) h = put_some M e (ranked M es)

by_positive : (fs : Forms) (M : Structure) → 0 < length (positives_in fs) → 0 < count M fs
by_positive fs M h = let r : 0 < length (ranked M (positives_in fs)) = ranked_some M (positives_in fs) h in omega arith

by_test : (fs : Forms) (M : Structure) → 0 < length (tests_in fs) → 0 < count M fs
by_test fs M h = omega arith

by_negation : (fs : Forms) (M : Structure) → 0 < length (negations_in fs) → 0 < count M fs
by_negation fs M h = omega arith

pub counted : (M : Structure) (fs : Forms) → HasElement fs → 0 < count M fs
counted M no_forms h = absurd h
counted M (form (atom name terms) fs) h = by_positive (form (atom name terms) fs) M (omega arith)
counted M (form (test (Compare left op right)) fs) h = by_test (form (test (Compare left op right)) fs) M (omega arith)
counted M (form (test (Member term point)) fs) h = by_positive (form (test (Member term point)) fs) M (omega arith)
counted M (form (test (Equal left right)) fs) h = by_test (form (test (Equal left right)) fs) M (omega arith)
counted M (form (sorted s v) fs) h = by_positive (form (sorted s v) fs) M (omega arith)
counted M (form (negation g) fs) h = by_negation (form (negation g) fs) M (omega arith)
counted M (form (conjunction gs) fs) h = by_positive (form (conjunction gs) fs) M (omega arith)
counted M (form (disjunction gs) fs) h = by_positive (form (disjunction gs) fs) M (omega arith)
counted M (form (implication f g) fs) h = by_positive (form (implication f g) fs) M (omega arith)
counted M (form (exists v s f) fs) h = by_positive (form (exists v s f) fs) M (omega arith)
counted M (form (forall v s f) fs) h = by_positive (form (forall v s f) fs) M (omega arith)

as_sound : (f : Form) (rule : Rule) (M : Structure) → ((steps : Steps) → Makes M steps (rule M steps) (Satisfies f M)) → AllByRecursion (IsSound M) (as_positive f rule)
as_sound (test (Compare left op right)) rule M h = tt
as_sound (test (Member term point)) rule M h = (h, tt)
as_sound (test (Equal left right)) rule M h = tt
as_sound (negation f) rule M h = tt
as_sound (atom name terms) rule M h = (h, tt)
as_sound (sorted s v) rule M h = (h, tt)
as_sound (conjunction fs) rule M h = (h, tt)
as_sound (disjunction fs) rule M h = (h, tt)
as_sound (implication f g) rule M h = (h, tt)
as_sound (exists v s f) rule M h = (h, tt)
as_sound (forall v s f) rule M h = (h, tt)

conjunction_makes : (fs : Forms) (M : Structure) (steps : Steps) → HasElement fs → AllByRecursion (IsSound M) (positives_in fs) → AllByRecursion (IsSound M) (negations_in fs)
    → Makes M steps (conjunction_rule (positives_in fs) (tests_in fs) (negations_in fs) M steps) (Satisfies (conjunction fs) M)
conjunction_makes fs M steps some ps ns =
    all_taken M steps (count M fs) (Satisfies (conjunction fs) M)
    (record { steps = steps; taken = nothing_taken; positives = ranked M (positives_in fs); tests = tests_in fs; negations = negations_in fs })
    (counted M fs some)
    (record {
      more = [];
      is = sym (append-nil steps);
      positives = (ranked_all (IsSound M) M (positives_in fs)).1 ps;
      negations = ns;
      grown = λ e. cc;
      last = λ e. cc;
      idle = λ e. refl;
      says = λ env.
          let r = ranked_all (λ e. Satisfies e.formula M env) M (positives_in fs) in
          let p = parts fs M env in
          ((λ h. p.1 (r.0 h.1.0, h.1.1)), λ x. let w = p.0 x in (tt, (r.1 w.0, w.1)));
    })

-- ---- each rule

or_more : (P F S : Type 0) → Either (Either P (Either F ⊥)) S ↔ Either P (Either F S)
or_more P F S = (
  (λ h a b. h (λ e. e a (λ k. k (λ x. b (λ m n. m x)) (λ x. x))) (λ s. b (λ m n. n s))),
  λ h a b. h (λ x. a (λ m n. m x)) (λ e. e (λ x. a (λ m n. n (λ k l. k x))) b),
)

mutual
  pub makes : (f : Form) → IsCore f → (M : Structure) (steps : Steps) → Makes M steps (plan_of f M steps) (Satisfies f M)
  makes (atom name terms) c M steps = by_first M steps _ (atom name terms)
  makes (test t) c M steps = by_first M steps _ (test t)
  makes (sorted s v) c M steps = by_first M steps _ (sorted s v)
  makes (negation f) c M steps = complement_makes M steps (plan_of f M steps) f (makes f c M steps)
  makes (conjunction fs) c M steps = conjunction_makes fs M steps c.0 (sound_positives fs c.1 M) (sound_negations fs c.1 M)
  makes (disjunction no_forms) c M steps = absurd c.0
  makes (disjunction (form f fs)) c M steps = makes_others fs c.1.1 M steps (plan_of f M steps) f (makes f c.1.0 M steps)
  makes (implication f g) c M steps = absurd c
  makes (exists v s f) c M steps =
      let m : Makes M steps (plan_of f M steps) (Satisfies f M) = makes f c M steps in
      by_next M steps (plan_of f M steps) (Satisfies f M) (Satisfies (exists v s f) M) _ _ m
      (λ env. ((λ h none. h (λ d x. none d (x.0, (m.says (with_value v d env)).0 x.1))), λ h none. h (λ d x. none d (x.0, (m.says (with_value v d env)).1 x.1))))
  makes (forall v s f) c M steps = absurd c

  pub makes_others : (fs : Forms) → AreCore fs → (M : Structure) (before mid : Steps) (g : Form) → Makes M before mid (Satisfies g M) → Makes M before (plan_of_others fs M mid) (λ env. Either (Satisfies g M env) (SatisfiesSome fs M env))
  makes_others no_forms c M before mid g m =
      same_saying M before mid (Satisfies g M) _ m (λ env. ((λ x a b. a x), λ h. stable g M env (λ n. h n (λ x. x))))
  makes_others (form f fs) c M before mid g m =
      let k : Makes M mid (plan_of f M mid) (Satisfies f M) = makes f c.0 M mid in
      let after : Steps = plan_of f M mid in
      let e : formula_at after (length mid) ≡ formula_at mid (length mid) = kept M mid after (Satisfies f M) (length mid) k (omega arith) in
      let either : Form = disjunction (form g (form f no_forms)) in
      let u : Makes M mid (union (length mid) M after) (Satisfies either M) =
      by_next M mid after (Satisfies f M) (Satisfies either M) _ _ k (λ env. (
        (λ h a b. h (λ x. a ((m.says env).0 (subst (λ w. Satisfies w M env) e x))) (λ y. b (λ i j. y (λ z. i ((k.says env).0 z)) j))),
        λ h a b. h (λ x. a (subst (λ w. Satisfies w M env) (sym e) ((m.says env).1 x))) (λ y. b (λ i j. y (λ z. i ((k.says env).1 z)) j)),
      )) in
      same_saying M before (plan_of_others fs M (union (length mid) M after)) _ _
      (makes_others fs c.1 M before (union (length mid) M after) either (chain M before mid (union (length mid) M after) (Satisfies g M) (Satisfies either M) m u))
      (λ env. or_more (Satisfies g M env) (Satisfies f M env) (SatisfiesSome fs M env))

  pub sound_positives : (fs : Forms) → AreCore fs → (M : Structure) → AllByRecursion (IsSound M) (positives_in fs)
  sound_positives no_forms c M = tt
  sound_positives (form f fs) c M = (all_append (IsSound M) (as_positive f (plan_of f)) (positives_in fs)).1 (as_sound f (plan_of f) M (makes f c.0 M), sound_positives fs c.1 M)

  pub sound_negations : (fs : Forms) → AreCore fs → (M : Structure) → AllByRecursion (IsSound M) (negations_in fs)
  sound_negations no_forms c M = tt
  sound_negations (form (negation g) fs) c M = (makes g c.0 M, sound_negations fs c.1 M)
  sound_negations (form f fs) c M = sound_negations fs c.1 M

-- ---- core forms

core_joined : (fs gs : Forms) → AreCore fs → AreCore gs → AreCore (joined fs gs)
core_joined no_forms gs a b = b
core_joined (form f fs) gs a b = (a.0, core_joined fs gs a.1 b)

has_left : (fs gs : Forms) → HasElement fs → HasElement (joined fs gs)
has_left no_forms gs h = absurd h
has_left (form f fs) gs h = tt

has_right : (fs gs : Forms) → HasElement gs → HasElement (joined fs gs)
has_right no_forms gs h = h
has_right (form f fs) gs h = tt

core_conjuncts : (f : Form) → IsCore f → HasElement (conjuncts f) × AreCore (conjuncts f)
core_conjuncts (conjunction fs) c = c
core_conjuncts f c = (tt, (c, tt))

core_disjuncts : (f : Form) → IsCore f → HasElement (disjuncts f) × AreCore (disjuncts f)
core_disjuncts (disjunction fs) c = c
core_disjuncts f c = (tt, (c, tt))

core_all_conjuncts : (fs : Forms) → AreCore fs → AreCore (all_conjuncts fs)
core_all_conjuncts no_forms c = tt
core_all_conjuncts (form f fs) c = core_joined (conjuncts f) (all_conjuncts fs) (core_conjuncts f c.0).1 (core_all_conjuncts fs c.1)

core_all_disjuncts : (fs : Forms) → AreCore fs → AreCore (all_disjuncts fs)
core_all_disjuncts no_forms c = tt
core_all_disjuncts (form f fs) c = core_joined (disjuncts f) (all_disjuncts fs) (core_disjuncts f c.0).1 (core_all_disjuncts fs c.1)

core_and : (fs : Forms) → HasElement fs → AreCore fs → IsCore (and_list fs)
core_and no_forms h c = absurd h
core_and (form f fs) h c = (has_left (conjuncts f) (all_conjuncts fs) (core_conjuncts f c.0).0, core_all_conjuncts (form f fs) c)

core_or : (fs : Forms) → HasElement fs → AreCore fs → IsCore (or_list fs)
core_or no_forms h c = absurd h
core_or (form f fs) h c = (has_left (disjuncts f) (all_disjuncts fs) (core_disjuncts f c.0).0, core_all_disjuncts (form f fs) c)

core_positive_test : (t : Test) → IsCore (positive_test t)
core_positive_test (Compare a Le b) = tt
core_positive_test (Compare a Lt b) = tt
core_positive_test (Compare a Ge b) = tt
core_positive_test (Compare a Gt b) = tt
core_positive_test (Compare a Eq b) = tt
core_positive_test (Member term point) = tt
core_positive_test (Equal a b) = tt

core_negative_test : (t : Test) → IsCore (negative_test t)
core_negative_test (Compare a Le b) = tt
core_negative_test (Compare a Lt b) = tt
core_negative_test (Compare a Ge b) = tt
core_negative_test (Compare a Gt b) = tt
core_negative_test (Compare a Eq b) = (tt, (tt, (tt, tt)))
core_negative_test (Member term point) = tt
core_negative_test (Equal a b) = tt

core_with_sort : (named : Bool) (s : Sort) (v : Identifier) (f : Form) → IsCore f → IsCore (with_sort named s v f)
core_with_sort named Time v f c = c
core_with_sort false Data v f c = c
core_with_sort true Data v f c = core_and (form (sorted Data v) (form f no_forms)) tt (tt, (c, tt))
core_with_sort false (Named name) v f c = c
core_with_sort true (Named name) v f c = core_and (form (sorted (Named name) v) (form f no_forms)) tt (tt, (c, tt))

has_positives : (fs : Forms) (named : Bool) → HasElement fs → HasElement (positives fs named)
has_positives no_forms named h = h
has_positives (form f fs) named h = tt

has_negatives : (fs : Forms) (named : Bool) → HasElement fs → HasElement (negatives fs named)
has_negatives no_forms named h = h
has_negatives (form f fs) named h = tt

mutual
  pub core_positive : (f : Form) (named : Bool) → HasElements f → IsCore (positive f named)
  core_positive (atom name terms) named h = tt
  core_positive (test t) named h = core_positive_test t
  core_positive (sorted s v) named h = tt
  core_positive (negation f) named h = core_negative f named h
  core_positive (conjunction fs) named h = core_and (positives fs named) (has_positives fs named h.0) (core_positives fs named h.1)
  core_positive (disjunction fs) named h = core_or (positives fs named) (has_positives fs named h.0) (core_positives fs named h.1)
  core_positive (implication f g) named h = core_or (form (negative f named) (form (positive g named) no_forms)) tt (core_negative f named h.0, (core_positive g named h.1, tt))
  core_positive (exists v s f) named h = core_with_sort named s v (positive f named) (core_positive f named h)
  core_positive (forall v s f) named h = core_with_sort named s v (negative f named) (core_negative f named h)

  pub core_negative : (f : Form) (named : Bool) → HasElements f → IsCore (negative f named)
  core_negative (atom name terms) named h = tt
  core_negative (test t) named h = core_negative_test t
  core_negative (sorted s v) named h = tt
  core_negative (negation f) named h = core_positive f named h
  core_negative (conjunction fs) named h = core_and (positives fs named) (has_positives fs named h.0) (core_positives fs named h.1)
  core_negative (disjunction fs) named h = core_and (negatives fs named) (has_negatives fs named h.0) (core_negatives fs named h.1)
  core_negative (implication f g) named h = core_and (form (positive f named) (form (negative g named) no_forms)) tt (core_positive f named h.0, (core_negative g named h.1, tt))
  core_negative (exists v s f) named h = core_with_sort named s v (positive f named) (core_positive f named h)
  core_negative (forall v s f) named h = core_with_sort named s v (negative f named) (core_negative f named h)

  pub core_positives : (fs : Forms) (named : Bool) → HaveElements fs → AreCore (positives fs named)
  core_positives no_forms named h = tt
  core_positives (form f fs) named h = (core_positive f named h.0, core_positives fs named h.1)

  pub core_negatives : (fs : Forms) (named : Bool) → HaveElements fs → AreCore (negatives fs named)
  core_negatives no_forms named h = tt
  core_negatives (form f fs) named h = (core_negative f named h.0, core_negatives fs named h.1)

core_column : (s : Sort) (v : Identifier) → AreCore (column_elements s v)
core_column Time v = tt
core_column Data v = (tt, tt)
core_column (Named name) v = (tt, tt)

core_head : (columns : List Column) → AreCore (head_elements columns)
core_head [] = tt
core_head (c ∷ cs) = core_joined (column_elements c.sort c.name) (head_elements cs) (core_column c.sort c.name) (core_head cs)

pub core_of_query : (named : Bool) (q : Question) → HasElements q.body → IsCore (core_form named q)
core_of_query false q h = core_positive q.body false h
core_of_query true q h =
    let c : IsCore (positive q.body true) = core_positive q.body true h in
    core_and (joined (head_elements q.head) (form (positive q.body true) no_forms)) (has_right (head_elements q.head) (form (positive q.body true) no_forms) tt) (core_joined (head_elements q.head) (form (positive q.body true) no_forms) (core_head q.head) (c, tt))

-- the step before `head` says what `head` says
pub steps_say : (db : List Relation) (q : Question) → HasElements q.body → (env : Assignment)
    → Satisfies (formula_at (core_steps db q) (length (core_steps db q))) (structure db q) env ↔ Satisfies (guarded (has_named_sort db) q.head q.body) (structure db q) env
steps_say db q h env =
    then_iff ((makes (core_form (has_named_sort db) q) (core_of_query (has_named_sort db) q h) (structure db q) []).says env) (core_is (has_named_sort db) q (structure db q) env)
