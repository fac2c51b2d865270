-- Each drop of a data variable is guarded: by a sort element where sorts are named, and else since all texts are of one sort.
use Rattle.std.proofs.Common.{◌≡◌, ◌↔◌, ⊎_elim, ℕ, Bool, true, false, cond, List, [], ◌∷◌, length, Some, Contains, refl, sym, ap, subst, ◌∙◌, filter, map}
use Rattle.lrp_model.specs.Texts.{Text, Identifier}
use Rattle.lrp_model.specs.Rows.{Datum, time, text}
use Rattle.lrp_model.specs.Formulas.{Form, Forms, Question, atom, test, sorted, negation, conjunction, disjunction, implication, exists, forall, no_forms, form, joined}
use Rattle.lrp_model.specs.Variables.{free}
use Rattle.lrp_model.specs.Satisfaction.{Structure, Assignment, Satisfies, ForSome, IsOfSort, with_value, structure}
use Rattle.lrp_model.specs.Domains.{domain, constants, all_texts, same_sort}
use Rattle.lrp_model.specs.Core.{conjuncts, disjuncts, all_conjuncts, all_disjuncts, and_list, or_list, and_two, positive_test, negative_test, with_sort, positive, negative, positives, negatives, column_elements, head_elements, core_form, has_named_sort, is_named, HasElements}
use Rattle.lrp_model.specs.Steps.{PlanStep, Steps, step_at, formula_at, step_after}
use Rattle.lrp_model.specs.Plans.{plan, core_steps, HasNoNamedSorts}
use Rattle.lrp_model.specs.declared.relations.Sort.{Sort}
use Rattle.lrp_model.specs.declared.relations.Sort.TheVariants.{Time, Data, Named}
use Rattle.lrp_model.specs.declared.relations.Column.{Column}
use Rattle.lrp_model.specs.declared.relations.Relation.{Relation}
use Rattle.lrp_model.specs.declared.formulas.Op.TheVariants.{Le, Lt, Ge, Gt, Eq}
use Rattle.lrp_model.specs.declared.formulas.Test.{Test}
use Rattle.lrp_model.specs.declared.formulas.Test.TheVariants.{Compare, Member, Equal}
use Rattle.lrp_model.specs.declared.plans.StepKind.TheVariants.{DropData, Extend}
use Rattle.lrp_model.proofs.Decided.{cons_cases, contains_first, contains_later}
use Rattle.lrp_model.proofs.DomainLaws.{contains_in_order}
use Rattle.lrp_plan_laws.specs.Made.{IsDataSort}
use Rattle.lrp_plan_laws.specs.Settled.{IsTextDrop}
use Rattle.lrp_plan_laws.specs.Guards.{IsGuarded, BindsPlainly, BindPlainly}
use Rattle.lrp_plan_laws.proofs.CoreLaws.{and_list_is}
use Rattle.lrp_plan_laws.proofs.HeadLaws.{own_text, one_domain}
use Rattle.lrp_plan_laws.proofs.Elements.{step_one_more}
use Rattle.lrp_plan_laws.proofs.Names.{Names}
use Rattle.lrp_plan_laws.proofs.PlanSound.{core_of_query}
use Rattle.lrp_plan_laws.proofs.Builds.{Kept, Builds}
use Rattle.lrp_plan_laws.proofs.Dropping.{IsDrop}
use Rattle.lrp_plan_laws.proofs.Fronts.{head_after}
use Rattle.lrp_plan_laws.proofs.PlanBuilds.{EachGuard, EachOfGuard, IsQuantifier, quantified, builds}
use Rattle.lrp_plan_laws.proofs.WrittenFront.{Any, any_scope, written_any}
use Rattle.lrp_plan_laws.proofs.RisingLaws.{plan_made, all_step}

-- ---- the texts of a sort are constants

-- one entry that passes or does not
image_at : {X : Type 0} (f : X → Text) (p : X → Bool) (x : X) (xs : List X) (t : Text) (b : Bool) → (Contains (map f (filter p xs)) t → Contains (map f xs) t) → Contains (map f (cond b (x ∷ filter p xs) (filter p xs))) t → Contains (map f (x ∷ xs)) t
image_at f p x xs t true rest c = ⊎_elim (λ e. subst (λ y. Contains (f x ∷ map f xs) y) e (contains_first (f x) (map f xs))) (λ d. contains_later (f x) t (map f xs) (rest d)) (cons_cases (f x) t (map f (filter p xs)) c)
image_at f p x xs t false rest c = contains_later (f x) t (map f xs) (rest c)

-- the images of those that pass are images
image_of_some : {X : Type 0} (f : X → Text) (p : X → Bool) (xs : List X) (t : Text) → Contains (map f (filter p xs)) t → Contains (map f xs) t
image_of_some f p [] t c = c
image_of_some f p (x ∷ xs) t c = image_at f p x xs t (p x) (image_of_some f p xs t) c

-- the texts of a sort are constants
pub domain_known : (db : List Relation) (q : Question) (s : Sort) (t : Text) → Contains (domain db q s) t → Contains (constants db q) t
domain_known db q s t c =
    (contains_in_order (map (λ entry. entry.1) (all_texts db q)) t).1
    (image_of_some (λ entry. entry.1) (λ entry. same_sort entry.0 s) (all_texts db q) t ((contains_in_order (map (λ entry. entry.1) (filter (λ entry. same_sort entry.0 s) (all_texts db q))) t).0 c))

-- ---- one quantifier

-- a quantifier over a data sort is guarded, a quantifier over times is none
abbrev pub Guard : List Relation → Question → Identifier → Sort → Form → Type 0
Guard db q v s f = IsDataSort s → IsGuarded (constants db q) (structure db q) v s f

-- a quantifier is guarded by the sort element of its variable
by_element : (db : List Relation) (q : Question) (v : Identifier) (s : Sort) (f a : Form) → ((env : Assignment) → Satisfies a (structure db q) env ↔ Satisfies (and_two (sorted s v) f) (structure db q) env) → IsGuarded (constants db q) (structure db q) v s a
by_element db q v s f a says = record {
  known = λ t c. domain_known db q s t c;
  guards = λ env t c h.
      let at : Assignment = with_value v (text t) env in
      let e : Contains (domain db q s) (at.texts v) = ((and_list_is (structure db q) at (form (sorted s v) (form f no_forms))).0 ((says at).0 h)).0 in
      subst (Contains (domain db q s)) (own_text v t env) e;
}

-- or since all constants are of sort `data`
by_one_sort : (db : List Relation) (q : Question) (v : Identifier) (a : Form) → HasNoNamedSorts db q → IsGuarded (constants db q) (structure db q) v Data a
by_one_sort db q v a plain = record { known = λ t c. domain_known db q Data t c; guards = λ env t c h. subst (λ ts. Contains ts t) (sym (one_domain db q plain)) c }

-- the one where sorts are named, and the other where none is
by_named : (db : List Relation) (q : Question) (named : Bool) (v : Identifier) (s : Sort) (f a : Form) → (named ≡ false → HasNoNamedSorts db q) → (named ≡ false → is_named s ≡ false)
    → ((env : Assignment) → Satisfies a (structure db q) env ↔ Satisfies (with_sort named s v f) (structure db q) env) → Guard db q v s a
by_named db q named v Time f a plain none says = λ d. absurd d
by_named db q true v Data f a plain none says = λ d. by_element db q v Data f a says
by_named db q false v Data f a plain none says = λ d. by_one_sort db q v a (plain refl)
by_named db q true v (Named name) f a plain none says = λ d. by_element db q v (Named name) f a says
by_named db q false v (Named name) f a plain none says = λ d. let e : true ≡ false = none refl in cc

-- ---- each quantifier of a core form

module _ (M : Structure) (guard : Identifier → Sort → Form → Type 0) where
  -- two lists of formulas together
  guards_joined : (fs gs : Forms) → EachOfGuard M guard fs → EachOfGuard M guard gs → EachOfGuard M guard (joined fs gs)
  guards_joined no_forms gs a b = b
  guards_joined (form f fs) gs a b = (a.0, guards_joined fs gs a.1 b)

  -- the elements that stand for a formula in an `and`
  guards_conjuncts : (f : Form) → EachGuard M guard f → EachOfGuard M guard (conjuncts f)
  guards_conjuncts (conjunction fs) a = a
  guards_conjuncts f a = (a, tt)

  -- and in an `or`
  guards_disjuncts : (f : Form) → EachGuard M guard f → EachOfGuard M guard (disjuncts f)
  guards_disjuncts (disjunction fs) a = a
  guards_disjuncts f a = (a, tt)

  -- an `and` of a list
  guards_and : (fs : Forms) → EachOfGuard M guard fs → EachGuard M guard (and_list fs)
  guards_and no_forms a = tt
  guards_and (form f fs) a = guards_joined (conjuncts f) (all_conjuncts fs) (guards_conjuncts f a.0) (guards_and fs a.1)

  -- an `or` of a list
  guards_or : (fs : Forms) → EachOfGuard M guard fs → EachGuard M guard (or_list fs)
  guards_or no_forms a = tt
  guards_or (form f fs) a = guards_joined (disjuncts f) (all_disjuncts fs) (guards_disjuncts f a.0) (guards_or fs a.1)

  -- the core form of a test has no quantifier
  guards_positive_test : (t : Test) → EachGuard M guard (positive_test t)
  guards_positive_test (Compare a Le b) = tt
  guards_positive_test (Compare a Lt b) = tt
  guards_positive_test (Compare a Ge b) = tt
  guards_positive_test (Compare a Gt b) = tt
  guards_positive_test (Compare a Eq b) = tt
  guards_positive_test (Member term point) = tt
  guards_positive_test (Equal a b) = tt

  -- nor has that of its negation
  guards_negative_test : (t : Test) → EachGuard M guard (negative_test t)
  guards_negative_test (Compare a Le b) = tt
  guards_negative_test (Compare a Lt b) = tt
  guards_negative_test (Compare a Ge b) = tt
  guards_negative_test (Compare a Gt b) = tt
  guards_negative_test (Compare a Eq b) = (tt, (tt, tt))
  guards_negative_test (Member term point) = tt
  guards_negative_test (Equal a b) = tt

  -- a formula with or without the sort element of its variable
  guards_with_sort : (named : Bool) (s : Sort) (v : Identifier) (f : Form) → EachGuard M guard f → EachGuard M guard (with_sort named s v f)
  guards_with_sort named Time v f a = a
  guards_with_sort false Data v f a = a
  guards_with_sort true Data v f a = guards_and (form (sorted Data v) (form f no_forms)) (tt, (a, tt))
  guards_with_sort false (Named name) v f a = a
  guards_with_sort true (Named name) v f a = guards_and (form (sorted (Named name) v) (form f no_forms)) (tt, (a, tt))

module _ (db : List Relation) (q : Question) (named : Bool) (plain : named ≡ false → HasNoNamedSorts db q) where
  -- a quantifier of a core form
  guarded_quantifier : (s : Sort) (v : Identifier) (f : Form) → (named ≡ false → is_named s ≡ false) → EachGuard (structure db q) (Guard db q) f → EachGuard (structure db q) (Guard db q) (exists v s (with_sort named s v f))
  guarded_quantifier s v f none h = ((λ a says. by_named db q named v s f a plain none says), guards_with_sort (structure db q) (Guard db q) named s v f h)

  mutual
    -- the core form of a formula
    pub guards_positive : (f : Form) → (named ≡ false → BindsPlainly f) → EachGuard (structure db q) (Guard db q) (positive f named)
    guards_positive (atom name terms) b = tt
    guards_positive (test t) b = guards_positive_test (structure db q) (Guard db q) t
    guards_positive (sorted s v) b = tt
    guards_positive (negation f) b = guards_negative f b
    guards_positive (conjunction fs) b = guards_and (structure db q) (Guard db q) (positives fs named) (guards_positives fs b)
    guards_positive (disjunction fs) b = guards_or (structure db q) (Guard db q) (positives fs named) (guards_positives fs b)
    guards_positive (implication f g) b = guards_or (structure db q) (Guard db q) (form (negative f named) (form (positive g named) no_forms)) (guards_negative f (λ e. (b e).0), (guards_positive g (λ e. (b e).1), tt))
    guards_positive (exists v s f) b = guarded_quantifier s v (positive f named) (λ e. (b e).0) (guards_positive f (λ e. (b e).1))
    guards_positive (forall v s f) b = guarded_quantifier s v (negative f named) (λ e. (b e).0) (guards_negative f (λ e. (b e).1))

    -- and of its negation
    pub guards_negative : (f : Form) → (named ≡ false → BindsPlainly f) → EachGuard (structure db q) (Guard db q) (negative f named)
    guards_negative (atom name terms) b = tt
    guards_negative (test t) b = guards_negative_test (structure db q) (Guard db q) t
    guards_negative (sorted s v) b = tt
    guards_negative (negation f) b = guards_positive f b
    guards_negative (conjunction fs) b = guards_and (structure db q) (Guard db q) (positives fs named) (guards_positives fs b)
    guards_negative (disjunction fs) b = guards_and (structure db q) (Guard db q) (negatives fs named) (guards_negatives fs b)
    guards_negative (implication f g) b = guards_and (structure db q) (Guard db q) (form (positive f named) (form (negative g named) no_forms)) (guards_positive f (λ e. (b e).0), (guards_negative g (λ e. (b e).1), tt))
    guards_negative (exists v s f) b = guarded_quantifier s v (positive f named) (λ e. (b e).0) (guards_positive f (λ e. (b e).1))
    guards_negative (forall v s f) b = guarded_quantifier s v (negative f named) (λ e. (b e).0) (guards_negative f (λ e. (b e).1))

    -- each of a list
    guards_positives : (fs : Forms) → (named ≡ false → BindPlainly fs) → EachOfGuard (structure db q) (Guard db q) (positives fs named)
    guards_positives no_forms b = tt
    guards_positives (form f fs) b = (guards_positive f (λ e. (b e).0), guards_positives fs (λ e. (b e).1))

    -- and the negation of each of a list
    guards_negatives : (fs : Forms) → (named ≡ false → BindPlainly fs) → EachOfGuard (structure db q) (Guard db q) (negatives fs named)
    guards_negatives no_forms b = tt
    guards_negatives (form f fs) b = (guards_negative f (λ e. (b e).0), guards_negatives fs (λ e. (b e).1))

-- a sort element of the head has no quantifier
guards_column : (M : Structure) (guard : Identifier → Sort → Form → Type 0) (s : Sort) (v : Identifier) → EachOfGuard M guard (column_elements s v)
guards_column M guard Time v = tt
guards_column M guard Data v = (tt, tt)
guards_column M guard (Named name) v = (tt, tt)

-- nor has any of them
guards_head : (M : Structure) (guard : Identifier → Sort → Form → Type 0) (columns : List Column) → EachOfGuard M guard (head_elements columns)
guards_head M guard [] = tt
guards_head M guard (c ∷ cs) = guards_joined M guard (column_elements c.sort c.name) (head_elements cs) (guards_column M guard c.sort c.name) (guards_head M guard cs)

-- each quantifier of the core form of a query is guarded
pub guards_core : (db : List Relation) (q : Question) (named : Bool) → (named ≡ false → HasNoNamedSorts db q) → (named ≡ false → BindsPlainly q.body) → EachGuard (structure db q) (Guard db q) (core_form named q)
guards_core db q false plain b = guards_positive db q false plain q.body b
guards_core db q true plain b =
    guards_and (structure db q) (Guard db q) (joined (head_elements q.head) (form (positive q.body true) no_forms))
    (guards_joined (structure db q) (Guard db q) (head_elements q.head) (form (positive q.body true) no_forms) (guards_head (structure db q) (Guard db q) q.head) (guards_positive db q true plain q.body b, tt))

-- ---- each drop of a plan

-- `head` drops nothing
pub not_head : (M : Structure) (f : Form) (steps : Steps) (step : PlanStep) (of : ℕ) (v : Identifier) → step_after M (Extend (length steps)) f steps ≡ step → step.kind ≡ DropData of v → ⊥
not_head M f steps step of v e k = let x : Extend (length steps) ≡ DropData of v = ap (λ x. x.kind) e ∙ k in cc

-- a text of the sort is a value of it
of_sort : (M : Structure) (s : Sort) (t : Text) → IsDataSort s → Contains (M.domain s) t → IsOfSort M s (text t)
of_sort M Time t d c = absurd d
of_sort M Data t d c = c
of_sort M (Named name) t d c = c

-- and a value of the sort is a text of it
text_of : (M : Structure) (s : Sort) (x : Datum) (p : Datum → Type 0) → IsDataSort s → IsOfSort M s x → p x → (t : Text) × Contains (M.domain s) t × p (text t)
text_of M Time x p d of h = absurd d
text_of M Data (time x) p d of h = absurd of
text_of M Data (text t) p d of h = (t, of, h)
text_of M (Named name) (time x) p d of h = absurd of
text_of M (Named name) (text t) p d of h = (t, of, h)

-- a guarded quantifier holds exactly where some constant completes a member
pub by_constants : (ds : List Text) (M : Structure) (v : Identifier) (s : Sort) (f : Form) → IsDataSort s → IsGuarded ds M v s f → (env : Assignment)
    → Satisfies (exists v s f) M env ↔ ForSome (λ t. Contains ds t × Satisfies f M (with_value v (text t) env))
by_constants ds M v s f d g env = (
  (λ h none. h (λ x k. let y = text_of M s x (λ u. Satisfies f M (with_value v u env)) d k.0 k.1 in none y.0 (g.known y.0 y.1, y.2))),
  λ h none. h (λ t k. none (text t) (of_sort M s t d (g.guards env t k.0 k.1), k.1)),
)

-- each drop of texts of a query's plan as it is written is a guarded one
pub drops_guarded : (db : List Relation) (q : Question) → HasElements q.body → (has_named_sort db ≡ false → HasNoNamedSorts db q × BindsPlainly q.body)
    → (s : ℕ) (step : PlanStep) → step_at (plan db q) s ≡ Some step → IsTextDrop (plan db q) db q step
drops_guarded db q some plain s step e of v kind =
    let core : Form = core_form (has_named_sort db) q in
    let steps : Steps = core_steps db q in
    let M : Structure = structure db q in
    let b : Builds M (head_after db q steps) quantified Any (Guard db q) [] steps (Names db core) =
    builds M (head_after db q steps) Any (Guard db q) (λ vs ws c x. tt) core (core_of_query (has_named_sort db) q some) (any_scope core) (guards_core db q (has_named_sort db) (λ n. (plain n).0) (λ n. (plain n).1)) [] in
    let drop : IsQuantifier v (formula_at (plan db q) of) step.formula = subst (λ k. IsDrop quantified (formula_at (plan db q)) k step.formula) kind (plan_made db q quantified Any steps (written_any db q some) s step e).drop in
    ⊎_elim
    (λ h. let g : IsGuarded (constants db q) M v drop.0 (formula_at (plan db q) of) = subst (Kept (Guard db q)) drop.2 (all_step (λ x. Any (free x.formula) × Kept (Guard db q) x.formula) steps s step h.1 (b.fitting tt)).1 drop.1 in
    λ env. subst (λ f. Satisfies f M env ↔ ForSome (λ t. Contains (constants db q) t × Satisfies (formula_at (plan db q) of) M (with_value v (text t) env))) (sym drop.2) (by_constants (constants db q) M v drop.0 (formula_at (plan db q) of) drop.1 g env))
    (λ h. absurd (not_head M _ steps step of v h.1 kind))
    (step_one_more steps _ step s e)
