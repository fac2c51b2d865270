-- The formula of the last step of a core form's plan says what the core form says.
use Rattle.std.proofs.Common.{◌≡◌, ◌↔◌, ◌≤◌, ◌<◌, ◌+◌, ℕ, suc, Bool, true, false, cond, not, ◌&&◌, List, [], ◌∷◌, ◌++◌, length, length-append, append_assoc, append-nil, Some, slice_get, remove, filter, refl, sym, ap, subst, ◌∙◌, arith}
use Rattle.std.specs.List.{AllByRecursion}
use Rattle.lrp_model.specs.Formulas.{Form, test}
use Rattle.lrp_model.specs.Variables.{Variable, free, are_among}
use Rattle.lrp_model.specs.Satisfaction.{Structure, Assignment, Satisfies, SatisfiesAll, Passes}
use Rattle.lrp_model.specs.Steps.{Steps, formula_at, step_after, made, tests_as_forms, join, select, minus, complement}
use Rattle.lrp_model.specs.Conjunctions.{Element, State, select_each, is_covered, take_in, take_positive, take_test, take_negation, take_all}
use Rattle.lrp_model.specs.declared.formulas.Test.{Test}
use Rattle.lrp_model.specs.declared.plans.StepKind.{StepKind}
use Rattle.lrp_model.proofs.Logic.{same, then_iff, not_iff}
use Rattle.lrp_plan_laws.proofs.Elements.{length_made, formula_made, formula_front, take_out, split_all}
use Rattle.lrp_plan_laws.proofs.Rounds.{Finishes, all_rounds, nothing_left}

-- what is said of assignments
abbrev pub Saying : Type 1
Saying = Assignment → Type 0

-- the steps after are those before and more, and the formula of the last one says p
pub record Makes (M : Structure) (before after : Steps) (p : Saying) : Type 0 where
  pub more : Steps
  pub is : after ≡ before ++ more
  pub grown : length before < length after
  pub says : (env : Assignment) → Satisfies (formula_at after (length after)) M env ↔ p env

pub by_made : (M : Structure) (before steps : Steps) (kind : StepKind) (f : Form) (p : Saying) (more : Steps) → steps ≡ before ++ more → length before ≤ length steps
    → ((env : Assignment) → Satisfies f M env ↔ p env) → Makes M before (made M kind f steps) p
by_made M before steps kind f p more is le says = record {
  more = more ++ step_after M kind f steps ∷ [];
  is = ap (λ s. s ++ step_after M kind f steps ∷ []) is ∙ append_assoc before more (step_after M kind f steps ∷ []);
  grown = let l : length (made M kind f steps) ≡ suc (length steps) = length_made M kind f steps in omega arith;
  says = λ env. subst (λ g. Satisfies g M env ↔ p env) (sym (formula_made M kind f steps)) (says env);
}

pub by_first : (M : Structure) (steps : Steps) (kind : StepKind) (f : Form) → Makes M steps (made M kind f steps) (Satisfies f M)
by_first M steps kind f = by_made M steps steps kind f (Satisfies f M) [] (sym (append-nil steps)) (omega arith) (λ env. same)

pub by_next : (M : Structure) (before steps : Steps) (p q : Saying) (kind : StepKind) (f : Form) → Makes M before steps p → ((env : Assignment) → Satisfies f M env ↔ q env) → Makes M before (made M kind f steps) q
by_next M before steps p q kind f m says = by_made M before steps kind f q m.more m.is (let g : length before < length steps = m.grown in omega arith) says

pub same_saying : (M : Structure) (before after : Steps) (p q : Saying) → Makes M before after p → ((env : Assignment) → p env ↔ q env) → Makes M before after q
same_saying M before after p q m e = record { more = m.more; is = m.is; grown = m.grown; says = λ env. then_iff (m.says env) (e env) }

-- an earlier step's formula stands
pub kept : (M : Structure) (before after : Steps) (p : Saying) (i : ℕ) → Makes M before after p → i ≤ length before → formula_at after i ≡ formula_at before i
kept M before after p i m le = ap (λ s. formula_at s i) m.is ∙ formula_front before m.more i le

pub chain : (M : Structure) (before mid after : Steps) (p q : Saying) → Makes M before mid p → Makes M mid after q → Makes M before after q
chain M before mid after p q m n = record {
  more = m.more ++ n.more;
  is = n.is ∙ ap (λ s. s ++ n.more) m.is ∙ append_assoc before m.more n.more;
  grown = let g : length before < length mid = m.grown in let h : length mid < length after = n.grown in omega arith;
  says = n.says;
}

pub tests_are : (M : Structure) (env : Assignment) (ts : List Test) → SatisfiesAll (tests_as_forms ts) M env ↔ AllByRecursion (Passes env) ts
tests_are M env [] = ((λ h. tt), λ h. tt)
tests_are M env (t ∷ ts) = let r : SatisfiesAll (tests_as_forms ts) M env ↔ AllByRecursion (Passes env) ts = tests_are M env ts in ((λ h. (h.0, r.0 h.1)), λ h. (h.0, r.1 h.1))

-- ---- what an `and` has taken in and has left

-- p, where something was taken in
abbrev pub Where : Bool → Type 0 → Type 0
Where true p = p
Where false p = Unit {0}

abbrev pub Left : Structure → List Element → List Test → List Element → Saying
Left M ps ts ns env = AllByRecursion (λ e. Satisfies e.formula M env) ps × (AllByRecursion (Passes env) ts × AllByRecursion (λ e. Satisfies e.formula M env → ⊥) ns)

abbrev pub IsSound : Structure → Element → Type 0
IsSound M e = (steps : Steps) → Makes M steps (e.rule M steps) (Satisfies e.formula M)

-- the result so far and what is left say together p
pub record IsOnTheWay (M : Structure) (start : Steps) (count : ℕ) (p : Saying) (state : State) : Type 0 where
  pub more : Steps
  pub is : state.steps ≡ start ++ more
  pub positives : AllByRecursion (IsSound M) state.positives
  pub negations : AllByRecursion (IsSound M) state.negations
  pub grown : state.taken.some ≡ true → length start < length state.steps
  pub last : state.taken.some ≡ true → state.taken.result ≡ length state.steps
  pub idle : state.taken.some ≡ false → length state.positives + length state.tests + length state.negations ≡ count
  pub says : (env : Assignment) → (Where state.taken.some (Satisfies (formula_at state.steps state.taken.result) M env) × Left M state.positives state.tests state.negations env) ↔ p env

select_makes : (M : Structure) (before steps : Steps) (p : Saying) (ts : List Test) → Makes M before steps p → Makes M before (select_each ts M steps) (λ env. p env × AllByRecursion (Passes env) ts)
select_makes M before steps p [] m = same_saying M before steps p _ m (λ env. ((λ x. (x, tt)), λ x. x.0))
select_makes M before steps p (t ∷ ts) m =
    let n : Makes M before (select t M steps) (λ env. p env × Passes env t) = by_next M before steps p _ _ _ m (λ env. ((λ h. ((m.says env).0 h.0, h.1.0)), λ h. ((m.says env).1 h.0, (h.1, tt)))) in
    same_saying M before (select_each ts M (select t M steps)) _ _ (select_makes M before (select t M steps) _ ts n) (λ env. ((λ h. (h.0.0, (h.0.1, h.1))), λ h. ((h.0, h.1.0), h.1.1)))

join_makes : (M : Structure) (before steps : Steps) (p : Saying) (left : ℕ) (ts : List Test) → Makes M before steps p → left ≤ length before
    → Makes M before (join left ts M steps) (λ env. (Satisfies (formula_at before left) M env × p env) × AllByRecursion (Passes env) ts)
join_makes M before steps p left ts m le =
    by_next M before steps p _ _ _ m (λ env.
    let e : formula_at steps left ≡ formula_at before left = kept M before steps p left m le in
    let r : SatisfiesAll (tests_as_forms ts) M env ↔ AllByRecursion (Passes env) ts = tests_are M env ts in (
      (λ h. ((subst (λ g. Satisfies g M env) e h.0, (m.says env).0 h.1.0), r.0 h.1.1)),
      λ h. (subst (λ g. Satisfies g M env) (sym e) h.0.0, ((m.says env).1 h.0.1, r.1 h.1)),
    ))

-- the steps after an element was taken in: the result so far, the element and the carried tests
taken_makes : (M : Structure) (before steps : Steps) (some : Bool) (result : ℕ) (p : Saying) (ts : List Test) → (some ≡ true → result ≡ length before) → Makes M before steps p
    → Makes M before (cond some (join result ts M steps) (select_each ts M steps)) (λ env. (Where some (Satisfies (formula_at before result) M env) × p env) × AllByRecursion (Passes env) ts)
taken_makes M before steps true result p ts last m = join_makes M before steps p result ts m (let e : result ≡ length before = last refl in omega arith)
taken_makes M before steps false result p ts last m = same_saying M before (select_each ts M steps) _ _ (select_makes M before steps p ts m) (λ env. ((λ h. ((tt, h.0), h.1)), λ h. (h.0.1, h.1)))

-- an element f is taken in
taken_in : (M : Structure) (start : Steps) (count : ℕ) (p : Saying) (f : Form) (steps : Steps) (state : State) (more : Steps) → state.steps ≡ start ++ more
    → AllByRecursion (IsSound M) state.positives → AllByRecursion (IsSound M) state.negations → (state.taken.some ≡ true → state.taken.result ≡ length state.steps)
    → ((env : Assignment) → (Where state.taken.some (Satisfies (formula_at state.steps state.taken.result) M env) × (Satisfies f M env × Left M state.positives state.tests state.negations env)) ↔ p env)
    → Makes M state.steps steps (Satisfies f M) → IsOnTheWay M start count p (take_in M f steps state)
taken_in M start count p f steps state more is ps ns last says m =
    let variables : List Variable = state.taken.variables ++ free f in
    let covered : Test → Bool = λ t. are_among (free (test t)) variables in
    let carried : List Test = filter covered state.tests in
    let after : Steps = cond state.taken.some (join state.taken.result carried M steps) (select_each carried M steps) in
    let n : Makes M state.steps after (λ env. (Where state.taken.some (Satisfies (formula_at state.steps state.taken.result) M env) × Satisfies f M env) × AllByRecursion (Passes env) carried) =
    taken_makes M state.steps steps state.taken.some state.taken.result (Satisfies f M) carried last m in
    record {
      more = more ++ n.more;
      is = n.is ∙ ap (λ s. s ++ n.more) is ∙ append_assoc start more n.more;
      positives = ps;
      negations = ns;
      grown = λ e. let g : length state.steps < length after = n.grown in let l : length state.steps ≡ length start + length more = ap length is ∙ length-append start more in omega arith;
      last = λ e. refl;
      idle = λ e. cc;
      says = λ env.
          let s : AllByRecursion (Passes env) state.tests ↔ (AllByRecursion (Passes env) carried × AllByRecursion (Passes env) (filter (λ t. not (covered t)) state.tests)) = split_all (Passes env) covered state.tests in (
            (λ h. let w = (n.says env).0 h.0 in (says env).0 (w.0.0, (w.0.1, (h.1.0, (s.1 (w.1, h.1.1.0), h.1.1.1))))),
            λ x. let h = (says env).1 x in let w = s.0 h.1.1.1.0 in ((n.says env).1 ((h.0, h.1.0), w.0), (h.1.1.0, (w.1, h.1.1.1.1))),
          );
    }

positive_taken : (M : Structure) (start : Steps) (count : ℕ) (p : Saying) (i : ℕ) (x : Element) (state : State) → slice_get state.positives i ≡ Some x → IsOnTheWay M start count p state → IsOnTheWay M start count p (take_positive M i (Some x) state)
positive_taken M start count p i x state e w =
    let sound = (take_out (IsSound M) state.positives i x e).0 w.positives in
    taken_in M start count p x.formula (x.rule M state.steps) (record state { positives = remove state.positives i }) w.more w.is sound.1 w.negations w.last
    (λ env.
    let t = take_out (λ y. Satisfies y.formula M env) state.positives i x e in
    ((λ h. (w.says env).0 (h.0, (t.1 (h.1.0, h.1.1.0), h.1.1.1))), λ a. let h = (w.says env).1 a in let u = t.0 h.1.0 in (h.0, (u.0, (u.1, h.1.1)))))
    (sound.0 state.steps)

test_taken : (M : Structure) (start : Steps) (count : ℕ) (p : Saying) (t : Test) (ts : List Test) (state : State) → state.tests ≡ t ∷ ts → IsOnTheWay M start count p state → IsOnTheWay M start count p (take_test M (t ∷ ts) state)
test_taken M start count p t ts state e w =
    taken_in M start count p (test t) (made M _ (test t) state.steps) (record state { tests = ts }) w.more w.is w.positives w.negations w.last
    (λ env. (
      (λ h. (w.says env).0 (h.0, (h.1.1.0, (subst (AllByRecursion (Passes env)) (sym e) (h.1.0, h.1.1.1.0), h.1.1.1.1)))),
      λ a. let h = (w.says env).1 a in let u = subst (AllByRecursion (Passes env)) e h.1.1.0 in (h.0, (u.0, (h.1.0, (u.1, h.1.1.1)))),
    ))
    (by_first M state.steps _ (test t))

-- ---- negations

pub and_first : (a b : Bool) → (a && b) ≡ true → a ≡ true
and_first true b e = refl
and_first false b e = e

pub complement_makes : (M : Structure) (before steps : Steps) (g : Form) → Makes M before steps (Satisfies g M) → Makes M before (complement M steps) (λ env. Satisfies g M env → ⊥)
complement_makes M before steps g m = by_next M before steps (Satisfies g M) _ _ _ m (λ env. not_iff (m.says env))

negated_makes : (M : Structure) (before steps : Steps) (covered some : Bool) (result : ℕ) (g : Form) → (covered ≡ true → some ≡ true) → (some ≡ true → result ≡ length before) → Makes M before steps (Satisfies g M)
    → Makes M before (cond covered (minus result M steps) (cond some (join result [] M (complement M steps)) (complement M steps))) (λ env. Where some (Satisfies (formula_at before result) M env) × (Satisfies g M env → ⊥))
negated_makes M before steps true true result g c last m =
    by_next M before steps (Satisfies g M) _ _ _ m (λ env.
    let e : formula_at steps result ≡ formula_at before result = kept M before steps (Satisfies g M) result m (let r : result ≡ length before = last refl in omega arith) in
    ((λ h. (subst (λ f. Satisfies f M env) e h.0, (λ x. h.1.0 ((m.says env).1 x)))), λ h. (subst (λ f. Satisfies f M env) (sym e) h.0, ((λ x. h.1 ((m.says env).0 x)), tt))))
negated_makes M before steps true false result g c last m = let e : false ≡ true = c refl in cc
negated_makes M before steps false true result g c last m =
    same_saying M before (join result [] M (complement M steps)) _ _ (join_makes M before (complement M steps) _ result [] (complement_makes M before steps g m) (let r : result ≡ length before = last refl in omega arith))
    (λ env. ((λ h. h.0), λ h. (h, tt)))
negated_makes M before steps false false result g c last m = same_saying M before (complement M steps) _ _ (complement_makes M before steps g m) (λ env. ((λ h. (tt, h)), λ h. h.1))

negation_taken : (M : Structure) (start : Steps) (count : ℕ) (p : Saying) (i : ℕ) (x : Element) (state : State) → slice_get state.negations i ≡ Some x → IsOnTheWay M start count p state → IsOnTheWay M start count p (take_negation M i (Some x) state)
negation_taken M start count p i x state e w =
    let steps : Steps = x.rule M state.steps in
    let sound = (take_out (IsSound M) state.negations i x e).0 w.negations in
    let after : Steps = cond (is_covered state.taken x.formula) (minus state.taken.result M steps) (cond state.taken.some (join state.taken.result [] M (complement M steps)) (complement M steps)) in
    let n : Makes M state.steps after (λ env. Where state.taken.some (Satisfies (formula_at state.steps state.taken.result) M env) × (Satisfies x.formula M env → ⊥)) =
    negated_makes M state.steps steps (is_covered state.taken x.formula) state.taken.some state.taken.result x.formula (and_first _ _) w.last (sound.0 state.steps) in
    record {
      more = w.more ++ n.more;
      is = n.is ∙ ap (λ s. s ++ n.more) w.is ∙ append_assoc start w.more n.more;
      positives = w.positives;
      negations = sound.1;
      grown = λ e. let g : length state.steps < length after = n.grown in let l : length state.steps ≡ length start + length w.more = ap length w.is ∙ length-append start w.more in omega arith;
      last = λ e. refl;
      idle = λ e. cc;
      says = λ env.
          let t = take_out (λ y. Satisfies y.formula M env → ⊥) state.negations i x e in (
            (λ h. let u = (n.says env).0 h.0 in (w.says env).0 (u.0, (h.1.0, (h.1.1.0, t.1 (u.1, h.1.1.1))))),
            λ a. let h = (w.says env).1 a in let u = t.0 h.1.1.1 in ((n.says env).1 (h.0, u.0), (h.1.0, (h.1.1.0, u.1))),
          );
    }

-- ---- the end

pub put_where : (b : Bool) (p : Type 0) → b ≡ true → p → Where b p
put_where true p e x = x
put_where false p e x = tt

pub get_where : (b : Bool) (p : Type 0) → b ≡ true → Where b p → p
get_where true p e x = x
get_where false p e x = cc

pub is_true : (b : Bool) → (b ≡ false → ⊥) → b ≡ true
is_true true h = refl
is_true false h = absurd (h refl)

-- nothing is left, so the result says p
finished : (M : Structure) (start : Steps) (count : ℕ) (p : Saying) (state : State) → 0 < count → IsOnTheWay M start count p state → length state.positives ≡ 0 → length state.tests ≡ 0 → length state.negations ≡ 0 → Makes M start state.steps p
finished M start count p state some w a b c =
    let so : state.taken.some ≡ true = is_true state.taken.some (λ e. let n : length state.positives + length state.tests + length state.negations ≡ count = w.idle e in absurd (omega arith)) in
    let l : state.taken.result ≡ length state.steps = w.last so in
    record {
      more = w.more;
      is = w.is;
      grown = w.grown so;
      says = λ env. (
        (λ s. (w.says env).0 (put_where state.taken.some _ so (subst (λ n. Satisfies (formula_at state.steps n) M env) (sym l) s), (nothing_left _ state.positives a, (nothing_left _ state.tests b, nothing_left _ state.negations c)))),
        λ x. subst (λ n. Satisfies (formula_at state.steps n) M env) l (get_where state.taken.some _ so ((w.says env).1 x).0),
      );
    }

pub all_taken : (M : Structure) (start : Steps) (count : ℕ) (p : Saying) (state : State) → 0 < count → IsOnTheWay M start count p state → Makes M start (take_all M state) p
all_taken M start count p state some w =
    let f : Finishes M (IsOnTheWay M start count p) state = all_rounds M (IsOnTheWay M start count p) (positive_taken M start count p) (test_taken M start count p) (negation_taken M start count p) state w in
    subst (λ steps. Makes M start steps p) f.is (finished M start count p f.last some f.holds f.positives f.tests f.negations)
