-- What is kept while an `and` is made under a guard: the result so far and what is left say together, for some values of the block's variables, what the whole says.
use Rattle.std.proofs.Common.{◌≡◌, ◌↔◌, ◌≤◌, ℕ, Bool, true, false, cond, List, [], ◌++◌, length, append_assoc, append-nil, Option, Some, None, refl, sym, ap, subst, ◌∙◌, arith}
use Rattle.std.specs.List.{AllByRecursion}
use Rattle.lrp_model.specs.Texts.{Text}
use Rattle.lrp_model.specs.Formulas.{Form}
use Rattle.lrp_model.specs.Variables.{Variable, variables_of_test, are_among, free}
use Rattle.lrp_model.specs.Satisfaction.{Structure, Assignment, Satisfies, Passes}
use Rattle.lrp_model.specs.Steps.{Steps, formula_at, join}
use Rattle.lrp_model.specs.Conjunctions.{select_each}
use Rattle.lrp_model.specs.declared.formulas.Test.{Test}
use Rattle.lrp_model.proofs.Logic.{then_iff}
use Rattle.lrp_plan_laws.specs.Made.{AreAmong}
use Rattle.lrp_plan_laws.specs.Projections.{PlanGround as Ground}
use Rattle.lrp_plan_laws.specs.GuardedConjunctions.{GuardedRule, GuardedPart as Part, Standing, atom_form, sort_form, covered_by, uncovered_by, taken_up, go_on_from, take_up}
use Rattle.lrp_plan_laws.proofs.Elements.{split_all}
use Rattle.lrp_plan_laws.proofs.PlanLaws.{Where}
use Rattle.lrp_plan_laws.proofs.Ranging.{Ranges, SomeOver, ranges_known, some_map}
use Rattle.lrp_plan_laws.proofs.Telling.{Saying, AreKnown, Tells, select_tells, join_tells}

-- ---- rules

-- what a guard says, where there is one
abbrev pub GuardSays : Structure → Option ℕ → Steps → Saying
GuardSays M None steps env = Unit {0}
GuardSays M (Some guard) steps env = Satisfies (formula_at steps guard) M env

-- a guard is an earlier step with these variables alone
abbrev pub FitsGuard : Option ℕ → Steps → List Variable → Type 0
FitsGuard None steps vs = Unit {0}
FitsGuard (Some guard) steps vs = (guard ≤ length steps) × AreAmong (free (formula_at steps guard)) vs

-- the last step of a rule says what its guard and the formula say
abbrev pub IsSoundRule : Ground → List Text → Form → GuardedRule → Type 0
IsSoundRule over texts f rule = (guard : Option ℕ) (steps : Steps) → FitsGuard guard steps (free f) → Tells over.structure texts (free f) steps (rule over guard steps) (λ env. GuardSays over.structure guard steps env × Satisfies f over.structure env)

abbrev pub AreSoundParts : Ground → List Text → List Part → Type 0
AreSoundParts over texts parts = AllByRecursion (λ p. IsSoundRule over texts p.formula p.rule) parts

-- ---- what is left

-- what is left says
abbrev pub LeftSays : Structure → Standing → Saying
LeftSays M at env =
    AllByRecursion (λ a. Satisfies (atom_form a) M env) at.atoms
    × (AllByRecursion (λ e. Satisfies (sort_form e) M env) at.sorts
    × (AllByRecursion (λ p. Satisfies p.formula M env) at.others
    × (AllByRecursion (Passes env) at.tests
    × AllByRecursion (λ p. Satisfies p.formula M env → ⊥) at.negations)))

-- the variables of what is left are among these
abbrev pub LeftAmong : List Variable → Standing → Type 0
LeftAmong vs at =
    AllByRecursion (λ a. AreAmong (free (atom_form a)) vs) at.atoms
    × (AllByRecursion (λ e. AreAmong (free (sort_form e)) vs) at.sorts
    × (AllByRecursion (λ p. AreAmong (free p.formula) vs) at.others
    × (AllByRecursion (λ t. AreAmong (variables_of_test t) vs) at.tests
    × AllByRecursion (λ p. AreAmong (free p.formula) vs) at.negations)))

-- the formula of the result so far
abbrev pub so_far : Standing → Form
so_far at = formula_at at.steps at.taken.result

-- the result so far, the formula that is being taken in, and what is left say together, for some values of the block's variables, p
pub record IsOnTheWay (M : Structure) (texts : List Text) (start : Steps) (outer : List Variable) (p : Saying) (next : Saying) (at : Standing) : Type 0 where
  pub more : Steps
  pub is : at.steps ≡ start ++ more
  pub step : at.taken.result ≤ length at.steps
  pub scope : at.taken.some ≡ true → AreAmong (free (so_far at)) (outer ++ at.block)
  pub left : LeftAmong (outer ++ at.block) at
  pub says : (env : Assignment) → AreKnown texts outer env → SomeOver texts at.block (λ e. Where at.taken.some (Satisfies (so_far at) M e) × (next e × LeftSays M at e)) env ↔ p env

abbrev pub Nothing : Saying
Nothing e = Unit {0}

-- what is known outside is known of each assignment that differs in the block alone
pub known_within : (texts : List Text) (outer block : List Variable) (env e : Assignment) → AreKnown texts outer env → Ranges texts block env e → AreKnown texts (outer ++ block) e
known_within texts outer block env e k r = ranges_known texts outer block env e k r

-- two sayings that are the same of each assignment with known texts are the same of some
pub some_iff : (texts : List Text) (outer block : List Variable) (p q : Saying) (env : Assignment) → AreKnown texts outer env → ((e : Assignment) → AreKnown texts (outer ++ block) e → p e ↔ q e) → SomeOver texts block p env ↔ SomeOver texts block q env
some_iff texts outer block p q env k h = (
  some_map texts block p q env (λ e r x. (h e (known_within texts outer block env e k r)).0 x),
  some_map texts block q p env (λ e r x. (h e (known_within texts outer block env e k r)).1 x),
)

module _ (M : Structure) (texts : List Text) (start : Steps) (outer : List Variable) (p : Saying) where
  -- the tests that are covered, and the others
  covered_split : (vs : List Variable) (ts : List Test) (env : Assignment) → AllByRecursion (Passes env) ts ↔ (AllByRecursion (Passes env) (covered_by vs ts) × AllByRecursion (Passes env) (uncovered_by vs ts))
  covered_split vs ts env = split_all (Passes env) (λ t. are_among (variables_of_test t) vs) ts

  covered_among : (room vs : List Variable) (ts : List Test) → AllByRecursion (λ t. AreAmong (variables_of_test t) room) ts → AllByRecursion (λ t. AreAmong (variables_of_test t) room) (covered_by vs ts) × AllByRecursion (λ t. AreAmong (variables_of_test t) room) (uncovered_by vs ts)
  covered_among room vs ts h = (split_all (λ t. AreAmong (variables_of_test t) room) (λ t. are_among (variables_of_test t) vs) ts).0 h

  -- the last step is all that was taken in
  pub gone_on : (vs : List Variable) (steps : Steps) (q next : Saying) (at : Standing) → IsOnTheWay M texts start outer p next at → Tells M texts (outer ++ at.block) at.steps steps q
      → ((e : Assignment) → AreKnown texts (outer ++ at.block) e → q e ↔ (Where at.taken.some (Satisfies (so_far at) M e) × next e)) → IsOnTheWay M texts start outer p Nothing (go_on_from M vs steps at)
  gone_on vs steps q next at w t h =
      let variables : List Variable = at.taken.variables ++ vs in
      let carried : List Test = covered_by variables at.tests in
      let tests = covered_among (outer ++ at.block) variables at.tests w.left.1.1.1.0 in
      let n : Tells M texts (outer ++ at.block) at.steps (select_each carried M steps) (λ e. q e × AllByRecursion (Passes e) carried) = select_tells M texts (outer ++ at.block) at.steps steps [] q carried tests.0 t in
      record {
        more = w.more ++ n.more;
        is = n.is ∙ ap (λ s. s ++ n.more) w.is ∙ append_assoc start w.more n.more;
        step = omega arith;
        scope = λ e. n.scope;
        left = (w.left.0, (w.left.1.0, (w.left.1.1.0, (tests.1, w.left.1.1.1.1))));
        says = λ env k. then_iff
            (some_iff texts outer at.block _ _ env k (λ e known.
            let s = covered_split variables at.tests e in (
              (λ x. let y = (n.says e known).0 x.0 in let z = (h e known).0 y.0 in (z.0, (z.1, (x.1.1.0, (x.1.1.1.0, (x.1.1.1.1.0, (s.1 (y.1, x.1.1.1.1.1.0), x.1.1.1.1.1.1))))))),
              λ x. let c = s.0 x.1.1.1.1.1.0 in ((n.says e known).1 ((h e known).1 (x.0, x.1.0), c.0), (tt, (x.1.1.0, (x.1.1.1.0, (x.1.1.1.1.0, (c.1, x.1.1.1.1.1.1)))))),
            )))
            (w.says env k);
      }

  -- the last step is joined with the result so far
  joined_in : (vs : List Variable) (steps : Steps) (q next : Saying) (at : Standing) → at.taken.some ≡ true → IsOnTheWay M texts start outer p next at → Tells M texts (outer ++ at.block) at.steps steps q
      → ((e : Assignment) → AreKnown texts (outer ++ at.block) e → Satisfies (so_far at) M e → q e ↔ next e)
      → IsOnTheWay M texts start outer p Nothing (record at { steps = join at.taken.result (covered_by (at.taken.variables ++ vs) at.tests) M steps; taken = taken_up (at.taken.variables ++ vs) (join at.taken.result (covered_by (at.taken.variables ++ vs) at.tests) M steps); tests = uncovered_by (at.taken.variables ++ vs) at.tests })
  joined_in vs steps q next at some w t h =
      let variables : List Variable = at.taken.variables ++ vs in
      let carried : List Test = covered_by variables at.tests in
      let tests = covered_among (outer ++ at.block) variables at.tests w.left.1.1.1.0 in
      let n : Tells M texts (outer ++ at.block) at.steps (join at.taken.result carried M steps) (λ e. (Satisfies (so_far at) M e × q e) × AllByRecursion (Passes e) carried) =
      join_tells M texts (outer ++ at.block) at.steps at.steps steps [] at.taken.result q carried (sym (append-nil at.steps)) w.step (w.scope some) tests.0 t in
      record {
        more = w.more ++ n.more;
        is = n.is ∙ ap (λ s. s ++ n.more) w.is ∙ append_assoc start w.more n.more;
        step = omega arith;
        scope = λ e. n.scope;
        left = (w.left.0, (w.left.1.0, (w.left.1.1.0, (tests.1, w.left.1.1.1.1))));
        says = λ env k. then_iff
            (some_iff texts outer at.block _ _ env k (λ e known.
            let s = covered_split variables at.tests e in (
              (λ x. let y = (n.says e known).0 x.0 in (y.0.0, ((h e known y.0.0).0 y.0.1, (x.1.1.0, (x.1.1.1.0, (x.1.1.1.1.0, (s.1 (y.1, x.1.1.1.1.1.0), x.1.1.1.1.1.1))))))),
              λ x. let c = s.0 x.1.1.1.1.1.0 in ((n.says e known).1 ((x.0, (h e known x.0).1 x.1.0), c.0), (tt, (x.1.1.0, (x.1.1.1.0, (x.1.1.1.1.0, (c.1, x.1.1.1.1.1.1)))))),
            )))
            (subst (λ b. (env : Assignment) → AreKnown texts outer env → SomeOver texts at.block (λ e. Where b (Satisfies (so_far at) M e) × (next e × LeftSays M at e)) env ↔ p env) some w.says env k);
      }

  -- the last step is taken in
  pub taken_in : (vs : List Variable) (steps : Steps) (q next : Saying) (at : Standing) → IsOnTheWay M texts start outer p next at → Tells M texts (outer ++ at.block) at.steps steps q
      → ((e : Assignment) → AreKnown texts (outer ++ at.block) e → Where at.taken.some (Satisfies (so_far at) M e) → q e ↔ next e) → IsOnTheWay M texts start outer p Nothing (take_up M vs steps at)
  taken_in vs steps q next at w t h = by at.taken.some refl
    where
      by : (b : Bool) → at.taken.some ≡ b
          → IsOnTheWay M texts start outer p Nothing (cond b (record at { steps = join at.taken.result (covered_by (at.taken.variables ++ vs) at.tests) M steps; taken = taken_up (at.taken.variables ++ vs) (join at.taken.result (covered_by (at.taken.variables ++ vs) at.tests) M steps); tests = uncovered_by (at.taken.variables ++ vs) at.tests }) (go_on_from M vs steps at))
      by true some = joined_in vs steps q next at some w t (subst (λ b. (e : Assignment) → AreKnown texts (outer ++ at.block) e → Where b (Satisfies (so_far at) M e) → q e ↔ next e) some h)
      by false none =
          gone_on vs steps q next at w t (λ e known.
          let r = subst (λ b. (e : Assignment) → AreKnown texts (outer ++ at.block) e → Where b (Satisfies (so_far at) M e) → q e ↔ next e) none h e known tt in
          subst (λ b. q e ↔ (Where b (Satisfies (so_far at) M e) × next e)) (sym none) ((λ x. (tt, r.0 x)), λ x. r.1 x.1))
