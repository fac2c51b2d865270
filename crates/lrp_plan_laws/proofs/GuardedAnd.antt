-- An `and` under a guard: the result so far and what is left name what the whole names.
use Rattle.std.proofs.Common.{◌≡◌, ◌↔◌, ◌⊎◌, inl, inr, ⊎_elim, ◌+◌, reverse, ◌≤◌, ◌<◌, ℕ, suc, Bool, true, false, cond, not, ◌&&◌, List, [], ◌∷◌, ◌++◌, length, Option, Some, None, slice_get, remove, filter, nat_eq, nat_le, Contains, refl, sym, ap, subst, ◌∙◌, arith}
use Rattle.std.specs.List.{AllByRecursion}
use Rattle.lrp_model.specs.Texts.{Identifier}
use Rattle.lrp_model.specs.Formulas.{Form, test, negation, conjunction, disjunction, no_forms, form}
use Rattle.lrp_model.specs.Variables.{Variable, time_variable, data_variable, is_among, are_among, variables_of_test, free, free_each}
use Rattle.lrp_model.specs.Steps.{Steps, formula_at, made, tests_as_forms, join, select, minus, complement, leaf}
use Rattle.lrp_model.specs.declared.formulas.Test.{Test}
use Rattle.lrp_model.specs.declared.plans.StepKind.{StepKind}
use Rattle.lrp_model.specs.declared.plans.StepKind.TheVariants.{Scan, Leaf, Sort as SortStep, Join, Select, Minus, Complement}
use Rattle.lrp_model.proofs.Logic.{same, all_append}
use Rattle.lrp_plan_laws.specs.Atoms.{Atom}
use Rattle.lrp_plan_laws.specs.Binding.{is_leaf, is_guarded_by}
use Rattle.lrp_plan_laws.specs.Made.{HeadStep, AreAmong}
use Rattle.lrp_plan_laws.specs.Projections.{PlanGround as Ground, for_each_sort, drop_each, last_drop, distinct_variables as each_once, columns_at, unwanted, projected}
use Rattle.lrp_plan_laws.specs.GuardedConjunctions.{GuardedRule, SortElement, GuardedPart as Part, Standing, atom_form, sort_form, select_from, covered_by, uncovered_by, taken_up, go_on_from, take_up, has_guard, under, part_steps, is_whole_guard, still_needed, take_atom, take_sort, take_other, take_one_test as take_test, any_value, bring_each, last_brought, missing, with_missing as brought, take_off, take_one_negation as take_negation, variables_left, drop_spent, select_each_from, last_selected, Elements, elements_left, rounds, next_choice, standing_first, guarded_conjunction as conjunction_rule, put_by, ranked_by}
use Rattle.lrp_model.specs.Conjunctions.{Taken, select_each}
use Rattle.lrp_plan_laws.proofs.Elements.{formula_made, take_out, split_all}
use Rattle.lrp_plan_laws.proofs.Marks.{Mark, marks}
use Rattle.lrp_plan_laws.proofs.Members.{all_of, all_by, all_self, all_from, all_map, in_left, in_right, in_one}
use Rattle.lrp_plan_laws.proofs.Names.{Names, NamesTest, two_named, tests_named, names_self, is_among_is}
use Rattle.lrp_plan_laws.proofs.PlanLaws.{Where, put_where, get_where, and_first}
use Rattle.lrp_plan_laws.proofs.Dropping.{Rules}
use Rattle.lrp_plan_laws.proofs.Builds.{Saying, CanMake}
use Rattle.lrp_plan_laws.proofs.Leads.{Leads, Drops, guard_leads, kept_formula, first_leads, chain_leads, select_leads, join_leads, minus_leads, complement_leads, drops, drops_last}
use Rattle.lrp_plan_laws.proofs.PlanSound.{put_all}
use Rattle.lrp_plan_laws.proofs.Rounds.{nothing_left}
use Rattle.lrp_plan_laws.proofs.Choices.{all_rounds}
use Rattle.lrp_model.proofs.Decided.{cons_cases, contains_first, contains_later, contains_none}
use mathlib.Core.List.{reverse-cons}
use Rattle.lrp_model.specs.Rows.{rows_of}
use Rattle.lrp_plan_laws.proofs.Standings.{LeftNames, marks_left, left_self, left_fewer, left_moved, needed_named, covered_tests, all_both, among_has, kept_has, kept_is, once_has, once_in}

-- nothing is said where there is nothing
idle_where : (b : Bool) (q : Type 0) → b ≡ false → Where b q
idle_where true q e = cc
idle_where false q e = tt

-- the second of two
pub and_second : (a b : Bool) → (a && b) ≡ true → b ≡ true
and_second true b e = e
and_second false b e = cc

-- numbers that pass as equal are
pub nat_same : (m n : ℕ) → nat_eq m n ≡ true → m ≡ n
nat_same m n e = grind arith

-- something is not both so and not so
no_both : (b : Bool) → b ≡ true → b ≡ false → ⊥
no_both true e f = cc
no_both false e f = cc

-- a variable is among these, or it isn't
by_taken : (us ts : List Variable) (v : Variable) (b : Bool) → is_among ts v ≡ b → (Contains ts v → Contains us v) → (is_among ts v ≡ false → Contains us v) → Contains us v
by_taken us ts v true q so otherwise = so (is_among_is ts v q)
by_taken us ts v false q so otherwise = otherwise q

-- a list turned round has the same variables
pub turned_has : (xs : List Variable) (v : Variable) → Contains (reverse xs) v ↔ Contains xs v
turned_has [] v = same
turned_has (x ∷ xs) v =
    let r : Contains (reverse xs) v ↔ Contains xs v = turned_has xs v in
    let e : reverse (x ∷ xs) ≡ reverse xs ++ x ∷ [] = reverse-cons x xs in (
      (λ c. ⊎_elim (λ d. contains_later x v xs (r.0 d)) (λ d. ⊎_elim (λ q. subst (Contains (x ∷ xs)) q (contains_first x xs)) (λ n. absurd (contains_none v n)) (cons_cases x v [] d)) (in_one (reverse xs) (x ∷ []) v (subst (λ l. Contains l v) e c))),
      λ c. subst (λ l. Contains l v) (sym e) (⊎_elim (λ q. in_right (reverse xs) (x ∷ []) v (subst (Contains (x ∷ [])) q (contains_first x []))) (λ d. in_left (reverse xs) (x ∷ []) v (r.1 d)) (cons_cases x v xs c)),
    )

pub turned : (vs ws us : List Variable) → AllByRecursion (Contains (reverse vs ++ ws)) us → AllByRecursion (Contains (vs ++ ws)) us
turned vs ws us h = all_map (Contains (reverse vs ++ ws)) (Contains (vs ++ ws)) us (λ v c. ⊎_elim (λ d. in_left vs ws v ((turned_has vs v).0 d)) (λ d. in_right vs ws v d) (in_one (reverse vs) ws v c)) h

pub turned_back : (vs ws us : List Variable) → AllByRecursion (Contains (vs ++ ws)) us → AllByRecursion (Contains (reverse vs ++ ws)) us
turned_back vs ws us h = all_map (Contains (vs ++ ws)) (Contains (reverse vs ++ ws)) us (λ v c. ⊎_elim (λ d. in_left (reverse vs) ws v ((turned_has vs v).1 d)) (λ d. in_right (reverse vs) ws v d) (in_one vs ws v c)) h

-- those that pass and those that don't are all
pub split_length : {X : Type 0} (c : X → Bool) (xs : List X) → length (filter c xs) + length (filter (λ x. not (c x)) xs) ≡ length xs
split_length c [] = refl
split_length c (x ∷ xs) = by_test (c x) (split_length c xs)
  where
    by_test : (b : Bool) → length (filter c xs) + length (filter (λ x. not (c x)) xs) ≡ length xs → length (cond b (x ∷ filter c xs) (filter c xs)) + length (cond (not b) (x ∷ filter (λ x. not (c x)) xs) (filter (λ x. not (c x)) xs)) ≡ length (x ∷ xs)
    by_test true e = omega (arith, e)
    by_test false e = omega (arith, e)

-- elements in order are the elements
put_is : {X : Type 0} (p : X → Type 0) (count : X → ℕ) (x : X) (ys : List X) → AllByRecursion p (put_by count x ys) ↔ (p x × AllByRecursion p ys)
put_is p count x [] = same
put_is p count x (y ∷ ys) = put_all p (nat_le (count x) (count y)) x y ys (put_by count x ys) (put_is p count x ys)

pub ranked_all : {X : Type 0} (p : X → Type 0) (count : X → ℕ) (xs : List X) → AllByRecursion p (ranked_by count xs) ↔ AllByRecursion p xs
ranked_all p count [] = same
ranked_all p count (x ∷ xs) =
    let r : AllByRecursion p (ranked_by count xs) ↔ AllByRecursion p xs = ranked_all p count xs in
    let q : AllByRecursion p (put_by count x (ranked_by count xs)) ↔ (p x × AllByRecursion p (ranked_by count xs)) = put_is p count x (ranked_by count xs) in
    ((λ h. ((q.0 h).0, r.0 (q.0 h).1)), λ h. q.1 (h.0, r.1 h.1))

put_length : {X : Type 0} (count : X → ℕ) (x : X) (ys : List X) → length (put_by count x ys) ≡ suc (length ys)
put_length count x [] = refl
put_length count x (y ∷ ys) = by_order (nat_le (count x) (count y)) (put_length count x ys)
  where
    by_order : (b : Bool) → length (put_by count x ys) ≡ suc (length ys) → length (cond b (x ∷ y ∷ ys) (y ∷ put_by count x ys)) ≡ suc (length (y ∷ ys))
    by_order true e = refl
    by_order false e = ap suc e

pub ranked_length : {X : Type 0} (count : X → ℕ) (xs : List X) → length (ranked_by count xs) ≡ length xs
ranked_length count [] = refl
ranked_length count (x ∷ xs) = put_length count x (ranked_by count xs) ∙ ap suc (ranked_length count xs)

-- nothing more is named
abbrev pub Nothing : Saying
Nothing ws ks = Unit {0}

module _ (over : Ground) (head : HeadStep) (rules : Rules) (fits : List Variable → Type 0) (down : (vs ws : List Variable) → AllByRecursion (Contains ws) vs → fits ws → fits vs)
    (ruled : (v : Identifier) (f : Form) → rules.drops v f (disjunction (for_each_sort over.sorts v f))) where
  -- what the guard names, where there is one
  abbrev pub GuardNames : Steps → Option ℕ → Saying
  GuardNames steps None ws ks = Unit {0}
  GuardNames steps (Some g) ws ks = Names over.structure.relations (formula_at steps g) ws ks

  -- the guard is there, and has these variables alone
  abbrev pub IsGuard : Steps → Option ℕ → List Variable → Type 0
  IsGuard steps None vs = Unit {0}
  IsGuard steps (Some g) vs = (0 < g) × (g ≤ length steps) × AllByRecursion (Contains vs) (free (formula_at steps g))

  -- the steps after lead to the last one, which names what p says
  pub record IsBuilt (before : Steps) (guard : Option ℕ) (after : Steps) (p : Saying) : Type 0 where
    pub led : Leads over.structure head rules fits before guard after (length after)
    pub names : (ws : List Variable) (ks : List Mark) → Names over.structure.relations (formula_at after (length after)) ws ks ↔ p ws ks

  -- a rule whose steps name what the guard and the formula name
  abbrev pub IsRule : Form → GuardedRule → Type 0
  IsRule f rule = (steps : Steps) (guard : Option ℕ) → IsGuard steps guard (free f) → IsBuilt steps guard (rule over guard steps) (λ ws ks. GuardNames steps guard ws ks × Names over.structure.relations f ws ks)

  abbrev pub IsSoundPart : Part → Type 0
  IsSoundPart p = IsRule p.formula p.rule

  -- the last step has no other variables than the formula
  pub built_within : (steps after : Steps) (guard : Option ℕ) (f : Form) (room : List Variable) → IsGuard steps guard (free f) → AllByRecursion (Contains room) (free f)
      → IsBuilt steps guard after (λ ws ks. GuardNames steps guard ws ks × Names over.structure.relations f ws ks) → AllByRecursion (Contains room) (free (formula_at after (length after)))
  built_within steps after None f room g inside b = ((b.names room (marks f over.structure.relations)).1 (tt, (inside, all_self (marks f over.structure.relations)))).0
  built_within steps after (Some g) f room h inside b =
      let a : Form = formula_at steps g in
      let ks : List Mark = marks a over.structure.relations ++ marks f over.structure.relations in
      let two = (all_append (Contains ks) (marks a over.structure.relations) (marks f over.structure.relations)).0 (all_self ks) in
      ((b.names room ks).1 ((all_from (Contains room) (free f) (free a) h.2 inside, two.0), (inside, two.1))).0

  -- a variable is wanted, or it is dropped
  pub wanted_or : (wanted : List Variable) (steps : Steps) (n : ℕ) (v : Variable) → Contains (free (formula_at steps n)) v → Contains (unwanted wanted steps n ++ wanted) v
  wanted_or wanted steps n v c = by_among (is_among wanted v) refl
    where
      by_among : (b : Bool) → is_among wanted v ≡ b → Contains (unwanted wanted steps n ++ wanted) v
      by_among true e = in_right (unwanted wanted steps n) wanted v (is_among_is wanted v e)
      by_among false e = in_left (unwanted wanted steps n) wanted v (kept_has (λ w. not (is_among wanted w)) (columns_at steps n) v (once_has (free (formula_at steps n)) v c) (ap not e))

  module _ (room : List Variable) (most : List Mark) (roomy : fits room) (start : Steps) (guard : Option ℕ) (p : Saying) where
    -- the formula of the result so far
    abbrev pub result : Standing → Form
    result at = formula_at at.steps at.taken.result

    -- the result so far, q and what is left name together what p says
    pub record IsOnTheWay (q : Saying) (at : Standing) : Type 0 where
      pub others : AllByRecursion IsSoundPart at.others
      pub negations : AllByRecursion IsSoundPart at.negations
      pub led : at.taken.some ≡ true → Leads over.structure head rules fits start guard at.steps at.taken.result
      pub within : at.taken.some ≡ true → AllByRecursion (Contains room) (free (result at))
      pub fresh : at.taken.some ≡ false → (at.steps ≡ start) × (guard ≡ None) × (at.taken.variables ≡ [])
      pub left : LeftNames over.structure.relations at room most
      pub names : (ws : List Variable) (ks : List Mark) → (Where at.taken.some (Names over.structure.relations (result at) (at.block ++ ws) ks) × (q (at.block ++ ws) ks × LeftNames over.structure.relations at (at.block ++ ws) ks)) ↔ p ws ks
      pub known : at.taken.some ≡ true → (v : Variable) → Contains at.taken.variables v → Contains (variables_left at) v → Contains (free (result at)) v

    -- something was taken in, and the last step is the result
    pub record IsTaken (at : Standing) : Type 0 where
      pub way : IsOnTheWay Nothing at
      pub some : at.taken.some ≡ true
      pub last : at.taken.result ≡ length at.steps

    -- ---- selections

    -- the last step and these tests
    record Selected (steps after : Steps) (ts : List Test) : Type 0 where
      led : Leads over.structure head rules fits start guard after (length after)
      names : (ws : List Variable) (ks : List Mark) → Names over.structure.relations (formula_at after (length after)) ws ks ↔ (Names over.structure.relations (formula_at steps (length steps)) ws ks × AllByRecursion (NamesTest over.structure.relations ws ks) ts)
      within : AllByRecursion (Contains room) (free (formula_at after (length after)))

    -- one selection
    one_selected : (steps : Steps) (of : ℕ) (t : Test) → Leads over.structure head rules fits start guard steps of → AllByRecursion (Contains (free (formula_at steps of))) (variables_of_test t) → AllByRecursion (Contains room) (free (formula_at steps of)) → AllByRecursion (Contains room) (variables_of_test t)
        → Leads over.structure head rules fits start guard (select_from of t over.structure steps) (length (select_from of t over.structure steps)) × AllByRecursion (Contains room) (free (formula_at (select_from of t over.structure steps) (length (select_from of t over.structure steps))))
        × ((ws : List Variable) (ks : List Mark) → Names over.structure.relations (formula_at (select_from of t over.structure steps) (length (select_from of t over.structure steps))) ws ks ↔ (Names over.structure.relations (formula_at steps of) ws ks × NamesTest over.structure.relations ws ks t))
    one_selected steps of t l known inside tests =
        let a : Form = formula_at steps of in
        let f : Form = conjunction (form a (form (test t) no_forms)) in
        let after : Steps = select_from of t over.structure steps in
        let e : formula_at after (length after) ≡ f = formula_made over.structure (Select of t) f steps in
        let wide : AllByRecursion (Contains room) (free f) = (all_append (Contains room) (free a) (variables_of_test t ++ [])).1 (inside, (all_append (Contains room) (variables_of_test t) []).1 (tests, tt)) in (
          select_leads over.structure head rules fits start steps guard of t l (λ v c. all_of (Contains (free a)) (variables_of_test t) v known c) (down (free f) room wide roomy),
          subst (λ g. AllByRecursion (Contains room) (free g)) (sym e) wide,
          λ ws ks. subst (λ g. Names over.structure.relations g ws ks ↔ (Names over.structure.relations a ws ks × NamesTest over.structure.relations ws ks t)) (sym e) (let two = two_named over.structure.relations ws ks a (test t) no_forms in ((λ h. let x = two.0 h in (x.0, x.1.0)), λ h. two.1 (h.0, (h.1, (tt, tt))))),
        )

    selects : (ts : List Test) (steps : Steps) → Leads over.structure head rules fits start guard steps (length steps) → AllByRecursion (λ t. AllByRecursion (Contains (free (formula_at steps (length steps)))) (variables_of_test t)) ts
        → AllByRecursion (Contains room) (free (formula_at steps (length steps))) → AllByRecursion (λ t. AllByRecursion (Contains room) (variables_of_test t)) ts → Selected steps (select_each ts over.structure steps) ts
    selects [] steps l known inside tests = record { led = l; names = λ ws ks. ((λ h. (h, tt)), λ h. h.0); within = inside }
    selects (t ∷ ts) steps l known inside tests =
        let one = one_selected steps (length steps) t l known.0 inside tests.0 in
        let after : Steps = select t over.structure steps in
        let a : Form = formula_at steps (length steps) in
        let more : AllByRecursion (Contains (free (formula_at after (length after)))) (free a) =
        ((one.2 (free (formula_at after (length after))) (marks (formula_at after (length after)) over.structure.relations)).0 (names_self over.structure.relations (formula_at after (length after)))).0.0 in
        let r : Selected after (select_each ts over.structure after) ts = selects ts after one.0
        (all_map (λ u. AllByRecursion (Contains (free a)) (variables_of_test u)) (λ u. AllByRecursion (Contains (free (formula_at after (length after)))) (variables_of_test u)) ts
        (λ u h. all_from (Contains (free (formula_at after (length after)))) (free a) (variables_of_test u) h more) known.1)
        one.1 tests.1 in
        record {
          led = r.led;
          names = λ ws ks. (
            (λ h. let x = (r.names ws ks).0 h in let y = (one.2 ws ks).0 x.0 in (y.0, (y.1, x.1))),
            λ h. (r.names ws ks).1 ((one.2 ws ks).1 (h.0, h.1.0), h.1.1),
          );
          within = r.within;
        }

    -- the tests that are covered have variables that are left
    covered_left : (at : Standing) (variables : List Variable) → AllByRecursion (λ t. AllByRecursion (Contains (variables_left at)) (variables_of_test t)) (covered_by variables at.tests)
    covered_left at variables =
        all_map (NamesTest over.structure.relations (variables_left at) (marks_left over.structure.relations at)) (λ t. AllByRecursion (Contains (variables_left at)) (variables_of_test t)) (covered_by variables at.tests) (λ t h. h.0)
        ((split_all (NamesTest over.structure.relations (variables_left at) (marks_left over.structure.relations at)) (λ t. are_among (variables_of_test t) variables) at.tests).0 (left_self over.structure.relations at).1.1.1.0).0

    -- and are known where their variables are
    covered_known : (at : Standing) (variables : List Variable) (vs : List Variable) → ((v : Variable) → Contains variables v → Contains (variables_left at) v → Contains vs v) → AllByRecursion (λ t. AllByRecursion (Contains vs) (variables_of_test t)) (covered_by variables at.tests)
    covered_known at variables vs on =
        all_map (λ t. AllByRecursion (Contains variables) (variables_of_test t) × AllByRecursion (Contains (variables_left at)) (variables_of_test t)) (λ t. AllByRecursion (Contains vs) (variables_of_test t)) (covered_by variables at.tests)
        (λ t h. all_by (Contains vs) (variables_of_test t) (λ v c. on v (all_of (Contains variables) (variables_of_test t) v h.0 c) (all_of (Contains (variables_left at)) (variables_of_test t) v h.1 c)))
        (all_both (λ t. AllByRecursion (Contains variables) (variables_of_test t)) (λ t. AllByRecursion (Contains (variables_left at)) (variables_of_test t)) (covered_by variables at.tests) (covered_tests variables at.tests) (covered_left at variables))

    -- what is left names what the covered tests name, and what is then left
    abbrev uncovered : List Variable → Standing → Standing
    uncovered variables at = record at { tests = uncovered_by variables at.tests }

    covered_out : (at : Standing) (variables ws : List Variable) (ks : List Mark) → LeftNames over.structure.relations at ws ks ↔ (AllByRecursion (NamesTest over.structure.relations ws ks) (covered_by variables at.tests) × LeftNames over.structure.relations (uncovered variables at) ws ks)
    covered_out at variables ws ks =
        let s = split_all (NamesTest over.structure.relations ws ks) (λ t. are_among (variables_of_test t) variables) at.tests in
        ((λ h. let x = s.0 h.1.1.1.0 in (x.0, (h.0, (h.1.0, (h.1.1.0, (x.1, h.1.1.1.1)))))), λ h. (h.1.0, (h.1.1.0, (h.1.1.1.0, (s.1 (h.0, h.1.1.1.1.0), h.1.1.1.1.1)))))

    -- the last step is all that was taken in
    went_on : (at : Standing) (vs : List Variable) (steps : Steps) → AllByRecursion IsSoundPart at.others → AllByRecursion IsSoundPart at.negations → LeftNames over.structure.relations at room most → Leads over.structure head rules fits start guard steps (length steps)
        → AllByRecursion (Contains room) (free (formula_at steps (length steps)))
        → ((ws : List Variable) (ks : List Mark) → (Names over.structure.relations (formula_at steps (length steps)) (at.block ++ ws) ks × LeftNames over.structure.relations at (at.block ++ ws) ks) ↔ p ws ks)
        → ((v : Variable) → Contains (at.taken.variables ++ vs) v → Contains (variables_left at) v → Contains (free (formula_at steps (length steps))) v) → IsTaken (go_on_from over.structure vs steps at)
    went_on at vs steps others negations left l inside names known =
        let variables : List Variable = at.taken.variables ++ vs in
        let ts : List Test = covered_by variables at.tests in
        let after : Steps = select_each ts over.structure steps in
        let b : Form = formula_at steps (length steps) in
        let roomed : AllByRecursion (λ t. AllByRecursion (Contains room) (variables_of_test t)) ts = all_map (NamesTest over.structure.relations room most) (λ t. AllByRecursion (Contains room) (variables_of_test t)) ts (λ t h. h.0) ((covered_out at variables room most).0 left).0 in
        let s : Selected steps after ts = selects ts steps l (covered_known at variables (free b) known) inside roomed in
        let more : AllByRecursion (Contains (free (formula_at after (length after)))) (free b) = ((s.names (free (formula_at after (length after))) (marks (formula_at after (length after)) over.structure.relations)).0 (names_self over.structure.relations (formula_at after (length after)))).0.0 in
        record {
          way = record {
            others = others;
            negations = negations;
            led = λ e. s.led;
            within = λ e. s.within;
            fresh = λ e. cc;
            left = ((covered_out at variables room most).0 left).1;
            names = λ ws ks.
                let c = covered_out at variables (at.block ++ ws) ks in
                let n = s.names (at.block ++ ws) ks in (
                  (λ h. let x = n.0 h.0 in (names ws ks).0 (x.0, c.1 (x.1, h.1.1))),
                  λ x. let h = (names ws ks).1 x in let y = c.0 h.1 in (n.1 (h.0, y.0), (tt, y.1)),
                );
            known = λ e v c d. all_of (Contains (free (formula_at after (length after)))) (free b) v more (known v c (left_fewer over.structure.relations at (uncovered variables at) (λ ws ks h. ((covered_out at variables ws ks).0 h).1) v d));
          };
          some = refl;
          last = refl;
        }

    -- ---- a `join`

    -- a formula q whose last step goes on from the result so far is joined with it
    joined_on : (q : Saying) (at : Standing) (vs : List Variable) (steps : Steps) (other : Option ℕ) → IsOnTheWay q at → at.taken.some ≡ true → Leads over.structure head rules fits at.steps other steps (length steps)
        → ((ws : List Variable) (ks : List Mark) → Names over.structure.relations (result at) ws ks → Names over.structure.relations (formula_at steps (length steps)) ws ks ↔ q ws ks) → ((ws : List Variable) (ks : List Mark) → q ws ks → AllByRecursion (Contains ws) vs)
        → AllByRecursion (Contains room) (free (formula_at steps (length steps)))
        → IsTaken (record at { steps = join at.taken.result (covered_by (at.taken.variables ++ vs) at.tests) over.structure steps; taken = taken_up (at.taken.variables ++ vs) (join at.taken.result (covered_by (at.taken.variables ++ vs) at.tests) over.structure steps); tests = uncovered_by (at.taken.variables ++ vs) at.tests })
    joined_on q at vs steps other w some k says has inside =
        let variables : List Variable = at.taken.variables ++ vs in
        let ts : List Test = covered_by variables at.tests in
        let l : Leads over.structure head rules fits start guard at.steps at.taken.result = w.led some in
        let a : Form = formula_at steps at.taken.result in
        let b : Form = formula_at steps (length steps) in
        let f : Form = conjunction (form a (form b (tests_as_forms ts))) in
        let ea : a ≡ result at = kept_formula over.structure head rules fits at.steps steps other (length steps) at.taken.result k l.there in
        let after : Steps = join at.taken.result ts over.structure steps in
        let e : formula_at after (length after) ≡ f = formula_made over.structure (Join at.taken.result (length steps) ts) f steps in
        let both : List Variable = free a ++ free b in
        let ks : List Mark = marks a over.structure.relations ++ marks b over.structure.relations in
        let vars = (all_append (Contains both) (free a) (free b)).0 (all_self both) in
        let mks = (all_append (Contains ks) (marks a over.structure.relations) (marks b over.structure.relations)).0 (all_self ks) in
        let first : Names over.structure.relations (result at) both ks = subst (λ g. Names over.structure.relations g both ks) ea (vars.0, mks.0) in
        let held : AllByRecursion (Contains both) vs = has both ks ((says both ks first).0 (vars.1, mks.1)) in
        let known : (v : Variable) → Contains variables v → Contains (variables_left at) v → Contains both v =
        λ v c d. ⊎_elim (λ x. in_left (free a) (free b) v (subst (λ g. Contains (free g) v) (sym ea) (w.known some v x d))) (λ x. all_of (Contains both) vs v held x) (in_one at.taken.variables vs v c) in
        let tests : AllByRecursion (λ t. AreAmong (variables_of_test t) both) ts =
        all_map (λ t. AllByRecursion (Contains both) (variables_of_test t)) (λ t. AreAmong (variables_of_test t) both) ts (λ t h v c. all_of (Contains both) (variables_of_test t) v h c) (covered_known at variables both known) in
        let out = (covered_out at variables room most).0 w.left in
        let wide : AllByRecursion (Contains room) (free f) =
        (all_append (Contains room) (free a) (free b ++ free_each (tests_as_forms ts))).1
        (subst (λ g. AllByRecursion (Contains room) (free g)) (sym ea) (w.within some), (all_append (Contains room) (free b) (free_each (tests_as_forms ts))).1 (inside, ((tests_named over.structure.relations room most ts).1 out.0).0)) in
        let names : (ws : List Variable) (ks : List Mark) → Names over.structure.relations (formula_at after (length after)) ws ks ↔ (Names over.structure.relations (result at) ws ks × (q ws ks × AllByRecursion (NamesTest over.structure.relations ws ks) ts)) =
        λ ws ks.
        let two = two_named over.structure.relations ws ks a b (tests_as_forms ts) in
        let r = tests_named over.structure.relations ws ks ts in (
          (λ h. let x = two.0 (subst (λ g. Names over.structure.relations g ws ks) e h) in let y = subst (λ g. Names over.structure.relations g ws ks) ea x.0 in (y, ((says ws ks y).0 x.1.0, r.0 x.1.1))),
          λ h. subst (λ g. Names over.structure.relations g ws ks) (sym e) (two.1 (subst (λ g. Names over.structure.relations g ws ks) (sym ea) h.0, ((says ws ks h.0).1 h.1.0, r.1 h.1.1))),
        ) in
        record {
          way = record {
            others = w.others;
            negations = w.negations;
            led = λ x. join_leads over.structure head rules fits start at.steps steps guard other at.taken.result ts l k tests (down (free f) room wide roomy);
            within = λ x. subst (λ g. AllByRecursion (Contains room) (free g)) (sym e) wide;
            fresh = λ x. cc;
            left = out.1;
            names = λ ws ks.
                let us : List Variable = at.block ++ ws in
                let c = covered_out at variables us ks in
                let n = names us ks in (
                  (λ h. let x = n.0 h.0 in (w.names ws ks).0 (put_where at.taken.some _ some x.0, (x.1.0, c.1 (x.1.1, h.1.1)))),
                  λ x. let h = (w.names ws ks).1 x in let y = c.0 h.1.1 in (n.1 (get_where at.taken.some _ some h.0, (h.1.0, y.0)), (tt, y.1)),
                );
            known = λ x v c d. subst (λ g. Contains (free g) v) (sym e)
                (⊎_elim (λ y. in_left (free a) (free b ++ free_each (tests_as_forms ts)) v y) (λ y. in_right (free a) (free b ++ free_each (tests_as_forms ts)) v (in_left (free b) (free_each (tests_as_forms ts)) v y))
                (in_one (free a) (free b) v (known v c (left_fewer over.structure.relations at (uncovered variables at) (λ ws ks h. ((covered_out at variables ws ks).0 h).1) v d))));
          };
          some = refl;
          last = refl;
        }

    -- a formula q whose last step goes on from the result so far, or from nothing, is taken in
    taken_on : (q : Saying) (at : Standing) (vs : List Variable) (steps : Steps) (other : Option ℕ) → IsOnTheWay q at → (at.taken.some ≡ false → other ≡ None) → Leads over.structure head rules fits at.steps other steps (length steps)
        → ((ws : List Variable) (ks : List Mark) → Where at.taken.some (Names over.structure.relations (result at) ws ks) → Names over.structure.relations (formula_at steps (length steps)) ws ks ↔ q ws ks) → ((ws : List Variable) (ks : List Mark) → q ws ks → AllByRecursion (Contains ws) vs)
        → AllByRecursion (Contains room) (free (formula_at steps (length steps))) → IsTaken (take_up over.structure vs steps at)
    taken_on q at vs steps other w idle k says has inside = by_some at.taken.some refl
      where
        by_some : (some : Bool) → at.taken.some ≡ some → IsTaken (cond some (record at { steps = join at.taken.result (covered_by (at.taken.variables ++ vs) at.tests) over.structure steps; taken = taken_up (at.taken.variables ++ vs) (join at.taken.result (covered_by (at.taken.variables ++ vs) at.tests) over.structure steps); tests = uncovered_by (at.taken.variables ++ vs) at.tests }) (go_on_from over.structure vs steps at))
        by_some true e = joined_on q at vs steps other w e k (λ ws ks r. says ws ks (put_where at.taken.some _ e r)) has inside
        by_some false e =
            let f = w.fresh e in
            let from : Leads over.structure head rules fits start guard steps (length steps) = subst (λ s. Leads over.structure head rules fits s guard steps (length steps)) f.0 (subst (λ g. Leads over.structure head rules fits at.steps g steps (length steps)) (idle e ∙ sym f.1) k) in
            went_on at vs steps w.others w.negations w.left from inside
            (λ ws ks.
            let us : List Variable = at.block ++ ws in
            let s = says us ks (idle_where at.taken.some _ e) in
            ((λ h. (w.names ws ks).0 (idle_where at.taken.some _ e, (s.0 h.0, h.1))), λ x. let h = (w.names ws ks).1 x in (s.1 h.1.0, h.1.1)))
            (λ v c d.
            let held : AllByRecursion (Contains (free (formula_at steps (length steps)))) vs = has (free (formula_at steps (length steps))) (marks (formula_at steps (length steps)) over.structure.relations) ((says (free (formula_at steps (length steps))) (marks (formula_at steps (length steps)) over.structure.relations) (idle_where at.taken.some _ e)).0 (names_self over.structure.relations (formula_at steps (length steps)))) in
            all_of (Contains (free (formula_at steps (length steps)))) vs v held (subst (λ us. Contains (us ++ vs) v) f.2 c))

    -- an element is taken out of what is left
    taken_out : (q : Saying) (at less : Standing) → AllByRecursion IsSoundPart less.others → AllByRecursion IsSoundPart less.negations
        → ((ws : List Variable) (ks : List Mark) → LeftNames over.structure.relations at ws ks ↔ (q ws ks × LeftNames over.structure.relations less ws ks)) → IsOnTheWay Nothing at → IsOnTheWay q (record less { steps = at.steps; taken = at.taken; block = at.block })
    taken_out q at less others negations out w = record {
      others = others;
      negations = negations;
      led = w.led;
      within = w.within;
      fresh = w.fresh;
      left = ((out room most).0 w.left).1;
      names = λ ws ks.
          let o = out (at.block ++ ws) ks in
          ((λ h. (w.names ws ks).0 (h.0, (tt, o.1 (h.1.0, h.1.1)))), λ x. let h = (w.names ws ks).1 x in (h.0, o.0 h.1.1));
      known = λ e v c d. w.known e v c (left_fewer over.structure.relations at less (λ ws ks h. ((out ws ks).0 h).1) v d);
    }

    -- ---- atoms, sort elements and tests

    -- a step that reads none is taken in
    leaf_on : (at : Standing) (f : Form) (kind : StepKind) → IsOnTheWay (Names over.structure.relations f) at → CanMake over.structure head rules at.steps kind f → AllByRecursion (Contains room) (free f) → IsTaken (take_up over.structure (free f) (made over.structure kind f at.steps) at)
    leaf_on at f kind w can inside =
        let steps : Steps = made over.structure kind f at.steps in
        let e : formula_at steps (length steps) ≡ f = formula_made over.structure kind f at.steps in
        taken_on (Names over.structure.relations f) at (free f) steps None w (λ x. refl) (first_leads over.structure head rules fits at.steps kind f can (down (free f) room inside roomy))
        (λ ws ks x. subst (λ g. Names over.structure.relations g ws ks ↔ Names over.structure.relations f ws ks) (sym e) ((λ h. h), λ h. h)) (λ ws ks h. h.0) (subst (λ g. AllByRecursion (Contains room) (free g)) (sym e) inside)

    atom_taken : (at : Standing) (i : ℕ) (a : Atom) → slice_get at.atoms i ≡ Some a → IsOnTheWay Nothing at → IsTaken (take_atom over i (Some a) at)
    atom_taken at i a e w =
        let less : Standing = record at { atoms = remove at.atoms i; sorts = still_needed over.structure a at.sorts } in
        let out : (ws : List Variable) (ks : List Mark) → LeftNames over.structure.relations at ws ks ↔ (Names over.structure.relations (atom_form a) ws ks × LeftNames over.structure.relations less ws ks) =
        λ ws ks.
        let t = take_out (λ x. Names over.structure.relations (atom_form x) ws ks) at.atoms i a e in (
          (λ h. let x = t.0 h.0 in (x.0, (x.1, ((needed_named over.structure over.structure.relations a at.sorts ws ks x.0).0 h.1.0, h.1.1)))),
          λ h. (t.1 (h.0, h.1.0), ((needed_named over.structure over.structure.relations a at.sorts ws ks h.0).1 h.1.1.0, h.1.1.1)),
        ) in
        leaf_on less (atom_form a) (Scan a.name a.terms) (taken_out (Names over.structure.relations (atom_form a)) at less w.others w.negations out w) (record { operands = tt; formula = refl; drop = tt; variables = tt }) ((out room most).0 w.left).0.0

    sort_taken : (at : Standing) (i : ℕ) (s : SortElement) → slice_get at.sorts i ≡ Some s → IsOnTheWay Nothing at → IsTaken (take_sort over i (Some s) at)
    sort_taken at i s e w =
        let less : Standing = record at { sorts = remove at.sorts i } in
        let out : (ws : List Variable) (ks : List Mark) → LeftNames over.structure.relations at ws ks ↔ (Names over.structure.relations (sort_form s) ws ks × LeftNames over.structure.relations less ws ks) =
        λ ws ks.
        let t = take_out (λ x. Names over.structure.relations (sort_form x) ws ks) at.sorts i s e in
        ((λ h. let x = t.0 h.1.0 in (x.0, (h.0, (x.1, h.1.1)))), λ h. (h.1.0, (t.1 (h.0, h.1.1.0), h.1.1.1))) in
        leaf_on less (sort_form s) (SortStep s.variable s.sort (over.structure.domain s.sort)) (taken_out (Names over.structure.relations (sort_form s)) at less w.others w.negations out w) (record { operands = tt; formula = (refl, refl); drop = tt; variables = tt }) ((out room most).0 w.left).0.0

    test_taken : (at : Standing) (i : ℕ) (t : Test) → slice_get at.tests i ≡ Some t → IsOnTheWay Nothing at → IsTaken (take_test over i (Some t) at)
    test_taken at i t e w =
        let less : Standing = record at { tests = remove at.tests i } in
        let out : (ws : List Variable) (ks : List Mark) → LeftNames over.structure.relations at ws ks ↔ (Names over.structure.relations (test t) ws ks × LeftNames over.structure.relations less ws ks) =
        λ ws ks.
        let x = take_out (NamesTest over.structure.relations ws ks) at.tests i t e in
        ((λ h. let y = x.0 h.1.1.1.0 in (y.0, (h.0, (h.1.0, (h.1.1.0, (y.1, h.1.1.1.1)))))), λ h. (h.1.0, (h.1.1.0, (h.1.1.1.0, (x.1 (h.0, h.1.1.1.1.0), h.1.1.1.1.1))))) in
        leaf_on less (test t) (Leaf t) (taken_out (Names over.structure.relations (test t)) at less w.others w.negations out w) (record { operands = tt; formula = refl; drop = tt; variables = tt }) ((out room most).0 w.left).0.0

    -- ---- parts under the result so far

    -- the steps of a part go on from the result so far, or from nothing; beside it the last one names what the part names, and where the result so far is the guard it names that, too
    record PartMade (taken : Taken) (before after : Steps) (f : Form) : Type 0 where
      other : Option ℕ
      led : Leads over.structure head rules fits before other after (length after)
      idle : taken.some ≡ false → other ≡ None
      says : (ws : List Variable) (ks : List Mark) → Where taken.some (Names over.structure.relations (formula_at before taken.result) ws ks) → Names over.structure.relations (formula_at after (length after)) ws ks ↔ Names over.structure.relations f ws ks
      whole : is_whole_guard over taken before f ≡ true → (other ≡ Some taken.result) × ((ws : List Variable) (ks : List Mark) → Names over.structure.relations (formula_at after (length after)) ws ks → Names over.structure.relations (formula_at before taken.result) ws ks)
      within : AllByRecursion (Contains room) (free (formula_at after (length after)))

    part_made : (taken : Taken) (before : Steps) (x : Part) → IsSoundPart x → AllByRecursion (Contains room) (free x.formula)
        → (taken.some ≡ true → (0 < taken.result) × (taken.result ≤ length before) × AllByRecursion (Contains room) (free (formula_at before taken.result)))
        → PartMade taken before (part_steps over taken x before) x.formula
    part_made taken before x sound inside there = by_guard (has_guard taken before x.formula) refl
      where
        by_guard : (b : Bool) → has_guard taken before x.formula ≡ b → PartMade taken before (cond b (under over taken x before) (x.rule over None before)) x.formula
        by_guard false e =
            let s : IsBuilt before None (x.rule over None before) (λ ws ks. Unit {0} × Names over.structure.relations x.formula ws ks) = sound before None tt in
            record {
              other = None;
              led = s.led;
              idle = λ d. refl;
              says = λ ws ks g. ((λ h. ((s.names ws ks).0 h).1), λ h. (s.names ws ks).1 (tt, h));
              whole = λ w. let h : has_guard taken before x.formula ≡ true = and_first (has_guard taken before x.formula) (nat_eq (projected over (free x.formula) taken.result before) taken.result) w in cc;
              within = built_within before (x.rule over None before) None x.formula room tt inside s;
            }
        by_guard true e =
            let some : taken.some ≡ true = and_first taken.some (not (is_leaf x.formula) && is_guarded_by (free (formula_at before taken.result)) x.formula) e in
            let n : ℕ = taken.result in
            let t = there some in
            let u : List Variable = unwanted (free x.formula) before n in
            let mid : Steps = drop_each over u n before in
            let g : ℕ = last_drop u n mid in
            let d : Drops over head rules fits down ruled before before (Some n) n u room =
            drops over head rules fits down ruled before before (Some n) n u room (guard_leads over.structure head rules fits before n t.0 t.1) roomy t.2 in
            let narrow : AllByRecursion (Contains (free x.formula)) (free (formula_at mid g)) =
            ((d.names over.structure.relations (free x.formula) (marks (formula_at before n) over.structure.relations)).1 (all_by (Contains (u ++ free x.formula)) (free (formula_at before n)) (λ v c. wanted_or (free x.formula) before n v c), all_self (marks (formula_at before n) over.structure.relations))).0 in
            let after : Steps = x.rule over (Some g) mid in
            let s : IsBuilt mid (Some g) after (λ ws ks. Names over.structure.relations (formula_at mid g) ws ks × Names over.structure.relations x.formula ws ks) = sound mid (Some g) (d.led.first, d.led.there, narrow) in
            record {
              other = Some n;
              led = chain_leads over.structure head rules fits before mid after (Some n) g (length after) d.led s.led;
              idle = λ f. cc;
              says = λ ws ks r.
                  let h0 : Names over.structure.relations (formula_at before n) ws ks = get_where taken.some _ some r in
                  let h1 : Names over.structure.relations (formula_at mid g) ws ks = (d.names over.structure.relations ws ks).1 (all_map (Contains ws) (Contains (u ++ ws)) (free (formula_at before n)) (λ v c. in_right u ws v c) h0.0, h0.1) in
                  ((λ h. ((s.names ws ks).0 h).1), λ h. (s.names ws ks).1 (h1, h));
              whole = λ w.
                  let same : g ≡ n = nat_same g n (and_second (has_guard taken before x.formula) (nat_eq g n) w) in
                  let still : formula_at mid g ≡ formula_at before n = ap (formula_at mid) same ∙ kept_formula over.structure head rules fits before mid (Some n) g n d.led t.1 in
                  (refl, λ ws ks h. subst (λ f. Names over.structure.relations f ws ks) still ((s.names ws ks).0 h).0);
              within = built_within mid after (Some g) x.formula room (d.led.first, d.led.there, narrow) inside s;
            }

    -- where the result so far is
    result_there : (q : Saying) (at : Standing) → IsOnTheWay q at → at.taken.some ≡ true → (0 < at.taken.result) × (at.taken.result ≤ length at.steps) × AllByRecursion (Contains room) (free (result at))
    result_there q at w e = ((w.led e).first, (w.led e).there, w.within e)

    other_taken : (at : Standing) (i : ℕ) (x : Part) → slice_get at.others i ≡ Some x → IsOnTheWay Nothing at → IsTaken (take_other over i (Some x) at)
    other_taken at i x e w = by_whole (is_whole_guard over at.taken at.steps x.formula) refl
      where
        out : (ws : List Variable) (ks : List Mark) → LeftNames over.structure.relations at ws ks ↔ (Names over.structure.relations x.formula ws ks × LeftNames over.structure.relations (record at { others = remove at.others i }) ws ks)
        out ws ks =
            let t = take_out (λ y. Names over.structure.relations y.formula ws ks) at.others i x e in
            ((λ h. let y = t.0 h.1.1.0 in (y.0, (h.0, (h.1.0, (y.1, h.1.1.1))))), λ h. (h.1.0, (h.1.1.0, (t.1 (h.0, h.1.1.1.0), h.1.1.1.1))))

        made_part : PartMade at.taken at.steps (part_steps over at.taken x at.steps) x.formula
        made_part = part_made at.taken at.steps x ((take_out IsSoundPart at.others i x e).0 w.others).0 ((out room most).0 w.left).0.0 (result_there Nothing at w)

        pending : IsOnTheWay (Names over.structure.relations x.formula) (record at { others = remove at.others i })
        pending = taken_out (Names over.structure.relations x.formula) at (record at { others = remove at.others i }) ((take_out IsSoundPart at.others i x e).0 w.others).1 w.negations out w

        by_whole : (b : Bool) → is_whole_guard over at.taken at.steps x.formula ≡ b
            → IsTaken (cond b (go_on_from over.structure (free x.formula) (part_steps over at.taken x at.steps) (record at { others = remove at.others i })) (take_up over.structure (free x.formula) (part_steps over at.taken x at.steps) (record at { others = remove at.others i })))
        by_whole false q = taken_on (Names over.structure.relations x.formula) (record at { others = remove at.others i }) (free x.formula) (part_steps over at.taken x at.steps) made_part.other pending made_part.idle made_part.led made_part.says (λ ws ks h. h.0) made_part.within
        by_whole true q =
            let steps : Steps = part_steps over at.taken x at.steps in
            let b : Form = formula_at steps (length steps) in
            let some : at.taken.some ≡ true = and_first at.taken.some (not (is_leaf x.formula) && is_guarded_by (free (result at)) x.formula) (and_first (has_guard at.taken at.steps x.formula) (nat_eq (projected over (free x.formula) at.taken.result at.steps) at.taken.result) q) in
            let whole = made_part.whole q in
            let led : Leads over.structure head rules fits start guard steps (length steps) = chain_leads over.structure head rules fits start at.steps steps guard at.taken.result (length steps) (w.led some) (subst (λ o. Leads over.structure head rules fits at.steps o steps (length steps)) whole.0 made_part.led) in
            let more : AllByRecursion (Contains (free b)) (free (result at)) = (whole.1 (free b) (marks b over.structure.relations) (names_self over.structure.relations b)).0 in
            let own : AllByRecursion (Contains (free b)) (free x.formula) = ((made_part.says (free b) (marks b over.structure.relations) (put_where at.taken.some _ some (whole.1 (free b) (marks b over.structure.relations) (names_self over.structure.relations b)))).0 (names_self over.structure.relations b)).0 in
            went_on (record at { others = remove at.others i }) (free x.formula) steps pending.others pending.negations pending.left led made_part.within
            (λ ws ks.
            let us : List Variable = at.block ++ ws in (
              (λ h. let r = whole.1 us ks h.0 in (pending.names ws ks).0 (put_where at.taken.some _ some r, ((made_part.says us ks (put_where at.taken.some _ some r)).0 h.0, h.1))),
              λ z. let h = (pending.names ws ks).1 z in ((made_part.says us ks h.0).1 h.1.0, h.1.1),
            ))
            (λ v c d. ⊎_elim (λ y. all_of (Contains (free b)) (free (result at)) v more (pending.known some v y d)) (λ y. all_of (Contains (free b)) (free x.formula) v own y) (in_one at.taken.variables (free x.formula) v c))

    -- ---- negations

    -- `v = v` names v alone
    any_named : (v : Variable) (ws : List Variable) (ks : List Mark) → Names over.structure.relations (test (any_value v)) ws ks ↔ AllByRecursion (Contains ws) (v ∷ [])
    any_named (time_variable v) ws ks = ((λ h. (h.0.0, tt)), λ h. ((h.0, (h.0, tt)), tt))
    any_named (data_variable v) ws ks = ((λ h. (h.0.0, tt)), λ h. ((h.0, (h.0, tt)), tt))

    -- a step with these variables too
    record Brought (steps : Steps) (n : ℕ) (vs : List Variable) : Type 0 where
      led : Leads over.structure head rules fits start guard (bring_each over.structure vs n steps) (last_brought vs n (bring_each over.structure vs n steps))
      names : (ws : List Variable) (ks : List Mark) → Names over.structure.relations (formula_at (bring_each over.structure vs n steps) (last_brought vs n (bring_each over.structure vs n steps))) ws ks ↔ (Names over.structure.relations (formula_at steps n) ws ks × AllByRecursion (Contains ws) vs)
      within : AllByRecursion (Contains room) (free (formula_at (bring_each over.structure vs n steps) (last_brought vs n (bring_each over.structure vs n steps))))

    -- the last of those that follow a last step is the last step
    brought_last : (vs : List Variable) (steps : Steps) → last_brought vs (length steps) (bring_each over.structure vs (length steps) steps) ≡ length (bring_each over.structure vs (length steps) steps)
    brought_last [] steps = refl
    brought_last (v ∷ vs) steps = refl

    brings : (vs : List Variable) (n : ℕ) (steps : Steps) → Leads over.structure head rules fits start guard steps n → AllByRecursion (Contains room) (free (formula_at steps n)) → AllByRecursion (Contains room) vs → Brought steps n vs
    brings [] n steps l inside roomed = record { led = l; names = λ ws ks. ((λ h. (h, tt)), λ h. h.0); within = inside }
    brings (v ∷ vs) n steps l inside roomed =
        let t : Test = any_value v in
        let mid : Steps = leaf t over.structure steps in
        let a : Form = formula_at mid n in
        let b : Form = formula_at mid (length mid) in
        let f : Form = conjunction (form a (form b no_forms)) in
        let after : Steps = join n [] over.structure mid in
        let eb : b ≡ test t = formula_made over.structure (Leaf t) (test t) steps in
        let tested : AllByRecursion (Contains room) (free (test t)) = ((any_named v room []).1 (roomed.0, tt)).0 in
        let k : Leads over.structure head rules fits steps None mid (length mid) = first_leads over.structure head rules fits steps (Leaf t) (test t) (record { operands = tt; formula = refl; drop = tt; variables = tt }) (down (free (test t)) room tested roomy) in
        let ea : a ≡ formula_at steps n = kept_formula over.structure head rules fits steps mid None (length mid) n k l.there in
        let wide : AllByRecursion (Contains room) (free f) =
        (all_append (Contains room) (free a) (free b ++ [])).1 (subst (λ g. AllByRecursion (Contains room) (free g)) (sym ea) inside, (all_append (Contains room) (free b) []).1 (subst (λ g. AllByRecursion (Contains room) (free g)) (sym eb) tested, tt)) in
        let e : formula_at after (length after) ≡ f = formula_made over.structure (Join n (length mid) []) f mid in
        let j : Leads over.structure head rules fits start guard after (length after) = join_leads over.structure head rules fits start steps mid guard None n [] l k tt (down (free f) room wide roomy) in
        let names : (ws : List Variable) (ks : List Mark) → Names over.structure.relations (formula_at after (length after)) ws ks ↔ (Names over.structure.relations (formula_at steps n) ws ks × AllByRecursion (Contains ws) (v ∷ [])) =
        λ ws ks.
        let two = two_named over.structure.relations ws ks a b no_forms in
        let y = any_named v ws ks in (
          (λ h. let x = two.0 (subst (λ g. Names over.structure.relations g ws ks) e h) in (subst (λ g. Names over.structure.relations g ws ks) ea x.0, y.0 (subst (λ g. Names over.structure.relations g ws ks) eb x.1.0))),
          λ h. subst (λ g. Names over.structure.relations g ws ks) (sym e) (two.1 (subst (λ g. Names over.structure.relations g ws ks) (sym ea) h.0, (subst (λ g. Names over.structure.relations g ws ks) (sym eb) (y.1 h.1), (tt, tt)))),
        ) in
        let r : Brought after (length after) vs = brings vs (length after) after j (subst (λ g. AllByRecursion (Contains room) (free g)) (sym e) wide) roomed.1 in
        let all : Steps = bring_each over.structure vs (length after) after in
        let last : last_brought vs (length after) all ≡ length all = brought_last vs after in
        record {
          led = subst (λ i. Leads over.structure head rules fits start guard all i) last r.led;
          names = λ ws ks.
              let x = subst (λ i. Names over.structure.relations (formula_at all i) ws ks ↔ (Names over.structure.relations (formula_at after (length after)) ws ks × AllByRecursion (Contains ws) vs)) last (r.names ws ks) in
              let y = names ws ks in
              ((λ h. let u = x.0 h in let w = y.0 u.0 in (w.0, (w.1.0, u.1))), λ h. x.1 (y.1 (h.0, (h.1.0, tt)), h.1.1));
          within = subst (λ i. AllByRecursion (Contains room) (free (formula_at all i))) last r.within;
        }

    -- a formula is taken off the result so far
    negation_off : (at : Standing) (i : ℕ) (x : Part) → slice_get at.negations i ≡ Some x → IsOnTheWay Nothing at → at.taken.some ≡ true → IsTaken (take_off over x (brought over.structure x.formula (record at { negations = remove at.negations i })))
    negation_off at i x e w some =
        let less : Standing = record at { negations = remove at.negations i } in
        let out : (ws : List Variable) (ks : List Mark) → LeftNames over.structure.relations at ws ks ↔ (Names over.structure.relations x.formula ws ks × LeftNames over.structure.relations less ws ks) =
        λ ws ks.
        let t = take_out (λ y. Names over.structure.relations y.formula ws ks) at.negations i x e in
        ((λ h. let y = t.0 h.1.1.1.1 in (y.0, (h.0, (h.1.0, (h.1.1.0, (h.1.1.1.0, y.1)))))), λ h. (h.1.0, (h.1.1.0, (h.1.1.1.0, (h.1.1.1.1.0, t.1 (h.0, h.1.1.1.1.1)))))) in
        let parts = (take_out IsSoundPart at.negations i x e).0 w.negations in
        let inside : AllByRecursion (Contains room) (free x.formula) = ((out room most).0 w.left).0.0 in
        let vs : List Variable = missing at.taken x.formula in
        let f : Form = x.formula in
        let of_f : (ws : List Variable) → AllByRecursion (Contains ws) (free f) → AllByRecursion (Contains ws) vs =
        λ ws h. all_by (Contains ws) vs (λ v c. all_of (Contains ws) (free f) v h (once_in (free f) v (kept_is (λ v. not (is_among at.taken.variables v)) (each_once (free f)) v c).0)) in
        let br : Brought at.steps at.taken.result vs = brings vs at.taken.result at.steps (w.led some) (w.within some) (of_f room inside) in
        let before : Steps = bring_each over.structure vs at.taken.result at.steps in
        let n : ℕ = last_brought vs at.taken.result before in
        let taken : Taken = record { some = true; result = n; variables = at.taken.variables ++ vs } in
        let r : Form = formula_at before n in
        let more : AllByRecursion (Contains (free r)) (free (result at)) = ((br.names (free r) (marks r over.structure.relations)).0 (names_self over.structure.relations r)).0.0 in
        let new : AllByRecursion (Contains (free r)) vs = ((br.names (free r) (marks r over.structure.relations)).0 (names_self over.structure.relations r)).1 in
        let self : Names over.structure.relations f (variables_left at) (marks_left over.structure.relations at) = ((out (variables_left at) (marks_left over.structure.relations at)).0 (left_self over.structure.relations at)).0 in
        let held : AllByRecursion (Contains (free r)) (free f) = all_by (Contains (free r)) (free f) (λ v c.
        by_taken (free r) at.taken.variables v (is_among at.taken.variables v) refl
        (λ d. all_of (Contains (free r)) (free (result at)) v more (w.known some v d (all_of (Contains (variables_left at)) (free f) v self.0 c)))
        (λ d. all_of (Contains (free r)) vs v new (kept_has (λ u. not (is_among at.taken.variables u)) (each_once (free f)) v (once_has (free f) v c) (ap not d)))) in
        let made_part : PartMade taken before (part_steps over taken x before) f = part_made taken before x parts.0 inside (λ y. (br.led.first, br.led.there, br.within)) in
        let steps : Steps = part_steps over taken x before in
        let b : Form = formula_at steps (length steps) in
        let a : Form = formula_at steps n in
        let ea : a ≡ r = kept_formula over.structure head rules fits before steps made_part.other (length steps) n made_part.led br.led.there in
        let g : Form = conjunction (form a (form (negation b) no_forms)) in
        let after : Steps = minus n over.structure steps in
        let eg : formula_at after (length after) ≡ g = formula_made over.structure (Minus n (length steps)) g steps in
        let ks : List Mark = marks r over.structure.relations ++ marks f over.structure.relations in
        let two = (all_append (Contains ks) (marks r over.structure.relations) (marks f over.structure.relations)).0 (all_self ks) in
        let part : AllByRecursion (Contains (free r)) (free b) = ((made_part.says (free r) ks (all_self (free r), two.0)).1 (held, two.1)).0 in
        let wide : AllByRecursion (Contains room) (free g) = (all_append (Contains room) (free a) (free b ++ [])).1 (subst (λ h. AllByRecursion (Contains room) (free h)) (sym ea) br.within, (all_append (Contains room) (free b) []).1 (made_part.within, tt)) in
        let led : Leads over.structure head rules fits start guard after (length after) =
        minus_leads over.structure head rules fits start before steps guard made_part.other n br.led made_part.led (λ v c. subst (λ h. Contains (free h) v) (sym ea) (all_of (Contains (free r)) (free b) v part c)) (down (free g) room wide roomy) in
        let names : (ws : List Variable) (ks : List Mark) → Names over.structure.relations (formula_at after (length after)) ws ks ↔ (Names over.structure.relations (result at) ws ks × Names over.structure.relations f ws ks) =
        λ ws ks.
        let two = two_named over.structure.relations ws ks a (negation b) no_forms in (
          (λ h. let y = two.0 (subst (λ q. Names over.structure.relations q ws ks) eg h) in let z = subst (λ q. Names over.structure.relations q ws ks) ea y.0 in (((br.names ws ks).0 z).0, (made_part.says ws ks z).0 y.1.0)),
          λ h. let z = (br.names ws ks).1 (h.0, of_f ws h.1.0) in subst (λ q. Names over.structure.relations q ws ks) (sym eg) (two.1 (subst (λ q. Names over.structure.relations q ws ks) (sym ea) z, ((made_part.says ws ks z).1 h.1, (tt, tt)))),
        ) in
        let known : (v : Variable) → Contains ((at.taken.variables ++ vs) ++ free f) v → Contains (variables_left less) v → Contains (free r) v =
        λ v c d. ⊎_elim
        (λ y. ⊎_elim (λ z. all_of (Contains (free r)) (free (result at)) v more (w.known some v z (left_fewer over.structure.relations at less (λ ws ks h. ((out ws ks).0 h).1) v d))) (λ z. all_of (Contains (free r)) vs v new z) (in_one at.taken.variables vs v y))
        (λ y. all_of (Contains (free r)) (free f) v held y) (in_one (at.taken.variables ++ vs) (free f) v c) in
        record {
          way = record {
            others = w.others;
            negations = parts.1;
            led = λ y. led;
            within = λ y. subst (λ h. AllByRecursion (Contains room) (free h)) (sym eg) wide;
            fresh = λ y. cc;
            left = ((out room most).0 w.left).1;
            names = λ ws ks.
                let us : List Variable = at.block ++ ws in
                let m = names us ks in
                let o = out us ks in (
                  (λ h. let y = m.0 h.0 in (w.names ws ks).0 (put_where at.taken.some _ some y.0, (tt, o.1 (y.1, h.1.1)))),
                  λ z. let h = (w.names ws ks).1 z in let y = o.0 h.1.1 in (m.1 (get_where at.taken.some _ some h.0, y.0), (tt, y.1)),
                );
            known = λ y v c d. subst (λ h. Contains (free h) v) (sym eg) (in_left (free a) (free b ++ []) v (subst (λ h. Contains (free h) v) (sym ea) (known v c d)));
          };
          some = refl;
          last = refl;
        }

    -- where there is no result so far, the formula's complement is it
    negation_first : (at : Standing) (i : ℕ) (x : Part) → slice_get at.negations i ≡ Some x → IsOnTheWay Nothing at → at.taken.some ≡ false → IsTaken (take_off over x (record at { negations = remove at.negations i }))
    negation_first at i x e w idle = by_some at.taken.some idle
      where
        by_some : (some : Bool) → some ≡ false
            → IsTaken (record at {
              steps = cond some (minus at.taken.result over.structure (part_steps over at.taken x at.steps)) (complement over.structure (part_steps over at.taken x at.steps));
              taken = taken_up (at.taken.variables ++ free x.formula) (cond some (minus at.taken.result over.structure (part_steps over at.taken x at.steps)) (complement over.structure (part_steps over at.taken x at.steps)));
              negations = remove at.negations i;
            })
        by_some true q = cc
        by_some false q =
            let f : Form = x.formula in
            let out : (ws : List Variable) (ks : List Mark) → LeftNames over.structure.relations at ws ks ↔ (Names over.structure.relations f ws ks × LeftNames over.structure.relations (record at { negations = remove at.negations i }) ws ks) =
            λ ws ks.
            let t = take_out (λ y. Names over.structure.relations y.formula ws ks) at.negations i x e in
            ((λ h. let y = t.0 h.1.1.1.1 in (y.0, (h.0, (h.1.0, (h.1.1.0, (h.1.1.1.0, y.1)))))), λ h. (h.1.0, (h.1.1.0, (h.1.1.1.0, (h.1.1.1.1.0, t.1 (h.0, h.1.1.1.1.1)))))) in
            let parts = (take_out IsSoundPart at.negations i x e).0 w.negations in
            let inside : AllByRecursion (Contains room) (free f) = ((out room most).0 w.left).0.0 in
            let steps : Steps = part_steps over at.taken x at.steps in
            let made_part : PartMade at.taken at.steps steps f = part_made at.taken at.steps x parts.0 inside (result_there Nothing at w) in
            let fr = w.fresh idle in
            let from : Leads over.structure head rules fits start guard steps (length steps) = subst (λ s. Leads over.structure head rules fits s guard steps (length steps)) fr.0 (subst (λ g. Leads over.structure head rules fits at.steps g steps (length steps)) (made_part.idle idle ∙ sym fr.1) made_part.led) in
            let b : Form = formula_at steps (length steps) in
            let after : Steps = complement over.structure steps in
            let eg : formula_at after (length after) ≡ negation b = formula_made over.structure (Complement (length steps)) (negation b) steps in
            let says : (ws : List Variable) (ks : List Mark) → Names over.structure.relations b ws ks ↔ Names over.structure.relations f ws ks = λ ws ks. made_part.says ws ks (idle_where at.taken.some _ idle) in
            let own : AllByRecursion (Contains (free b)) (free f) = ((says (free b) (marks b over.structure.relations)).0 (names_self over.structure.relations b)).0 in
            record {
              way = record {
                others = w.others;
                negations = parts.1;
                led = λ y. complement_leads over.structure head rules fits start steps guard from (down (free b) room made_part.within roomy);
                within = λ y. subst (λ h. AllByRecursion (Contains room) (free h)) (sym eg) made_part.within;
                fresh = λ y. cc;
                left = ((out room most).0 w.left).1;
                names = λ ws ks.
                    let us : List Variable = at.block ++ ws in
                    let o = out us ks in (
                      (λ h. (w.names ws ks).0 (idle_where at.taken.some _ idle, (tt, o.1 ((says us ks).0 (subst (λ h. Names over.structure.relations h us ks) eg h.0), h.1.1)))),
                      λ z. let h = (w.names ws ks).1 z in let y = o.0 h.1.1 in (subst (λ h. Names over.structure.relations h us ks) (sym eg) ((says us ks).1 y.0), (tt, y.1)),
                    );
                known = λ y v c d. subst (λ h. Contains (free h) v) (sym eg) (all_of (Contains (free b)) (free f) v own (subst (λ us. Contains (us ++ free f) v) fr.2 c));
              };
              some = refl;
              last = refl;
            }

    negation_taken : (at : Standing) (i : ℕ) (x : Part) → slice_get at.negations i ≡ Some x → IsOnTheWay Nothing at → IsTaken (take_negation over i (Some x) at)
    negation_taken at i x e w = by_some at.taken.some refl
      where
        by_some : (some : Bool) → at.taken.some ≡ some → IsTaken (take_off over x (cond some (brought over.structure x.formula (record at { negations = remove at.negations i })) (record at { negations = remove at.negations i })))
        by_some true q = negation_off at i x e w q
        by_some false q = negation_first at i x e w q

    -- ---- variables of the block are dropped

    -- those that are left and those that are not
    block_split : (left block : List Variable) (v : Variable) → Contains block v → Contains (filter (λ v. not (is_among left v)) block ++ filter (is_among left) block) v
    block_split left block v c = by_left (is_among left v) refl
      where
        by_left : (b : Bool) → is_among left v ≡ b → Contains (filter (λ v. not (is_among left v)) block ++ filter (is_among left) block) v
        by_left true e = in_right (filter (λ v. not (is_among left v)) block) (filter (is_among left) block) v (kept_has (is_among left) block v c e)
        by_left false e = in_left (filter (λ v. not (is_among left v)) block) (filter (is_among left) block) v (kept_has (λ v. not (is_among left v)) block v c (ap not e))

    pub spent_dropped : (at : Standing) → IsTaken at → IsTaken (drop_spent over at)
    spent_dropped at t =
        let w : IsOnTheWay Nothing at = t.way in
        let left : List Variable = variables_left at in
        let spent : List Variable = filter (λ v. not (is_among left v)) at.block in
        let rest : List Variable = filter (is_among left) at.block in
        let n : ℕ = at.taken.result in
        let after : Steps = drop_each over spent n at.steps in
        let d : Drops over head rules fits down ruled start at.steps guard n spent room = drops over head rules fits down ruled start at.steps guard n spent room (w.led t.some) roomy (w.within t.some) in
        let last : last_drop spent n after ≡ length after = drops_last over head rules fits down ruled spent n at.steps t.last in
        let names : (ws : List Variable) (ks : List Mark) → Names over.structure.relations (formula_at after (length after)) ws ks ↔ Names over.structure.relations (result at) (spent ++ ws) ks = λ ws ks. subst (λ i. Names over.structure.relations (formula_at after i) ws ks ↔ Names over.structure.relations (result at) (spent ++ ws) ks) last (d.names over.structure.relations ws ks) in
        let to : (ws : List Variable) (v : Variable) → Contains (spent ++ (rest ++ ws)) v → Contains (at.block ++ ws) v =
        λ ws v c. ⊎_elim (λ y. in_left at.block ws v (kept_is (λ v. not (is_among left v)) at.block v y).0)
        (λ y. ⊎_elim (λ z. in_left at.block ws v (kept_is (is_among left) at.block v z).0) (λ z. in_right at.block ws v z) (in_one rest ws v y)) (in_one spent (rest ++ ws) v c) in
        let back : (ws : List Variable) (v : Variable) → Contains (at.block ++ ws) v → Contains (spent ++ (rest ++ ws)) v =
        λ ws v c. ⊎_elim
        (λ y. ⊎_elim (λ z. in_left spent (rest ++ ws) v z) (λ z. in_right spent (rest ++ ws) v (in_left rest ws v z)) (in_one spent rest v (block_split left at.block v y)))
        (λ y. in_right spent (rest ++ ws) v (in_right rest ws v y)) (in_one at.block ws v c) in
        record {
          way = record {
            others = w.others;
            negations = w.negations;
            led = λ e. subst (λ i. Leads over.structure head rules fits start guard after i) last d.led;
            within = λ e. subst (λ i. AllByRecursion (Contains room) (free (formula_at after i))) last d.within;
            fresh = λ e. absurd (no_both at.taken.some t.some e);
            left = w.left;
            names = λ ws ks.
                let n = names (rest ++ ws) ks in (
                  (λ h. let x = n.0 (get_where at.taken.some _ t.some h.0) in (w.names ws ks).0 (
                    put_where at.taken.some _ t.some (all_map (Contains (spent ++ (rest ++ ws))) (Contains (at.block ++ ws)) (free (result at)) (to ws) x.0, x.1),
                    (tt, left_moved over.structure.relations at (rest ++ ws) (at.block ++ ws) ks (λ v c d. to ws v (in_right spent (rest ++ ws) v d)) h.1.1),
                  )),
                  λ z. let h = (w.names ws ks).1 z in let y = get_where at.taken.some _ t.some h.0 in (
                    put_where at.taken.some _ t.some (n.1 (all_map (Contains (at.block ++ ws)) (Contains (spent ++ (rest ++ ws))) (free (result at)) (back ws) y.0, y.1)),
                    (tt, left_moved over.structure.relations at (at.block ++ ws) (rest ++ ws) ks (λ v c d. ⊎_elim (λ x. in_left rest ws v (kept_has (is_among left) at.block v x (among_has left v c))) (λ x. in_right rest ws v x) (in_one at.block ws v d)) h.1.1),
                  ),
                );
            known = λ e v c d.
                let r : Form = formula_at after (length after) in
                let x : AllByRecursion (Contains (spent ++ free r)) (free (result at)) = ((names (free r) (marks r over.structure.relations)).0 (names_self over.structure.relations r)).0 in
                ⊎_elim (λ y. let q : not (is_among left v) ≡ true = (kept_is (λ v. not (is_among left v)) at.block v y).1 in let z : is_among left v ≡ true = among_has left v d in cc) (λ y. y)
                (in_one spent (free r) v (all_of (Contains (spent ++ free r)) (free (result at)) v x (w.known t.some v c d)));
          };
          some = t.some;
          last = refl;
        }

    -- ---- all rounds

    -- after all rounds the result so far is all
    record IsEnd (at : Standing) : Type 0 where
      taken : IsTaken at
      nothing : elements_left at ≡ 0

    all_ended : (at : Standing) → IsOnTheWay Nothing at → IsTaken at ⊎ (0 < elements_left at) → IsEnd (rounds over (elements_left at) (next_choice at) at)
    all_ended at w s =
        let r = all_rounds over (IsOnTheWay Nothing) IsTaken (λ at t. t.way) spent_dropped atom_taken sort_taken other_taken test_taken negation_taken (elements_left at) at (next_choice at) refl (omega arith) w s in
        record { taken = r.0; nothing = r.1 }

    -- where nothing is left, nothing else is named
    nothing_named : (at : Standing) → elements_left at ≡ 0 → (ws : List Variable) (ks : List Mark) → LeftNames over.structure.relations at ws ks
    nothing_named at e ws ks =
        let a : length at.atoms ≡ 0 = omega arith in
        let s : length at.sorts ≡ 0 = omega arith in
        let o : length at.others ≡ 0 = omega arith in
        let t : length at.tests ≡ 0 = omega arith in
        let n : length at.negations ≡ 0 = omega arith in
        (nothing_left _ at.atoms a, (nothing_left _ at.sorts s, (nothing_left _ at.others o, (nothing_left _ at.tests t, nothing_left _ at.negations n))))

    -- the variables of the block that are left at the end are dropped
    ended : (at : Standing) → IsEnd at → IsBuilt start guard (drop_each over (reverse at.block) at.taken.result at.steps) p
    ended at z =
        let t : IsTaken at = z.taken in
        let w : IsOnTheWay Nothing at = t.way in
        let vs : List Variable = reverse at.block in
        let n : ℕ = at.taken.result in
        let after : Steps = drop_each over vs n at.steps in
        let d : Drops over head rules fits down ruled start at.steps guard n vs room = drops over head rules fits down ruled start at.steps guard n vs room (w.led t.some) roomy (w.within t.some) in
        let last : last_drop vs n after ≡ length after = drops_last over head rules fits down ruled vs n at.steps t.last in
        record {
          led = subst (λ i. Leads over.structure head rules fits start guard after i) last d.led;
          names = λ ws ks.
              let x : Names over.structure.relations (formula_at after (length after)) ws ks ↔ Names over.structure.relations (result at) (vs ++ ws) ks = subst (λ i. Names over.structure.relations (formula_at after i) ws ks ↔ Names over.structure.relations (result at) (vs ++ ws) ks) last (d.names over.structure.relations ws ks) in (
                (λ h. let y = x.0 h in (w.names ws ks).0 (put_where at.taken.some _ t.some (turned at.block ws (free (result at)) y.0, y.1), (tt, nothing_named at z.nothing (at.block ++ ws) ks))),
                λ h. let y = get_where at.taken.some _ t.some ((w.names ws ks).1 h).0 in x.1 (turned_back at.block ws (free (result at)) y.0, y.1),
              );
        }

    -- ---- the begin

    -- the guard and these tests
    record Begun (steps : Steps) (g : ℕ) (ts : List Test) : Type 0 where
      led : Leads over.structure head rules fits start guard (select_each_from g ts over.structure steps) (last_selected ts g (select_each_from g ts over.structure steps))
      names : (ws : List Variable) (ks : List Mark) → Names over.structure.relations (formula_at (select_each_from g ts over.structure steps) (last_selected ts g (select_each_from g ts over.structure steps))) ws ks ↔ (Names over.structure.relations (formula_at steps g) ws ks × AllByRecursion (NamesTest over.structure.relations ws ks) ts)
      within : AllByRecursion (Contains room) (free (formula_at (select_each_from g ts over.structure steps) (last_selected ts g (select_each_from g ts over.structure steps))))

    begins : (ts : List Test) (steps : Steps) (g : ℕ) → Leads over.structure head rules fits start guard steps g → AllByRecursion (λ t. AllByRecursion (Contains (free (formula_at steps g))) (variables_of_test t)) ts
        → AllByRecursion (Contains room) (free (formula_at steps g)) → AllByRecursion (λ t. AllByRecursion (Contains room) (variables_of_test t)) ts → Begun steps g ts
    begins [] steps g l known inside tests = record { led = l; names = λ ws ks. ((λ h. (h, tt)), λ h. h.0); within = inside }
    begins (t ∷ ts) steps g l known inside tests =
        let one = one_selected steps g t l known.0 inside tests.0 in
        let after : Steps = select_from g t over.structure steps in
        let a : Form = formula_at steps g in
        let more : AllByRecursion (Contains (free (formula_at after (length after)))) (free a) =
        ((one.2 (free (formula_at after (length after))) (marks (formula_at after (length after)) over.structure.relations)).0 (names_self over.structure.relations (formula_at after (length after)))).0.0 in
        let r : Selected after (select_each ts over.structure after) ts = selects ts after one.0
        (all_map (λ u. AllByRecursion (Contains (free a)) (variables_of_test u)) (λ u. AllByRecursion (Contains (free (formula_at after (length after)))) (variables_of_test u)) ts
        (λ u h. all_from (Contains (free (formula_at after (length after)))) (free a) (variables_of_test u) h more) known.1)
        one.1 tests.1 in
        record {
          led = r.led;
          names = λ ws ks. (
            (λ h. let x = (r.names ws ks).0 h in let y = (one.2 ws ks).0 x.0 in (y.0, (y.1, x.1))),
            λ h. (r.names ws ks).1 ((one.2 ws ks).1 (h.0, h.1.0), h.1.1),
          );
          within = r.within;
        }

    -- the steps after the tests that the guard covers
    abbrev after_tests : ℕ → Standing → Standing
    after_tests g at =
        let first = covered_by at.taken.variables at.tests in
        let after = select_each_from g first over.structure at.steps in
        record at { steps = after; taken = record { some = true; result = last_selected first g after; variables = at.taken.variables }; tests = uncovered_by at.taken.variables at.tests }

    -- how many are covered and how many are not
    some_selected : (ts : List Test) (g : ℕ) (steps : Steps) → (last_selected ts g steps ≡ length steps) ⊎ (length ts ≡ 0)
    some_selected [] g steps = inr refl
    some_selected (t ∷ ts) g steps = inl refl

    begun_way : (at : Standing) → at.taken.some ≡ true → IsOnTheWay Nothing at → 0 < elements_left at → IsOnTheWay Nothing (after_tests at.taken.result at) × (IsTaken (after_tests at.taken.result at) ⊎ (0 < elements_left (after_tests at.taken.result at)))
    begun_way at some w left =
        let g : ℕ = at.taken.result in
        let variables : List Variable = at.taken.variables in
        let ts : List Test = covered_by variables at.tests in
        let after : Steps = select_each_from g ts over.structure at.steps in
        let out = (covered_out at variables room most).0 w.left in
        let b : Begun at.steps g ts = begins ts at.steps g (w.led some) (covered_known at variables (free (result at)) (w.known some)) (w.within some)
        (all_map (NamesTest over.structure.relations room most) (λ t. AllByRecursion (Contains room) (variables_of_test t)) ts (λ t h. h.0) out.0) in
        let r : Form = formula_at after (last_selected ts g after) in
        let more : AllByRecursion (Contains (free r)) (free (result at)) = ((b.names (free r) (marks r over.structure.relations)).0 (names_self over.structure.relations r)).0.0 in
        let way : IsOnTheWay Nothing (after_tests g at) = record {
          others = w.others;
          negations = w.negations;
          led = λ e. b.led;
          within = λ e. b.within;
          fresh = λ e. cc;
          left = out.1;
          names = λ ws ks.
              let us : List Variable = at.block ++ ws in
              let c = covered_out at variables us ks in
              let n = b.names us ks in (
                (λ h. let x = n.0 h.0 in (w.names ws ks).0 (put_where at.taken.some _ some x.0, (tt, c.1 (x.1, h.1.1)))),
                λ z. let h = (w.names ws ks).1 z in let y = c.0 h.1.1 in (n.1 (get_where at.taken.some _ some h.0, y.0), (tt, y.1)),
              );
          known = λ e v c d. all_of (Contains (free r)) (free (result at)) v more (w.known some v c (left_fewer over.structure.relations at (uncovered variables at) (λ ws ks h. ((covered_out at variables ws ks).0 h).1) v d));
        } in
        let count : length ts + length (uncovered_by variables at.tests) ≡ length at.tests = split_length (λ t. are_among (variables_of_test t) variables) at.tests in
        (way, ⊎_elim (λ e. inl (record { way = way; some = refl; last = e })) (λ e. inr (omega arith)) (some_selected ts g after))

  -- ---- the whole `and`

  -- what the elements name
  abbrev pub ElementsName : Elements → Saying
  ElementsName es ws ks =
      AllByRecursion (λ a. Names over.structure.relations (atom_form a) ws ks) es.atoms × (AllByRecursion (λ e. Names over.structure.relations (sort_form e) ws ks) es.sorts
      × (AllByRecursion (λ p. Names over.structure.relations p.formula ws ks) es.others × (AllByRecursion (NamesTest over.structure.relations ws ks) es.tests × AllByRecursion (λ p. Names over.structure.relations p.formula ws ks) es.negations)))

  -- how many elements there are
  abbrev pub count : Elements → ℕ
  count es = length es.atoms + (length es.sorts + (length es.others + (length es.tests + length es.negations)))

  -- a guard of a formula within a block, of which it has no variable
  abbrev pub IsGuardIn : Steps → Option ℕ → List Variable → List Variable → Type 0
  IsGuardIn steps None vs block = Unit {0}
  IsGuardIn steps (Some g) vs block = (0 < g) × (g ≤ length steps) × AllByRecursion (Contains vs) (free (formula_at steps g)) × ((v : Variable) → Contains (free (formula_at steps g)) v → Contains block v → ⊥)

  -- a rule whose steps name what the guard names, and the formula within the block
  abbrev pub IsRuleIn : List Variable → List Variable → Saying → GuardedRule → Type 0
  IsRuleIn block vs q rule = (steps : Steps) (guard : Option ℕ) → IsGuardIn steps guard vs block → IsBuilt steps guard (rule over guard steps) (λ ws ks. GuardNames steps guard ws ks × q (block ++ ws) ks)

  -- a guard without the block's variables
  pub without_block : (steps : Steps) (g : ℕ) (block ws : List Variable) (ks : List Mark) → ((v : Variable) → Contains (free (formula_at steps g)) v → Contains block v → ⊥) → Names over.structure.relations (formula_at steps g) (block ++ ws) ks ↔ Names over.structure.relations (formula_at steps g) ws ks
  without_block steps g block ws ks other =
      let f : Form = formula_at steps g in (
        (λ h. (all_by (Contains ws) (free f) (λ v c. ⊎_elim (λ d. absurd (other v c d)) (λ d. d) (in_one block ws v (all_of (Contains (block ++ ws)) (free f) v h.0 c))), h.1)),
        λ h. (all_map (Contains ws) (Contains (block ++ ws)) (free f) (λ v c. in_right block ws v c) h.0, h.1),
      )

  -- an `and` of these elements
  pub conjunction_built : (es : Elements) (block room : List Variable) (most : List Mark) (q : Saying) → fits room → q room most → ((ws : List Variable) (ks : List Mark) → ElementsName es ws ks ↔ q ws ks) → AllByRecursion IsSoundPart es.others → AllByRecursion IsSoundPart es.negations → 0 < count es
      → IsRuleIn block room q (conjunction_rule es block)
  conjunction_built es block room most q roomy inside is others negations some steps guard h = by_guard guard h
    where
      ranked_named : (ws : List Variable) (ks : List Mark) (guard : Option ℕ) → LeftNames over.structure.relations (standing_first over es block guard steps) ws ks ↔ ElementsName es ws ks
      ranked_named ws ks guard =
          let a = ranked_all (λ a. Names over.structure.relations (atom_form a) ws ks) (λ a. length (rows_of over.structure.relations a.name)) es.atoms in
          let s = ranked_all (λ e. Names over.structure.relations (sort_form e) ws ks) (λ e. length (over.structure.domain e.sort)) es.sorts in
          ((λ h. (a.0 h.0, (s.0 h.1.0, h.1.1))), λ h. (a.1 h.0, (s.1 h.1.0, h.1.1)))

      as_many : (guard : Option ℕ) → 0 < elements_left (standing_first over es block guard steps)
      as_many guard =
          let a = ranked_length (λ a. length (rows_of over.structure.relations a.name)) es.atoms in
          let s = ranked_length (λ e. length (over.structure.domain e.sort)) es.sorts in
          omega (arith, some, a, s)

      by_guard : (guard : Option ℕ) → IsGuardIn steps guard room block → IsBuilt steps guard (conjunction_rule es block over guard steps) (λ ws ks. GuardNames steps guard ws ks × q (block ++ ws) ks)
      by_guard None h =
          let p : Saying = λ ws ks. Unit {0} × q (block ++ ws) ks in
          let first : Standing = standing_first over es block None steps in
          let w : IsOnTheWay room most roomy steps None p Nothing first = record {
            others = others;
            negations = negations;
            led = λ e. cc;
            within = λ e. cc;
            fresh = λ e. (refl, refl, refl);
            left = (ranked_named room most None).1 ((is room most).1 inside);
            names = λ ws ks.
                let r = ranked_named (block ++ ws) ks None in
                let i = is (block ++ ws) ks in
                ((λ h. (tt, i.0 (r.0 h.1.1))), λ h. (tt, (tt, r.1 (i.1 h.1))));
            known = λ e. cc;
          } in
          ended room most roomy steps None p (rounds over (elements_left first) (next_choice first) first) (all_ended room most roomy steps None p first w (inr (as_many None)))
      by_guard (Some g) h =
          let p : Saying = λ ws ks. Names over.structure.relations (formula_at steps g) ws ks × q (block ++ ws) ks in
          let first : Standing = standing_first over es block (Some g) steps in
          let w : IsOnTheWay room most roomy steps (Some g) p Nothing first = record {
            others = others;
            negations = negations;
            led = λ e. guard_leads over.structure head rules fits steps g h.0 h.1;
            within = λ e. h.2;
            fresh = λ e. cc;
            left = (ranked_named room most (Some g)).1 ((is room most).1 inside);
            names = λ ws ks.
                let r = ranked_named (block ++ ws) ks (Some g) in
                let i = is (block ++ ws) ks in
                let b = without_block steps g block ws ks h.3 in
                ((λ h. (b.0 h.0, i.0 (r.0 h.1.1))), λ h. (b.1 h.0, (tt, r.1 (i.1 h.1))));
            known = λ e v c d. once_in (free (formula_at steps g)) v c;
          } in
          let b = begun_way room most roomy steps (Some g) p first refl w (as_many (Some g)) in
          let at : Standing = after_tests room most roomy steps (Some g) p g first in
          ended room most roomy steps (Some g) p (rounds over (elements_left at) (next_choice at) at) (all_ended room most roomy steps (Some g) p at b.0 b.1)
