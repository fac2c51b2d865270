-- An `and` builds steps that name what it names.
use Rattle.std.proofs.Common.{◌≡◌, ◌↔◌, ◌≤◌, ◌<◌, ◌+◌, ◌*◌, ℕ, Bool, true, false, cond, not, ◌&&◌, List, [], ◌∷◌, ◌++◌, length, Some, slice_get, remove, filter, Contains, refl, sym, subst, arith}
use Rattle.std.specs.Prelude.{max, map}
use Rattle.std.specs.List.{AllByRecursion}
use Rattle.lrp_model.specs.Texts.{Identifier}
use Rattle.lrp_model.specs.Formulas.{Form, test, negation, conjunction, no_forms, form}
use Rattle.lrp_model.specs.Variables.{Variable, free, variables_of_test, are_among}
use Rattle.lrp_model.specs.Satisfaction.{Structure}
use Rattle.lrp_model.specs.Periods.{period}
use Rattle.lrp_model.specs.Reach.{greatest, test_reach}
use Rattle.lrp_model.specs.Steps.{Steps, formula_at, reach_at, made, tests_as_forms, join, select, minus, complement}
use Rattle.lrp_model.specs.Conjunctions.{Element, State, select_each, is_covered, take_in, take_positive, take_test, take_negation, take_all}
use Rattle.lrp_model.specs.declared.relations.Sort.{Sort}
use Rattle.lrp_model.specs.declared.formulas.Test.{Test}
use Rattle.lrp_model.specs.declared.plans.StepKind.TheVariants.{Leaf, Join, Select, Minus, Complement}
use Rattle.lrp_model.proofs.Logic.{all_append}
use Rattle.lrp_plan_laws.specs.Made.{HeadStep, AreAmong}
use Rattle.lrp_plan_laws.proofs.Elements.{take_out, split_all}
use Rattle.lrp_plan_laws.proofs.Dropping.{Rules}
use Rattle.lrp_plan_laws.proofs.Names.{Names, NamesTest, are_among_is, two_named, tests_named, names_self}
use Rattle.lrp_plan_laws.proofs.PlanLaws.{Where, put_where, get_where, is_true, and_first}
use Rattle.lrp_plan_laws.proofs.Rounds.{Finishes, all_rounds, nothing_left}
use Rattle.lrp_plan_laws.proofs.Builds.{Saying, Builds, by_first, by_next, by_both, same_builds, kept_formula}
use Rattle.lrp_plan_laws.proofs.Members.{all_of, all_self, all_from, all_map}
use Rattle.lrp_plan_laws.proofs.Marks.{Mark, marks, marks_each}

module _ (M : Structure) (head : HeadStep) (rules : Rules) (fits : List Variable → Type 0) (guard : Identifier → Sort → Form → Type 0) (down : (vs ws : List Variable) → AllByRecursion (Contains ws) vs → fits ws → fits vs) where
  -- the variables of a formula that names no others than fitting ones fit
  pub fits_within : (f : Form) (room : List Variable) (most : List Mark) → fits room → Names M.relations f room most → fits (free f)
  fits_within f room most roomy h = down (free f) room h.0 roomy

  -- a complement names what its operand names
  pub complement_builds : (before steps : Steps) (g : Form) → Builds M head rules fits guard before steps (Names M.relations g) → fits (free g) → Builds M head rules fits guard before (complement M steps) (Names M.relations g)
  complement_builds before steps g m good =
      let a : Form = formula_at steps (length steps) in
      by_next M head rules fits guard before steps (Names M.relations g) (Names M.relations g) (Complement (length steps)) (negation a) m
      (λ b ks new. (let r : reach_at steps (length steps) + 2 * period M.relations (negation a) ≤ b = new.0 in omega arith, new.1))
      (record { operands = ((let g : length before < length steps = m.grown in omega arith, omega arith), tt); formula = refl; drop = tt; variables = tt })
      (down (free a) (free g) ((m.names (free g) (marks g M.relations)).1 (names_self M.relations g)).0 good)
      tt
      m.names

  -- ---- steps with tests, within the variables and the periods of the whole `and`
  module _ (room : List Variable) (most : List Mark) (roomy : fits room) where
    -- selections by tests whose variables are known: the operand and the tests
    selects : (before steps : Steps) (p : Saying) (variables : List Variable) (ts : List Test) → Builds M head rules fits guard before steps p
        → ((ws : List Variable) (ks : List Mark) → p ws ks → AllByRecursion (Contains ws) variables) → AllByRecursion (λ t. AllByRecursion (Contains variables) (variables_of_test t)) ts
        → p room most × AllByRecursion (NamesTest M.relations room most) ts
        → Builds M head rules fits guard before (select_each ts M steps) (λ ws ks. p ws ks × AllByRecursion (NamesTest M.relations ws ks) ts)
    selects before steps p variables [] m known covered inside = same_builds M head rules fits guard before steps p _ m (λ ws ks. ((λ x. (x, tt)), λ x. x.0))
    selects before steps p variables (t ∷ ts) m known covered inside =
        let a : Form = formula_at steps (length steps) in
        let f : Form = conjunction (form a (form (test t) no_forms)) in
        let names : (ws : List Variable) (ks : List Mark) → Names M.relations f ws ks ↔ (p ws ks × NamesTest M.relations ws ks t) =
        λ ws ks. let two = two_named M.relations ws ks a (test t) no_forms in ((λ h. let x = two.0 h in ((m.names ws ks).0 x.0, x.1.0)), λ h. two.1 ((m.names ws ks).1 h.0, (h.1, (tt, tt)))) in
        let n : Builds M head rules fits guard before (select t M steps) (λ ws ks. p ws ks × NamesTest M.relations ws ks t) =
        by_next M head rules fits guard before steps p (λ ws ks. p ws ks × NamesTest M.relations ws ks t) (Select (length steps) t) f m
        (λ b ks new. (let r : max (reach_at steps (length steps)) (test_reach t) + period M.relations f ≤ b = new.0 in omega arith, ((all_append (Contains ks) (marks a M.relations) (marks_each (form (test t) no_forms) M.relations)).0 new.1).0))
        (record {
          operands = ((let g : length before < length steps = m.grown in omega arith, omega arith), tt);
          formula = refl;
          drop = tt;
          variables = λ v c. all_of (Contains (free a)) variables v (known (free a) (marks a M.relations) ((m.names (free a) (marks a M.relations)).0 (names_self M.relations a))) (all_of (Contains variables) (variables_of_test t) v covered.0 c);
        })
        (fits_within f room most roomy ((names room most).1 (inside.0, inside.1.0)))
        tt
        names in
        same_builds M head rules fits guard before (select_each ts M (select t M steps)) (λ ws ks. (p ws ks × NamesTest M.relations ws ks t) × AllByRecursion (NamesTest M.relations ws ks) ts) _
        (selects before (select t M steps) (λ ws ks. p ws ks × NamesTest M.relations ws ks t) variables ts n (λ ws ks h. known ws ks h.0) covered.1 ((inside.0, inside.1.0), inside.1.1))
        (λ ws ks. ((λ h. (h.0.0, (h.0.1, h.1))), λ h. ((h.0, h.1.0), h.1.1)))

    -- a join that carries tests whose variables are known: both operands and the tests
    joins : (start mid steps : Steps) (p q : Saying) (variables : List Variable) (ts : List Test) → Builds M head rules fits guard start mid p → Builds M head rules fits guard mid steps q
        → ((ws : List Variable) (ks : List Mark) → p ws ks → q ws ks → AllByRecursion (Contains ws) variables) → AllByRecursion (λ t. AllByRecursion (Contains variables) (variables_of_test t)) ts
        → (p room most × q room most) × AllByRecursion (NamesTest M.relations room most) ts
        → Builds M head rules fits guard start (join (length mid) ts M steps) (λ ws ks. (p ws ks × q ws ks) × AllByRecursion (NamesTest M.relations ws ks) ts)
    joins start mid steps p q variables ts m n known covered inside =
        let a : Form = formula_at steps (length mid) in
        let b : Form = formula_at steps (length steps) in
        let f : Form = conjunction (form a (form b (tests_as_forms ts))) in
        let e : a ≡ formula_at mid (length mid) = kept_formula M head rules fits guard mid steps q (length mid) n (omega arith) in
        let first : (ws : List Variable) (ks : List Mark) → Names M.relations a ws ks ↔ p ws ks = λ ws ks. subst (λ g. Names M.relations g ws ks ↔ p ws ks) (sym e) (m.names ws ks) in
        let names : (ws : List Variable) (ks : List Mark) → Names M.relations f ws ks ↔ ((p ws ks × q ws ks) × AllByRecursion (NamesTest M.relations ws ks) ts) =
        λ ws ks.
        let two = two_named M.relations ws ks a b (tests_as_forms ts) in
        let r = tests_named M.relations ws ks ts in (
          (λ h. let x = two.0 h in (((first ws ks).0 x.0, (n.names ws ks).0 x.1.0), r.0 x.1.1)),
          λ h. two.1 ((first ws ks).1 h.0.0, ((n.names ws ks).1 h.0.1, r.1 h.1)),
        ) in
        let vs : List Variable = free a ++ free b in
        let ks : List Mark = marks a M.relations ++ marks b M.relations in
        let left = (all_append (Contains vs) (free a) (free b)).0 (all_self vs) in
        let right = (all_append (Contains ks) (marks a M.relations) (marks b M.relations)).0 (all_self ks) in
        let all : AllByRecursion (Contains vs) variables = known vs ks ((first vs ks).0 (left.0, right.0)) ((n.names vs ks).0 (left.1, right.1)) in
        by_both M head rules fits guard start mid steps p q _ (Join (length mid) (length steps) ts) f m n
        (λ c ks new.
        let r : max (reach_at steps (length mid)) (max (reach_at steps (length steps)) (greatest (map test_reach ts))) + period M.relations f ≤ c = new.0 in
        let x = (all_append (Contains ks) (marks a M.relations) (marks_each (form b (tests_as_forms ts)) M.relations)).0 new.1 in
        let y = (all_append (Contains ks) (marks b M.relations) (marks_each (tests_as_forms ts) M.relations)).0 x.1 in
        ((omega arith, x.0), (omega arith, y.0)))
        (record {
          operands = (let g : length start < length mid = m.grown in let h : length mid < length steps = n.grown in ((omega arith, omega arith), ((omega arith, omega arith), tt)));
          formula = refl;
          drop = tt;
          variables = all_map (λ t. AllByRecursion (Contains variables) (variables_of_test t)) (λ t. AreAmong (variables_of_test t) vs) ts (λ t k v c. all_of (Contains vs) variables v all (all_of (Contains variables) (variables_of_test t) v k c)) covered;
        })
        (fits_within f room most roomy ((names room most).1 inside))
        tt
        names

    -- a minus of what has no further variables: both operands
    minuses : (start mid steps : Steps) (p : Saying) (g : Form) (variables : List Variable) → Builds M head rules fits guard start mid p → Builds M head rules fits guard mid steps (Names M.relations g)
        → ((ws : List Variable) (ks : List Mark) → p ws ks → AllByRecursion (Contains ws) variables) → AllByRecursion (Contains variables) (free g)
        → p room most × Names M.relations g room most
        → Builds M head rules fits guard start (minus (length mid) M steps) (λ ws ks. p ws ks × Names M.relations g ws ks)
    minuses start mid steps p g variables m n known covered inside =
        let a : Form = formula_at steps (length mid) in
        let b : Form = formula_at steps (length steps) in
        let f : Form = conjunction (form a (form (negation b) no_forms)) in
        let e : a ≡ formula_at mid (length mid) = kept_formula M head rules fits guard mid steps (Names M.relations g) (length mid) n (omega arith) in
        let first : (ws : List Variable) (ks : List Mark) → Names M.relations a ws ks ↔ p ws ks = λ ws ks. subst (λ h. Names M.relations h ws ks ↔ p ws ks) (sym e) (m.names ws ks) in
        let names : (ws : List Variable) (ks : List Mark) → Names M.relations f ws ks ↔ (p ws ks × Names M.relations g ws ks) =
        λ ws ks. let two = two_named M.relations ws ks a (negation b) no_forms in ((λ h. let x = two.0 h in ((first ws ks).0 x.0, (n.names ws ks).0 x.1.0)), λ h. two.1 ((first ws ks).1 h.0, ((n.names ws ks).1 h.1, (tt, tt)))) in
        let all : AllByRecursion (Contains (free a)) variables = known (free a) (marks a M.relations) ((first (free a) (marks a M.relations)).0 (names_self M.relations a)) in
        let part : AllByRecursion (Contains (free a)) (free g) = all_from (Contains (free a)) variables (free g) covered all in
        let taken : AllByRecursion (Contains (free a)) (free b) = ((n.names (free a) (marks g M.relations)).1 (part, all_self (marks g M.relations))).0 in
        by_both M head rules fits guard start mid steps p (Names M.relations g) _ (Minus (length mid) (length steps)) f m n
        (λ c ks new.
        let r : max (reach_at steps (length mid)) (reach_at steps (length steps)) + 2 * period M.relations f ≤ c = new.0 in
        let x = (all_append (Contains ks) (marks a M.relations) (marks_each (form (negation b) no_forms) M.relations)).0 new.1 in
        let y = (all_append (Contains ks) (marks b M.relations) []).0 x.1 in
        ((omega arith, x.0), (omega arith, y.0)))
        (record {
          operands = (let g : length start < length mid = m.grown in let h : length mid < length steps = n.grown in ((omega arith, omega arith), ((omega arith, omega arith), tt)));
          formula = refl;
          drop = tt;
          variables = λ v c. all_of (Contains (free a)) (free b) v taken c;
        })
        (fits_within f room most roomy ((names room most).1 inside))
        tt
        names

  -- ---- what an `and` has taken in and has left

  -- what the last step names
  abbrev pub LastNames : Steps → Saying
  LastNames steps ws ks = Names M.relations (formula_at steps (length steps)) ws ks

  -- what the positives, the tests and the negations that are left name
  abbrev pub Left : List Element → List Test → List Element → Saying
  Left ps ts ns ws ks = AllByRecursion (λ e. Names M.relations e.formula ws ks) ps × (AllByRecursion (NamesTest M.relations ws ks) ts × AllByRecursion (λ e. Names M.relations e.formula ws ks) ns)

  -- the element's rule builds steps that name what the element names, and its variables fit
  abbrev pub IsBuilt : Element → Type 0
  IsBuilt e = (steps : Steps) → Builds M head rules fits guard steps (e.rule M steps) (Names M.relations e.formula)

  -- the result so far and what is left name together what p says
  pub record IsOnTheWay (start : Steps) (count : ℕ) (p : List Variable → List Mark → Type 0) (state : State) : Type 0 where
    pub positives : AllByRecursion IsBuilt state.positives
    pub negations : AllByRecursion IsBuilt state.negations
    pub last : state.taken.some ≡ true → state.taken.result ≡ length state.steps
    pub fresh : state.taken.some ≡ false → state.steps ≡ start
    pub built : state.taken.some ≡ true → Builds M head rules fits guard start state.steps (LastNames state.steps)
    pub idle : state.taken.some ≡ false → length state.positives + length state.tests + length state.negations ≡ count
    pub names : (ws : List Variable) (ks : List Mark) → (Where state.taken.some (LastNames state.steps ws ks) × Left state.positives state.tests state.negations ws ks) ↔ p ws ks
    pub known : (ws : List Variable) (ks : List Mark) → Where state.taken.some (LastNames state.steps ws ks) → AllByRecursion (Contains ws) state.taken.variables

  module _ (room : List Variable) (most : List Mark) (roomy : fits room) where
    -- the steps after an element g was taken in: the result so far, the element and the carried tests
    taken_builds : (start mid steps : Steps) (some : Bool) (result : ℕ) (g : Form) (variables : List Variable) (ts : List Test)
        → (some ≡ true → result ≡ length mid) → (some ≡ false → mid ≡ start) → (some ≡ true → Builds M head rules fits guard start mid (LastNames mid)) → Builds M head rules fits guard mid steps (Names M.relations g)
        → ((ws : List Variable) (ks : List Mark) → Where some (LastNames mid ws ks) → Names M.relations g ws ks → AllByRecursion (Contains ws) variables) → AllByRecursion (λ t. AllByRecursion (Contains variables) (variables_of_test t)) ts
        → (Where some (LastNames mid room most) × Names M.relations g room most) × AllByRecursion (NamesTest M.relations room most) ts
        → Builds M head rules fits guard start (cond some (join result ts M steps) (select_each ts M steps)) (λ ws ks. (Where some (LastNames mid ws ks) × Names M.relations g ws ks) × AllByRecursion (NamesTest M.relations ws ks) ts)
    taken_builds start mid steps true result g variables ts last fresh m n known covered inside =
        subst (λ l. Builds M head rules fits guard start (join l ts M steps) (λ ws ks. (LastNames mid ws ks × Names M.relations g ws ks) × AllByRecursion (NamesTest M.relations ws ks) ts)) (sym (last refl))
        (joins room most roomy start mid steps (LastNames mid) (Names M.relations g) variables ts (m refl) n known covered inside)
    taken_builds start mid steps false result g variables ts last fresh m n known covered inside =
        subst (λ s. Builds M head rules fits guard s (select_each ts M steps) (λ ws ks. (Unit {0} × Names M.relations g ws ks) × AllByRecursion (NamesTest M.relations ws ks) ts)) (fresh refl)
        (same_builds M head rules fits guard mid (select_each ts M steps) (λ ws ks. Names M.relations g ws ks × AllByRecursion (NamesTest M.relations ws ks) ts) _
        (selects room most roomy mid steps (Names M.relations g) variables ts n (λ ws ks h. known ws ks tt h) covered (inside.0.1, inside.1))
        (λ ws ks. ((λ h. ((tt, h.0), h.1)), λ h. (h.0.1, h.1))))

    -- the steps after a negation of g was taken in
    negated_builds : (start mid steps : Steps) (covered some : Bool) (result : ℕ) (g : Form) (variables : List Variable)
        → (covered ≡ true → some ≡ true) → (some ≡ true → result ≡ length mid) → (some ≡ false → mid ≡ start) → (some ≡ true → Builds M head rules fits guard start mid (LastNames mid)) → Builds M head rules fits guard mid steps (Names M.relations g)
        → ((ws : List Variable) (ks : List Mark) → Where some (LastNames mid ws ks) → AllByRecursion (Contains ws) variables) → (covered ≡ true → AllByRecursion (Contains variables) (free g))
        → Where some (LastNames mid room most) × Names M.relations g room most
        → Builds M head rules fits guard start (cond covered (minus result M steps) (cond some (join result [] M (complement M steps)) (complement M steps))) (λ ws ks. Where some (LastNames mid ws ks) × Names M.relations g ws ks)
    negated_builds start mid steps true true result g variables c last fresh m n known covered inside =
        subst (λ l. Builds M head rules fits guard start (minus l M steps) (λ ws ks. LastNames mid ws ks × Names M.relations g ws ks)) (sym (last refl))
        (minuses room most roomy start mid steps (LastNames mid) g variables (m refl) n known (covered refl) inside)
    negated_builds start mid steps true false result g variables c last fresh m n known covered inside = let e : false ≡ true = c refl in cc
    negated_builds start mid steps false true result g variables c last fresh m n known covered inside =
        subst (λ l. Builds M head rules fits guard start (join l [] M (complement M steps)) (λ ws ks. LastNames mid ws ks × Names M.relations g ws ks)) (sym (last refl))
        (same_builds M head rules fits guard start (join (length mid) [] M (complement M steps)) (λ ws ks. (LastNames mid ws ks × Names M.relations g ws ks) × Unit {0}) _
        (joins room most roomy start mid (complement M steps) (LastNames mid) (Names M.relations g) [] [] (m refl) (complement_builds mid steps g n (fits_within g room most roomy inside.1)) (λ ws ks h k. tt) tt (inside, tt))
        (λ ws ks. ((λ h. h.0), λ h. (h, tt))))
    negated_builds start mid steps false false result g variables c last fresh m n known covered inside =
        subst (λ s. Builds M head rules fits guard s (complement M steps) (λ ws ks. Unit {0} × Names M.relations g ws ks)) (fresh refl)
        (same_builds M head rules fits guard mid (complement M steps) (Names M.relations g) _ (complement_builds mid steps g n (fits_within g room most roomy inside.1)) (λ ws ks. ((λ h. (tt, h)), λ h. h.1)))

    module _ (start : Steps) (count : ℕ) (p : List Variable → List Mark → Type 0) (inside : p room most) where
      -- a test that is covered, or is not
      covered_at : (variables : List Variable) (t : Test) (us : List Test) (b : Bool) → are_among (free (test t)) variables ≡ b → AllByRecursion (λ u. AllByRecursion (Contains variables) (variables_of_test u)) us
          → AllByRecursion (λ u. AllByRecursion (Contains variables) (variables_of_test u)) (cond b (t ∷ us) us)
      covered_at variables t us true e h = (are_among_is (variables_of_test t) variables e, h)
      covered_at variables t us false e h = h

      -- tests that pass as covered have their variables among these
      covered_tests : (variables : List Variable) (ts : List Test) → AllByRecursion (λ t. AllByRecursion (Contains variables) (variables_of_test t)) (filter (λ t. are_among (free (test t)) variables) ts)
      covered_tests variables [] = tt
      covered_tests variables (t ∷ ts) = covered_at variables t (filter (λ u. are_among (free (test u)) variables) ts) (are_among (free (test t)) variables) refl (covered_tests variables ts)

      -- an element g is taken in
      taken_in : (g : Form) (steps : Steps) (state : State) → AllByRecursion IsBuilt state.positives → AllByRecursion IsBuilt state.negations
          → (state.taken.some ≡ true → state.taken.result ≡ length state.steps) → (state.taken.some ≡ false → state.steps ≡ start) → (state.taken.some ≡ true → Builds M head rules fits guard start state.steps (LastNames state.steps))
          → ((ws : List Variable) (ks : List Mark) → (Where state.taken.some (LastNames state.steps ws ks) × (Names M.relations g ws ks × Left state.positives state.tests state.negations ws ks)) ↔ p ws ks)
          → ((ws : List Variable) (ks : List Mark) → Where state.taken.some (LastNames state.steps ws ks) → AllByRecursion (Contains ws) state.taken.variables)
          → Builds M head rules fits guard state.steps steps (Names M.relations g) → IsOnTheWay start count p (take_in M g steps state)
      taken_in g steps state ps ns last fresh built names known m =
          let variables : List Variable = state.taken.variables ++ free g in
          let covered : Test → Bool = λ t. are_among (free (test t)) variables in
          let carried : List Test = filter covered state.tests in
          let after : Steps = cond state.taken.some (join state.taken.result carried M steps) (select_each carried M steps) in
          let here = (names room most).1 inside in
          let of_all : (ws : List Variable) (ks : List Mark) → Where state.taken.some (LastNames state.steps ws ks) → Names M.relations g ws ks → AllByRecursion (Contains ws) variables =
          λ ws ks a b. (all_append (Contains ws) state.taken.variables (free g)).1 (known ws ks a, b.0) in
          let split : (ws : List Variable) (ks : List Mark) → AllByRecursion (NamesTest M.relations ws ks) state.tests ↔ (AllByRecursion (NamesTest M.relations ws ks) carried × AllByRecursion (NamesTest M.relations ws ks) (filter (λ t. not (covered t)) state.tests)) =
          λ ws ks. split_all (NamesTest M.relations ws ks) covered state.tests in
          let n : Builds M head rules fits guard start after (λ ws ks. (Where state.taken.some (LastNames state.steps ws ks) × Names M.relations g ws ks) × AllByRecursion (NamesTest M.relations ws ks) carried) =
          taken_builds start state.steps steps state.taken.some state.taken.result g variables carried last fresh built m of_all (covered_tests variables state.tests) ((here.0, here.1.0), ((split room most).0 here.1.1.1.0).0) in
          record {
            positives = ps;
            negations = ns;
            last = λ e. refl;
            fresh = λ e. cc;
            built = λ e. same_builds M head rules fits guard start after _ (LastNames after) n (λ ws ks. ((λ h. (n.names ws ks).1 h), λ h. (n.names ws ks).0 h));
            idle = λ e. cc;
            names = λ ws ks. (
              (λ h. let w = (n.names ws ks).0 h.0 in (names ws ks).0 (w.0.0, (w.0.1, (h.1.0, ((split ws ks).1 (w.1, h.1.1.0), h.1.1.1))))),
              λ x. let h = (names ws ks).1 x in let w = (split ws ks).0 h.1.1.1.0 in ((n.names ws ks).1 ((h.0, h.1.0), w.0), (h.1.1.0, (w.1, h.1.1.1.1))),
            );
            known = λ ws ks h. let w = (n.names ws ks).0 h in of_all ws ks w.0.0 w.0.1;
          }

      -- a round for a positive, for a test and for a negation
      positive_taken : (i : ℕ) (x : Element) (state : State) → slice_get state.positives i ≡ Some x → IsOnTheWay start count p state → IsOnTheWay start count p (take_positive M i (Some x) state)
      positive_taken i x state e w =
          let sound = (take_out IsBuilt state.positives i x e).0 w.positives in
          taken_in x.formula (x.rule M state.steps) (record state { positives = remove state.positives i }) sound.1 w.negations w.last w.fresh w.built
          (λ ws ks.
          let t = take_out (λ y. Names M.relations y.formula ws ks) state.positives i x e in
          ((λ h. (w.names ws ks).0 (h.0, (t.1 (h.1.0, h.1.1.0), h.1.1.1))), λ a. let h = (w.names ws ks).1 a in let u = t.0 h.1.0 in (h.0, (u.0, (u.1, h.1.1)))))
          w.known
          (sound.0 state.steps)

      -- a round for a test
      test_taken : (t : Test) (ts : List Test) (state : State) → state.tests ≡ t ∷ ts → IsOnTheWay start count p state → IsOnTheWay start count p (take_test M (t ∷ ts) state)
      test_taken t ts state e w =
          let here = subst (AllByRecursion (NamesTest M.relations room most)) e ((w.names room most).1 inside).1.1.0 in
          taken_in (test t) (made M (Leaf t) (test t) state.steps) (record state { tests = ts }) w.positives w.negations w.last w.fresh w.built
          (λ ws ks. (
            (λ h. (w.names ws ks).0 (h.0, (h.1.1.0, (subst (AllByRecursion (NamesTest M.relations ws ks)) (sym e) (h.1.0, h.1.1.1.0), h.1.1.1.1)))),
            λ a. let h = (w.names ws ks).1 a in let u = subst (AllByRecursion (NamesTest M.relations ws ks)) e h.1.1.0 in (h.0, (u.0, (h.1.0, (u.1, h.1.1.1)))),
          ))
          w.known
          (by_first M head rules fits guard state.steps (Leaf t) (test t) (record { operands = tt; formula = refl; drop = tt; variables = tt }) (fits_within (test t) room most roomy here.0) tt)

      -- a round for a negation
      negation_taken : (i : ℕ) (x : Element) (state : State) → slice_get state.negations i ≡ Some x → IsOnTheWay start count p state → IsOnTheWay start count p (take_negation M i (Some x) state)
      negation_taken i x state e w =
          let steps : Steps = x.rule M state.steps in
          let sound = (take_out IsBuilt state.negations i x e).0 w.negations in
          let after : Steps = cond (is_covered state.taken x.formula) (minus state.taken.result M steps) (cond state.taken.some (join state.taken.result [] M (complement M steps)) (complement M steps)) in
          let here = (w.names room most).1 inside in
          let n : Builds M head rules fits guard start after (λ ws ks. Where state.taken.some (LastNames state.steps ws ks) × Names M.relations x.formula ws ks) =
          negated_builds start state.steps steps (is_covered state.taken x.formula) state.taken.some state.taken.result x.formula state.taken.variables (and_first _ _) w.last w.fresh w.built (sound.0 state.steps) w.known
          (λ c. are_among_is (free x.formula) state.taken.variables (and_second state.taken.some (are_among (free x.formula) state.taken.variables) c))
          (here.0, ((take_out (λ y. Names M.relations y.formula room most) state.negations i x e).0 here.1.1.1).0) in
          record {
            positives = w.positives;
            negations = sound.1;
            last = λ e. refl;
            fresh = λ e. cc;
            built = λ e. same_builds M head rules fits guard start after _ (LastNames after) n (λ ws ks. ((λ h. (n.names ws ks).1 h), λ h. (n.names ws ks).0 h));
            idle = λ e. cc;
            names = λ ws ks.
                let t = take_out (λ y. Names M.relations y.formula ws ks) state.negations i x e in (
                  (λ h. let u = (n.names ws ks).0 h.0 in (w.names ws ks).0 (u.0, (h.1.0, (h.1.1.0, t.1 (u.1, h.1.1.1))))),
                  λ a. let h = (w.names ws ks).1 a in let u = t.0 h.1.1.1 in ((n.names ws ks).1 (h.0, u.0), (h.1.0, (h.1.1.0, u.1))),
                );
            known = λ ws ks h. let u = (n.names ws ks).0 h in (all_append (Contains ws) state.taken.variables (free x.formula)).1 (w.known ws ks u.0, u.1.0);
          }
        where
          and_second : (a b : Bool) → (a && b) ≡ true → b ≡ true
          and_second true b e = e
          and_second false b e = cc

      -- nothing is left, so the last step names what p says
      finished : (state : State) → 0 < count → IsOnTheWay start count p state → length state.positives ≡ 0 → length state.tests ≡ 0 → length state.negations ≡ 0 → Builds M head rules fits guard start state.steps p
      finished state some w a b c =
          let so : state.taken.some ≡ true = is_true state.taken.some (λ e. let n : length state.positives + length state.tests + length state.negations ≡ count = w.idle e in absurd (omega arith)) in
          same_builds M head rules fits guard start state.steps (LastNames state.steps) p (w.built so) (λ ws ks. (
            (λ s. (w.names ws ks).0 (put_where state.taken.some _ so s, (nothing_left _ state.positives a, (nothing_left _ state.tests b, nothing_left _ state.negations c)))),
            λ x. get_where state.taken.some _ so ((w.names ws ks).1 x).0,
          ))

      -- so do the steps of the whole `and`
      pub all_built : (state : State) → 0 < count → IsOnTheWay start count p state → Builds M head rules fits guard start (take_all M state) p
      all_built state some w =
          let f : Finishes M (IsOnTheWay start count p) state = all_rounds M (IsOnTheWay start count p) positive_taken test_taken negation_taken state w in
          subst (λ steps. Builds M head rules fits guard start steps p) f.is (finished f.last some f.holds f.positives f.tests f.negations)
