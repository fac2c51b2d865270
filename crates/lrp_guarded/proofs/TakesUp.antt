-- An atom, a sort element or a test is made and taken up; variables are brought, and spent ones dropped.
use Rattle.std.proofs.Common.{◌≡◌, ◌≤◌, ◌<◌, ◌+◌, ℕ, zero, suc, Bool, true, false, cond, not, List, [], ◌∷◌, ◌++◌, length, take, Option, Some, None, is_some, filter, map, slice_get, get_or, remove, refl, sym, ap, ap₂, subst, ◌∙◌, arith}
use Rattle.std.specs.List.{AllZip}
use Rattle.lrp_model.specs.RawTerms.{said_term}
use Rattle.lrp_core.specs.FreeVariables.{variable_of, with_variables}
use Rattle.lrp_core.specs.declared.core_forms.Core.{Core}
use Rattle.lrp_core.specs.declared.variables.Variable.{Variable as ProgramVariable}
use Rattle.lrp_model.specs.Formulas.{Form, atom, sorted, test}
use Rattle.lrp_model.specs.Rows.{relation_named, columns_in}
use Rattle.lrp_model.specs.Satisfaction.{Structure}
use Rattle.lrp_model.specs.Variables.{Variable, time_variable, data_variable, free, is_among, variables_of_test}
use Rattle.lrp_model.specs.Steps.{Steps, made, step_after, join, leaf, scan_of, sort_texts, formula_at}
use Rattle.lrp_model.specs.Periods.{test_periods}
use Rattle.lrp_model.specs.Conjunctions.{is_test}
use Rattle.lrp_model.specs.declared.formulas.Test.{Test}
use Rattle.lrp_model.specs.declared.formulas.Test.TheVariants.{Compare, Member, Equal}
use Rattle.lrp_model.specs.declared.plans.StepKind.{StepKind}
use Rattle.lrp_theory.specs.Divides.{IsCommon}
use Rattle.lrp_plan_laws.specs.Atoms.{Atom}
use Rattle.lrp_plan_laws.specs.Projections.{PlanGround as Ground, drop_each, columns_at}
use Rattle.lrp_plan_laws.specs.GuardedConjunctions.{SortElement, Standing, atom_form, sort_form, stands_alone, still_needed, take_up, take_atom, take_sort, take_one_test as take_test, any_value, bring_each, last_brought, missing, with_missing as brought, variables_left, drop_spent}
use Rattle.lrp_plan.specs.declared.drafts.PlannedOperand.{PlannedOperand}
use Rattle.lrp_plan.specs.Drafts.{IsPlannedOperand, AreTests}
use Rattle.lrp_plan.specs.Elements.{CanPlan}
use Rattle.lrp_plan.specs.Taking.{HaveSame}
use Rattle.lrp_plan.proofs.Members.{more_same}
use Rattle.lrp_plan.proofs.Takes.{operand_grows}
use Rattle.lrp_plan.proofs.Turns.{zip_get, zip_remove, zip_length}
use Rattle.lrp_guarded.specs.Making.{IsMaking, MakesFrom, MakesTo, IsMadeTo}
use Rattle.lrp_guarded.specs.Needs.{sort_element}
use Rattle.lrp_guarded.specs.Standing.{IsAtom, IsSortElement, IsGuardedPart as IsPart, IsDeniedPart as IsDenied, AreElementsLeft as AreLeft, IsStandingOf as IsStanding, StandsInList as Stands, FollowsRule as Follows, taking_up, bringing}
use Rattle.lrp_guarded.specs.declared.elements.Elements.{Elements}
use Rattle.lrp_guarded.specs.declared.elements.RankedAtom.{RankedAtom}
use Rattle.lrp_guarded.specs.declared.elements.RankedSort.{RankedSort}
use Rattle.lrp_guarded.specs.declared.making.Making.{Making}
use Rattle.lrp_guarded.specs.declared.standing.Standing.{Standing as ProgramStanding}
use Rattle.std.proofs.lemmas.Fn.{filter_same}
use Rattle.std.proofs.lemmas.List.{map-append, take_more}

-- ---- lists

none_there : {X : Type 0} (xs : List X) (i : ℕ) → length xs ≤ i → slice_get xs i ≡ None
none_there [] i le = refl
none_there (x ∷ xs) zero le = absurd (omega arith)
none_there (x ∷ xs) (suc i) le = none_there xs i (omega arith)

some_there : {X : Type 0} (xs : List X) (i : ℕ) (x : X) → i < length xs → x ≡ get_or xs i x → slice_get xs i ≡ Some x
some_there [] i x lt e = absurd (omega arith)
some_there (y ∷ ys) zero x lt e = ap Some (sym e)
some_there (y ∷ ys) (suc i) x lt e = some_there ys i x (omega arith) e

module _ {A B : Type 0} (R : A → B → Type 0) where
  zip_kept : (b c : Bool) (x : A) (y : B) (xs : List A) (ys : List B) → b ≡ c → R x y → AllZip R xs ys → AllZip R (cond b (x ∷ xs) xs) (cond c (y ∷ ys) ys)
  zip_kept true true x y xs ys e r h = (r, h)
  zip_kept false false x y xs ys e r h = h
  zip_kept true false x y xs ys e r h = absurd cc
  zip_kept false true x y xs ys e r h = absurd cc

  zip_filter : (p : A → Bool) (q : B → Bool) → ((x : A) (y : B) → R x y → p x ≡ q y) → (xs : List A) (ys : List B) → AllZip R xs ys → AllZip R (filter p xs) (filter q ys)
  zip_filter p q same [] [] h = tt
  zip_filter p q same [] (y ∷ ys) h = absurd h
  zip_filter p q same (x ∷ xs) [] h = absurd h
  zip_filter p q same (x ∷ xs) (y ∷ ys) h = zip_kept (p x) (q y) x y (filter p xs) (filter q ys) (same x y h.0) h.0 (zip_filter p q same xs ys h.1)

-- ---- a step that an element makes

-- the place once other elements are left
abbrev pub with_left : ProgramStanding → Elements → ProgramStanding
with_left old left = record { some = old.some; result = old.result; variables = old.variables; left = left; block = old.block }

module _ (before mid after : Making) (old new : ProgramStanding) (left : Elements) where
  -- the element's step was made, and it is taken up with its variables
  taken_so : (vs : List Variable) (over : Ground) (K : ℕ) (fs : List Core) (kind : StepKind) (f : Form) (at rest : Standing) → Stands over K fs before old at → AreLeft over K fs left rest → IsMaking over K mid (made over.structure kind f at.steps)
      → Follows (taking_up true vs) mid after (with_left old left) new
      → Stands over K fs after new (take_up over.structure vs (made over.structure kind f at.steps) (record { steps = at.steps; taken = at.taken; atoms = rest.atoms; sorts = rest.sorts; others = rest.others; tests = rest.tests; negations = rest.negations; block = at.block }))
  taken_so vs over K fs kind f at rest s l m up =
      up.follows over K fs (record { steps = made over.structure kind f at.steps; taken = at.taken; atoms = rest.atoms; sorts = rest.sorts; others = rest.others; tests = rest.tests; negations = rest.negations; block = at.block }) (record {
        making = m;
        standing = record {
          some = s.standing.some;
          result = operand_grows over.structure.relations K at.steps (step_after over.structure kind f at.steps ∷ []) at.taken.result old.result s.standing.result;
          variables = s.standing.variables;
          left = record { atoms = l.atoms; sorts = l.sorts; others = l.others; tests = l.tests; are_tests = l.are_tests; negations = l.negations };
          block = s.standing.block;
        };
      })

-- ---- an atom

module _ (index : ℕ) (before : Making) (old : ProgramStanding) where
  pub atom_past : length old.left.atoms.items ≤ index → Follows (λ over at. take_atom over index (slice_get at.atoms index) at) before before old old
  atom_past le = record {
    follows = λ over K fs at s.
        let l : length old.left.atoms.items ≡ length at.atoms = zip_length (IsAtom over K) old.left.atoms.items at.atoms s.standing.left.atoms in
        subst (λ o. Stands over K fs before old (take_atom over index o at)) (sym (none_there at.atoms index (omega arith))) s;
  }

  pub sort_past : length old.left.sorts.items ≤ index → Follows (λ over at. take_sort over index (slice_get at.sorts index) at) before before old old
  sort_past le = record {
    follows = λ over K fs at s.
        let l : length old.left.sorts.items ≡ length at.sorts = zip_length IsSortElement old.left.sorts.items at.sorts s.standing.left.sorts in
        subst (λ o. Stands over K fs before old (take_sort over index o at)) (sym (none_there at.sorts index (omega arith))) s;
  }

  pub test_past : length old.left.tests ≤ index → Follows (λ over at. take_test over index (slice_get at.tests index) at) before before old old
  test_past le = record {
    follows = λ over K fs at s.
        let l : length old.left.tests ≡ length at.tests = ap length s.standing.left.tests in
        subst (λ o. Stands over K fs before old (take_test over index o at)) (sym (none_there at.tests index (omega arith))) s;
  }

-- the atom that a value of the program is
abbrev pub atom_of : RankedAtom → Atom
atom_of e = record { name = e.relation.now; terms = map said_term e.terms.now }

module _ (index : ℕ) (before mid after : Making) (old new : ProgramStanding) (left : Elements) where
  pub atom_taken : (e : RankedAtom) → index < length old.left.atoms.items → e ≡ get_or old.left.atoms.items index e → left.atoms.items ≡ remove old.left.atoms.items index
      → left.sorts.items ≡ filter (λ x. not (stands_alone (sort_element x) (columns_in (relation_named before.sources.now.database.now e.relation.now)) (map said_term e.terms.now))) old.left.sorts.items → left.others ≡ old.left.others → left.tests ≡ old.left.tests → left.negations ≡ old.left.negations
      → ((over : Ground) (K : ℕ) (steps : Steps) → true ≡ true → CanPlan over.structure K (atom e.relation.now (map said_term e.terms.now)) → IsMaking over K before steps → IsMaking over K mid (scan_of e.relation.now (map said_term e.terms.now) over.structure steps))
      → ((vs : List Variable) → HaveSame (map variable_of e.variables.now) vs → Follows (taking_up true vs) mid after (with_left old left) new)
      → Follows (λ over at. take_atom over index (slice_get at.atoms index) at) before after old new
  atom_taken e lt is ea es eo et en makes up = record {
    follows = λ over K fs at s.
        let l = s.standing.left in
        let got = zip_get (IsAtom over K) old.left.atoms.items at.atoms index e l.atoms (some_there old.left.atoms.items index e lt is) in
        let a : Atom = got.0 in
        let h : IsAtom over K e a = got.2 in
        let same : atom_of e ≡ a = ap₂ (λ n ts. record { name = n; terms = ts }) h.name h.terms in
        let can : CanPlan over.structure K (atom_form (atom_of e)) = subst (λ b. CanPlan over.structure K (atom_form b)) (sym same) h.can in
        let vs : HaveSame (map variable_of e.variables.now) (free (atom_form (atom_of e))) = subst (λ b. HaveSame (map variable_of e.variables.now) (free (atom_form b))) (sym same) h.variables in
        let m : IsMaking over K mid (scan_of e.relation.now (map said_term e.terms.now) over.structure at.steps) = makes over K at.steps refl can s.making in
        let rest : Standing = record at { atoms = remove at.atoms index; sorts = still_needed over.structure (atom_of e) at.sorts } in
        let sorts : left.sorts.items ≡ filter (λ x. not (stands_alone (sort_element x) (columns_in (relation_named over.structure.relations e.relation.now)) (map said_term e.terms.now))) old.left.sorts.items =
        es ∙ ap (λ db. filter (λ x. not (stands_alone (sort_element x) (columns_in (relation_named db e.relation.now)) (map said_term e.terms.now))) old.left.sorts.items) s.making.database in
        let are : AreLeft over K fs left rest = record {
          atoms = subst (λ xs. AllZip (IsAtom over K) xs (remove at.atoms index)) (sym ea) (zip_remove (IsAtom over K) old.left.atoms.items at.atoms index l.atoms);
          sorts = subst (λ xs. AllZip IsSortElement xs (still_needed over.structure (atom_of e) at.sorts)) (sym sorts)
              (zip_filter IsSortElement _ _ (λ x y r. ap (λ z. not (stands_alone z (columns_in (relation_named over.structure.relations e.relation.now)) (map said_term e.terms.now))) (ap₂ (λ t v. record { sort = t; variable = v }) r.sort r.name)) old.left.sorts.items at.sorts l.sorts);
          others = subst (λ xs. AllZip (IsPart over K fs) xs.items at.others) (sym eo) l.others;
          tests = et ∙ l.tests;
          are_tests = l.are_tests;
          negations = subst (λ xs. AllZip (IsDenied over K fs) xs.items at.negations) (sym en) l.negations;
        } in
        let r = taken_so before mid after old new left (free (atom_form (atom_of e))) over K fs _ (atom e.relation.now (map said_term e.terms.now)) at rest s are m (up (free (atom_form (atom_of e))) vs) in
        subst (λ o. Stands over K fs after new (take_atom over index o at)) (sym got.1) (subst (λ b. Stands over K fs after new (take_atom over index (Some b) at)) same r);
  }

-- ---- a sort element

module _ (index : ℕ) (before mid after : Making) (old new : ProgramStanding) (left : Elements) where
  pub sort_taken : (e : RankedSort) → index < length old.left.sorts.items → e ≡ get_or old.left.sorts.items index e → left.sorts.items ≡ remove old.left.sorts.items index
      → left.atoms ≡ old.left.atoms → left.others ≡ old.left.others → left.tests ≡ old.left.tests → left.negations ≡ old.left.negations
      → ((over : Ground) (K : ℕ) (steps : Steps) → true ≡ true → CanPlan over.structure K (sorted e.sort.now e.name.now) → IsMaking over K before steps → IsMaking over K mid (sort_texts e.sort.now e.name.now over.structure steps))
      → ((vs : List Variable) → HaveSame (map variable_of e.variables.now) vs → Follows (taking_up true vs) mid after (with_left old left) new)
      → Follows (λ over at. take_sort over index (slice_get at.sorts index) at) before after old new
  sort_taken e lt is es ea eo et en makes up = record {
    follows = λ over K fs at s.
        let l = s.standing.left in
        let got = zip_get IsSortElement old.left.sorts.items at.sorts index e l.sorts (some_there old.left.sorts.items index e lt is) in
        let a : SortElement = got.0 in
        let h : IsSortElement e a = got.2 in
        let same : sort_element e ≡ a = ap₂ (λ t v. record { sort = t; variable = v }) h.sort h.name in
        let vs : HaveSame (map variable_of e.variables.now) (free (sort_form (sort_element e))) = subst (λ b. HaveSame (map variable_of e.variables.now) (free (sort_form b))) (sym same) h.variables in
        let m : IsMaking over K mid (sort_texts e.sort.now e.name.now over.structure at.steps) = makes over K at.steps refl (record { core = tt; divides = tt }) s.making in
        let rest : Standing = record at { sorts = remove at.sorts index } in
        let are : AreLeft over K fs left rest = record {
          atoms = subst (λ xs. AllZip (IsAtom over K) xs.items at.atoms) (sym ea) l.atoms;
          sorts = subst (λ xs. AllZip IsSortElement xs (remove at.sorts index)) (sym es) (zip_remove IsSortElement old.left.sorts.items at.sorts index l.sorts);
          others = subst (λ xs. AllZip (IsPart over K fs) xs.items at.others) (sym eo) l.others;
          tests = et ∙ l.tests;
          are_tests = l.are_tests;
          negations = subst (λ xs. AllZip (IsDenied over K fs) xs.items at.negations) (sym en) l.negations;
        } in
        let r = taken_so before mid after old new left (free (sort_form (sort_element e))) over K fs _ (sorted e.sort.now e.name.now) at rest s are m (up (free (sort_form (sort_element e))) vs) in
        subst (λ o. Stands over K fs after new (take_sort over index o at)) (sym got.1) (subst (λ b. Stands over K fs after new (take_sort over index (Some b) at)) same r);
  }

-- ---- a test

-- the tests of an `and` name no period
no_period : (t : Test) (K : ℕ) → is_test t ≡ true → IsCommon (test_periods t) K
no_period (Compare l o r) K h = tt
no_period (Member t p) K h = absurd cc
no_period (Equal l r) K h = tt

tests_without : (ts : List Test) (i : ℕ) → AreTests ts → AreTests (remove ts i)
tests_without [] zero h = tt
tests_without [] (suc i) h = tt
tests_without (t ∷ ts) zero h = h.1
tests_without (t ∷ ts) (suc i) h = (h.0, tests_without ts i h.1)

test_there : (ts : List Test) (i : ℕ) (t : Test) → AreTests ts → slice_get ts i ≡ Some t → is_test t ≡ true
test_there [] i t h e = absurd cc
test_there (x ∷ xs) zero t h e = let d : x ≡ t = cc in subst (λ y. is_test y ≡ true) d h.0
test_there (x ∷ xs) (suc i) t h e = test_there xs i t h.1 e

module _ (index : ℕ) (before mid after : Making) (old new : ProgramStanding) (left : Elements) where
  pub test_taken : (t : Test) (us : List ProgramVariable) → index < length old.left.tests → t ≡ get_or old.left.tests index t → left.tests ≡ remove old.left.tests index
      → left.atoms ≡ old.left.atoms → left.sorts ≡ old.left.sorts → left.others ≡ old.left.others → left.negations ≡ old.left.negations → HaveSame (map variable_of us) (variables_of_test t)
      → ((over : Ground) (K : ℕ) (steps : Steps) → IsCommon (test_periods t) K → IsMaking over K before steps → IsMaking over K mid (leaf t over.structure steps))
      → ((vs : List Variable) → HaveSame (map variable_of us) vs → Follows (taking_up true vs) mid after (with_left old left) new)
      → Follows (λ over at. take_test over index (slice_get at.tests index) at) before after old new
  test_taken t us lt is et ea es eo en vs makes up = record {
    follows = λ over K fs at s.
        let l = s.standing.left in
        let there : slice_get at.tests index ≡ Some t = ap (λ ts. slice_get ts index) (sym l.tests) ∙ some_there old.left.tests index t lt is in
        let m : IsMaking over K mid (leaf t over.structure at.steps) = makes over K at.steps (no_period t K (test_there at.tests index t l.are_tests there)) s.making in
        let rest : Standing = record at { tests = remove at.tests index } in
        let are : AreLeft over K fs left rest = record {
          atoms = subst (λ xs. AllZip (IsAtom over K) xs.items at.atoms) (sym ea) l.atoms;
          sorts = subst (λ xs. AllZip IsSortElement xs.items at.sorts) (sym es) l.sorts;
          others = subst (λ xs. AllZip (IsPart over K fs) xs.items at.others) (sym eo) l.others;
          tests = et ∙ ap (λ ts. remove ts index) l.tests;
          are_tests = tests_without at.tests index l.are_tests;
          negations = subst (λ xs. AllZip (IsDenied over K fs) xs.items at.negations) (sym en) l.negations;
        } in
        let r = taken_so before mid after old new left (variables_of_test t) over K fs _ (test t) at rest s are m (up (variables_of_test t) vs) in
        subst (λ o. Stands over K fs after new (take_test over index o at)) (sym there) r;
  }
