-- Variables that a formula wants are brought, and the variables of a block that are spent are dropped; where an `and` begins.
use Rattle.std.proofs.Common.{◌≡◌, ◌≤◌, ◌<◌, ◌+◌, ℕ, zero, suc, Bool, true, false, cond, not, List, [], ◌∷◌, ◌++◌, length, take, Option, Some, None, is_some, filter, map, get_or, refl, sym, ap, ap₂, subst, ◌∙◌, arith}
use Rattle.std.specs.List.{AllZip, AllByRecursion}
use Rattle.std.proofs.lemmas.List.{map-append, take_more}
use Rattle.lrp_core.specs.FreeVariables.{variable_of, with_variables, each_once}
use Rattle.lrp_core.specs.declared.core_forms.Core.{Core}
use Rattle.lrp_core.specs.declared.variables.Variable.{Variable as ProgramVariable}
use Rattle.lrp_model.specs.Formulas.{Form, test}
use Rattle.lrp_model.specs.Satisfaction.{Structure}
use Rattle.lrp_model.specs.Variables.{Variable, time_variable, data_variable, free, is_among}
use Rattle.lrp_model.specs.Steps.{Steps, step_after, join, leaf, formula_at}
use Rattle.lrp_model.specs.Periods.{test_periods}
use Rattle.lrp_model.specs.Conjunctions.{nothing_taken}
use Rattle.lrp_model.specs.declared.formulas.Test.{Test}
use Rattle.lrp_model.specs.declared.plans.StepKind.TheVariants.{Leaf}
use Rattle.lrp_model.specs.declared.relations.Relation.{Relation}
use Rattle.lrp_limits.specs.Multiples.{IsLeastWithinLimit}
use Rattle.lrp_limits.proofs.Keeping.{least_of_none}
use Rattle.lrp_theory.specs.Divides.{IsCommon}
use Rattle.lrp_plan_laws.specs.Projections.{PlanGround as Ground, drop_each, columns_at}
use Rattle.lrp_plan_laws.specs.GuardedConjunctions.{Standing, Elements as ElementsOf, any_value, bring_each, last_brought, missing, with_missing as brought, variables_left, drop_spent, standing_first, taken_first}
use Rattle.lrp_plan.specs.declared.drafts.PlannedOperand.{PlannedOperand}
use Rattle.lrp_plan.specs.Drafts.{IsPlannedOperand, AreTests}
use Rattle.lrp_plan.specs.Taking.{HaveSame}
use Rattle.lrp_plan.proofs.Members.{more_same}
use Rattle.lrp_plan.proofs.Takes.{operand_grows}
use Rattle.lrp_guarded.specs.Making.{IsMaking, MakesFrom, MakesTo, IsMadeTo}
use Rattle.lrp_guarded.specs.Standing.{AreElementsLeft as AreLeft, IsStandingOf as IsStanding, StandsInList as Stands, FollowsRule as Follows, AreElements, IsGuard, bringing}
use Rattle.lrp_guarded.specs.declared.elements.Elements.{Elements}
use Rattle.lrp_guarded.specs.declared.making.Making.{Making}
use Rattle.lrp_guarded.specs.declared.standing.Standing.{Standing as ProgramStanding}
use Rattle.lrp_guarded.proofs.Same.{same_all, same_once}
use Rattle.lrp_guarded.proofs.Steps.{DropsEach}
use Rattle.lrp_guarded.proofs.Stands.{filter_same}
use Rattle.lrp_guarded.proofs.OnceEach.{once_is}

-- ---- bringing

-- a step that all values of a variable pass is joined
abbrev pub bring_one : Structure → Variable → ℕ → Steps → Steps
bring_one M v result steps = join result [] M (leaf (any_value v) M steps)

last_bring_end : (M : Structure) (vs : List Variable) (of : ℕ) (steps : Steps) → of ≡ length steps → last_brought vs of (bring_each M vs of steps) ≡ length (bring_each M vs of steps)
last_bring_end M [] of steps e = e
last_bring_end M (v ∷ vs) of steps e = refl

each_bring_push : (M : Structure) (vs : List Variable) (v : Variable) (of : ℕ) (steps : Steps) → bring_each M (vs ++ v ∷ []) of steps ≡ bring_one M v (last_brought vs of (bring_each M vs of steps)) (bring_each M vs of steps)
each_bring_push M [] v of steps = refl
each_bring_push M (u ∷ vs) v of steps =
    let st : Steps = bring_one M u of steps in
    each_bring_push M vs v (length st) st ∙ ap (λ n. bring_one M v n (bring_each M vs (length st) st)) (last_bring_end M vs (length st) st refl)

last_bring_push : (vs : List Variable) (v : Variable) (of : ℕ) (steps : Steps) → last_brought (vs ++ v ∷ []) of steps ≡ length steps
last_bring_push [] v of steps = refl
last_bring_push (u ∷ vs) v of steps = refl

abbrev pub BringsEach : PlannedOperand → List Variable → Making → Making → PlannedOperand → Type 0
BringsEach of vs old new last = MakesTo of (λ over i. bring_each over.structure vs i) (λ over i steps. last_brought vs i (bring_each over.structure vs i steps)) old new last

pub brings_none : (of : PlannedOperand) (old : Making) → BringsEach of [] old old of
brings_none of old = record { follows = λ over K steps i m o. record { making = m; last = o } }

-- a test of any value names no period
any_period : (v : Variable) (K : ℕ) → IsCommon (test_periods (any_value v)) K
any_period (time_variable v) K = tt
any_period (data_variable v) K = tt

-- the step of any value was made
abbrev pub MakesAny : Test → Making → Making → Type 0
MakesAny t old new = (over : Ground) (K : ℕ) (steps : Steps) → IsCommon (test_periods t) K → IsMaking over K old steps → IsMaking over K new (leaf t over.structure steps)

brings_one : (of : PlannedOperand) (vs : List Variable) (v : Variable) (old mid any new : Making) (last : PlannedOperand) → BringsEach of vs old mid last → MakesAny (any_value v) mid any → MakesFrom last (λ over i. join i [] over.structure) any new → BringsEach of (vs ++ v ∷ []) old new new.draft.last
brings_one of vs v old mid any new last h t k = record {
  follows = λ over K steps i m o.
      let st : Steps = bring_each over.structure vs i steps in
      let n : ℕ = last_brought vs i st in
      let one = h.follows over K steps i m o in
      let there : IsMaking over K any (leaf (any_value v) over.structure st) = t over K st (any_period v K) one.making in
      let grown : IsPlannedOperand over.structure.relations K (leaf (any_value v) over.structure st) n last = operand_grows over.structure.relations K st (step_after over.structure (Leaf (any_value v)) (test (any_value v)) st ∷ []) n last one.last in
      let made : IsMaking over K new (bring_one over.structure v n st) = k.follows over K (leaf (any_value v) over.structure st) n there grown in
      let all : IsMaking over K new (bring_each over.structure (vs ++ v ∷ []) i steps) = subst (IsMaking over K new) (sym (each_bring_push over.structure vs v i steps)) made in
      record { making = all; last = subst (λ k. IsPlannedOperand over.structure.relations K (bring_each over.structure (vs ++ v ∷ []) i steps) k new.draft.last) (sym (last_bring_push vs v i (bring_each over.structure (vs ++ v ∷ []) i steps))) all.draft.last };
}

pub brings_more : (of : PlannedOperand) (all : List ProgramVariable) (i : ℕ) (x : ProgramVariable) (old mid any new : Making) (last : PlannedOperand) (t : Test) (ts : List Test) → i < length all → x ≡ get_or all i x → BringsEach of (map variable_of (take i all)) old mid last
    → t ≡ any_value (variable_of x) → MakesAny t mid any → ts ≡ [] → (AreTests ts → MakesFrom last (λ over j. join j ts over.structure) any new) → BringsEach of (map variable_of (take (i + 1) all)) old new new.draft.last
brings_more of all i x old mid any new last t ts lt is h e makes none joins =
    subst (λ vs. BringsEach of vs old new new.draft.last) (sym (map-append variable_of (take i all) (x ∷ [])) ∙ ap (map variable_of) (sym (take_more all i x lt ∙ ap (λ y. take i all ++ y ∷ []) (sym is))))
    (brings_one of (map variable_of (take i all)) (variable_of x) old mid any new last h (subst (λ u. MakesAny u mid any) e makes) (subst (λ us. AreTests us → MakesFrom last (λ over j. join j us over.structure) any new) none joins tt))

-- what a formula wants is brought
pub brings : (variables lacking grown : List ProgramVariable) (last : PlannedOperand) (before after : Making) (old : ProgramStanding) → old.some ≡ true → map variable_of lacking ≡ filter (λ v. not (is_among (map variable_of old.variables) v)) (map variable_of variables)
    → map variable_of grown ≡ with_variables (map variable_of old.variables) (map variable_of lacking) → BringsEach old.result (map variable_of lacking) before after last
    → (f : Form) → map variable_of variables ≡ each_once (free f) → Follows (bringing f) before after old (record { some = old.some; result = last; variables = grown; left = old.left; block = old.block })
brings variables lacking grown last before after old some lack grow h f is = record {
  follows = λ over K fs at s.
      let vs : List Variable = missing at.taken f in
      let e : map variable_of lacking ≡ vs = lack ∙ filter_same _ _ (λ v. ap not (s.standing.variables.each v)) (map variable_of variables) ∙ ap (filter (λ v. not (is_among at.taken.variables v))) (is ∙ once_is (free f)) in
      let one = (subst (λ us. BringsEach old.result us before after last) e h).follows over K at.steps at.taken.result s.making s.standing.result in
      let l = s.standing.left in
      let t : at.taken.some ≡ true = sym s.standing.some ∙ some in
      subst (λ b. Stands over K fs after (record { some = old.some; result = last; variables = grown; left = old.left; block = old.block }) (cond b (brought over.structure f at) at)) (sym t)
      (record {
        making = one.making;
        standing = record {
          some = some;
          result = one.last;
          variables = subst (λ us. HaveSame us (at.taken.variables ++ vs)) (sym (grow ∙ ap (with_variables (map variable_of old.variables)) e)) (more_same _ _ _ _ s.standing.variables (same_all vs));
          left = record { atoms = l.atoms; sorts = l.sorts; others = l.others; tests = l.tests; are_tests = l.are_tests; negations = l.negations };
          block = s.standing.block;
        };
      });
}

-- ---- dropping

-- those of the block that nothing has that is left, and the others
pub record IsSpent (left spent kept : List ProgramVariable) (block : List ProgramVariable) : Type 0 where
  pub spent_are : map variable_of spent ≡ filter (λ v. not (is_among (map variable_of left) v)) (map variable_of block)
  pub kept_are : map variable_of kept ≡ filter (is_among (map variable_of left)) (map variable_of block)

nothing : {X : Type 0} (xs : List X) → length xs ≡ 0 → xs ≡ []
nothing [] e = refl
nothing (x ∷ xs) e = absurd cc

-- spent variables of a block of these are dropped
abbrev pub dropped_of : Ground → Standing → List Variable → Standing
dropped_of over at vs =
    let after = drop_each over (filter (λ v. not (is_among (variables_left at) v)) vs) at.taken.result at.steps in
    record at { steps = after; taken = record { some = at.taken.some; result = length after; variables = at.taken.variables }; block = filter (is_among (variables_left at)) vs }

-- no step is read
pub reads_none : (relations : List Relation) (K : ℕ) (steps : Steps) (o : PlannedOperand) → o.number ≡ 0 → o.period.number ≡ 1 → o.reach ≡ 0 → IsPlannedOperand relations K steps 0 o
reads_none relations K steps o n p r = record { within = omega arith; number = n; period = subst (IsLeastWithinLimit []) (sym p) least_of_none; reach = r; divides = tt }

module _ (before after : Making) (old : ProgramStanding) where
  -- some were dropped, where there is a block
  pub drops_spent : (left spent kept : List ProgramVariable) (last : PlannedOperand) → ((over : Ground) (K : ℕ) (fs : List Core) (at : Standing) → AreLeft over K fs old.left at → HaveSame (map variable_of left) (variables_left at)) → IsSpent left spent kept old.block
      → DropsEach old.result (map variable_of spent) before after last → Follows drop_spent before after old (record { some = old.some; result = after.draft.last; variables = old.variables; left = old.left; block = kept })
  drops_spent left spent kept last same is h = record {
    follows = λ over K fs at s.
        let l = s.standing.left in
        let there = same over K fs at l in
        let e : map variable_of spent ≡ filter (λ v. not (is_among (variables_left at) v)) at.block = is.spent_are ∙ filter_same _ _ (λ v. ap not (there.each v)) (map variable_of old.block) ∙ ap (filter (λ v. not (is_among (variables_left at) v))) s.standing.block in
        let k : map variable_of kept ≡ filter (is_among (variables_left at)) at.block = is.kept_are ∙ filter_same _ _ there.each (map variable_of old.block) ∙ ap (filter (is_among (variables_left at))) s.standing.block in
        let one = (subst (λ us. DropsEach old.result us before after last) e h).follows over K at.steps at.taken.result s.making s.standing.result in
        record {
          making = one.making;
          standing = record {
            some = s.standing.some;
            result = one.making.draft.last;
            variables = s.standing.variables;
            left = record { atoms = l.atoms; sorts = l.sorts; others = l.others; tests = l.tests; are_tests = l.are_tests; negations = l.negations };
            block = k;
          };
        };
  }

  -- there is no block
  pub drops_nothing : length old.block ≡ 0 → after ≡ before → Follows drop_spent before after old (record { some = old.some; result = after.draft.last; variables = old.variables; left = old.left; block = old.block })
  drops_nothing none same = record {
    follows = λ over K fs at s.
        let l = s.standing.left in
        let b : at.block ≡ [] = sym s.standing.block ∙ ap (map variable_of) (nothing old.block none) in
        let r : Stands over K fs before (record { some = old.some; result = before.draft.last; variables = old.variables; left = old.left; block = old.block }) (record at { taken = record { some = at.taken.some; result = length at.steps; variables = at.taken.variables }; block = [] }) = record {
          making = s.making;
          standing = record {
            some = s.standing.some;
            result = s.making.draft.last;
            variables = s.standing.variables;
            left = record { atoms = l.atoms; sorts = l.sorts; others = l.others; tests = l.tests; are_tests = l.are_tests; negations = l.negations };
            block = s.standing.block ∙ b;
          };
        } in
        subst (λ m. Stands over K fs m (record { some = old.some; result = m.draft.last; variables = old.variables; left = old.left; block = old.block }) (drop_spent over at)) (sym same)
        (subst (λ vs. Stands over K fs before (record { some = old.some; result = before.draft.last; variables = old.variables; left = old.left; block = old.block }) (dropped_of over at vs)) (sym b) r);
  }

-- with the block that is kept then
pub drops_so : (before after : Making) (old mid : ProgramStanding) (made : Making) (kept : List ProgramVariable) → after ≡ made → mid ≡ record { some = old.some; result = old.result; variables = old.variables; left = old.left; block = kept }
    → Follows drop_spent before made old (record { some = old.some; result = made.draft.last; variables = old.variables; left = old.left; block = kept }) → Follows drop_spent before after old (record { some = mid.some; result = after.draft.last; variables = mid.variables; left = mid.left; block = mid.block })
drops_so before after old mid made kept e f h =
    subst (λ m. Follows drop_spent before m old (record { some = mid.some; result = m.draft.last; variables = mid.variables; left = mid.left; block = mid.block })) (sym e)
    (subst (λ p. Follows drop_spent before made old (record { some = p.some; result = made.draft.last; variables = p.variables; left = p.left; block = p.block })) (sym f) h)

pub nothing_left : (n m : ℕ) → n ≡ m → n ≤ 0 → m ≡ 0
nothing_left n m e le = omega arith

-- ---- where it begins

-- no guard
pub stands_alone_first : (some : Bool) (o : PlannedOperand) (variables : List ProgramVariable) (left : Elements) (block : List ProgramVariable) → some ≡ false → variables ≡ [] → ((relations : List Relation) (K : ℕ) (steps : Steps) → IsPlannedOperand relations K steps 0 o)
    → (over : Ground) (K : ℕ) (fs : List Core) (es : ElementsOf) (steps : Steps) (g : Option ℕ) → IsGuard over K steps None g → AreElements over K fs left es
    → IsStanding over K fs (record { some = some; result = o; variables = variables; left = left; block = block }) (standing_first over es (map variable_of block) g steps)
stands_alone_first some o variables left block e v p over K fs es steps (Some i) h a = absurd h
stands_alone_first some o variables left block e v p over K fs es steps None h a = record {
  some = e;
  result = p over.structure.relations K steps;
  variables = subst (λ us. HaveSame (map variable_of us) []) (sym v) (same_all []);
  left = record { atoms = a.atoms; sorts = a.sorts; others = a.others; tests = a.tests; are_tests = a.are_tests; negations = a.negations };
  block = refl;
}

-- under a guard
pub stands_under : (some : Bool) (o result : PlannedOperand) (variables columns none : List ProgramVariable) (left : Elements) (block : List ProgramVariable) (making : Making) → some ≡ true → result ≡ o → none ≡ [] → map variable_of variables ≡ with_variables (map variable_of none) (map variable_of columns)
    → ((over : Ground) (K : ℕ) (steps : Steps) (i : ℕ) → IsMaking over K making steps → IsPlannedOperand over.structure.relations K steps i o → map variable_of columns ≡ each_once (free (formula_at steps i)))
    → (over : Ground) (K : ℕ) (fs : List Core) (es : ElementsOf) (steps : Steps) (g : Option ℕ) → IsMaking over K making steps → IsGuard over K steps (Some o) g → AreElements over K fs left es
    → IsStanding over K fs (record { some = some; result = result; variables = variables; left = left; block = block }) (standing_first over es (map variable_of block) g steps)
stands_under some o result variables columns none left block making e r n v p over K fs es steps None m h a = absurd h
stands_under some o result variables columns none left block making e r n v p over K fs es steps (Some i) m h a = record {
  some = e;
  result = subst (IsPlannedOperand over.structure.relations K steps i) (sym r) h;
  variables = subst (λ us. HaveSame us (columns_at steps i)) (sym (v ∙ ap₂ with_variables (ap (map variable_of) n) (p over K steps i m h ∙ once_is (free (formula_at steps i))))) (more_same [] [] (columns_at steps i) (columns_at steps i) (same_all []) (same_all (columns_at steps i)));
  left = record { atoms = a.atoms; sorts = a.sorts; others = a.others; tests = a.tests; are_tests = a.are_tests; negations = a.negations };
  block = refl;
}
