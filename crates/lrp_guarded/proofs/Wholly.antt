-- The steps of an `and`, of a negation alone, and of an `or`.
use Rattle.std.proofs.Common.{◌≡◌, ◌+◌, ◌≤◌, ℕ, suc, Bool, true, false, cond, not, nat_eq, nat_lt, List, [], ◌∷◌, ◌++◌, length, take, get_or, map, reverse, Option, Some, None, Result, Ok, Err, refl, sym, ap, subst, ◌∙◌}
use Rattle.std.specs.List.{AllZip, AllByRecursion}
use Rattle.std.specs.Result.{OnOk, IfOk}
use Rattle.std.proofs.lemmas.List.{take_more}
use Rattle.lrp_core.specs.Cores.{core_of, cores_of}
use Rattle.lrp_core.specs.FreeVariables.{variable_of}
use Rattle.lrp_core.specs.declared.core_forms.Core.{Core}
use Rattle.lrp_core.specs.declared.variable_trees.VariableTree.{VariableTree}
use Rattle.lrp_core.specs.declared.variables.Variable.{Variable as ProgramVariable}
use Rattle.lrp_core.proofs.CoreViews.{cores_of-append}
use Rattle.lrp_theory.specs.Divides.{IsCommon}
use Rattle.lrp_model.specs.Core.{AreCore, IsCore}
use Rattle.lrp_model.specs.Periods.{periods, periods_each}
use Rattle.lrp_model.specs.Formulas.{Form, Forms, conjunction, disjunction, negation, form, no_forms, joined}
use Rattle.lrp_model.specs.Satisfaction.{Structure}
use Rattle.lrp_model.specs.Steps.{Steps, union}
use Rattle.lrp_model.specs.Variables.{Variable}
use Rattle.lrp_limits.proofs.Keeping.{common_both}
use Rattle.lrp_plan_laws.specs.Projections.{PlanGround as Ground, drop_each}
use Rattle.lrp_model.specs.Conjunctions.{is_covered}
use Rattle.lrp_plan_laws.specs.GuardedConjunctions.{GuardedPart as Part, Standing, Elements as ElementsOf, standing_first, begun, elements_left, next_choice, rounds, guarded_conjunction as conjunction_rule, or_else, chosen, a_negation}
use Rattle.lrp_plan_laws.specs.GuardedPlans.{build, member, further_members, disjunction_rule, members_in}
use Rattle.lrp_plan.specs.declared.drafts.PlannedOperand.{PlannedOperand}
use Rattle.lrp_plan.specs.Drafts.{IsPlannedOperand}
use Rattle.lrp_plan.specs.Elements.{AreInner, CanPlan, EachCanPlan}
use Rattle.lrp_plan.specs.Sources.{AreSources}
use Rattle.lrp_plan.proofs.Planned.{take_all_of}
use Rattle.lrp_plan.proofs.Turns.{zip_length}
use Rattle.lrp_guarded.specs.Making.{IsMaking, MakesFrom}
use Rattle.lrp_guarded.specs.Sorting.{entry_count as count_of}
use Rattle.lrp_guarded.specs.Standing.{IsAtom, IsSortElement, IsGuardedPart as IsPart, IsDeniedPart as IsDenied, AreElementsLeft as AreLeft, AreElements, IsStandingOf as IsStanding, StandsInList as Stands, FollowsRule as Follows, Builds, IsGuard, elements_in, turned_so_often}
use Rattle.lrp_guarded.specs.Building.{FollowsIn, BuildsElement, BuildsMember, UnitesMembers as Unites, part_of_form as part_of, element_step}
use Rattle.lrp_guarded.specs.declared.elements.Elements.{Elements}
use Rattle.lrp_guarded.specs.declared.making.Making.{Making}
use Rattle.lrp_guarded.specs.declared.standing.Standing.{Standing as ProgramStanding}
use Rattle.lrp_guarded.proofs.Growing.{Grows, grows_then, grows_made, grows_build, grows_member, grows_members, grows_disjunction}
use Rattle.lrp_guarded.proofs.Built.{operand_on}
use Rattle.lrp_guarded.proofs.Turning.{rounds_are}

-- ---- `and`

each_can : (M : Structure) (K : ℕ) (fs : List Core) → AreCore (cores_of fs) → IsCommon (periods_each (cores_of fs) M.relations) K → EachCanPlan M K fs
each_can M K [] c d = tt
each_can M K (f ∷ fs) c d =
    let b = (common_both (periods (core_of f) M.relations) (periods_each (cores_of fs) M.relations) K).0 d in
    (record { core = c.0; divides = b.0 }, each_can M K fs c.1 b.1)

-- as many elements are left
pub counts : (over : Ground) (K : ℕ) (fs : List Core) (left : Elements) (at : Standing) → AreLeft over K fs left at → count_of left ≡ elements_left at
counts over K fs left at h =
    ap (λ n. n + (length left.sorts.items + (length left.others.items + (length left.tests + length left.negations.items)))) (zip_length (IsAtom over K) left.atoms.items at.atoms h.atoms)
    ∙ ap (λ n. length at.atoms + (n + (length left.others.items + (length left.tests + length left.negations.items)))) (zip_length IsSortElement left.sorts.items at.sorts h.sorts)
    ∙ ap (λ n. length at.atoms + (length at.sorts + (n + (length left.tests + length left.negations.items)))) (zip_length (IsPart over K fs) left.others.items at.others h.others)
    ∙ ap (λ n. length at.atoms + (length at.sorts + (length at.others + (n + length left.negations.items)))) (ap length h.tests)
    ∙ ap (λ n. length at.atoms + (length at.sorts + (length at.others + (length at.tests + n)))) (zip_length (IsDenied over K fs) left.negations.items at.negations h.negations)

-- what making the place promises
abbrev pub StartsAt : Making → Elements → List Variable → Option PlannedOperand → ProgramStanding → Type 0
StartsAt making left block guard made = (over : Ground) (K : ℕ) (fs : List Core) (es : ElementsOf) (steps : Steps) (g : Option ℕ) → IsMaking over K making steps → IsGuard over K steps guard g → AreElements over K fs left es → IsStanding over K fs made (standing_first over es block g steps)

pub all_built : {T E : Type 0} (r : Result T E) (trees : List VariableTree) (fs : List Core) (block given end : List ProgramVariable) (guard own : Option PlannedOperand) (old begin each new : Making) (left : Elements) (first second third : ProgramStanding) (count : ℕ) (result : PlannedOperand)
    → given ≡ block → own ≡ guard
    → ((over : Ground) (K : ℕ) → AreSources over.structure old.sources.now → AreInner trees (conjunction (cores_of fs)) → EachCanPlan over.structure K fs → AreElements over K fs left (elements_in (cores_of fs)))
    → StartsAt old left (map variable_of given) own first → Follows begun old begin first second → count ≡ count_of second.left → FollowsIn fs (λ over at. turned_so_often over count at) begin each second third
    → result ≡ third.result → end ≡ third.block → OnOk r (MakesFrom result (λ over i. drop_each over (reverse (map variable_of end)) i) each new)
    → OnOk r (AreInner trees (conjunction (cores_of fs)) → Builds (conjunction (cores_of fs)) (map variable_of block) guard old new)
all_built (Ok x) trees fs block given end guard own old begin each new left first second third count result eb eg elements starts begins counted turns er ee drops = λ known. record {
  follows = λ over K steps g can m is.
      let es : ElementsOf = elements_in (cores_of fs) in
      let vs : List Variable = map variable_of block in
      let at0 : Standing = standing_first over es vs g steps in
      let at1 : Standing = begun over at0 in
      let at2 : Standing = turned_so_often over (elements_left at1) at1 in
      let s0 : Stands over K fs old first at0 = record {
        making = m;
        standing = subst (λ us. IsStanding over K fs first (standing_first over es us g steps)) (ap (map variable_of) eb) (starts over K fs es steps g m (subst (λ o. IsGuard over K steps o g) (sym eg) is) (elements over K m.sources known (each_can over.structure K fs can.core.1 can.divides)));
      } in
      let s1 : Stands over K fs begin second at1 = begins.follows over K fs at0 s0 in
      let n : count ≡ elements_left at1 = counted ∙ counts over K fs second.left at1 s1.standing.left in
      let s2 : Stands over K fs each third at2 = subst (λ k. Stands over K fs each third (turned_so_often over k at1)) n (turns.follows over K at1 s1) in
      let d : IsMaking over K new (drop_each over (reverse (map variable_of end)) at2.taken.result at2.steps) = drops.follows over K at2.steps at2.taken.result s2.making (subst (λ o. IsPlannedOperand over.structure.relations K at2.steps at2.taken.result o) (sym er) s2.standing.result) in
      let e : IsMaking over K new (drop_each over (reverse at2.block) at2.taken.result at2.steps) = subst (λ us. IsMaking over K new (drop_each over (reverse us) at2.taken.result at2.steps)) (ap (map variable_of) ee ∙ s2.standing.block) d in
      subst (λ z. IsMaking over K new (drop_each over (reverse z.block) z.taken.result z.steps)) (sym (rounds_are over (elements_left at1) at1)) e;
}
all_built (Err x) trees fs block given end guard own old begin each new left first second third count result eb eg elements starts begins counted turns er ee drops = tt

-- ---- a negation alone

-- no elements but what is denied
abbrev pub none_left : ElementsOf
none_left = record { atoms = []; sorts = []; others = []; tests = []; negations = [] }

first_by : (b : Bool) → or_else (chosen a_negation (cond (nat_lt (cond (not b) (1 + 0) 0) 1) (Some (cond (not b) (1 + 0) 0)) None)) (Some (a_negation 0)) ≡ Some (a_negation 0)
first_by true = refl
first_by false = refl

-- the steps at the end of an `and`
abbrev ended : Ground → Standing → Steps
ended over at = drop_each over (reverse at.block) at.taken.result at.steps

-- the steps of an `and` of the negation alone
denial_is : (f : Form) (over : Ground) (g : Option ℕ) (steps : Steps) → build (negation f) [] over g steps ≡ (element_step false (part_of f) over (standing_first over none_left [] g steps)).steps
denial_is f over None steps = refl
denial_is f over (Some i) steps =
    let first : Standing = begun over (standing_first over (record { atoms = []; sorts = []; others = []; tests = []; negations = part_of f ∷ [] }) [] (Some i) steps) in
    ap (λ o. ended over (rounds over 1 o first)) (first_by (is_covered first.taken f))

none_elements : (over : Ground) (K : ℕ) (left : Elements) → left.atoms.items ≡ [] → left.sorts.items ≡ [] → left.others.items ≡ [] → left.tests ≡ [] → left.negations.items ≡ [] → AreElements over K [] left none_left
none_elements over K left a s o t n = record {
  atoms = subst (λ xs. AllZip (IsAtom over K) xs []) (sym a) tt;
  sorts = subst (λ xs. AllZip IsSortElement xs []) (sym s) tt;
  others = subst (λ xs. AllZip (IsPart over K []) xs []) (sym o) tt;
  tests = t;
  are_tests = tt;
  negations = subst (λ xs. AllZip (IsDenied over K []) xs []) (sym n) tt;
}

pub alone_built : {T E : Type 0} (r : Result T E) (f : Form) (none : List ProgramVariable) (guard : Option PlannedOperand) (old new : Making) (left : Elements) (first second : ProgramStanding) → none ≡ [] → left.atoms.items ≡ [] → left.sorts.items ≡ [] → left.others.items ≡ [] → left.tests ≡ [] → left.negations.items ≡ []
    → StartsAt old left (map variable_of none) guard first → OnOk r (BuildsElement false f old new first second) → OnOk r (Builds (negation f) [] guard old new)
alone_built (Ok x) f none guard old new left first second e a s o t n starts h = record {
  follows = λ over K steps g can m is.
      let at : Standing = standing_first over none_left [] g steps in
      let st : Stands over K [] old first at = record { making = m; standing = subst (λ us. IsStanding over K [] first (standing_first over none_left us g steps)) (ap (map variable_of) e) (starts over K [] none_left steps g m is (none_elements over K left a s o t n)) } in
      subst (IsMaking over K new) (sym (denial_is f over g steps)) (h.follows over K [] at (record { core = can.core; divides = can.divides }) st).making;
}
alone_built (Err x) f none guard old new left first second e a s o t n starts h = tt

-- ---- `or`

-- core forms whose periods divide K
pub record AllCan (M : Structure) (K : ℕ) (fs : Forms) : Type 0 where
  pub cores : AreCore fs
  pub divide : IsCommon (periods_each fs M.relations) K

-- the members so far, and the step that the next one is united with
pub record MembersSoFar (fs : Forms) (guard : Option PlannedOperand) (old now : Making) (left : Option PlannedOperand) : Type 0 where
  pub follows : (over : Ground) (K : ℕ) (steps : Steps) (g : Option ℕ) → AllCan over.structure K fs → IsMaking over K old steps → IsGuard over K steps guard g → IsMaking over K now (disjunction_rule (members_in fs) over g steps)
  pub first : left ≡ None → (fs ≡ no_forms) × (now ≡ old)
  pub last : (o : PlannedOperand) → left ≡ Some o → (now.draft.last ≡ o) × (fs ≡ no_forms → ⊥)

pub none_so_far : (guard : Option PlannedOperand) (old : Making) → MembersSoFar no_forms guard old old None
none_so_far guard old = record { follows = λ over K steps g c m is. m; first = λ e. (refl, refl); last = λ o e. cc }

others_push : (fs : Forms) (f : Form) (over : Ground) (g : Option ℕ) (steps : Steps) → further_members (members_in (joined fs (form f no_forms))) over g steps ≡ union (length (further_members (members_in fs) over g steps)) over.structure (member (part_of f) over g (further_members (members_in fs) over g steps))
others_push no_forms f over g steps = refl
others_push (form h fs) f over g steps = others_push fs f over g (union (length steps) over.structure (member (part_of h) over g steps))

some_push : (fs : Forms) (f : Form) (over : Ground) (g : Option ℕ) (steps : Steps) → (fs ≡ no_forms → ⊥) → disjunction_rule (members_in (joined fs (form f no_forms))) over g steps ≡ union (length (disjunction_rule (members_in fs) over g steps)) over.structure (member (part_of f) over g (disjunction_rule (members_in fs) over g steps))
some_push no_forms f over g steps n = absurd (n refl)
some_push (form h fs) f over g steps n = others_push fs f over g (member (part_of h) over g steps)

cores_split : (fs : Forms) (f : Form) → AreCore (joined fs (form f no_forms)) → AreCore fs × IsCore f
cores_split no_forms f c = (tt, c.0)
cores_split (form g fs) f c = let r = cores_split fs f c.1 in ((c.0, r.0), r.1)

periods_split : (fs : Forms) (f : Form) (M : Structure) (K : ℕ) → IsCommon (periods_each (joined fs (form f no_forms)) M.relations) K → IsCommon (periods_each fs M.relations) K × IsCommon (periods f M.relations) K
periods_split no_forms f M K c = (tt, ((common_both (periods f M.relations) [] K).0 c).0)
periods_split (form g fs) f M K c =
    let a = (common_both (periods g M.relations) (periods_each (joined fs (form f no_forms)) M.relations) K).0 c in
    let r = periods_split fs f M K a.1 in
    ((common_both (periods g M.relations) (periods_each fs M.relations) K).1 (a.0, r.0), r.1)

can_split : (fs : Forms) (f : Form) (M : Structure) (K : ℕ) → AllCan M K (joined fs (form f no_forms)) → AllCan M K fs × CanPlan M K f
can_split fs f M K c = let a = cores_split fs f c.cores in let b = periods_split fs f M K c.divide in (record { cores = a.0; divide = b.0 }, record { core = a.1; divides = b.1 })

guard_on : (over : Ground) (K : ℕ) (a b : Steps) (guard : Option PlannedOperand) (g : Option ℕ) → Grows a b → IsGuard over K a guard g → IsGuard over K b guard g
guard_on over K a b None None gr h = tt
guard_on over K a b None (Some i) gr h = absurd h
guard_on over K a b (Some o) None gr h = absurd h
guard_on over K a b (Some o) (Some i) gr h = operand_on over.structure.relations K a b i o gr h

-- the first member
first_one : (fs : Forms) (f : Form) (guard : Option PlannedOperand) (old now mid new : Making) → MembersSoFar fs guard old now None → BuildsMember f guard now mid → new ≡ mid → MembersSoFar (joined fs (form f no_forms)) guard old new (Some new.draft.last)
first_one fs f guard old now mid new h builds same =
    let e : fs ≡ no_forms = (h.first refl).0 in
    let n : now ≡ old = (h.first refl).1 in
    subst (λ gs. MembersSoFar (joined gs (form f no_forms)) guard old new (Some new.draft.last)) (sym e) (record {
      follows = λ over K steps g c m is. subst (λ x. IsMaking over K x (member (part_of f) over g steps)) (sym same) (builds.follows over K steps g (record { core = c.cores.0; divides = ((common_both (periods f over.structure.relations) [] K).0 c.divide).0 }) (subst (λ x. IsMaking over K x steps) (sym n) m) is);
      first = λ x. cc;
      last = λ o x. (let y : new.draft.last ≡ o = cc in y, λ x'. cc);
    })

joined_some : (fs : Forms) (f : Form) → joined fs (form f no_forms) ≡ no_forms → ⊥
joined_some no_forms f e = cc
joined_some (form g gs) f e = cc

-- a further one
next_one : (fs : Forms) (f : Form) (guard : Option PlannedOperand) (old now mid new : Making) (o : PlannedOperand) → MembersSoFar fs guard old now (Some o) → BuildsMember f guard now mid → MakesFrom o (λ over i. union i over.structure) mid new → MembersSoFar (joined fs (form f no_forms)) guard old new (Some new.draft.last)
next_one fs f guard old now mid new o h builds unites =
    let l = h.last o refl in record {
      follows = λ over K steps g c m is.
          let a = can_split fs f over.structure K c in
          let before : Steps = disjunction_rule (members_in fs) over g steps in
          let m1 : IsMaking over K now before = h.follows over K steps g a.0 m is in
          let gs : Grows steps before = grows_disjunction (members_in fs) (grows_members fs) over g steps in
          let after : Steps = member (part_of f) over g before in
          let m2 : IsMaking over K mid after = builds.follows over K before g a.1 m1 (guard_on over K steps before guard g gs is) in
          let p : IsPlannedOperand over.structure.relations K before (length before) o = subst (IsPlannedOperand over.structure.relations K before (length before)) l.0 m1.draft.last in
          let q : IsPlannedOperand over.structure.relations K after (length before) o = operand_on over.structure.relations K before after (length before) o (grows_member (part_of f) (grows_build f []) over g before) p in
          subst (IsMaking over K new) (sym (some_push fs f over g steps l.1)) (unites.follows over K after (length before) m2 q);
      first = λ x. cc;
      last = λ p x. (let y : new.draft.last ≡ p = cc in y, joined_some fs f);
    }

pub one_more_member : (fs : List Core) (i : ℕ) (core : Core) (guard : Option PlannedOperand) (old now mid new : Making) (left : Option PlannedOperand) → suc i ≤ length fs → core ≡ get_or fs i core → MembersSoFar (cores_of (take i fs)) guard old now left
    → BuildsMember (core_of core) guard now mid → Unites left mid new → MembersSoFar (cores_of (take (i + 1) fs)) guard old new (Some new.draft.last)
one_more_member fs i core guard old now mid new left lt is h builds u =
    subst (λ gs. MembersSoFar gs guard old new (Some new.draft.last)) (sym (ap cores_of (take_more fs i core lt ∙ ap (λ x. take i fs ++ x ∷ []) (sym is)) ∙ cores_of-append (take i fs) (core ∷ []))) (by_left left h u)
  where
    by_left : (left : Option PlannedOperand) → MembersSoFar (cores_of (take i fs)) guard old now left → Unites left mid new → MembersSoFar (joined (cores_of (take i fs)) (form (core_of core) no_forms)) guard old new (Some new.draft.last)
    by_left None h u = first_one (cores_of (take i fs)) (core_of core) guard old now mid new h builds (u.none refl)
    by_left (Some o) h u = next_one (cores_of (take i fs)) (core_of core) guard old now mid new o h builds (u.some o refl)

pub members_built : (trees : List VariableTree) (fs : List Core) (i : ℕ) (guard left : Option PlannedOperand) (old now : Making) → length fs ≤ i → (AreInner trees (disjunction (cores_of fs)) → MembersSoFar (cores_of (take i fs)) guard old now left) → AreInner trees (disjunction (cores_of fs)) → Builds (disjunction (cores_of fs)) [] guard old now
members_built trees fs i guard left old now le h known = record {
  follows = λ over K steps g can m is. (subst (λ xs. MembersSoFar (cores_of xs) guard old now left) (take_all_of fs i le) (h known)).follows over K steps g (record { cores = can.core.1; divide = can.divides }) m is;
}
