-- An element whose steps were made under the result so far.
use Rattle.std.proofs.Common.{◌≡◌, ◌==◌, ℕ, Bool, true, false, cond, not, ◌&&◌, nat_eq, List, [], ◌++◌, map, Option, Some, None, Result, Ok, Err, slice_get, remove, refl, sym, ap, subst, ◌∙◌}
use Rattle.std.specs.Result.{OnOk}
use Rattle.lrp_core.specs.FreeVariables.{variable_of, each_once}
use Rattle.lrp_core.specs.VariableTrees.{tree_of, free_tree}
use Rattle.lrp_core.specs.declared.variable_trees.VariableTree.{VariableTree}
use Rattle.lrp_core.specs.declared.variable_trees.VariableTree.TheViews.{out-VariableTree}
use Rattle.lrp_core.proofs.TreeViews.{tree_of-opened, tree_variables, inner_known}
use Rattle.lrp_core.specs.declared.core_forms.Core.{Core}
use Rattle.lrp_core.specs.declared.variables.Variable.{Variable as ProgramVariable}
use Rattle.lrp_model.specs.Formulas.{Form}
use Rattle.lrp_model.specs.Variables.{Variable, free}
use Rattle.lrp_model.specs.Steps.{Steps}
use Rattle.lrp_model.specs.Conjunctions.{Taken}
use Rattle.lrp_plan_laws.specs.Projections.{PlanGround as Ground, project, projected}
use Rattle.lrp_plan_laws.specs.GuardedConjunctions.{GuardedPart as Part, Standing, has_guard, under, part_steps, is_whole_guard, go_on_from, take_up}
use Rattle.lrp_plan_laws.specs.GuardedPlans.{build}
use Rattle.lrp_plan.specs.declared.drafts.PlannedOperand.{PlannedOperand}
use Rattle.lrp_plan.specs.Elements.{AreInner, CanPlan}
use Rattle.lrp_plan.specs.Taking.{HaveSame}
use Rattle.lrp_guarded.specs.Making.{IsMaking}
use Rattle.lrp_guarded.specs.Standing.{AreElementsLeft as AreLeft, IsStandingOf as IsStanding, StandsInList as Stands, FollowsRule as Follows, Builds, IsGuard, taking_up, subtracting as taking_off}
use Rattle.lrp_guarded.specs.Building.{BuildsElement, BuildsMember, Guards, OwnGuard, JoinsGuard, is_positive, part_of_form as part_of, prepared, element_step, project_for, projected_for, is_wanted, is_this}
use Rattle.lrp_guarded.specs.declared.making.Making.{Making}
use Rattle.lrp_guarded.specs.declared.standing.Standing.{Standing as ProgramStanding}
use Rattle.lrp_guarded.proofs.Growing.{Grows, grows_build, grows_part}
use Rattle.lrp_guarded.proofs.Built.{operand_on, eq_is, member_built}
use Rattle.lrp_guarded.proofs.Same.{same_once}
use Rattle.lrp_guarded.specs.declared.builder.Role.{Role}
use Rattle.lrp_guarded.specs.declared.builder.Role.TheVariants.{Positive, Negation}

-- the same elements are left where the steps are others
pub left_there : (over : Ground) (K : ℕ) (fs : List Core) (place : ProgramStanding) (at : Standing) (steps : Steps) → AreLeft over K fs place.left at → AreLeft over K fs place.left (record at { steps = steps })
left_there over K fs place at steps h = record { atoms = h.atoms; sorts = h.sorts; others = h.others; tests = h.tests; are_tests = h.are_tests; negations = h.negations }

-- the place stands as further steps are made
pub stands_there : (over : Ground) (K : ℕ) (fs : List Core) (place : ProgramStanding) (at : Standing) (steps : Steps) → Grows at.steps steps → IsStanding over K fs place at → IsStanding over K fs place (record at { steps = steps })
stands_there over K fs place at steps g h = record {
  some = h.some;
  result = operand_on over.structure.relations K at.steps steps at.taken.result place.result g h.result;
  variables = h.variables;
  left = left_there over K fs place at steps h.left;
  block = h.block;
}

-- the steps under the guard, or under none
part_by : (over : Ground) (taken : Taken) (f : Form) (steps : Steps) (w : Bool) → build f [] over (projected_for w f over taken.result steps) (project_for w f over taken.result steps) ≡ cond w (under over taken (part_of f) steps) (build f [] over None steps)
part_by over taken f steps true = refl
part_by over taken f steps false = refl

-- the guard is the result so far itself
whole_by : (over : Ground) (K : ℕ) (taken : Taken) (f : Form) (steps : Steps) (w : Bool) (guard x : Option PlannedOperand) (result : PlannedOperand) → guard ≡ x → result.number ≡ taken.result → IsGuard over K (project_for w f over taken.result steps) x (projected_for w f over taken.result steps) → is_this guard result ≡ (w && nat_eq (projected over (free f) taken.result steps) taken.result)
whole_by over K taken f steps true guard None result e n h = absurd h
whole_by over K taken f steps true guard (Some p) result e n h = ap (λ g. is_this g result) e ∙ sym (eq_is p.number result.number (projected over (free f) taken.result steps) taken.result (p.number == result.number) h.number n refl)
whole_by over K taken f steps false guard None result e n h = ap (λ g. is_this g result) e
whole_by over K taken f steps false guard (Some p) result e n h = absurd h

cond_not : {X : Type 0} (b : Bool) (x y : X) → cond (not b) x y ≡ cond b y x
cond_not true x y = refl
cond_not false x y = refl

module _ (f : Form) (m1 m2 m3 : Making) (s1 : ProgramStanding) (guard given : Option PlannedOperand) (variables : List ProgramVariable) where
  -- the steps were made, and the place stands
  made_under : HaveSame (map variable_of variables) (free f) → (HaveSame (map variable_of variables) (free f) → Guards s1.some s1.result f m1 m2 guard) → given ≡ guard → Builds f [] given m2 m3
      → (over : Ground) (K : ℕ) (fs : List Core) (at : Standing) → CanPlan over.structure K f → Stands over K fs m1 s1 at
      → Stands over K fs m3 s1 (record at { steps = part_steps over at.taken (part_of f) at.steps }) × (is_this guard s1.result ≡ is_whole_guard over at.taken at.steps f)
  made_under same guards e builds over K fs at can st =
      let w : Bool = is_wanted s1.some f at.steps at.taken.result in
      let has : has_guard at.taken at.steps f ≡ w = ap (λ b. is_wanted b f at.steps at.taken.result) (sym st.standing.some) in
      let two = (guards same).follows over K at.steps at.taken.result st.making st.standing.result in
      let built : IsMaking over K m3 (build f [] over (projected_for w f over at.taken.result at.steps) (project_for w f over at.taken.result at.steps)) =
      builds.follows over K (project_for w f over at.taken.result at.steps) (projected_for w f over at.taken.result at.steps) can two.0 (subst (λ g. IsGuard over K (project_for w f over at.taken.result at.steps) g (projected_for w f over at.taken.result at.steps)) (sym e) two.1) in
      let steps : Steps = part_steps over at.taken (part_of f) at.steps in
      let is : build f [] over (projected_for w f over at.taken.result at.steps) (project_for w f over at.taken.result at.steps) ≡ steps =
      part_by over at.taken f at.steps w ∙ ap (λ b. cond b (under over at.taken (part_of f) at.steps) (build f [] over None at.steps)) (sym has) in (
        record { making = subst (IsMaking over K m3) is built; standing = stands_there over K fs s1 at steps (grows_part over at.taken (part_of f) at.steps (grows_build f [])) st.standing },
        whole_by over K at.taken f at.steps w guard guard s1.result refl st.standing.result.number two.1 ∙ ap (λ b. b && nat_eq (projected over (free f) at.taken.result at.steps) at.taken.result) (sym has),
      )

  -- a positive
  pub positive_built : (before after : Making) (old new : ProgramStanding) (joined : Bool) → Follows (prepared true f) before m1 old s1 → joined ≡ not (is_this guard s1.result) → HaveSame (map variable_of variables) (free f) → (HaveSame (map variable_of variables) (free f) → Guards s1.some s1.result f m1 m2 guard) → given ≡ guard → Builds f [] given m2 m3
      → ((vs : List Variable) → HaveSame (map variable_of variables) vs → Follows (taking_up joined vs) m3 after s1 new) → BuildsElement true f before after old new
  positive_built before after old new joined prep j same guards g builds up = record {
    follows = λ over K fs at can st.
        let two = made_under same guards g builds over K fs at can (prep.follows over K fs at st) in
        let steps : Steps = part_steps over at.taken (part_of f) at.steps in
        let end = (up (free f) same).follows over K fs (record at { steps = steps }) two.0 in
        subst (Stands over K fs after new) (ap (λ b. cond b (take_up over.structure (free f) steps at) (go_on_from over.structure (free f) steps at)) (j ∙ ap not two.1) ∙ cond_not (is_whole_guard over at.taken at.steps f) _ _) end;
  }

  -- the formula of a negation
  pub negative_built : (before after : Making) (old new : ProgramStanding) → Follows (prepared false f) before m1 old s1 → HaveSame (map variable_of variables) (free f) → (HaveSame (map variable_of variables) (free f) → Guards s1.some s1.result f m1 m2 guard) → given ≡ guard → Builds f [] given m2 m3
      → ((vs : List Variable) → HaveSame (map variable_of variables) vs → Follows (taking_off vs) m3 after s1 new) → BuildsElement false f before after old new
  negative_built before after old new prep same guards g builds off = record {
    follows = λ over K fs at can st.
        let at1 : Standing = prepared false f over at in
        let two = made_under same guards g builds over K fs at1 can (prep.follows over K fs at st) in
        (off (free f) same).follows over K fs (record at1 { steps = part_steps over at1.taken (part_of f) at1.steps }) two.0;
  }

-- ---- from calls

module _ (f : Form) (tree : VariableTree) (role : Role) (m1 m2 m3 before after : Making) (s1 old new : ProgramStanding) (guard given : Option PlannedOperand) (variables block : List ProgramVariable) (inner : List VariableTree) where
  pub positive_made : {T E : Type 0} (r : Result T E) (this : Bool) → role ≡ Positive → variables ≡ (out-VariableTree tree).variables → inner ≡ (out-VariableTree tree).inner.items → ((g : Form) → map variable_of variables ≡ each_once (free g) → Follows (prepared (is_positive role) g) before m1 old s1)
      → (HaveSame (map variable_of variables) (free f) → Guards s1.some s1.result f m1 m2 guard) → given ≡ guard → block ≡ [] → (AreInner inner f → Builds f (map variable_of block) given m2 m3) → this ≡ is_this guard s1.result
      → OnOk r ((vs : List Variable) → HaveSame (map variable_of variables) vs → Follows (taking_up (not this) vs) m3 after s1 new) → OnOk r (tree_of tree ≡ free_tree f → BuildsElement (is_positive role) f before after old new)
  positive_made (Ok x) this e ev ei prep guards g b builds t up = λ known.
      let once : map variable_of variables ≡ each_once (free f) = ap (map variable_of) ev ∙ tree_variables _ _ _ _ (sym (tree_of-opened tree) ∙ known) in
      let same : HaveSame (map variable_of variables) (free f) = same_once (map variable_of variables) (free f) once in
      let made : Builds f [] given m2 m3 = subst (λ vs. Builds f (map variable_of vs) given m2 m3) b (builds (subst (λ ts. AreInner ts f) (sym ei) (inner_known tree f known))) in
      subst (λ p. BuildsElement p f before after old new) (sym (ap is_positive e))
      (positive_built f m1 m2 m3 s1 guard given variables before after old new (not this) (subst (λ p. Follows (prepared p f) before m1 old s1) (ap is_positive e) (prep f once)) (ap not t) same guards g made up)
  positive_made (Err x) this e ev ei prep guards g b builds t up = tt

  pub negative_made : {T E : Type 0} (r : Result T E) → role ≡ Negation → variables ≡ (out-VariableTree tree).variables → inner ≡ (out-VariableTree tree).inner.items → ((g : Form) → map variable_of variables ≡ each_once (free g) → Follows (prepared (is_positive role) g) before m1 old s1)
      → (HaveSame (map variable_of variables) (free f) → Guards s1.some s1.result f m1 m2 guard) → given ≡ guard → block ≡ [] → (AreInner inner f → Builds f (map variable_of block) given m2 m3)
      → OnOk r ((vs : List Variable) → HaveSame (map variable_of variables) vs → Follows (taking_off vs) m3 after s1 new) → OnOk r (tree_of tree ≡ free_tree f → BuildsElement (is_positive role) f before after old new)
  negative_made (Ok x) e ev ei prep guards g b builds off = λ known.
      let once : map variable_of variables ≡ each_once (free f) = ap (map variable_of) ev ∙ tree_variables _ _ _ _ (sym (tree_of-opened tree) ∙ known) in
      let same : HaveSame (map variable_of variables) (free f) = same_once (map variable_of variables) (free f) once in
      let made : Builds f [] given m2 m3 = subst (λ vs. Builds f (map variable_of vs) given m2 m3) b (builds (subst (λ ts. AreInner ts f) (sym ei) (inner_known tree f known))) in
      subst (λ p. BuildsElement p f before after old new) (sym (ap is_positive e))
      (negative_built f m1 m2 m3 s1 guard given variables before after old new (subst (λ p. Follows (prepared p f) before m1 old s1) (ap is_positive e) (prep f once)) same guards g made off)
  negative_made (Err x) e ev ei prep guards g b builds off = tt

-- a member of an `or`
pub member_made : {T E : Type 0} (r : Result T E) (f : Form) (tree : VariableTree) (old mid made new : Making) (guard own given : Option PlannedOperand) (variables block : List ProgramVariable) (inner : List VariableTree) → variables ≡ (out-VariableTree tree).variables → inner ≡ (out-VariableTree tree).inner.items
    → (HaveSame (map variable_of variables) (free f) → OwnGuard f guard old mid own) → given ≡ own → block ≡ [] → (AreInner inner f → Builds f (map variable_of block) given mid made) → OnOk r (JoinsGuard guard own made new) → OnOk r (tree_of tree ≡ free_tree f → BuildsMember f guard old new)
member_made (Ok x) f tree old mid made new guard own given variables block inner ev ei owns g b builds j = λ known.
    let once : map variable_of variables ≡ each_once (free f) = ap (map variable_of) ev ∙ tree_variables _ _ _ _ (sym (tree_of-opened tree) ∙ known) in
    let m : Builds f [] own mid made = subst (λ o. Builds f [] o mid made) g (subst (λ vs. Builds f (map variable_of vs) given mid made) b (builds (subst (λ ts. AreInner ts f) (sym ei) (inner_known tree f known)))) in
    member_built f old mid made new guard own (owns (same_once (map variable_of variables) (free f) once)) m j
member_made (Err x) f tree old mid made new guard own given variables block inner ev ei owns g b builds j = tt
