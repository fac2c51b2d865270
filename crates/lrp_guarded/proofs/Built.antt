-- The steps of core forms under guards, from those of their parts.
use Rattle.std.proofs.Common.{◌≡◌, ◌<◌, ◌≤◌, ◌==◌, ℕ, zero, suc, Bool, true, false, cond, not, ◌&&◌, nat_eq, List, [], ◌∷◌, ◌++◌, length, map, reverse, Option, Some, None, Result, Ok, Err, refl, sym, ap, subst, ◌∙◌, arith}
use Rattle.std.specs.Result.{OnOk, IfOk}
use Rattle.std.proofs.lemmas.Bool.{false≢true}
use Rattle.lrp_core.specs.declared.variable_trees.VariableTree.{VariableTree}
use Rattle.lrp_model.specs.Texts.{Identifier}
use Rattle.lrp_model.specs.Formulas.{Form, Forms, atom, test, sorted, negation, conjunction, disjunction, implication, exists, forall, no_forms, form}
use Rattle.lrp_model.specs.Plans.{plan_of}
use Rattle.lrp_model.specs.Satisfaction.{Structure}
use Rattle.lrp_model.specs.Steps.{Steps, formula_at, join, leaf}
use Rattle.lrp_model.specs.Conjunctions.{is_test}
use Rattle.lrp_model.specs.Variables.{Variable, bound_by, free, are_among, variables_of_test}
use Rattle.lrp_model.specs.declared.relations.Relation.{Relation}
use Rattle.lrp_model.specs.declared.relations.Sort.{Sort}
use Rattle.lrp_model.specs.declared.formulas.Test.{Test}
use Rattle.lrp_plan_laws.specs.Binding.{is_leaf, is_guarded_by}
use Rattle.lrp_plan_laws.specs.Projections.{PlanGround as Ground, drop_each, project, projected}
use Rattle.lrp_plan_laws.specs.GuardedConjunctions.{GuardedPart as Part, select_from}
use Rattle.lrp_plan_laws.specs.GuardedPlans.{build, member, member_under, leaf_under}
use Rattle.lrp_plan.specs.declared.drafts.PlannedOperand.{PlannedOperand}
use Rattle.lrp_plan.specs.Drafts.{IsPlannedOperand, AreTests}
use Rattle.lrp_plan.specs.Elements.{AreInner, CanPlan}
use Rattle.lrp_plan.proofs.Takes.{operand_grows}
use Rattle.lrp_guarded.specs.Making.{IsMaking, MakesFrom, MakesTo}
use Rattle.lrp_guarded.specs.Standing.{Builds, IsGuard}
use Rattle.lrp_guarded.specs.Building.{BuildsMember, OwnGuard, own_steps, own_number, JoinsGuard, part_of_form as part_of, project_for, projected_for, is_this, selected_test}
use Rattle.lrp_guarded.specs.declared.making.Making.{Making}
use Rattle.lrp_guarded.proofs.Growing.{Grows, grows_made, grows_build, grows_project}

-- a step that was made is there once there are more
pub operand_on : (db : List Relation) (K : ℕ) (a b : Steps) (i : ℕ) (o : PlannedOperand) → Grows a b → IsPlannedOperand db K a i o → IsPlannedOperand db K b i o
operand_on db K a b i o g h = subst (λ st. IsPlannedOperand db K st i o) (sym g.is) (operand_grows db K a g.more i o h)

-- ---- the same form

pub as_built : {T E : Type 0} (r : Result T E) (trees : List VariableTree) (f g : Form) (block : List Variable) (guard : Option PlannedOperand) (old new : Making) → f ≡ g → OnOk r (Builds g block guard old new) → OnOk r (AreInner trees f → Builds f block guard old new)
as_built (Ok x) trees f g block guard old new e h = λ known. subst (λ y. Builds y block guard old new) (sym e) h
as_built (Err x) trees f g block guard old new e h = tt

pub inner_built : {T E : Type 0} (r : Result T E) (trees : List VariableTree) (f g : Form) (block : List Variable) (guard : Option PlannedOperand) (old new : Making) → f ≡ g → OnOk r (AreInner trees g → Builds g block guard old new) → OnOk r (AreInner trees f → Builds f block guard old new)
inner_built r trees f g block guard old new e h = subst (λ y. OnOk r (AreInner trees y → Builds y block guard old new)) (sym e) h

pub leaf_built : {T E : Type 0} (r : Result T E) (trees : List VariableTree) (f g : Form) (block : List Variable) (guard : Option PlannedOperand) (old new : Making) → f ≡ g → is_leaf g ≡ true → OnOk r (is_leaf f ≡ true → Builds f block guard old new) → OnOk r (AreInner trees f → Builds f block guard old new)
leaf_built (Ok x) trees f g block guard old new e l h = λ known. h (ap is_leaf e ∙ l)
leaf_built (Err x) trees f g block guard old new e l h = tt

pub exists_built : {T E : Type 0} (r : Result T E) (trees : List VariableTree) (f g : Form) (v : Identifier) (s : Sort) (block inside : List Variable) (guard given : Option PlannedOperand) (old new : Making) → f ≡ exists v s g → inside ≡ block ++ bound_by s v ∷ [] → given ≡ guard
    → OnOk r (AreInner trees g → Builds g inside given old new) → OnOk r (AreInner trees f → Builds f block guard old new)
exists_built (Ok x) trees f g v s block inside guard given old new e i j h = λ known.
    let b : Builds g (block ++ bound_by s v ∷ []) guard old new = subst (λ vs. Builds g vs guard old new) i (subst (λ o. Builds g inside o old new) j (h (subst (AreInner trees) e known))) in
    subst (λ y. Builds y block guard old new) (sym e) (record { follows = λ over K steps n can m is. b.follows over K steps n (record { core = can.core; divides = can.divides }) m is })
exists_built (Err x) trees f g v s block inside guard given old new e i j h = tt

-- ---- blocks that are dropped at the end

abbrev pub Ends : Form → Type 0
Ends f = (block : List Variable) (over : Ground) (g : Option ℕ) (steps : Steps) → build f block over g steps ≡ drop_each over (reverse block) (length (build f [] over g steps)) (build f [] over g steps)

pub closed_at : (f : Form) (block given : List Variable) (guard own : Option PlannedOperand) (old mid new : Making) → Ends f → given ≡ block → own ≡ guard → Builds f [] own old mid → MakesFrom mid.draft.last (λ over i. drop_each over (reverse given) i) mid new → Builds f block guard old new
closed_at f block given guard own old mid new e s o h k = record {
  follows = λ over K steps g can m is.
      let st : Steps = build f [] over g steps in
      let m1 : IsMaking over K mid st = h.follows over K steps g can m (subst (λ x. IsGuard over K steps x g) (sym o) is) in
      let m2 : IsMaking over K new (drop_each over (reverse given) (length st) st) = k.follows over K st (length st) m1 m1.draft.last in
      subst (IsMaking over K new) (ap (λ vs. drop_each over (reverse vs) (length st) st) s ∙ sym (e block over g steps)) m2;
}

pub closed_built : {T E : Type 0} (r : Result T E) (f : Form) (block given : List Variable) (guard own : Option PlannedOperand) (old mid new : Making) → Ends f → given ≡ block → own ≡ guard → Builds f [] own old mid → OnOk r (MakesFrom mid.draft.last (λ over i. drop_each over (reverse given) i) mid new) → OnOk r (Builds f block guard old new)
closed_built (Ok x) f block given guard own old mid new e s o h k = closed_at f block given guard own old mid new e s o h k
closed_built (Err x) f block given guard own old mid new e s o h k = tt

pub leaf_ends : (f : Form) → is_leaf f ≡ true → Ends f
leaf_ends (atom name terms) l block over g steps = refl
leaf_ends (test t) l block over g steps = refl
leaf_ends (sorted s v) l block over g steps = refl
leaf_ends (negation f) l block over g steps = refl
leaf_ends (conjunction fs) l block over g steps = absurd (false≢true l)
leaf_ends (disjunction fs) l block over g steps = refl
leaf_ends (implication f h) l block over g steps = absurd (false≢true l)
leaf_ends (exists v s f) l block over g steps = absurd (false≢true l)
leaf_ends (forall v s f) l block over g steps = absurd (false≢true l)

pub negation_ends : (f : Form) → Ends (negation f)
negation_ends f block over g steps = refl

pub disjunction_ends : (fs : Forms) → Ends (disjunction fs)
disjunction_ends fs block over g steps = refl

-- ---- leaves

leaf_alone : (f : Form) → is_leaf f ≡ true → (over : Ground) (steps : Steps) → plan_of f over.structure steps ≡ build f [] over None steps
leaf_alone (atom name terms) l over steps = refl
leaf_alone (test t) l over steps = refl
leaf_alone (sorted s v) l over steps = refl
leaf_alone (negation f) l over steps = absurd (false≢true l)
leaf_alone (conjunction fs) l over steps = absurd (false≢true l)
leaf_alone (disjunction fs) l over steps = absurd (false≢true l)
leaf_alone (implication f g) l over steps = absurd (false≢true l)
leaf_alone (exists v s f) l over steps = absurd (false≢true l)
leaf_alone (forall v s f) l over steps = absurd (false≢true l)

leaf_grows : (f : Form) → is_leaf f ≡ true → (M : Structure) (steps : Steps) → Grows steps (plan_of f M steps)
leaf_grows (atom name terms) l M steps = grows_made M _ _ steps
leaf_grows (test t) l M steps = grows_made M _ _ steps
leaf_grows (sorted s v) l M steps = grows_made M _ _ steps
leaf_grows (negation f) l M steps = absurd (false≢true l)
leaf_grows (conjunction fs) l M steps = absurd (false≢true l)
leaf_grows (disjunction fs) l M steps = absurd (false≢true l)
leaf_grows (implication f g) l M steps = absurd (false≢true l)
leaf_grows (exists v s f) l M steps = absurd (false≢true l)
leaf_grows (forall v s f) l M steps = absurd (false≢true l)

-- what a leaf call promises
abbrev pub LeafMade : Form → Making → Making → Type 0
LeafMade f old new = (over : Ground) (K : ℕ) (steps : Steps) → is_leaf f ≡ true → CanPlan over.structure K f → IsMaking over K old steps → IsMaking over K new (plan_of f over.structure steps)

none_guarded : (f : Form) (over : Ground) (K : ℕ) (steps : Steps) (g : Option ℕ) (new : Making) → is_leaf f ≡ true → IsGuard over K steps None g → IsMaking over K new (plan_of f over.structure steps) → IsMaking over K new (build f [] over g steps)
none_guarded f over K steps None new l is m = subst (IsMaking over K new) (leaf_alone f l over steps) m
none_guarded f over K steps (Some i) new l is m = absurd is

pub plain_built : {T E : Type 0} (r : Result T E) (f : Form) (guard : Option PlannedOperand) (old new : Making) → guard ≡ None → OnOk r (LeafMade f old new) → OnOk r (is_leaf f ≡ true → Builds f [] guard old new)
plain_built (Ok x) f guard old new e h = λ l. subst (λ o. Builds f [] o old new) (sym e) (record { follows = λ over K steps g can m is. none_guarded f over K steps g new l is (h over K steps l can m) })
plain_built (Err x) f guard old new e h = tt

pub under_built : {T E : Type 0} (r : Result T E) (f : Form) (guard : Option PlannedOperand) (o : PlannedOperand) (old new : Making) → guard ≡ Some o → OnOk r (is_leaf f ≡ true → Builds f [] (Some o) old new) → OnOk r (is_leaf f ≡ true → Builds f [] guard old new)
under_built r f guard o old new e h = subst (λ x. OnOk r (is_leaf f ≡ true → Builds f [] x old new)) (sym e) h

and_left : (a b : Bool) → (a && b) ≡ true → a ≡ true
and_left true b e = refl
and_left false b e = absurd (false≢true e)

-- a test that is selected, and one that isn't
selected_by : (over : Ground) (i : ℕ) (steps : Steps) (u t : Test) (a b : Bool) → Some t ≡ cond (a && b) (Some u) None → is_test u ≡ a → (is_test t ≡ true) × (cond (a && b) (select_from i u over.structure steps) (leaf_under (leaf u) over (Some i) steps) ≡ select_from i t over.structure steps)
selected_by over i steps u t true true e f = let d : t ≡ u = cc in (ap is_test d ∙ f, ap (λ x. select_from i x over.structure steps) (sym d))
selected_by over i steps u t true false e f = let z : Some t ≡ None = e in cc
selected_by over i steps u t false b e f = let z : Some t ≡ None = e in cc

selected_build : (over : Ground) (i : ℕ) (steps : Steps) (f : Form) (t : Test) → Some t ≡ selected_test (free (formula_at steps i)) f → (is_test t ≡ true) × (build f [] over (Some i) steps ≡ select_from i t over.structure steps)
selected_build over i steps (test u) t e = selected_by over i steps u t (is_test u) (are_among (variables_of_test u) (free (formula_at steps i))) e refl
selected_build over i steps (atom name terms) t e = cc
selected_build over i steps (sorted s v) t e = cc
selected_build over i steps (negation f) t e = cc
selected_build over i steps (conjunction fs) t e = cc
selected_build over i steps (disjunction fs) t e = cc
selected_build over i steps (implication f g) t e = cc
selected_build over i steps (exists v s f) t e = cc
selected_build over i steps (forall v s f) t e = cc

unselected_by : (over : Ground) (i : ℕ) (steps : Steps) (u : Test) (b : Bool) → None ≡ cond b (Some u) None → cond b (select_from i u over.structure steps) (leaf_under (leaf u) over (Some i) steps) ≡ join i [] over.structure (leaf u over.structure steps)
unselected_by over i steps u true e = let z : None ≡ Some u = e in cc
unselected_by over i steps u false e = refl

unselected_build : (over : Ground) (i : ℕ) (steps : Steps) (f : Form) → is_leaf f ≡ true → None ≡ selected_test (free (formula_at steps i)) f → build f [] over (Some i) steps ≡ join i [] over.structure (plan_of f over.structure steps)
unselected_build over i steps (test u) l e = unselected_by over i steps u (is_test u && are_among (variables_of_test u) (free (formula_at steps i))) e
unselected_build over i steps (atom name terms) l e = refl
unselected_build over i steps (sorted s v) l e = refl
unselected_build over i steps (negation f) l e = absurd (false≢true l)
unselected_build over i steps (conjunction fs) l e = absurd (false≢true l)
unselected_build over i steps (disjunction fs) l e = absurd (false≢true l)
unselected_build over i steps (implication f g) l e = absurd (false≢true l)
unselected_build over i steps (exists v s f) l e = absurd (false≢true l)
unselected_build over i steps (forall v s f) l e = absurd (false≢true l)

abbrev pub Found : Making → PlannedOperand → Form → Option Test → Type 0
Found making o f found = (over : Ground) (K : ℕ) (steps : Steps) (i : ℕ) → IsMaking over K making steps → IsPlannedOperand over.structure.relations K steps i o → found ≡ selected_test (free (formula_at steps i)) f

pub selected_built : {T E : Type 0} (r : Result T E) (f : Form) (o : PlannedOperand) (t : Test) (found : Option Test) (old new : Making) → found ≡ Some t → Found old o f found → OnOk r (AreTests (t ∷ []) → MakesFrom o (λ over i. select_from i t over.structure) old new) → OnOk r (is_leaf f ≡ true → Builds f [] (Some o) old new)
selected_built (Ok x) f o t found old new e h k = λ l. record { follows = λ over K steps g can m is. by_guard over K steps g m is }
  where
    by_guard : (over : Ground) (K : ℕ) (steps : Steps) (g : Option ℕ) → IsMaking over K old steps → IsGuard over K steps (Some o) g → IsMaking over K new (build f [] over g steps)
    by_guard over K steps None m is = absurd is
    by_guard over K steps (Some i) m is =
        let s = selected_build over i steps f t (sym e ∙ h over K steps i m is) in
        subst (IsMaking over K new) (sym s.1) ((k (s.0, tt)).follows over K steps i m is)
selected_built (Err x) f o t found old new e h k = tt

pub joined_built : {T E : Type 0} (r : Result T E) (f : Form) (o : PlannedOperand) (found : Option Test) (tests : List Test) (old mid new : Making) → found ≡ None → Found old o f found → LeafMade f old mid → tests ≡ [] → OnOk r (AreTests tests → MakesFrom o (λ over i. join i tests over.structure) mid new) → OnOk r (is_leaf f ≡ true → Builds f [] (Some o) old new)
joined_built (Ok x) f o found tests old mid new e h lf n k = λ l. record { follows = λ over K steps g can m is. by_guard l over K steps g can m is }
  where
    by_guard : is_leaf f ≡ true → (over : Ground) (K : ℕ) (steps : Steps) (g : Option ℕ) → CanPlan over.structure K f → IsMaking over K old steps → IsGuard over K steps (Some o) g → IsMaking over K new (build f [] over g steps)
    by_guard l over K steps None can m is = absurd is
    by_guard l over K steps (Some i) can m is =
        let st : Steps = plan_of f over.structure steps in
        let m1 : IsMaking over K mid st = lf over K steps l can m in
        let o1 : IsPlannedOperand over.structure.relations K st i o = operand_on over.structure.relations K steps st i o (leaf_grows f l over.structure steps) is in
        let m2 : IsMaking over K new (join i tests over.structure st) = (k (subst AreTests (sym n) tt)).follows over K st i m1 o1 in
        subst (IsMaking over K new) (ap (λ ts. join i ts over.structure st) n ∙ sym (unselected_build over i steps f l (sym e ∙ h over K steps i m is))) m2
joined_built (Err x) f o found tests old mid new e h lf n k = tt

-- ---- members of an `or`

pub eq_is : (a b c d : ℕ) (x : Bool) → a ≡ c → b ≡ d → (a == b) ≡ x → nat_eq c d ≡ x
eq_is a b c d x e f h = ap (λ n. nat_eq c n) (sym f) ∙ ap (λ n. nat_eq n b) (sym e) ∙ h

module _ (f : Form) (old mid made new : Making) (guard own : Option PlannedOperand) where
  under_by : (over : Ground) (K : ℕ) (steps : Steps) (o : PlannedOperand) (i : ℕ) (w : Bool) → is_guarded_by (free (formula_at steps i)) f ≡ w → guard ≡ Some o → IsPlannedOperand over.structure.relations K steps i o
      → IsGuard over K (project_for w f over i steps) own (projected_for w f over i steps)
      → IsMaking over K made (build f [] over (projected_for w f over i steps) (project_for w f over i steps)) → JoinsGuard guard own made new → IsMaking over K new (member (part_of f) over (Some i) steps)
  under_by over K steps o i true e g is owned m j = subst (IsMaking over K new) (sym (ap (λ b. cond b (member_under (part_of f) over i steps) (join i [] over.structure (build f [] over None steps))) e)) (by_own own refl owned)
    where
      at : ℕ
      at = projected over (free f) i steps

      before : Steps
      before = project over (free f) i steps

      after : Steps
      after = build f [] over (Some at) before

      by_own : (x : Option PlannedOperand) → own ≡ x → IsGuard over K before x (Some at) → IsMaking over K new (member_under (part_of f) over i steps)
      by_own None d k = absurd k
      by_own (Some p) d k = by_number (p.number == o.number) refl
        where
          by_number : (x : Bool) → (p.number == o.number) ≡ x → IsMaking over K new (member_under (part_of f) over i steps)
          by_number true z = subst (λ b. IsMaking over K new (cond b after (join i [] over.structure after))) (sym (eq_is p.number o.number at i true k.number is.number z)) (subst (λ x. IsMaking over K x after) (sym (j.same o g (ap (λ q. is_this q o) d ∙ z))) m)
          by_number false z =
              subst (λ b. IsMaking over K new (cond b after (join i [] over.structure after))) (sym (eq_is p.number o.number at i false k.number is.number z))
              ((j.some o g (ap (λ q. is_this q o) d ∙ z)).follows over K after i m (operand_on over.structure.relations K before after i o (grows_build f [] over (Some at) before) (operand_on over.structure.relations K steps before i o (grows_project over (free f) i steps) is)))
  under_by over K steps o i false e g is owned m j =
      subst (IsMaking over K new) (sym (ap (λ b. cond b (member_under (part_of f) over i steps) (join i [] over.structure (build f [] over None steps))) e))
      ((j.some o g (by_own own refl owned)).follows over K (build f [] over None steps) i m (operand_on over.structure.relations K steps (build f [] over None steps) i o (grows_build f [] over None steps) is))
    where
      by_own : (x : Option PlannedOperand) → own ≡ x → IsGuard over K steps x None → is_this own o ≡ false
      by_own None d k = ap (λ q. is_this q o) d
      by_own (Some p) d k = absurd k

  pub member_built : OwnGuard f guard old mid own → Builds f [] own mid made → JoinsGuard guard own made new → BuildsMember f guard old new
  member_built p b j = record { follows = λ over K steps g can m is. by_guard over K steps g guard refl can m is (p.follows over K steps g m is) }
    where
      by_guard : (over : Ground) (K : ℕ) (steps : Steps) (g : Option ℕ) (x : Option PlannedOperand) → guard ≡ x → CanPlan over.structure K f → IsMaking over K old steps → IsGuard over K steps x g → IsMaking over K mid (own_steps f over g steps) × IsGuard over K (own_steps f over g steps) own (own_number f over g steps) → IsMaking over K new (member (part_of f) over g steps)
      by_guard over K steps None None d can m is two = subst (λ x. IsMaking over K x (build f [] over None steps)) (sym (j.none d)) (b.follows over K steps None can two.0 two.1)
      by_guard over K steps None (Some o) d can m is two = absurd is
      by_guard over K steps (Some i) None d can m is two = absurd is
      by_guard over K steps (Some i) (Some o) d can m is two =
          let w : Bool = is_guarded_by (free (formula_at steps i)) f in
          under_by over K steps o i w refl d is two.1 (b.follows over K (project_for w f over i steps) (projected_for w f over i steps) can two.0 two.1) j

-- ---- from calls

-- what a call promises of what is known
pub known_of : {T E : Type 0} (P Q : Type 0) (r : Result T E) → P → OnOk r (P → Q) → OnOk r Q
known_of P Q (Ok x) p h = h p
known_of P Q (Err x) p h = tt

pub closed_known : {T E : Type 0} (r : Result T E) (trees : List VariableTree) (f : Form) (block given : List Variable) (guard own : Option PlannedOperand) (old mid new : Making) → Ends f → given ≡ block → own ≡ guard → (AreInner trees f → Builds f [] own old mid) → OnOk r (MakesFrom mid.draft.last (λ over i. drop_each over (reverse given) i) mid new) → OnOk r (AreInner trees f → Builds f block guard old new)
closed_known (Ok x) trees f block given guard own old mid new e s o h k = λ known. closed_at f block given guard own old mid new e s o (h known) k
closed_known (Err x) trees f block given guard own old mid new e s o h k = tt
