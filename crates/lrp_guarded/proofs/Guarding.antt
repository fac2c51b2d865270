-- Guards of core forms: whether there is one, and what is made under it.
use Rattle.std.proofs.Common.{◌≡◌, ℕ, Bool, true, false, cond, not, ◌&&◌, List, [], map, reverse, Option, Some, None, Result, Ok, Err, refl, sym, ap, subst, ◌∙◌}
use Rattle.std.specs.Result.{OnOk, IfOk}
use Rattle.lrp_core.specs.FreeVariables.{variable_of, each_once}
use Rattle.lrp_core.specs.declared.variables.Variable.{Variable as ProgramVariable}
use Rattle.lrp_model.specs.Formulas.{Form}
use Rattle.lrp_model.specs.Variables.{Variable, free, are_among, variables_of_test}
use Rattle.lrp_model.specs.Steps.{Steps, formula_at, join}
use Rattle.lrp_model.specs.Conjunctions.{is_test}
use Rattle.lrp_model.specs.declared.formulas.Test.{Test}
use Rattle.lrp_plan_laws.specs.Binding.{is_leaf, is_guarded_by}
use Rattle.lrp_plan_laws.specs.Projections.{PlanGround as Ground, drop_each, project, projected}
use Rattle.lrp_plan.specs.declared.drafts.PlannedOperand.{PlannedOperand}
use Rattle.lrp_plan.specs.Drafts.{IsPlannedOperand, AreTests}
use Rattle.lrp_plan.specs.Taking.{HaveSame}
use Rattle.lrp_plan.proofs.Members.{are_among_same}
use Rattle.lrp_plan.proofs.Sorting.{same_as_once}
use Rattle.lrp_guarded.specs.Making.{IsMaking, MakesFrom, MakesTo}
use Rattle.lrp_guarded.specs.Standing.{Builds, IsGuard}
use Rattle.lrp_guarded.specs.Building.{Projects, Guards, OwnGuard, JoinsGuard, own_steps, own_number, project_for, projected_for, is_wanted, is_this}
use Rattle.lrp_guarded.specs.declared.making.Making.{Making}
use Rattle.lrp_guarded.proofs.Built.{closed_at, leaf_ends}

-- whether a test is one, and a step has its variables
pub covered_is : (t own : Test) (columns : List ProgramVariable) (vs : List Variable) (a b : Bool) → own ≡ t → a ≡ is_test t → b ≡ are_among (variables_of_test own) (map variable_of columns) → map variable_of columns ≡ each_once vs → (is_test t && are_among (variables_of_test t) vs) ≡ (a && b)
covered_is t own columns vs a b is e f c =
    ap (λ x. x && are_among (variables_of_test t) vs) (sym e)
    ∙ ap (λ x. a && x) (sym (f ∙ ap (λ u. are_among (variables_of_test u) (map variable_of columns)) is ∙ are_among_same (variables_of_test t) (variables_of_test t) (map variable_of columns) vs (record { each = λ v. refl }) (same_as_once (map variable_of columns) vs c)))

pub found_by : (t own : Test) (w : Bool) → own ≡ t → w ≡ true → Some own ≡ cond w (Some t) None
found_by t own w is e = ap Some is ∙ sym (ap (λ b. cond b (Some t) None) e)

pub none_by : (t : Test) (w : Bool) → w ≡ false → None ≡ cond w (Some t) None
none_by t w e = sym (ap (λ b. cond b (Some t) None) e)

pub and_no : (a b : Bool) → b ≡ false → (a && b) ≡ false
and_no true b e = e
and_no false b e = refl

-- ---- projections

abbrev pub ColumnsAre : Making → PlannedOperand → List ProgramVariable → Type 0
ColumnsAre making of columns = (over : Ground) (K : ℕ) (steps : Steps) (i : ℕ) → IsMaking over K making steps → IsPlannedOperand over.structure.relations K steps i of → map variable_of columns ≡ each_once (free (formula_at steps i))

abbrev pub SaysGuarded : Form → List ProgramVariable → List ProgramVariable → Bool → Type 0
SaysGuarded f columns variables is = (vs : List Variable) → HaveSame (map variable_of columns) vs → HaveSame (map variable_of variables) (free f) → is ≡ is_guarded_by vs f

module _ (f : Form) (of : PlannedOperand) (columns variables : List ProgramVariable) (is : Bool) (old new : Making) (cols : ColumnsAre old of columns) (says : SaysGuarded f columns variables is) where
  pub projected_so : (o : PlannedOperand) → is ≡ true → ((vs : List Variable) → HaveSame (map variable_of variables) vs → MakesTo of (λ over i. project over vs i) (λ over i. projected over vs i) old new o) → HaveSame (map variable_of variables) (free f) → Projects of f old new (Some o)
  projected_so o e k h = record {
    follows = λ over K steps i m p.
        let b : is_guarded_by (free (formula_at steps i)) f ≡ true = sym (says (free (formula_at steps i)) (same_as_once (map variable_of columns) (free (formula_at steps i)) (cols over K steps i m p)) h) ∙ e in
        let t = (k (free f) h).follows over K steps i m p in
        subst (λ w. IsMaking over K new (project_for w f over i steps) × IsGuard over K (project_for w f over i steps) (Some o) (projected_for w f over i steps)) (sym b) (t.making, t.last);
  }

  pub projected_not : is ≡ false → HaveSame (map variable_of variables) (free f) → Projects of f old old None
  projected_not e h = record {
    follows = λ over K steps i m p.
        let b : is_guarded_by (free (formula_at steps i)) f ≡ false = sym (says (free (formula_at steps i)) (same_as_once (map variable_of columns) (free (formula_at steps i)) (cols over K steps i m p)) h) ∙ e in
        subst (λ w. IsMaking over K old (project_for w f over i steps) × IsGuard over K (project_for w f over i steps) None (projected_for w f over i steps)) (sym b) (m, tt);
  }

-- of the result so far, where there is one and the form has parts
pub guards_from : {E : Type 0} (r : Result (Option PlannedOperand) E) (some leaf : Bool) (of : PlannedOperand) (f : Form) (variables : List ProgramVariable) (old new : Making) → some ≡ true → leaf ≡ is_leaf f → leaf ≡ false → IfOk r (λ guard. HaveSame (map variable_of variables) (free f) → Projects of f old new guard)
    → IfOk r (λ guard. HaveSame (map variable_of variables) (free f) → Guards some of f old new guard)
guards_from (Ok guard) some leaf of f variables old new s l n k = λ h. record {
  follows = λ over K steps i m p.
      let x : Bool = is_guarded_by (free (formula_at steps i)) f in
      let e : is_wanted some f steps i ≡ x = ap (λ b. b && (not (is_leaf f) && x)) s ∙ ap (λ b. not b && x) (sym l ∙ n) in
      subst (λ w. IsMaking over K new (project_for w f over i steps) × IsGuard over K (project_for w f over i steps) guard (projected_for w f over i steps)) (sym e) ((k h).follows over K steps i m p);
}
guards_from (Err x) some leaf of f variables old new s l n k = tt

-- of the guard of an `or`
own_by : (f : Form) (o : PlannedOperand) (own : Option PlannedOperand) (old new : Making) → Projects o f old new own → (over : Ground) (K : ℕ) (steps : Steps) (g : Option ℕ) → IsMaking over K old steps → IsGuard over K steps (Some o) g
    → IsMaking over K new (own_steps f over g steps) × IsGuard over K (own_steps f over g steps) own (own_number f over g steps)
own_by f o own old new p over K steps None m is = absurd is
own_by f o own old new p over K steps (Some i) m is = p.follows over K steps i m is

pub own_from : {E : Type 0} (r : Result (Option PlannedOperand) E) (f : Form) (guard : Option PlannedOperand) (o : PlannedOperand) (variables : List ProgramVariable) (old new : Making) → guard ≡ Some o → IfOk r (λ own. HaveSame (map variable_of variables) (free f) → Projects o f old new own)
    → IfOk r (λ own. HaveSame (map variable_of variables) (free f) → OwnGuard f guard old new own)
own_from (Ok own) f guard o variables old new e k = λ h. subst (λ g. OwnGuard f g old new own) (sym e) (record { follows = own_by f o own old new (k h) })
own_from (Err x) f guard o variables old new e k = tt

-- ---- the guard joined

same_guard : (guard : Option PlannedOperand) (o p : PlannedOperand) → guard ≡ Some o → guard ≡ Some p → o ≡ p
same_guard guard o p e f = cc

no_both : (b : Bool) → b ≡ true → b ≡ false → ⊥
no_both true e f = cc
no_both false e f = cc

no_guard : (guard : Option PlannedOperand) (o : PlannedOperand) → guard ≡ Some o → guard ≡ None → ⊥
no_guard guard o e f = cc

pub joins_some : {T E : Type 0} (r : Result T E) (guard own : Option PlannedOperand) (o : PlannedOperand) (step : Bool) (tests : List Test) (old new : Making) → guard ≡ Some o → step ≡ is_this own o → step ≡ false → tests ≡ [] → OnOk r (AreTests tests → MakesFrom o (λ over i. join i tests over.structure) old new) → OnOk r (JoinsGuard guard own old new)
joins_some (Ok x) guard own o step tests old new e s n t k = record {
  none = λ f. absurd (no_guard guard o e f);
  same = λ p f h. absurd (no_both (is_this own o) (subst (λ q. is_this own q ≡ true) (sym (same_guard guard o p e f)) h) (sym s ∙ n));
  some = λ p f h. subst (λ q. MakesFrom q (λ over i. join i [] over.structure) old new) (same_guard guard o p e f) (subst (λ ts. MakesFrom o (λ over i. join i ts over.structure) old new) t (k (subst AreTests (sym t) tt)));
}
joins_some (Err x) guard own o step tests old new e s n t k = tt

-- ---- a form without parts

pub leaf_closed : {T E : Type 0} (r : Result T E) (f : Form) (block given : List Variable) (guard inner : Option PlannedOperand) (old mid new : Making) → given ≡ block → inner ≡ guard → (is_leaf f ≡ true → Builds f [] inner old mid) → OnOk r (MakesFrom mid.draft.last (λ over i. drop_each over (reverse given) i) mid new)
    → OnOk r (is_leaf f ≡ true → Builds f block guard old new)
leaf_closed (Ok x) f block given guard inner old mid new s g h k = λ l. closed_at f block given guard inner old mid new (leaf_ends f l) s g (h l) k
leaf_closed (Err x) f block given guard inner old mid new s g h k = tt
