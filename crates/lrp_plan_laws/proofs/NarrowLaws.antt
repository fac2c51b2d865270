-- The variables of each step of a plan occur together in one part of the query.
use Rattle.std.proofs.Common.{◌≡◌, ⊎_elim, ◌≤◌, ◌<◌, ℕ, List, [], ◌++◌, length, append-nil, Some, option_map, unwrap_or, flat_map, Contains, refl, sym, ap, subst, arith}
use Rattle.std.specs.List.{AllByRecursion}
use Rattle.lrp_model.specs.Formulas.{Form, Question, conjunction, no_forms}
use Rattle.lrp_model.specs.Variables.{Variable, time_variable, data_variable, free, free_each, head_variables}
use Rattle.lrp_model.specs.Satisfaction.{Structure, structure}
use Rattle.lrp_model.specs.Core.{guarded, has_named_sort}
use Rattle.lrp_model.specs.Steps.{PlanStep, Steps, step_at, formula_at, tests_as_forms}
use Rattle.lrp_model.specs.Caps.{step_variables, variables_with}
use Rattle.lrp_model.specs.declared.relations.Column.{Column}
use Rattle.lrp_model.specs.declared.relations.Relation.{Relation}
use Rattle.lrp_model.specs.declared.plans.StepKind.{StepKind}
use Rattle.lrp_model.specs.declared.plans.StepKind.TheVariants.{Scan, Leaf, Sort as SortStep, Join, Select, Union, Minus, Complement, DropTime, DropData, Extend}
use Rattle.lrp_model.proofs.Logic.{all_append}
use Rattle.lrp_plan_laws.specs.Made.{HeadStep, IsEarlier, operands, IsStepFormula, IsMade, AreAmong}
use Rattle.lrp_plan_laws.specs.Scopes.{IsNarrow, IsNarrowStep}
use Rattle.lrp_plan_laws.proofs.Elements.{step_one_more, formula_made, formula_front}
use Rattle.lrp_plan_laws.proofs.Names.{Names}
use Rattle.lrp_plan_laws.proofs.Marks.{marks}
use Rattle.lrp_plan_laws.proofs.Dropping.{Rules}
use Rattle.lrp_plan_laws.proofs.Fronts.{IsFront, closed, head_after}
use Rattle.lrp_plan_laws.proofs.CoreNames.{guarded_within}
use Rattle.lrp_plan_laws.proofs.RisingLaws.{plan_made, last_names, all_step, step_within, step_found}
use Rattle.lrp_plan_laws.proofs.Members.{all_of, all_by, all_self, all_map}

-- fewer variables are narrow too
pub narrow_part : (vs ws : List Variable) → AllByRecursion (Contains ws) vs → IsNarrow ws → IsNarrow vs
narrow_part vs ws part n = record {
  times = λ names d h. n.times names d (all_map (λ m. Contains vs (time_variable m)) (λ m. Contains ws (time_variable m)) names (λ m c. all_of (Contains ws) vs (time_variable m) part c) h);
  texts = λ names d h. n.texts names d (all_map (λ m. Contains vs (data_variable m)) (λ m. Contains ws (data_variable m)) names (λ m c. all_of (Contains ws) vs (data_variable m) part c) h);
  kinds = λ m c e. n.kinds m (all_of (Contains ws) vs (time_variable m) part c) (all_of (Contains ws) vs (data_variable m) part e);
}

-- a step other than `head` has the variables of its formula
own_variables : (kind : StepKind) (columns : List Column) (vs : List Variable) → ((of : ℕ) → kind ≡ Extend of → ⊥) → variables_with kind columns vs ≡ vs
own_variables (Scan name terms) columns vs other = refl
own_variables (Leaf t) columns vs other = refl
own_variables (SortStep v s texts) columns vs other = refl
own_variables (Join left right tests) columns vs other = refl
own_variables (Select of t) columns vs other = refl
own_variables (Union left right) columns vs other = refl
own_variables (Minus left right) columns vs other = refl
own_variables (Complement of) columns vs other = refl
own_variables (DropTime of v) columns vs other = refl
own_variables (DropData of v) columns vs other = refl
own_variables (Extend of) columns vs other = absurd (other of refl)

-- `head` stands after the core steps
head_reads : (M : Structure) (head : HeadStep) (at : ℕ → Form) (s : ℕ) (kind : StepKind) (f : Form) → s ≤ head.of → AllByRecursion (IsEarlier s) (operands kind) → IsStepFormula M head at kind f → (of : ℕ) → kind ≡ Extend of → ⊥
head_reads M head at s kind f le earlier h of e =
    let a : AllByRecursion (IsEarlier s) (operands (Extend of)) = subst (λ k. AllByRecursion (IsEarlier s) (operands k)) e earlier in
    let b : IsStepFormula M head at (Extend of) f = subst (λ k. IsStepFormula M head at k f) e h in
    let lt : of < s = a.0.1 in
    let same : of ≡ head.of = b.0 in
    omega arith

-- so no step but the last is `head`
pub only_last : (db : List Relation) (q : Question) (rules : Rules) (fits : List Variable → Type 0) (front : Steps) → IsFront db q rules fits front → (s : ℕ) (step : PlanStep) → step_at (closed db q front) s ≡ Some step → s ≤ length front → (of : ℕ) → step.kind ≡ Extend of → ⊥
only_last db q rules fits front w s step e le of kind =
    let m : IsMade (structure db q) (head_after db q front) (closed db q front) s step = (plan_made db q rules fits front w s step e).made in
    head_reads (structure db q) (head_after db q front) (formula_at (closed db q front)) s step.kind step.formula le m.earlier m.formula of kind

-- two parts of a list
in_front : (vs ws us all : List Variable) → all ≡ vs ++ (ws ++ us) → AllByRecursion (Contains all) (vs ++ (ws ++ []))
in_front vs ws us all e =
    let a = (all_append (Contains (vs ++ (ws ++ us))) vs (ws ++ us)).0 (all_self (vs ++ (ws ++ us))) in
    let b = (all_append (Contains (vs ++ (ws ++ us))) ws us).0 a.1 in
    subst (λ xs. AllByRecursion (Contains xs) (vs ++ (ws ++ []))) (sym e)
    ((all_append (Contains (vs ++ (ws ++ us))) vs (ws ++ [])).1 (a.0, (all_append (Contains (vs ++ (ws ++ us))) ws []).1 (b.0, tt)))

-- what a step reads is narrow, where its own variables are, and those of each step that it reads
read_narrow : (M : Structure) (head : HeadStep) (at : ℕ → Form) (kind : StepKind) (f : Form) → IsStepFormula M head at kind f → IsNarrow (free f) → AllByRecursion (λ l. IsNarrow (free (at l))) (operands kind) → IsNarrow (flat_map (λ l. free (at l)) (operands kind))
read_narrow M head at (Scan name terms) f h n one = narrow_part [] (free f) tt n
read_narrow M head at (Leaf t) f h n one = narrow_part [] (free f) tt n
read_narrow M head at (SortStep v s texts) f h n one = narrow_part [] (free f) tt n
read_narrow M head at (Join left right tests) f h n one = narrow_part _ (free f) (in_front (free (at left)) (free (at right)) (free_each (tests_as_forms tests)) (free f) (ap free h)) n
read_narrow M head at (Select of t) f h n one = subst IsNarrow (sym (append-nil (free (at of)))) one.0
read_narrow M head at (Union left right) f h n one = narrow_part _ (free f) (in_front (free (at left)) (free (at right)) [] (free f) (ap free h)) n
read_narrow M head at (Minus left right) f h n one = narrow_part _ (free f) (in_front (free (at left)) (free (at right)) [] (free f) (ap free h)) n
read_narrow M head at (Complement of) f h n one = subst IsNarrow (sym (append-nil (free (at of)))) one.0
read_narrow M head at (DropTime of v) f h n one = subst IsNarrow (sym (append-nil (free (at of)))) one.0
read_narrow M head at (DropData of v) f h n one = subst IsNarrow (sym (append-nil (free (at of)))) one.0
read_narrow M head at (Extend of) f h n one = subst IsNarrow (sym (append-nil (free (at of)))) one.0

module _ (db : List Relation) (q : Question) (rules : Rules) (front : Steps) (w : IsFront db q rules IsNarrow front) (top : IsNarrow (head_variables q.head ++ free q.body)) where
  -- the variables of `head`, with the head's
  head_narrow : IsNarrow (head_variables q.head ++ free (guarded (has_named_sort db) q.head q.body))
  head_narrow =
      let room : List Variable = head_variables q.head ++ free q.body in
      let f : Form = guarded (has_named_sort db) q.head q.body in
      let two = (all_append (Contains room) (head_variables q.head) (free q.body)).0 (all_self room) in
      narrow_part (head_variables q.head ++ free f) room ((all_append (Contains room) (head_variables q.head) (free f)).1 (two.0, (guarded_within (has_named_sort db) q db room (marks q.body db) two.0 (two.1, all_self (marks q.body db))).0)) top

  -- each step's variables are narrow, with the head's at `head`
  own_narrow : (s : ℕ) (step : PlanStep) → step_at (closed db q front) s ≡ Some step → IsNarrow (step_variables q.head step)
  own_narrow s step e =
      let m : IsMade (structure db q) (head_after db q front) (closed db q front) s step = (plan_made db q rules IsNarrow front w s step e).made in
      ⊎_elim
      (λ h. subst IsNarrow (sym (own_variables step.kind q.head (free step.formula) (head_reads (structure db q) (head_after db q front) (formula_at (closed db q front)) s step.kind step.formula h.0 m.earlier m.formula))) (all_step (λ x. IsNarrow (free x.formula)) front s step h.1 w.fitting))
      (λ h. subst (λ x. IsNarrow (step_variables q.head x)) h.1 head_narrow)
      (step_one_more front _ step s e)

  -- a formula of a step of the plan is narrow
  formula_narrow : (s : ℕ) (step : PlanStep) → step_at (closed db q front) s ≡ Some step → IsNarrow (free step.formula)
  formula_narrow s step e = narrow_part (free step.formula) (step_variables q.head step) (formula_part step.kind q.head (free step.formula)) (own_narrow s step e)
    where
      formula_part : (kind : StepKind) (columns : List Column) (vs : List Variable) → AllByRecursion (Contains (variables_with kind columns vs)) vs
      formula_part (Extend of) columns vs = ((all_append (Contains (head_variables columns ++ vs)) (head_variables columns) vs).0 (all_self (head_variables columns ++ vs))).1
      formula_part (Scan name terms) columns vs = all_self vs
      formula_part (Leaf t) columns vs = all_self vs
      formula_part (SortStep v s texts) columns vs = all_self vs
      formula_part (Join left right tests) columns vs = all_self vs
      formula_part (Select of t) columns vs = all_self vs
      formula_part (Union left right) columns vs = all_self vs
      formula_part (Minus left right) columns vs = all_self vs
      formula_part (Complement of) columns vs = all_self vs
      formula_part (DropTime of v) columns vs = all_self vs
      formula_part (DropData of v) columns vs = all_self vs

  -- each step is narrow, and so is what it reads
  pub narrow_steps : (s : ℕ) (step : PlanStep) → step_at (closed db q front) s ≡ Some step → IsNarrowStep (closed db q front) q step
  narrow_steps s step e =
      let m : IsMade (structure db q) (head_after db q front) (closed db q front) s step = (plan_made db q rules IsNarrow front w s step e).made in
      record {
        own = own_narrow s step e;
        read = read_narrow (structure db q) (head_after db q front) (formula_at (closed db q front)) step.kind step.formula m.formula (formula_narrow s step e)
            (all_map (IsEarlier s) (λ l. IsNarrow (free (formula_at (closed db q front) l))) (operands step.kind)
            (λ l k.
            let lt : l < s = k.1 in
            let x = step_found (closed db q front) l k.0 (let w : s ≤ length (closed db q front) = step_within (closed db q front) s step e in omega arith) in
            subst (λ o. IsNarrow (free (unwrap_or (option_map (λ y. y.formula) o) (conjunction no_forms)))) (sym x.1) (formula_narrow l x.0 x.1))
            m.earlier);
      }

-- ---- the last steps have variables of the head alone, where the body has

module _ (db : List Relation) (q : Question) (front : Steps) (bound : AreAmong (free q.body) (head_variables q.head)) where
  -- the formula of `head` names no more than the head's variables
  head_within : Names db (guarded (has_named_sort db) q.head q.body) (head_variables q.head) (marks q.body db)
  head_within = guarded_within (has_named_sort db) q db (head_variables q.head) (marks q.body db) (all_self (head_variables q.head)) (all_by (Contains (head_variables q.head)) (free q.body) bound, all_self (marks q.body db))

  -- the last step has variables of the head alone
  pub last_bound : AreAmong (free (formula_at (closed db q front) (length (closed db q front)))) (head_variables q.head)
  last_bound v c =
      let e : formula_at (closed db q front) (length (closed db q front)) ≡ guarded (has_named_sort db) q.head q.body = formula_made (structure db q) _ (guarded (has_named_sort db) q.head q.body) front in
      all_of (Contains (head_variables q.head)) (free (guarded (has_named_sort db) q.head q.body)) v head_within.0 (subst (λ f. Contains (free f) v) e c)

  -- and so has the step before it
  pub core_bound : (rules : Rules) (fits : List Variable → Type 0) → IsFront db q rules fits front → AreAmong (free (formula_at (closed db q front) (length front))) (head_variables q.head)
  core_bound rules fits w v c =
      let f : Form = formula_at front (length front) in
      let e : formula_at (closed db q front) (length front) ≡ f = formula_front front _ (length front) (omega arith) in
      all_of (Contains (head_variables q.head)) (free f) v ((last_names db q rules fits front w (head_variables q.head) (marks q.body db)).1 head_within).0 (subst (λ g. Contains (free g) v) e c)
