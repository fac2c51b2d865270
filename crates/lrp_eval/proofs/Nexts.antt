-- What is known of the next step of a plan, of the tables that it reads, and what its own table has to be.
use Rattle.std.proofs.Common.{◌≡◌, ◌↔◌, ◌≤◌, ◌<◌, ◌+◌, ◌-◌, ◌*◌, ◌^◌, ℕ, zero, suc, List, [], length, Some, map, refl, sym, ap, ap₂, subst, ◌∙◌, arith, slice_get, unwrap_or, option_map, Result, Ok, Err}
use Rattle.std.proofs.Common.{add-one, mul_assoc}
use Rattle.std.proofs.Math.Nat.{pow-succ', mul-le-mul_right}
use Rattle.std.specs.Prelude.{ℤ, nat_abs, flat_map, Contains}
use Rattle.lrp_model.specs.Texts.{Text, Identifier, Ascends}
use Rattle.lrp_model.specs.Formulas.{Question, conjunction, no_forms}
use Rattle.lrp_model.specs.Variables.{Variable, free}
use Rattle.lrp_model.specs.Satisfaction.{Assignment, Satisfies, structure}
use Rattle.lrp_model.specs.Domains.{constants, all_texts}
use Rattle.lrp_model.specs.Cells.{Differ, Many}
use Rattle.lrp_model.specs.Caps.{ManyAt, step_variables, variables_with}
use Rattle.lrp_model.specs.Reach.{step_reach}
use Rattle.lrp_model.specs.Steps.{PlanStep, Steps, step_at, formula_at, reach_at}
use Rattle.lrp_model.specs.Plans.{query_reach}
use Rattle.lrp_model.specs.Sorts.{time_count}
use Rattle.lrp_model.specs.declared.relations.Relation.{Relation}
use Rattle.lrp_model.specs.declared.relations.Column.{Column}
use Rattle.lrp_model.specs.declared.plans.StepKind.{StepKind}
use Rattle.lrp_model.specs.declared.plans.StepKind.TheVariants.{Scan, Leaf, Sort as SortStep, Join, Select, Union, Minus, Complement, DropTime, DropData, Extend}
use Rattle.lrp_model.proofs.DomainLaws.{in_order_ascends}
use Rattle.lrp_store.specs.Stores.{HasReach}
use Rattle.lrp_tables.specs.declared.table.StepFault.{StepFault}
use Rattle.lrp_tables.specs.declared.table.Table.{Table}
use Rattle.lrp_tables.specs.Caps.{Inhabits, InhabitsMoreThan}
use Rattle.lrp_tables.specs.Steps.{IsStepResult}
use Rattle.lrp_tables.specs.Tables.{HasAssignment, IsTableOf, named_variables}
use Rattle.lrp_plan_laws.specs.Made.{IsMade, IsStepFormula, HasVariables, operands, head_step}
use Rattle.lrp_plan_laws.specs.Rising.{IsRising, KeepsPeriod, period_at}
use Rattle.lrp_plan_laws.specs.Scopes.{IsNarrow}
use Rattle.lrp_plan_laws.specs.Settled.{IsSoundPlan, IsSoundStep}
use Rattle.lrp_plan_laws.proofs.Elements.{found, within as inside}
use Rattle.lrp_eval.specs.Running.{HasConstants, SameVariables, variables_of, variables_at, IsStepTable, IsOperand, IsNext, HasHeadColumns, IsRunResult}
use Rattle.lrp_eval.proofs.Denotes.{Set, Denotes}
use Rattle.lrp_eval.proofs.Counted.{many_at}
use Rattle.lrp_eval.proofs.PlanEnds.{no_other_head}

-- ---- places

pub suc_pred : (l : ℕ) → 0 < l → suc (l - 1) ≡ l
suc_pred l h = omega arith

-- ---- numbers

some_power : (m : ℕ) → 1 ≤ 2 ^ m
some_power zero = omega arith
some_power (suc m) = let r : 1 ≤ 2 ^ m = some_power m in let e : 2 ^ suc m ≡ 2 * 2 ^ m = pow-succ' 2 m in omega arith

pub half_reach : (m r : ℕ) → 2 ^ (m + 1) * r ≤ 2 ^ 62 → r ≤ 2 ^ 61
half_reach m r h =
    let e : 2 ^ (m + 1) ≡ 2 * 2 ^ m = ap (λ i. 2 ^ i) (add-one m) ∙ pow-succ' 2 m in
    let b : (2 * 2 ^ m) * r ≤ 2 ^ 62 = subst (λ x. x * r ≤ 2 ^ 62) e h in
    let one : 1 * r ≤ 2 ^ m * r = mul-le-mul_right r (some_power m) in
    omega (arith, mul_assoc 2 (2 ^ m) r)

-- ---- kinds

pub is_head : StepKind → Type 0
is_head kind = (of : ℕ) × (kind ≡ Extend of)

-- a step other than `head` has cells over the variables of its formula
pub own_variables : (kind : StepKind) (cs : List Column) (vs : List Variable) → ((of : ℕ) → kind ≡ Extend of → ⊥) → variables_with kind cs vs ≡ vs
own_variables (Scan name terms) cs vs h = refl
own_variables (Leaf t) cs vs h = refl
own_variables (SortStep v s texts) cs vs h = refl
own_variables (Join l r ts) cs vs h = refl
own_variables (Select of t) cs vs h = refl
own_variables (Union l r) cs vs h = refl
own_variables (Minus l r) cs vs h = refl
own_variables (Complement of) cs vs h = refl
own_variables (DropTime of v) cs vs h = refl
own_variables (DropData of v) cs vs h = refl
own_variables (Extend of) cs vs h = absurd (h of refl)

module _ {planned : Steps} {db : List Relation} {q : Question} {cap : ℕ} {domain : List Text} {tables : List Table} {kind : StepKind} {period : ℤ} (n : IsNext planned db q cap domain tables kind period) where
  pub sound_plan : IsSoundPlan planned db q
  sound_plan = n.plan.1.sound

  pub sound_step : IsSoundStep planned db q (suc (length tables)) n.step
  sound_step = sound_plan.each (suc (length tables)) n.step n.at

  pub rises : IsRising planned db q (suc (length tables)) n.step
  rises = sound_step.rises

  pub made : IsMade (structure db q) (head_step planned db q) planned (suc (length tables)) n.step
  made = sound_step.made

  pub of_kind : (p : StepKind → Type 0) → p n.step.kind → p kind
  of_kind p h = subst p (sym n.kind_is) h

  pub formula_kind : IsStepFormula (structure db q) (head_step planned db q) (formula_at planned) kind n.step.formula
  formula_kind = of_kind (λ k. IsStepFormula (structure db q) (head_step planned db q) (formula_at planned) k n.step.formula) made.formula

  pub variables_kind : HasVariables (formula_at planned) kind
  variables_kind = of_kind (λ k. HasVariables (formula_at planned) k) made.variables

  pub reach_kind : n.step.reach ≡ step_reach db (reach_at planned) n.step.period kind
  reach_kind = of_kind (λ k. n.step.reach ≡ step_reach db (reach_at planned) n.step.period k) made.reach

  pub keeps_kind : KeepsPeriod (period_at planned) n.step.period kind
  keeps_kind = of_kind (λ k. KeepsPeriod (period_at planned) n.step.period k) rises.keeps

  pub narrow_kind : IsNarrow (flat_map (λ l. free (formula_at planned l)) (operands kind))
  narrow_kind = of_kind (λ k. IsNarrow (flat_map (λ l. free (formula_at planned l)) (operands k))) sound_step.narrow.read

  pub period_nat : nat_abs period ≡ n.step.period
  period_nat = ap nat_abs n.period_is

  pub reach_low : query_reach planned ≤ 2 ^ 61
  reach_low = half_reach (time_count q.head) (query_reach planned) n.plan.1.reach

  -- ---- the tables that it reads

  -- the step reads this earlier one
  abbrev pub IsRead : ℕ → Type 0
  IsRead l = (0 < l) × (l < suc (length tables)) × Contains (operands kind) l

  pub run_of : (l : ℕ) (t : Table) → IsRead l → IsOperand tables l t → IsStepTable planned db q cap l t
  run_of l t e o = subst (λ s. IsStepTable planned db q cap s t) (suc_pred l e.0) (n.before (l - 1) t o.at (subst (Contains (operands kind)) (sym (suc_pred l e.0)) e.2))

  pub within : (l : ℕ) → IsRead l → l ≤ length tables
  within l e = let b : l < suc (length tables) = e.1 in omega arith

  pub step_before : (l : ℕ) → IsRead l → (step : PlanStep) × (step_at planned l ≡ Some step)
  step_before l e =
      let lt : length tables < length planned = inside planned (length tables) n.step n.at in
      let b : l < suc (length tables) = e.1 in
      let low : 0 < l = e.0 in
      let x : (step : PlanStep) × (slice_get planned (l - 1) ≡ Some step) = found planned (l - 1) (omega arith) in
      (x.0, subst (λ s. step_at planned s ≡ Some x.0) (suc_pred l low) x.1)

  not_head : (l : ℕ) → IsRead l → (step : PlanStep) → step_at planned l ≡ Some step → (of : ℕ) → step.kind ≡ Extend of → ⊥
  not_head l e step at of k =
      let lt : length tables < length planned = inside planned (length tables) n.step n.at in
      let b : l < suc (length tables) = e.1 in
      no_other_head sound_plan l step at (omega arith) of k

  -- a table that is read stands for its step's formula
  pub denotes_of : (l : ℕ) (t : Table) → IsRead l → IsOperand tables l t → Denotes (constants db q) (structure db q) (variables_of t) (HasAssignment t (constants db q)) (formula_at planned l)
  denotes_of l t e o =
      let r : IsStepTable planned db q cap l t = run_of l t e o in
      let x : (step : PlanStep) × (step_at planned l ≡ Some step) = step_before l e in
      let own : variables_at planned q l ≡ free (formula_at planned l) =
      ap (λ p. unwrap_or (option_map (step_variables q.head) p) []) x.1 ∙ own_variables x.0.kind q.head (free x.0.formula) (not_head l e x.0 x.1)
      ∙ sym (ap (λ p. free (unwrap_or (option_map (λ step. step.formula) p) (conjunction no_forms))) x.1) in
      record { variables = subst (λ vs. SameVariables (variables_of t) vs) own r.variables; means = r.means }

  -- a table that is read has no more cells than its step
  pub many_read : (l : ℕ) (t : Table) → IsRead l → IsOperand tables l t → (K : ℕ) → K ≡ period_at planned l
      → Many (Differ (variables_of t)) (Inhabits (constants db q) K (variables_of t) (HasAssignment t (constants db q))) cap → ManyAt planned db q cap l
  many_read l t e o K same m =
      let r : IsStepTable planned db q cap l t = run_of l t e o in
      let x : (step : PlanStep) × (step_at planned l ≡ Some step) = step_before l e in
      let k : K ≡ x.0.period = same ∙ ap (λ p. unwrap_or (option_map (λ step. step.period) p) 1) x.1 in
      (many_at planned db q (variables_of t) (HasAssignment t (constants db q)) x.0 l cap x.1
      (subst (λ vs. SameVariables (variables_of t) vs) (ap (λ p. unwrap_or (option_map (step_variables q.head) p) []) x.1) r.variables)
      (λ env c. subst (λ f. HasAssignment t (constants db q) env ↔ Satisfies f (structure db q) env) (ap (λ p. unwrap_or (option_map (λ step. step.formula) p) (conjunction no_forms)) x.1) (r.means env c))).0
      (subst (λ k. Many (Differ (variables_of t)) (Inhabits (constants db q) k (variables_of t) (HasAssignment t (constants db q))) cap) k m)

  pub ascends : Ascends domain
  ascends = subst Ascends (sym n.domain_is) (in_order_ascends (map (λ entry. entry.1) (all_texts db q)))

  -- ---- its own table

  pub at_formula : formula_at planned (suc (length tables)) ≡ n.step.formula
  at_formula = ap (λ p. unwrap_or (option_map (λ step. step.formula) p) (conjunction no_forms)) n.at

  pub at_reach : reach_at planned (suc (length tables)) ≡ n.step.reach
  at_reach = ap (λ p. unwrap_or (option_map (λ step. step.reach) p) 0) n.at

  pub at_period : period_at planned (suc (length tables)) ≡ n.step.period
  at_period = ap (λ p. unwrap_or (option_map (λ step. step.period) p) 1) n.at

  at_variables : variables_at planned q (suc (length tables)) ≡ step_variables q.head n.step
  at_variables = ap (λ p. unwrap_or (option_map (step_variables q.head) p) []) n.at

  -- a set over the variables of the step that is the meaning of its formula
  pub record IsMeant (vs : List Variable) (set : Assignment → Type 0) : Type 0 where
    pub variables : SameVariables vs (step_variables q.head n.step)
    pub means : (env : Assignment) → HasConstants (constants db q) vs env → set env ↔ Satisfies n.step.formula (structure db q) env

  -- a step other than `head`
  pub meant : (vs : List Variable) (set : Set) → ((of : ℕ) → kind ≡ Extend of → ⊥) → Denotes (constants db q) (structure db q) vs set n.step.formula → IsMeant vs set
  meant vs set other d = record {
    variables = subst (λ ws. SameVariables vs ws) (sym (own_variables n.step.kind q.head (free n.step.formula) (λ of e. other of (n.kind_is ∙ e)))) d.variables;
    means = d.means;
  }

  module _ (times texts : List Identifier) (set : Set) (K : ℕ) (m : IsMeant (named_variables times texts) set) (k : K ≡ n.step.period) where
    cap_of : InhabitsMoreThan cap domain K times texts set ↔ ManyAt planned db q cap (suc (length tables))
    cap_of = subst (λ d. InhabitsMoreThan cap d K times texts set ↔ ManyAt planned db q cap (suc (length tables))) (sym n.domain_is)
        (subst (λ p. InhabitsMoreThan cap (constants db q) p times texts set ↔ ManyAt planned db q cap (suc (length tables))) (sym k)
        (many_at planned db q (named_variables times texts) set n.step (suc (length tables)) cap n.at m.variables m.means))

    -- the set has too many cells, so the step has
    pub too_many : InhabitsMoreThan cap domain K times texts set → ManyAt planned db q cap (suc (length tables))
    too_many h = cap_of.0 h

    -- a table of the set is the step's table
    pub run : (t : Table) → IsTableOf domain times texts K set t → HasReach t.store n.step.reach → (InhabitsMoreThan cap domain K times texts set → ⊥) → HasHeadColumns planned q (suc (length tables)) t → IsStepTable planned db q cap (suc (length tables)) t
    run t is reach few order =
        let d : IsTableOf (constants db q) times texts K set t = subst (λ c. IsTableOf c times texts K set t) n.domain_is is in
        let vs : variables_of t ≡ named_variables times texts = ap₂ named_variables d.times_are d.texts_are in
        record {
          variables = subst (λ ws. SameVariables (variables_of t) ws) (sym at_variables) (subst (λ ws. SameVariables ws (step_variables q.head n.step)) (sym vs) m.variables);
          means = λ env c.
              let x = m.means env (subst (λ ws. HasConstants (constants db q) ws env) vs c) in
              subst (λ f. HasAssignment t (constants db q) env ↔ Satisfies f (structure db q) env) (sym at_formula) ((λ h. x.0 (d.sound env h)), λ h. d.whole env (x.1 h));
          numbered = d.numbered;
          period = d.period_is ∙ k ∙ sym at_period;
          reach = subst (λ r. HasReach t.store r) (sym at_reach) reach;
          few = λ h. few (cap_of.1 h);
          order = order;
        }

    -- what a step makes of the set is what running it makes
    pub ran : (has : ℕ → Type 0) (most : ℕ → ℕ) (high : ℕ) → has high → most high ≡ n.step.reach → ((t : Table) → IsTableOf domain times texts K set t → HasHeadColumns planned q (suc (length tables)) t)
        → (result : Result Table StepFault) → IsStepResult cap domain times texts K set has most result → IsRunResult planned db q cap (suc (length tables)) result
    ran has most high h e order (Ok t) is = record { table = run t is.table (subst (λ r. HasReach t.store r) e (is.reach high h)) is.few (order t is.table); many = λ x. too_many (is.many x) }
    ran has most high h e order (Err fault) is = record { table = tt; many = λ x. too_many (is.many x) }

  -- no order is asked of a step other than `head`
  pub no_order : ((of : ℕ) → kind ≡ Extend of → ⊥) → (t : Table) → HasHeadColumns planned q (suc (length tables)) t
  no_order other t step of at e =
      let same : n.step ≡ step = cc (n.at, at) in
      absurd (other of (n.kind_is ∙ ap (λ s. s.kind) same ∙ e))

-- the same step, by what its kind is
pub as_kind : {planned : Steps} {db : List Relation} {q : Question} {cap : ℕ} {domain : List Text} {tables : List Table} {kind : StepKind} {period : ℤ} (k : StepKind) → IsNext planned db q cap domain tables kind period → kind ≡ k → IsNext planned db q cap domain tables k period
as_kind {planned} {db} {q} {cap} {domain} {tables} {kind} {period} k n e = subst (λ s. IsNext planned db q cap domain tables s period) e n
