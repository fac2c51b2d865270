-- Steps without a table: a set of assignments is shown to be the meaning of a step's formula, up to double negation, and to inhabit few cells.
use Rattle.std.proofs.Common.{◌≡◌, ◌↔◌, ◌≤◌, ◌<◌, ⊎_elim, ℕ, suc, List, [], ◌∷◌, ◌++◌, Some, map, sym, ap, ap₂, subst, ◌∙◌, arith, unwrap_or, option_map, Contains}
use Rattle.std.specs.Prelude.{ℤ}
use Rattle.std.specs.List.{AllByRecursion}
use Rattle.lrp_model.specs.Texts.{Text, Identifier, without as other_names}
use Rattle.lrp_model.specs.Formulas.{Question, conjunction, exists, no_forms}
use Rattle.lrp_model.specs.Rows.{Datum, time, text}
use Rattle.lrp_model.specs.Variables.{Variable, time_variable, data_variable, free}
use Rattle.lrp_model.specs.Satisfaction.{Assignment, Satisfies, structure, with_value, IsOfSort}
use Rattle.lrp_model.specs.Domains.{constants, all_texts}
use Rattle.lrp_model.specs.Cells.{Differ, Many}
use Rattle.lrp_model.specs.Caps.{ManyAt, step_variables}
use Rattle.lrp_model.specs.Steps.{PlanStep, Steps, step_at, formula_at, reach_at}
use Rattle.lrp_model.specs.declared.relations.Sort.TheVariants.{Time}
use Rattle.lrp_model.specs.declared.relations.Relation.{Relation}
use Rattle.lrp_model.specs.declared.plans.StepKind.TheVariants.{Minus, DropTime, Extend}
use Rattle.lrp_model.proofs.Decided.{contains_none, stable_of}
use Rattle.lrp_model.proofs.DomainLaws.{in_order_ascends}
use Rattle.lrp_store.specs.Stores.{IsStore, HasReach}
use Rattle.lrp_tables.specs.declared.table.Table.{Table}
use Rattle.lrp_tables.specs.Caps.{Inhabits, InhabitsMoreThan}
use Rattle.lrp_tables.specs.Tables.{HasAssignment, IsTableOf, named_variables}
use Rattle.lrp_tables.proofs.DropCounts.{drop_time_counts}
use Rattle.lrp_tables.proofs.TableLaws.{decided_table}
use Rattle.lrp_plan_laws.specs.Made.{AreAmong, IsStepFormula, HasVariables, head_step}
use Rattle.lrp_plan_laws.specs.Rising.{KeepsPeriod, period_at}
use Rattle.lrp_plan_laws.specs.Settled.{IsSoundPlan, IsSoundStep}
use Rattle.lrp_eval.specs.Running.{HasConstants, SameVariables, variables_of, variables_at, IsStepTable}
use Rattle.lrp_dropping.specs.Without.{IsTimeCompleted}
use Rattle.lrp_eval.proofs.Counted.{constants_of, many_at}
use Rattle.lrp_tables.proofs.Mapped.{many_map}
use Rattle.lrp_eval.proofs.Denotes.{Denotes, Set, constants_time, same_others, same_more}
use Rattle.lrp_eval.proofs.Named.{time_dropped}
use Rattle.lrp_eval.proofs.Nexts.{own_variables}
use Rattle.lrp_plan_laws.proofs.Members.{in_one}

-- the set is the meaning of the formula of step s, up to double negation, and inhabits no more than cap cells of its period
pub record IsShown (planned : Steps) (db : List Relation) (q : Question) (cap s : ℕ) (times texts : List Identifier) (set : Assignment → Type 0) : Type 0 where
  pub variables : SameVariables (named_variables times texts) (free (formula_at planned s))
  pub to : (env : Assignment) → HasConstants (constants db q) (named_variables times texts) env → set env → Satisfies (formula_at planned s) (structure db q) env
  pub from : (env : Assignment) → HasConstants (constants db q) (named_variables times texts) env → Satisfies (formula_at planned s) (structure db q) env → (set env → ⊥) → ⊥
  pub few : InhabitsMoreThan cap (constants db q) (period_at planned s) times texts set → ⊥

-- what is not false of each element is not false of all
all_not_not : {C : Type 0} (p r : C → Type 0) (xs : List C) → ((c : C) → p c → (r c → ⊥) → ⊥) → AllByRecursion p xs → (AllByRecursion r xs → ⊥) → ⊥
all_not_not p r [] each h n = n tt
all_not_not p r (x ∷ xs) each h n = each x h.0 (λ y. all_not_not p r xs each h.1 (λ ys. n (y, ys)))

-- a set inhabits as many cells as a part of it
pub more_of : (cap : ℕ) (domain : List Text) (K : ℕ) (times texts : List Identifier) (part whole : Set) → ((env : Assignment) → part env → whole env) → InhabitsMoreThan cap domain K times texts part → InhabitsMoreThan cap domain K times texts whole
more_of cap domain K times texts part whole is =
    many_map (λ c. c) (Differ (named_variables times texts)) (Differ (named_variables times texts)) (Inhabits domain K (named_variables times texts) part) (Inhabits domain K (named_variables times texts) whole)
    (λ c h. record { witness = h.witness; inside = h.inside; member = is h.witness h.member }) (λ a b x y d. d) cap

module _ (planned : Steps) (db : List Relation) (q : Question) (cap : ℕ) where
  -- a set that is the meaning of a formula
  pub of_denoted : (s : ℕ) (times texts : List Identifier) (set : Set) → Denotes (constants db q) (structure db q) (named_variables times texts) set (formula_at planned s)
      → (InhabitsMoreThan cap (constants db q) (period_at planned s) times texts set → ⊥) → IsShown planned db q cap s times texts set
  of_denoted s times texts set d few = record {
    variables = d.variables;
    to = λ env k h. (d.means env k).0 h;
    from = λ env k h n. n ((d.means env k).1 h);
    few = few;
  }

  module _ (s : ℕ) (step : PlanStep) (at : step_at planned s ≡ Some step) where
    pub formula_is : formula_at planned s ≡ step.formula
    formula_is = ap (λ p. unwrap_or (option_map (λ step. step.formula) p) (conjunction no_forms)) at

    pub reach_is : reach_at planned s ≡ step.reach
    reach_is = ap (λ p. unwrap_or (option_map (λ step. step.reach) p) 0) at

    pub period_is : period_at planned s ≡ step.period
    period_is = ap (λ p. unwrap_or (option_map (λ step. step.period) p) 1) at

    own : ((of : ℕ) → step.kind ≡ Extend of → ⊥) → step_variables q.head step ≡ free (formula_at planned s)
    own other = own_variables step.kind q.head (free step.formula) other ∙ ap free (sym formula_is)

    pub all_own : ((of : ℕ) → step.kind ≡ Extend of → ⊥) → variables_at planned q s ≡ free (formula_at planned s)
    all_own other = ap (λ p. unwrap_or (option_map (step_variables q.head) p) []) at ∙ own other

    -- the step has no more than cap cells
    pub shown_few : (times texts : List Identifier) (set : Set) → ((of : ℕ) → step.kind ≡ Extend of → ⊥) → IsShown planned db q cap s times texts set → ManyAt planned db q cap s → ⊥
    shown_few times texts set other h many =
        let m : Many (Differ (named_variables times texts)) (Inhabits (constants db q) step.period (named_variables times texts) (λ env. Satisfies (formula_at planned s) (structure db q) env)) cap =
        (many_at planned db q (named_variables times texts) (λ env. Satisfies (formula_at planned s) (structure db q) env) step s cap at (subst (SameVariables (named_variables times texts)) (sym (own other)) h.variables)
        (λ env k. subst (λ f. Satisfies (formula_at planned s) (structure db q) env ↔ Satisfies f (structure db q) env) formula_is ((λ x. x), λ x. x))).1 many in
        all_not_not (Inhabits (constants db q) step.period (named_variables times texts) (λ env. Satisfies (formula_at planned s) (structure db q) env)) (Inhabits (constants db q) step.period (named_variables times texts) set) m.cells
        (λ c i n. h.from i.witness (constants_of (constants db q) step.period (named_variables times texts) i.witness c i.inside) i.member (λ x. n (record { witness = i.witness; inside = i.inside; member = x })))
        m.each
        (λ each. h.few (subst (λ k. InhabitsMoreThan cap (constants db q) k times texts set) (sym period_is) (record { cells = m.cells; count = m.count; apart = m.apart; each = each })))

    -- a table of the set is the step's
    pub shown_table : (times texts : List Identifier) (set : Set) → ((of : ℕ) → step.kind ≡ Extend of → ⊥) → IsShown planned db q cap s times texts set → (made : Table) → IsStore made.store
        → IsTableOf (constants db q) times texts (period_at planned s) set made → HasReach made.store (reach_at planned s) → IsStepTable planned db q cap s made
    shown_table times texts set other h made valid is reach =
        let vs : variables_of made ≡ named_variables times texts = ap₂ named_variables is.times_are is.texts_are in
        record {
          variables = subst (λ ws. SameVariables (variables_of made) ws) (sym (all_own other)) (subst (λ ws. SameVariables ws (free (formula_at planned s))) (sym vs) h.variables);
          means = λ env c.
              let k = subst (λ ws. HasConstants (constants db q) ws env) vs c in
              ((λ x. h.to env k (is.sound env x)), λ x. stable_of (decided_table (constants db q) (in_order_ascends (map (λ entry. entry.1) (all_texts db q))) made valid env) (λ n. h.from env k x (λ y. n (is.whole env y))));
          numbered = is.numbered;
          period = is.period_is;
          reach = reach;
          few = shown_few times texts set other h;
          order = λ next of e k. absurd (other of (let same : step ≡ next = cc (at, e) in ap (λ s. s.kind) same ∙ k));
        }

  module _ (sound_plan : IsSoundPlan planned db q) where
    -- a time variable is dropped
    pub drop_shown : (s : ℕ) (step : PlanStep) (name : Identifier) → step_at planned (suc s) ≡ Some step → step.kind ≡ DropTime s name → (times texts : List Identifier) (set : Set) → IsShown planned db q cap s times texts set
        → IsShown planned db q cap (suc s) (other_names name times) texts (IsTimeCompleted name set)
    drop_shown s step name at kind times texts set h = record {
      variables = subst (λ f. SameVariables (named_variables (other_names name times) texts) (free f)) (sym formula)
          (same_others (time_variable name) (named_variables times texts) (free (formula_at planned s)) (named_variables (other_names name times) texts) h.variables (time_dropped name times texts));
      to = λ env k x. subst (λ f. Satisfies f (structure db q) env) (sym formula) (λ none. none (time x.0) (tt, h.to (with_value name (time x.0) env) (known env k x.0) x.1));
      from = λ env k x n. (subst (λ f. Satisfies f (structure db q) env) formula x) (each env k n);
      few = λ m. h.few (subst (λ p. InhabitsMoreThan cap (constants db q) p times texts set) period
          (drop_time_counts (constants db q) (period_at planned (suc s)) low times texts name (IsTimeCompleted name set) set (λ env x. x) cap m));
    }
      where
        is : IsSoundStep planned db q (suc s) step
        is = sound_plan.each (suc s) step at

        formula : formula_at planned (suc s) ≡ exists name Time (formula_at planned s)
        formula = formula_is (suc s) step at ∙ subst (λ k. IsStepFormula (structure db q) (head_step planned db q) (formula_at planned) k step.formula) kind is.made.formula

        period : period_at planned (suc s) ≡ period_at planned s
        period = period_is (suc s) step at ∙ subst (λ k. KeepsPeriod (period_at planned) step.period k) kind is.rises.keeps

        low : 0 < period_at planned (suc s)
        low = let a : 1 ≤ step.period = is.rises.positive in let e = period_is (suc s) step at in omega arith

        known : (env : Assignment) → HasConstants (constants db q) (named_variables (other_names name times) texts) env → (x : ℤ) → HasConstants (constants db q) (named_variables times texts) (with_value name (time x) env)
        known env k x = constants_time (constants db q) (named_variables times texts) env name x (λ w c. k w ((time_dropped name times texts (data_variable w)).1 c))

        each : (env : Assignment) → HasConstants (constants db q) (named_variables (other_names name times) texts) env → (IsTimeCompleted name set env → ⊥) → (d : Datum)
            → IsOfSort (structure db q) Time d × Satisfies (formula_at planned s) (structure db q) (with_value name d env) → ⊥
        each env k n (time x) y = h.from (with_value name (time x) env) (known env k x) y.1 (λ z. n (x, z))
        each env k n (text t) y = absurd y.0

    -- what a table has beside the set is the step's table
    pub beside_table : (s l : ℕ) (step : PlanStep) → step_at planned (suc s) ≡ Some step → step.kind ≡ Minus l s → (times texts : List Identifier) (set : Set) → IsShown planned db q cap s times texts set
        → (left : Table) → Denotes (constants db q) (structure db q) (variables_of left) (HasAssignment left (constants db q)) (formula_at planned l)
        → (made : Table) → IsStore made.store → IsTableOf (constants db q) left.vars.times left.vars.texts (period_at planned (suc s)) (λ env. HasAssignment left (constants db q) env × (set env → ⊥)) made
        → HasReach made.store (reach_at planned (suc s))
        → (InhabitsMoreThan cap (constants db q) (period_at planned (suc s)) left.vars.times left.vars.texts (λ env. HasAssignment left (constants db q) env × (set env → ⊥)) → ⊥) → IsStepTable planned db q cap (suc s) made
    beside_table s l step at kind times texts set h left d made valid is reach few =
        shown_table (suc s) step at left.vars.times left.vars.texts beside (λ of e. let f : Minus l s ≡ Extend of = sym kind ∙ e in cc) (of_denoted (suc s) left.vars.times left.vars.texts beside means few) made valid is reach
      where
        beside : Assignment → Type 0
        beside env = HasAssignment left (constants db q) env × (set env → ⊥)

        sound_is : IsSoundStep planned db q (suc s) step
        sound_is = sound_plan.each (suc s) step at

        among : AreAmong (free (formula_at planned s)) (free (formula_at planned l))
        among = subst (λ k. HasVariables (formula_at planned) k) kind sound_is.made.variables

        known : (v : Variable) → Contains (free (formula_at planned s)) v → Contains (variables_of left) v
        known v c = (d.variables v).1 (among v c)

        means : Denotes (constants db q) (structure db q) (variables_of left) beside (formula_at planned (suc s))
        means = subst (λ f. Denotes (constants db q) (structure db q) (variables_of left) beside f)
            (sym (formula_is (suc s) step at ∙ subst (λ k. IsStepFormula (structure db q) (head_step planned db q) (formula_at planned) k step.formula) kind sound_is.made.formula))
            (record {
              variables = same_more (variables_of left) (free (formula_at planned l)) (free (formula_at planned s) ++ []) d.variables
                  (λ v c. known v (⊎_elim (λ a. a) (λ b. absurd (contains_none v b)) (in_one (free (formula_at planned s)) [] v c)));
              means = λ env k.
                  let m = d.means env k in
                  let c : HasConstants (constants db q) (named_variables times texts) env = λ v e. k v (known (data_variable v) ((h.variables (data_variable v)).0 e)) in
                  ((λ x. (m.0 x.0, ((λ y. h.from env c y x.1), tt))), λ x. (m.1 x.0, λ z. x.1.0 (h.to env c z)));
            })
