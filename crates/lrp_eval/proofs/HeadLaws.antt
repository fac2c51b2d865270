-- The step `head`.
use Rattle.std.proofs.Common.{◌≡◌, ◌↔◌, ⊎_elim, ℕ, suc, List, ◌++◌, length, Contains, Ok, Result, refl, sym, ap, ap₂, subst, ◌∙◌, arith}
use Rattle.std.specs.Prelude.{ℤ}
use Rattle.lrp_model.specs.Texts.{Text}
use Rattle.lrp_model.specs.Formulas.{Question}
use Rattle.lrp_model.specs.Variables.{Variable, time_variable, data_variable, free, head_variables}
use Rattle.lrp_model.specs.Satisfaction.{Assignment, Satisfies, structure}
use Rattle.lrp_model.specs.Domains.{constants}
use Rattle.lrp_model.specs.Cells.{Differ, Many}
use Rattle.lrp_model.specs.Caps.{step_variables, variables_with}
use Rattle.lrp_model.specs.Steps.{Steps, formula_at, reach_at}
use Rattle.lrp_model.specs.declared.relations.Relation.{Relation}
use Rattle.lrp_model.specs.declared.plans.StepKind.TheVariants.{Extend}
use Rattle.lrp_store.specs.Stores.{HasReach}
use Rattle.lrp_store.specs.Tables.{AreNumbered}
use Rattle.lrp_tables.specs.declared.table.StepFault.{StepFault}
use Rattle.lrp_tables.specs.declared.table.Table.{Table}
use Rattle.lrp_tables.specs.Caps.{Inhabits, InhabitsMoreThan}
use Rattle.lrp_tables.specs.Columns.{head_times, head_texts}
use Rattle.lrp_tables.specs.Steps.{CanExtend, IsExtendResult}
use Rattle.lrp_tables.specs.Tables.{HasAssignment, HasTexts, IsTableOf, IsExtended, named_variables}
use Rattle.lrp_tables.proofs.HeadNames.{head_names_differ}
use Rattle.lrp_tables.proofs.TableLaws.{table_texts}
use Rattle.lrp_plan_laws.specs.Scopes.{IsNarrow}
use Rattle.lrp_tables.proofs.Mapped.{many_map}
use Rattle.lrp_eval.specs.Running.{HasConstants, variables_of, IsStepTable, IsOperand, IsNext, IsRunResult}
use Rattle.lrp_eval.proofs.Named.{head_columns, times_in_head, texts_in_head, time_named, data_named, are_texts}
use Rattle.lrp_eval.proofs.Nexts.{IsRead, formula_kind, reach_kind, keeps_kind, denotes_of, many_read, sound_plan, ran, run_of, IsMeant}
use Rattle.lrp_eval.proofs.PlanEnds.{last_formula}
use Rattle.lrp_eval.proofs.Reading.{earlier, reach_within, numbered, first_differ, second_differ}
use Rattle.lrp_plan_laws.proofs.Members.{all_by, in_left, in_one}

module _ {planned : Steps} {db : List Relation} {q : Question} {cap : ℕ} {domain : List Text} {tables : List Table} {of : ℕ} {period : ℤ} (n : IsNext planned db q cap domain tables (Extend of) period) {table : Table} (o : IsOperand tables of table) where
  before : IsRead n of
  before = (earlier n).0

  abbrev names : List Variable
  names = named_variables (head_times q.head) (head_texts q.head)

  -- the columns of the table are the head's
  among : (v : Variable) → Contains (variables_of table) v → Contains (head_variables q.head) v
  among v c = (sound_plan n).core v (subst (λ l. Contains (free (formula_at planned l)) v) (formula_kind n).0 (((denotes_of n of table before o).variables v).0 c))

  head_numbered : AreNumbered domain table.store
  head_numbered = numbered n o before

  narrow : IsNarrow (head_variables q.head ++ free q.body)
  narrow = n.plan.1.settled.whole

  pub can_extend : CanExtend domain q.head table
  can_extend = record {
    numbered = head_numbered;
    times = λ v c. (times_in_head q.head v).1 (among (time_variable v) ((time_named table.vars.times table.vars.texts v).1 c));
    texts = λ v c. (texts_in_head q.head v).1 (among (data_variable v) ((data_named table.vars.times table.vars.texts v).1 c));
    names = n.plan.1.settled.names;
    few_times = narrow.times (head_times q.head) (first_differ (head_times q.head) (head_texts q.head) (head_names_differ q.head n.plan.1.settled.names))
        (all_by _ (head_times q.head) (λ v c. in_left (head_variables q.head) (free q.body) (time_variable v) ((times_in_head q.head v).0 c)));
    few_texts = narrow.texts (head_texts q.head) (second_differ (head_times q.head) (head_texts q.head) (head_names_differ q.head n.plan.1.settled.names))
        (all_by _ (head_texts q.head) (λ v c. in_left (head_variables q.head) (free q.body) (data_variable v) ((texts_in_head q.head v).0 c)));
  }

  -- the step has the variables of the head
  step_is : step_variables q.head n.step ≡ head_variables q.head ++ free n.step.formula
  step_is = ap (λ k. variables_with k q.head (free n.step.formula)) (sym n.kind_is)

  formula_is : n.step.formula ≡ formula_at planned (length planned)
  formula_is = (formula_kind n).1 ∙ sym (last_formula (sound_plan n))

  head_means : (env : Assignment) → HasConstants (constants db q) names env → IsExtended (constants db q) q.head table env ↔ Satisfies n.step.formula (structure db q) env
  head_means env k =
      let own : HasConstants (constants db q) (variables_of table) env = λ v c. k v ((head_columns q.head (data_variable v)).1 (among (data_variable v) c)) in
      let l : HasAssignment table (constants db q) env ↔ Satisfies (formula_at planned of) (structure db q) env = (denotes_of n of table before o).means env own in
      let t : Satisfies (formula_at planned of) (structure db q) env ↔ Satisfies n.step.formula (structure db q) env =
      subst (λ g. Satisfies (formula_at planned of) (structure db q) env ↔ Satisfies g (structure db q) env) (sym formula_is)
      (subst (λ i. Satisfies (formula_at planned i) (structure db q) env ↔ Satisfies (formula_at planned (length planned)) (structure db q) env) (sym (formula_kind n).0) ((sound_plan n).says env (λ v c. k v ((head_columns q.head (data_variable v)).1 c)))) in
      ((λ h. t.0 (l.0 h.has)), λ h. record { known = are_texts (constants db q) (head_times q.head) (head_texts q.head) env k; has = l.1 (t.1 h) })

  is_meant : IsMeant n names (IsExtended domain q.head table)
  is_meant = record {
    variables = λ v. (
      (λ c. subst (λ vs. Contains vs v) (sym step_is) (in_left (head_variables q.head) (free n.step.formula) v ((head_columns q.head v).0 c))),
      λ c. (head_columns q.head v).1 (⊎_elim (λ a. a) (λ b. (sound_plan n).last v (subst (λ f. Contains (free f) v) formula_is b)) (in_one (head_variables q.head) (free n.step.formula) v (subst (λ vs. Contains vs v) step_is c))),
    );
    means = subst (λ d. (env : Assignment) → HasConstants (constants db q) names env → IsExtended d q.head table env ↔ Satisfies n.step.formula (structure db q) env) (sym n.domain_is) head_means;
  }

  same_period : table.store.period ≡ n.step.period
  same_period = (run_of n of table before o).period ∙ sym (keeps_kind n)

  pub head_ran : (result : Result Table StepFault) → IsExtendResult cap domain q.head table result → IsRunResult planned db q cap (suc (length tables)) result
  head_ran result is =
      let most : ℕ = reach_at planned of in
      ran n _ _ _ _ is_meant same_period (HasReach table.store) (λ high. high) most (reach_within n o before most (omega arith)) (sym (reach_kind n)) (λ t i step l at kind. (i.times_are, i.texts_are)) result is

  -- a table that has the head's columns already is that of the step
  module _ (times : table.vars.times ≡ head_times q.head) (texts : table.vars.texts ≡ head_texts q.head) where
    as_it_is : IsTableOf domain (head_times q.head) (head_texts q.head) table.store.period (IsExtended domain q.head table) table
    as_it_is = record {
      times_are = times;
      texts_are = texts;
      period_is = refl;
      sound = λ env h. record { known = subst (λ ns. HasTexts domain ns env) texts (table_texts domain table env h); has = h };
      whole = λ env h. h.has;
      numbered = head_numbered;
    }

    no_more : InhabitsMoreThan cap domain table.store.period (head_times q.head) (head_texts q.head) (IsExtended domain q.head table) → ⊥
    no_more m =
        let own : Many (Differ names) (Inhabits domain table.store.period names (HasAssignment table domain)) cap =
        many_map (λ c. c) (Differ names) (Differ names) (Inhabits domain table.store.period names (IsExtended domain q.head table)) (Inhabits domain table.store.period names (HasAssignment table domain))
        (λ c h. record { witness = h.witness; inside = h.inside; member = h.member.has }) (λ a b h k d. d) cap m in
        let same : names ≡ variables_of table = sym (ap₂ named_variables times texts) in
        let told : Many (Differ (variables_of table)) (Inhabits (constants db q) table.store.period (variables_of table) (HasAssignment table (constants db q))) cap =
        subst (λ d. Many (Differ (variables_of table)) (Inhabits d table.store.period (variables_of table) (HasAssignment table d)) cap) n.domain_is
        (subst (λ vs. Many (Differ vs) (Inhabits domain table.store.period vs (HasAssignment table domain)) cap) same own) in
        (run_of n of table before o).few (many_read n of table before o table.store.period (run_of n of table before o).period told)

    pub head_stands : IsStepTable planned db q cap (suc (length tables)) table
    head_stands = (head_ran (Ok table) (record { table = as_it_is; reach = λ high r. r; few = no_more; many = λ e. cc })).table
