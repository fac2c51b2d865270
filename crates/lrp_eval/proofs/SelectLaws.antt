-- The steps of a test and of a selection.
use Rattle.std.proofs.Common.{◌≡◌, ◌≤◌, ◌+◌, ⊎_elim, ℕ, suc, List, [], length, max, Result, refl, sym, ap, subst, ◌∙◌, arith}
use Rattle.std.specs.Prelude.{ℤ, nat_abs}
use Rattle.lrp_model.specs.Texts.{Text}
use Rattle.lrp_model.specs.Formulas.{Question, conjunction, test, no_forms, form}
use Rattle.lrp_model.specs.Variables.{variables_of_test}
use Rattle.lrp_model.specs.Satisfaction.{structure}
use Rattle.lrp_model.specs.Domains.{constants}
use Rattle.lrp_model.specs.Reach.{test_reach}
use Rattle.lrp_model.specs.Steps.{Steps, formula_at, reach_at}
use Rattle.lrp_model.specs.declared.relations.Relation.{Relation}
use Rattle.lrp_model.specs.declared.formulas.Test.{Test}
use Rattle.lrp_model.specs.declared.formulas.Test.TheVariants.{Compare, Member, Equal}
use Rattle.lrp_model.specs.declared.plans.StepKind.TheVariants.{Leaf, Select, Extend}
use Rattle.lrp_model.proofs.Decided.{contains_none}
use Rattle.lrp_store.specs.Stores.{HasReach}
use Rattle.lrp_tables.specs.declared.table.StepFault.{StepFault}
use Rattle.lrp_tables.specs.declared.table.Table.{Table}
use Rattle.lrp_tables.specs.Calls.{CanBeCarried, test_period}
use Rattle.lrp_tables.specs.Columns.{test_times, test_names}
use Rattle.lrp_tables.specs.Steps.{CanSelect, CanTest, IsLeafResult, IsSelectResult}
use Rattle.lrp_tables.specs.Tables.{HasAssignment, IsTested, IsSelected, named_variables}
use Rattle.lrp_plan_laws.specs.Made.{AreAmong}
use Rattle.lrp_plan_laws.specs.Rising.{natural_test_period as period_of}
use Rattle.lrp_eval.specs.Running.{variables_of, IsOperand, IsNext, IsRunResult}
use Rattle.lrp_eval.proofs.Denotes.{Denotes, leaf_keeps, select_keeps}
use Rattle.lrp_eval.proofs.Named.{test_variables, texts_are, are_texts}
use Rattle.lrp_eval.proofs.Nexts.{IsRead, formula_kind, variables_kind, reach_kind, keeps_kind, period_nat, denotes_of, meant, ran, no_order, IsMeant}
use Rattle.lrp_eval.proofs.Reading.{step_small, point_periods, own_periods, earlier, multiples, period_divides, reach_within, variables, carried, high, low, low_period}
use Rattle.lrp_plan_laws.proofs.Members.{in_one}

same_period : (t : Test) → nat_abs (test_period t) ≡ period_of t
same_period (Compare left op right) = refl
same_period (Member term point) = refl
same_period (Equal left right) = refl

module _ {planned : Steps} {db : List Relation} {q : Question} {cap : ℕ} {domain : List Text} {tables : List Table} {t : Test} {period : ℤ} (n : IsNext planned db q cap domain tables (Leaf t) period) where
  pub can_test : CanTest t
  can_test = record { low = low_period t (point_periods n); reach = (let e = reach_kind n in let s = step_small n in omega arith) }

  leaf_period : nat_abs (test_period t) ≡ n.step.period
  leaf_period = same_period t ∙ sym (keeps_kind n)

  leaf_denotes : Denotes (constants db q) (structure db q) (named_variables (test_times t) (test_names t)) (IsTested domain t) n.step.formula
  leaf_denotes =
      subst (Denotes (constants db q) (structure db q) (named_variables (test_times t) (test_names t)) (IsTested domain t)) (sym (formula_kind n))
      (subst (λ d. Denotes (constants db q) (structure db q) (named_variables (test_times t) (test_names t)) (IsTested d t) (test t)) (sym n.domain_is)
      (leaf_keeps (constants db q) (structure db q) (named_variables (test_times t) (test_names t)) t (IsTested (constants db q) t) (test_variables t)
      (λ env. ((λ h. (texts_are (constants db q) (test_times t) (test_names t) env h.known, h.passes)), λ h. record { known = are_texts (constants db q) (test_times t) (test_names t) env h.0; passes = h.1 }))))

  leaf_other : (of : ℕ) → Leaf t ≡ Extend of → ⊥
  leaf_other of e = cc

  leaf_meant : IsMeant n (named_variables (test_times t) (test_names t)) (IsTested domain t)
  leaf_meant = meant n _ _ leaf_other leaf_denotes

  pub leaf_ran : (result : Result Table StepFault) → IsLeafResult cap domain t result → IsRunResult planned db q cap (suc (length tables)) result
  leaf_ran result is = ran n _ _ _ _ leaf_meant leaf_period (λ high. test_reach t ≤ high) (λ high. high) (test_reach t) (omega arith) (sym (reach_kind n)) (λ u i. no_order n leaf_other u) result is

module _ {planned : Steps} {db : List Relation} {q : Question} {cap : ℕ} {domain : List Text} {tables : List Table} {of : ℕ} {t : Test} {period : ℤ} (n : IsNext planned db q cap domain tables (Select of t) period) {table : Table} (o : IsOperand tables of table) where
  before : IsRead n of
  before = (earlier n).0

  known : AreAmong (variables_of_test t) (variables_of table)
  known v c = (variables n o before v).1 (variables_kind n v c)

  pub can_select : CanSelect period table t
  can_select = record {
    low = low n;
    high = high n;
    divides = period_divides n o before (multiples n).0;
    reach = reach_within n o before _ (let e = reach_kind n in let s = step_small n in let p = period_nat n in omega arith);
    carried = subst (λ p. CanBeCarried table.vars.times table.vars.texts p t) (sym n.period_is) (carried table.vars.times table.vars.texts n.step.period t known (point_periods n) (own_periods n));
    test_small = (let e = reach_kind n in let s = step_small n in let p = period_nat n in omega arith);
  }

  denotes : Denotes (constants db q) (structure db q) (variables_of table) (IsSelected domain table t) n.step.formula
  denotes =
      subst (Denotes (constants db q) (structure db q) (variables_of table) (IsSelected domain table t)) (sym (formula_kind n))
      (subst (λ d. Denotes (constants db q) (structure db q) (variables_of table) (IsSelected d table t) (conjunction (form (formula_at planned of) (form (test t) no_forms)))) (sym n.domain_is)
      (select_keeps (constants db q) (structure db q) (variables_of table) (HasAssignment table (constants db q)) (IsSelected (constants db q) table t) (formula_at planned of) t (denotes_of n of table before o)
      (λ v c. ⊎_elim (λ a. known v a) (λ b. absurd (contains_none v b)) (in_one (variables_of_test t) [] v c))
      (λ env. ((λ h. (h.has, h.passes)), λ h. record { has = h.0; passes = h.1 }))))

  other : (l : ℕ) → Select of t ≡ Extend l → ⊥
  other l e = cc

  is_meant : IsMeant n (variables_of table) (IsSelected domain table t)
  is_meant = meant n _ _ other denotes

  pub select_ran : (result : Result Table StepFault) → IsSelectResult cap domain period table t result → IsRunResult planned db q cap (suc (length tables)) result
  select_ran result is =
      let most : ℕ = max (reach_at planned of) (test_reach t) in
      ran n _ _ _ _ is_meant (period_nat n) (λ high. HasReach table.store high × (test_reach t ≤ high)) (λ high. high + nat_abs period) most
      (reach_within n o before most (omega arith), omega arith) (sym (reach_kind n ∙ ap (λ k. most + k) (sym (period_nat n)))) (λ u i. no_order n other u) result is
