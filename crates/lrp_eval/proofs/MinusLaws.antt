-- The steps of a difference and of a complement.
use Rattle.std.proofs.Common.{◌≡◌, ◌+◌, ◌*◌, ℕ, suc, List, length, max, Result, sym, ap, subst, ◌∙◌, arith}
use Rattle.std.specs.Prelude.{ℤ, nat_abs}
use Rattle.lrp_model.specs.Texts.{Text}
use Rattle.lrp_model.specs.Formulas.{Question, conjunction, negation, no_forms, form}
use Rattle.lrp_model.specs.Variables.{time_variable, data_variable}
use Rattle.lrp_model.specs.Satisfaction.{structure}
use Rattle.lrp_model.specs.Domains.{constants}
use Rattle.lrp_model.specs.Steps.{Steps, formula_at, reach_at}
use Rattle.lrp_model.specs.declared.relations.Relation.{Relation}
use Rattle.lrp_model.specs.declared.plans.StepKind.TheVariants.{Minus, Complement, Extend}
use Rattle.lrp_store.specs.Stores.{HasReach}
use Rattle.lrp_tables.specs.declared.table.StepFault.{StepFault}
use Rattle.lrp_tables.specs.declared.table.Table.{Table}
use Rattle.lrp_tables.specs.Steps.{BothReach, CanComplement, CanMinus, IsComplementResult, IsMinusResult}
use Rattle.lrp_tables.specs.Tables.{HasAssignment, IsMinus, IsComplement}
use Rattle.lrp_plan_laws.specs.Made.{AreAmong}
use Rattle.lrp_eval.specs.Running.{variables_of, IsOperand, IsNext, IsRunResult}
use Rattle.lrp_eval.proofs.Denotes.{Denotes, minus_keeps, complement_keeps}
use Rattle.lrp_eval.proofs.Named.{time_named, data_named, texts_are, are_texts}
use Rattle.lrp_eval.proofs.Nexts.{IsRead, formula_kind, variables_kind, reach_kind, keeps_kind, period_nat, denotes_of, meant, ran, run_of, ascends, no_order, IsMeant}
use Rattle.lrp_eval.proofs.Reading.{step_small, earlier, multiples, period_divides, reach_within, numbered, variables, low}

module _ {planned : Steps} {db : List Relation} {q : Question} {cap : ℕ} {domain : List Text} {tables : List Table} {left right : ℕ} {period : ℤ} (n : IsNext planned db q cap domain tables (Minus left right) period) {lt rt : Table} (lo : IsOperand tables left lt) (ro : IsOperand tables right rt) where
  le : IsRead n left
  le = (earlier n).0

  re : IsRead n right
  re = (earlier n).1.0

  known : AreAmong (variables_of rt) (variables_of lt)
  known v c = (variables n lo le v).1 (variables_kind n v ((variables n ro re v).0 c))

  pub can_minus : CanMinus period lt rt
  can_minus = record {
    low = low n;
    high = (let e = reach_kind n in let s = step_small n in let p = period_nat n in omega arith);
    left_period = period_divides n lo le (multiples n).0;
    right_period = period_divides n ro re (multiples n).1.0;
    left_reach = reach_within n lo le _ (let e = reach_kind n in let s = step_small n in let p = period_nat n in omega arith);
    right_reach = reach_within n ro re _ (let e = reach_kind n in let s = step_small n in let p = period_nat n in omega arith);
    columns = record {
      times = λ v c. (time_named lt.vars.times lt.vars.texts v).0 (known (time_variable v) ((time_named rt.vars.times rt.vars.texts v).1 c));
      texts = λ v c. (data_named lt.vars.times lt.vars.texts v).0 (known (data_variable v) ((data_named rt.vars.times rt.vars.texts v).1 c));
    };
  }

  pub denotes : Denotes (constants db q) (structure db q) (variables_of lt) (IsMinus domain lt rt) n.step.formula
  denotes =
      subst (Denotes (constants db q) (structure db q) (variables_of lt) (IsMinus domain lt rt)) (sym (formula_kind n))
      (subst (λ d. Denotes (constants db q) (structure db q) (variables_of lt) (IsMinus d lt rt) (conjunction (form (formula_at planned left) (form (negation (formula_at planned right)) no_forms)))) (sym n.domain_is)
      (minus_keeps (constants db q) (structure db q) (variables_of lt) (variables_of rt) (HasAssignment lt (constants db q)) (HasAssignment rt (constants db q)) (IsMinus (constants db q) lt rt) (formula_at planned left) (formula_at planned right)
      (denotes_of n left lt le lo) (denotes_of n right rt re ro) known (λ env. ((λ h. (h.has, h.none)), λ h. record { has = h.0; none = h.1 }))))

  other : (l : ℕ) → Minus left right ≡ Extend l → ⊥
  other l e = cc

  is_meant : IsMeant n (variables_of lt) (IsMinus domain lt rt)
  is_meant = meant n _ _ other denotes

  pub minus_ran : (result : Result Table StepFault) → IsMinusResult cap period lt rt result → IsRunResult planned db q cap (suc (length tables)) result
  minus_ran result is =
      let most : ℕ = max (reach_at planned left) (reach_at planned right) in
      ran n _ _ _ _ is_meant (period_nat n) (BothReach lt rt) (λ high. high + 2 * nat_abs period) most
      (record { left_reach = reach_within n lo le most (omega arith); right_reach = reach_within n ro re most (omega arith) }) (sym (reach_kind n ∙ ap (λ k. most + 2 * k) (sym (period_nat n)))) (λ t i. no_order n other t) result
      (is.step domain (ascends n) (numbered n lo le))

module _ {planned : Steps} {db : List Relation} {q : Question} {cap : ℕ} {domain : List Text} {tables : List Table} {of : ℕ} {period : ℤ} (n : IsNext planned db q cap domain tables (Complement of) period) {table : Table} (o : IsOperand tables of table) where
  before : IsRead n of
  before = (earlier n).0

  same_period : table.store.period ≡ n.step.period
  same_period = (run_of n of table before o).period ∙ sym (keeps_kind n)

  pub can_complement : CanComplement table
  can_complement = record {
    period = (let e = reach_kind n in let s = step_small n in let p = same_period in omega arith);
    reach = reach_within n o before _ (let e = reach_kind n in let s = step_small n in let p = same_period in omega arith);
  }

  complement_denotes : Denotes (constants db q) (structure db q) (variables_of table) (IsComplement domain table) n.step.formula
  complement_denotes =
      subst (Denotes (constants db q) (structure db q) (variables_of table) (IsComplement domain table)) (sym (formula_kind n))
      (subst (λ d. Denotes (constants db q) (structure db q) (variables_of table) (IsComplement d table) (negation (formula_at planned of))) (sym n.domain_is)
      (complement_keeps (constants db q) (structure db q) (variables_of table) (HasAssignment table (constants db q)) (IsComplement (constants db q) table) (formula_at planned of) (denotes_of n of table before o)
      (λ env. ((λ h. (texts_are (constants db q) table.vars.times table.vars.texts env h.known, h.none)), λ h. record { known = are_texts (constants db q) table.vars.times table.vars.texts env h.0; none = h.1 }))))

  complement_other : (l : ℕ) → Complement of ≡ Extend l → ⊥
  complement_other l e = cc

  complement_meant : IsMeant n (variables_of table) (IsComplement domain table)
  complement_meant = meant n _ _ complement_other complement_denotes

  pub complement_ran : (result : Result Table StepFault) → IsComplementResult cap domain table result → IsRunResult planned db q cap (suc (length tables)) result
  complement_ran result is =
      let most : ℕ = reach_at planned of in
      ran n _ _ _ _ complement_meant same_period (HasReach table.store) (λ high. high + 2 * table.store.period) most (reach_within n o before most (omega arith)) (sym (reach_kind n ∙ ap (λ k. most + 2 * k) (sym same_period))) (λ t i. no_order n complement_other t) result is
