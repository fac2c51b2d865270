-- The step of a union.
use Rattle.std.proofs.Common.{◌≡◌, ◌⊎◌, inl, inr, ◌+◌, ⊎_elim, ℕ, suc, List, length, max, Contains, Result, sym, ap, subst, ◌∙◌, arith}
use Rattle.std.specs.Prelude.{ℤ, nat_abs}
use Rattle.lrp_model.specs.Texts.{Text, Ascends}
use Rattle.lrp_model.specs.Formulas.{Question, disjunction, no_forms, form}
use Rattle.lrp_model.specs.Satisfaction.{Assignment, structure}
use Rattle.lrp_model.specs.Domains.{constants}
use Rattle.lrp_model.specs.Steps.{Steps, formula_at, reach_at}
use Rattle.lrp_model.specs.declared.relations.Relation.{Relation}
use Rattle.lrp_model.specs.declared.plans.StepKind.TheVariants.{Union, Extend}
use Rattle.lrp_model.proofs.Decided.{Decided, decided_iff, decided_both, decided_all, decided_contains}
use Rattle.lrp_tables.specs.declared.table.StepFault.{StepFault}
use Rattle.lrp_tables.specs.declared.table.Table.{Table}
use Rattle.lrp_tables.specs.Columns.{joint}
use Rattle.lrp_tables.specs.Steps.{BothReach, CanUnite, IsUnionResult}
use Rattle.lrp_tables.specs.Tables.{HasAssignment, HasTexts, IsUnited, named_variables}
use Rattle.lrp_tables.proofs.TableLaws.{decided_table}
use Rattle.lrp_eval.specs.Running.{variables_of, IsOperand, IsNext, IsRunResult}
use Rattle.lrp_eval.proofs.Denotes.{Denotes, union_keeps}
use Rattle.lrp_eval.proofs.Named.{joint_variables, texts_are, are_texts}
use Rattle.lrp_eval.proofs.Nexts.{IsRead, formula_kind, reach_kind, narrow_kind, period_nat, denotes_of, meant, ran, ascends, no_order, IsMeant}
use Rattle.lrp_eval.proofs.Reading.{step_small, earlier, multiples, period_divides, reach_within, numbered, can_meet, high, low}

pub decided_one : {p q : Type 0} → Decided p → Decided q → Decided (p ⊎ q)
decided_one (inl a) d = inl (inl a)
decided_one (inr n) (inl b) = inl (inr b)
decided_one (inr n) (inr m) = inr (λ h. ⊎_elim n m h)

-- whether an assignment is in the union is decided
decided_united : (domain : List Text) → Ascends domain → (tables : List Table) (l r : ℕ) (lt rt : Table) → IsOperand tables l lt → IsOperand tables r rt → (env : Assignment) → Decided (IsUnited domain lt rt env)
decided_united domain a tables l r lt rt lo ro env =
    decided_iff {p = HasTexts domain (joint lt.vars.texts rt.vars.texts) env × (HasAssignment lt domain env ⊎ HasAssignment rt domain env)} (λ h. record { known = h.0; has = h.1 }) (λ h. (h.known, h.has))
    (decided_both (decided_all (λ name. Contains domain (env.texts name)) (λ name. decided_contains domain (env.texts name)) (joint lt.vars.texts rt.vars.texts))
    (decided_one (decided_table domain a lt lo.valid env) (decided_table domain a rt ro.valid env)))

module _ {planned : Steps} {db : List Relation} {q : Question} {cap : ℕ} {domain : List Text} {tables : List Table} {left right : ℕ} {period : ℤ} (n : IsNext planned db q cap domain tables (Union left right) period) {lt rt : Table} (lo : IsOperand tables left lt) (ro : IsOperand tables right rt) where
  le : IsRead n left
  le = (earlier n).0

  re : IsRead n right
  re = (earlier n).1.0

  pub can_unite : CanUnite domain period lt rt
  can_unite = record {
    tables = record {
      low = low n;
      high = high n;
      left_period = period_divides n lo le (multiples n).0;
      right_period = period_divides n ro re (multiples n).1.0;
      left_reach = reach_within n lo le _ (let e = reach_kind n in let s = step_small n in let p = period_nat n in omega arith);
      right_reach = reach_within n ro re _ (let e = reach_kind n in let s = step_small n in let p = period_nat n in omega arith);
      columns = can_meet n lo ro le re (narrow_kind n);
    };
    left_numbered = numbered n lo le;
    right_numbered = numbered n ro re;
  }

  denotes : Denotes (constants db q) (structure db q) (named_variables (joint lt.vars.times rt.vars.times) (joint lt.vars.texts rt.vars.texts)) (IsUnited domain lt rt) n.step.formula
  denotes =
      let c : Ascends (constants db q) = subst Ascends n.domain_is (ascends n) in
      subst (Denotes (constants db q) (structure db q) (named_variables (joint lt.vars.times rt.vars.times) (joint lt.vars.texts rt.vars.texts)) (IsUnited domain lt rt)) (sym (formula_kind n))
      (subst (λ d. Denotes (constants db q) (structure db q) (named_variables (joint lt.vars.times rt.vars.times) (joint lt.vars.texts rt.vars.texts)) (IsUnited d lt rt) (disjunction (form (formula_at planned left) (form (formula_at planned right) no_forms)))) (sym n.domain_is)
      (union_keeps (constants db q) (structure db q) (variables_of lt) (variables_of rt) (named_variables (joint lt.vars.times rt.vars.times) (joint lt.vars.texts rt.vars.texts)) (HasAssignment lt (constants db q)) (HasAssignment rt (constants db q))
      (IsUnited (constants db q) lt rt) (formula_at planned left) (formula_at planned right) (denotes_of n left lt le lo) (denotes_of n right rt re ro)
      (joint_variables lt.vars.times lt.vars.texts rt.vars.times rt.vars.texts) (decided_united (constants db q) c tables left right lt rt lo ro)
      (λ env. (
        (λ h. (texts_are (constants db q) (joint lt.vars.times rt.vars.times) (joint lt.vars.texts rt.vars.texts) env h.known, h.has)),
        λ h. record { known = are_texts (constants db q) (joint lt.vars.times rt.vars.times) (joint lt.vars.texts rt.vars.texts) env h.0; has = h.1 },
      ))))

  other : (of : ℕ) → Union left right ≡ Extend of → ⊥
  other of e = cc

  is_meant : IsMeant n (named_variables (joint lt.vars.times rt.vars.times) (joint lt.vars.texts rt.vars.texts)) (IsUnited domain lt rt)
  is_meant = meant n _ _ other denotes

  pub union_ran : (result : Result Table StepFault) → IsUnionResult cap domain period lt rt result → IsRunResult planned db q cap (suc (length tables)) result
  union_ran result is =
      let most : ℕ = max (reach_at planned left) (reach_at planned right) in
      ran n _ _ _ _ is_meant (period_nat n) (BothReach lt rt) (λ high. high + nat_abs period) most
      (record { left_reach = reach_within n lo le most (omega arith); right_reach = reach_within n ro re most (omega arith) }) (sym (reach_kind n ∙ ap (λ k. most + k) (sym (period_nat n)))) (λ t i. no_order n other t) result is
