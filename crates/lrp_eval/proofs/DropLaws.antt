-- The steps that drop a variable: each has no more cells than the table that it reads.
use Rattle.std.proofs.Common.{◌≡◌, ◌^◌, ℕ, suc, List, length, sym, subst, ◌∙◌, arith}
use Rattle.std.specs.Prelude.{ℤ}
use Rattle.lrp_model.specs.Texts.{Text, Identifier, Ascends, without as other_names}
use Rattle.lrp_model.specs.Formulas.{Question, exists}
use Rattle.lrp_model.specs.Variables.{time_variable, data_variable}
use Rattle.lrp_model.specs.Satisfaction.{structure}
use Rattle.lrp_model.specs.Domains.{constants}
use Rattle.lrp_model.specs.Steps.{Steps, formula_at, reach_at}
use Rattle.lrp_model.specs.declared.relations.Sort.TheVariants.{Time}
use Rattle.lrp_model.specs.declared.relations.Relation.{Relation}
use Rattle.lrp_model.specs.declared.plans.StepKind.TheVariants.{DropTime, DropData, Extend}
use Rattle.lrp_store.specs.Stores.{IsStore, HasReach}
use Rattle.lrp_tables.specs.declared.table.Table.{Table}
use Rattle.lrp_tables.specs.Caps.{InhabitsMoreThan}
use Rattle.lrp_tables.specs.Tables.{HasAssignment, named_variables}
use Rattle.lrp_tables.proofs.TableLaws.{decided_table}
use Rattle.lrp_tables.proofs.DropCounts.{drop_time_counts, drop_data_counts}
use Rattle.lrp_steps.specs.Tables.{IsTimeDropped, IsTextDropped}
use Rattle.lrp_eval.specs.Running.{SameVariables, variables_of, IsStepTable, IsOperand, IsNext}
use Rattle.lrp_eval.proofs.Denotes.{Denotes, IsDecided, IsDropData, others, drop_time_keeps, drop_data_keeps}
use Rattle.lrp_eval.proofs.Named.{time_dropped, text_dropped}
use Rattle.lrp_eval.proofs.Nexts.{IsRead, formula_kind, reach_kind, keeps_kind, denotes_of, sound_step, meant, run, run_of, many_read, ascends, no_order, IsMeant}
use Rattle.lrp_eval.proofs.Reading.{step_small, earlier, reach_within, numbered}

module _ {planned : Steps} {db : List Relation} {q : Question} {cap : ℕ} {domain : List Text} {tables : List Table} {of : ℕ} {name : Identifier} {period : ℤ} (n : IsNext planned db q cap domain tables (DropTime of name) period) {table : Table} (o : IsOperand tables of table) where
  before : IsRead n of
  before = (earlier n).0

  pub drop_time_reach : HasReach table.store (2 ^ 61)
  drop_time_reach = reach_within n o before _ (let e = reach_kind n in let s = step_small n in omega arith)

  other : (l : ℕ) → DropTime of name ≡ Extend l → ⊥
  other l e = cc

  module _ {made : Table} (valid : IsStore made.store) (d : IsTimeDropped name table made) where
    variables_are : SameVariables (named_variables (other_names name table.vars.times) table.vars.texts) (others (time_variable name) (variables_of table))
    variables_are = time_dropped name table.vars.times table.vars.texts

    denotes : Denotes (constants db q) (structure db q) (named_variables (other_names name table.vars.times) table.vars.texts) (HasAssignment made domain) n.step.formula
    denotes =
        subst (Denotes (constants db q) (structure db q) (named_variables (other_names name table.vars.times) table.vars.texts) (HasAssignment made domain)) (sym (formula_kind n))
        (subst (λ c. Denotes (constants db q) (structure db q) (named_variables (other_names name table.vars.times) table.vars.texts) (HasAssignment made c) (exists name Time (formula_at planned of))) (sym n.domain_is)
        (drop_time_keeps (constants db q) (structure db q) (variables_of table) (named_variables (other_names name table.vars.times) table.vars.texts) (HasAssignment table (constants db q)) (HasAssignment made (constants db q)) (formula_at planned of) name
        (denotes_of n of table before o) variables_are (λ env. decided_table (constants db q) (subst Ascends n.domain_is (ascends n)) made valid env)
        (λ env. ((λ h. d.to (constants db q) env h), λ h. d.from (constants db q) env h.0 h.1))))

    is_meant : IsMeant n (named_variables (other_names name table.vars.times) table.vars.texts) (HasAssignment made domain)
    is_meant = meant n _ _ other denotes

    same_period : table.store.period ≡ n.step.period
    same_period = (run_of n of table before o).period ∙ sym (keeps_kind n)

    few : InhabitsMoreThan cap domain table.store.period (other_names name table.vars.times) table.vars.texts (HasAssignment made domain) → ⊥
    few h = (run_of n of table before o).few (many_read n of table before o table.store.period (run_of n of table before o).period
        (subst (λ c. InhabitsMoreThan cap c table.store.period table.vars.times table.vars.texts (HasAssignment table c)) n.domain_is
        (drop_time_counts domain table.store.period o.valid.period_low table.vars.times table.vars.texts name (HasAssignment made domain) (HasAssignment table domain) (λ env m. d.to domain env m) cap h)))

    pub drop_time_run : IsStepTable planned db q cap (suc (length tables)) made
    drop_time_run =
        run n _ _ (HasAssignment made domain) table.store.period is_meant same_period made
        (record { times_are = d.times; texts_are = d.texts; period_is = d.period; sound = λ env h. h; whole = λ env h. h; numbered = d.numbered domain (numbered n o before) })
        (subst (λ r. HasReach made.store r) (sym (reach_kind n)) (d.reach (reach_at planned of) (reach_within n o before (reach_at planned of) (omega arith)))) few (no_order n other made)

module _ {planned : Steps} {db : List Relation} {q : Question} {cap : ℕ} {domain : List Text} {tables : List Table} {of : ℕ} {name : Identifier} {period : ℤ} (n : IsNext planned db q cap domain tables (DropData of name) period) {table : Table} (o : IsOperand tables of table) where
  text_before : IsRead n of
  text_before = (earlier n).0

  text_other : (l : ℕ) → DropData of name ≡ Extend l → ⊥
  text_other l e = cc

  module _ {made : Table} (valid : IsStore made.store) (d : IsTextDropped domain name table made) where
    text_variables : SameVariables (named_variables table.vars.times (other_names name table.vars.texts)) (others (data_variable name) (variables_of table))
    text_variables = text_dropped name table.vars.times table.vars.texts

    is_drop : IsDropData (constants db q) name (HasAssignment table (constants db q)) (HasAssignment made (constants db q))
    is_drop = subst (λ c. IsDropData c name (HasAssignment table c) (HasAssignment made c)) n.domain_is (λ env. ((λ h. d.to env h), λ h. d.from env h.0 h.1 h.2))

    decided : IsDecided (HasAssignment made (constants db q))
    decided env = decided_table (constants db q) (subst Ascends n.domain_is (ascends n)) made valid env

    text_denotes : Denotes (constants db q) (structure db q) (named_variables table.vars.times (other_names name table.vars.texts)) (HasAssignment made domain) n.step.formula
    text_denotes =
        subst (λ c. Denotes (constants db q) (structure db q) (named_variables table.vars.times (other_names name table.vars.texts)) (HasAssignment made c) n.step.formula) (sym n.domain_is)
        (drop_data_keeps (constants db q) (structure db q) (variables_of table) (named_variables table.vars.times (other_names name table.vars.texts)) (HasAssignment table (constants db q)) (HasAssignment made (constants db q)) (formula_at planned of) n.step.formula name
        (denotes_of n of table text_before o) text_variables decided is_drop (formula_kind n) ((sound_step n).drops of name (sym n.kind_is)))

    text_meant : IsMeant n (named_variables table.vars.times (other_names name table.vars.texts)) (HasAssignment made domain)
    text_meant = meant n _ _ text_other text_denotes

    text_period : table.store.period ≡ n.step.period
    text_period = (run_of n of table text_before o).period ∙ sym (keeps_kind n)

    text_few : InhabitsMoreThan cap domain table.store.period table.vars.times (other_names name table.vars.texts) (HasAssignment made domain) → ⊥
    text_few h = (run_of n of table text_before o).few (many_read n of table text_before o table.store.period (run_of n of table text_before o).period
        (subst (λ c. InhabitsMoreThan cap c table.store.period table.vars.times table.vars.texts (HasAssignment table c)) n.domain_is
        (drop_data_counts domain table.store.period o.valid.period_low table.vars.times table.vars.texts name (HasAssignment made domain) (HasAssignment table domain) (λ env m. d.to env m) cap h)))

    pub drop_data_run : IsStepTable planned db q cap (suc (length tables)) made
    drop_data_run =
        run n _ _ (HasAssignment made domain) table.store.period text_meant text_period made
        (record { times_are = d.times; texts_are = d.texts; period_is = d.period; sound = λ env h. h; whole = λ env h. h; numbered = d.numbered (numbered n o text_before) })
        (subst (λ r. HasReach made.store r) (sym (reach_kind n)) (d.reach (reach_at planned of) (reach_within n o text_before (reach_at planned of) (omega arith)))) text_few (no_order n text_other made)
