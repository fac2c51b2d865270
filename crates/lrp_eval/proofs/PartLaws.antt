-- Steps in parts: each operation on parts makes those of its step.
use Rattle.std.proofs.Common.{◌≡◌, ◌⊎◌, ⊎_elim, ℕ, List, [], ◌++◌, sym, subst, arith, Contains}
use Rattle.std.specs.Prelude.{ℤ}
use Rattle.std.specs.List.{AllByRecursion}
use Rattle.lrp_model.specs.Texts.{Identifier, without}
use Rattle.lrp_model.specs.Formulas.{Question}
use Rattle.lrp_model.specs.Variables.{variables_of_test, free}
use Rattle.lrp_model.specs.Satisfaction.{Assignment, structure}
use Rattle.lrp_model.specs.Domains.{constants}
use Rattle.lrp_model.specs.Steps.{Steps, formula_at}
use Rattle.lrp_model.specs.declared.relations.Relation.{Relation}
use Rattle.lrp_model.specs.declared.formulas.Test.{Test}
use Rattle.lrp_model.specs.declared.plans.StepKind.TheVariants.{Extend, Join, Select, Union, Minus, Complement, DropTime, DropData}
use Rattle.lrp_model.proofs.Decided.{Decided, contains_none, decided_all, decided_both, decided_contains, decided_iff}
use Rattle.lrp_tables.specs.declared.table.Table.{Table}
use Rattle.lrp_tables.specs.Calls.{CanBeCarried}
use Rattle.lrp_tables.specs.Columns.{joint}
use Rattle.lrp_tables.specs.Tables.{HasTexts, named_variables}
use Rattle.lrp_dropping.specs.Without.{IsTimeCompleted}
use Rattle.lrp_periods.specs.Operations.{AreOperand, CanCombineInParts, CanJoinInParts, CanMinusInParts, CanSelectInParts}
use Rattle.lrp_periods.specs.Parts.{ArePartsOf, HasSome, part_texts, part_times}
use Rattle.lrp_periods.specs.Sets.{IsComplementOf, IsDifferenceOf, IsJoinOf, IsSelectionOf, IsTextCompleted, IsUnionOf}
use Rattle.lrp_plan_laws.specs.Made.{AreAmong}
use Rattle.lrp_plan_laws.proofs.Members.{in_left, in_one, in_right}
use Rattle.lrp_eval.specs.Grouped.{IsStepInParts}
use Rattle.lrp_eval.proofs.Denotes.{Denotes, complement_keeps, drop_data_keeps, drop_time_keeps, join_keeps, minus_keeps, select_keeps, union_keeps}
use Rattle.lrp_eval.proofs.JoinLaws.{all_among, carried_all, tests_among}
use Rattle.lrp_eval.proofs.Named.{are_texts, joint_variables, text_dropped, texts_are, time_dropped}
use Rattle.lrp_eval.proofs.PartSteps.{IsOfPlan, ascends, decided_in, decided_parts, denotes_in, formula_kind, held, multiples, narrow_kind, own_periods, parts_in, parts_meet, parts_variables, period_nat, point_periods, reach_kind, sound_step, step_small, variables_kind}
use Rattle.lrp_eval.proofs.Reading.{carried}
use Rattle.lrp_eval.proofs.UnionLaws.{decided_one}

-- ---- joins

module _ {planned : Steps} {db : List Relation} {q : Question} {s l r : ℕ} {tests : List Test} {period : ℤ} (n : IsOfPlan planned db q s (Join l r tests) period) {lefts rights : List Table} (lh : IsStepInParts planned db q l lefts) (rh : IsStepInParts planned db q r rights) where
  abbrev times : List Identifier
  times = joint (part_times lefts) (part_times rights)

  abbrev texts : List Identifier
  texts = joint (part_texts lefts) (part_texts rights)

  known : AllByRecursion (λ t. AreAmong (variables_of_test t) (named_variables times texts)) tests
  known = all_among tests (free (formula_at planned l) ++ free (formula_at planned r)) (named_variables times texts)
      (λ v c. (joint_variables (part_times lefts) (part_texts lefts) (part_times rights) (part_texts rights) v).1
      (⊎_elim (λ a. in_left (named_variables (part_times lefts) (part_texts lefts)) (named_variables (part_times rights) (part_texts rights)) v ((lh.variables v).1 a))
      (λ b. in_right (named_variables (part_times lefts) (part_texts lefts)) (named_variables (part_times rights) (part_texts rights)) v ((rh.variables v).1 b))
      (in_one (free (formula_at planned l)) (free (formula_at planned r)) v c)))
      (variables_kind n)

  pub can_join_parts : CanJoinInParts (constants db q) period lefts rights tests
  can_join_parts = record {
    parts = record {
      period_is = n.small;
      lefts_are = parts_in n lh (multiples n).0;
      rights_are = parts_in n rh (multiples n).1.0;
      columns = parts_meet n lh rh (narrow_kind n);
    };
    carried = subst (λ p. AllByRecursion (CanBeCarried times texts p) tests) (sym n.period_is) (carried_all times texts n.step.period tests known (point_periods n) (own_periods n));
    tests_small = (let e = reach_kind n in let s = step_small n in let p = period_nat n in omega arith);
  }

  pub join_held : (parts : List Table) → ArePartsOf (constants db q) times texts period (IsJoinOf (HasSome (constants db q) lefts) (HasSome (constants db q) rights) tests) parts → IsStepInParts planned db q s parts
  join_held parts are = held n (λ of e. (let f : Join l r tests ≡ Extend of = e in cc)) times texts _ parts are
      (subst (Denotes (constants db q) (structure db q) (named_variables times texts) (IsJoinOf (HasSome (constants db q) lefts) (HasSome (constants db q) rights) tests)) (sym (formula_kind n))
      (join_keeps (constants db q) (structure db q) (named_variables (part_times lefts) (part_texts lefts)) (named_variables (part_times rights) (part_texts rights)) (named_variables times texts)
      (HasSome (constants db q) lefts) (HasSome (constants db q) rights) (IsJoinOf (HasSome (constants db q) lefts) (HasSome (constants db q) rights) tests) (formula_at planned l) (formula_at planned r) tests
      (denotes_in n lh) (denotes_in n rh) (joint_variables (part_times lefts) (part_texts lefts) (part_times rights) (part_texts rights)) (tests_among tests _ known)
      (λ env. ((λ h. (h.in_left, h.in_right, h.passes)), λ h. record { in_left = h.0; in_right = h.1; passes = h.2 }))))

-- ---- selections

module _ {planned : Steps} {db : List Relation} {q : Question} {s l : ℕ} {t : Test} {period : ℤ} (n : IsOfPlan planned db q s (Select l t) period) {of : List Table} (h : IsStepInParts planned db q l of) where
  test_known : AreAmong (variables_of_test t) (named_variables (part_times of) (part_texts of))
  test_known v c = (h.variables v).1 (variables_kind n v c)

  pub can_select_parts : CanSelectInParts (constants db q) period of t
  can_select_parts = record {
    period_is = n.small;
    parts_are = parts_in n h (multiples n).0;
    carried = subst (λ p. CanBeCarried (part_times of) (part_texts of) p t) (sym n.period_is) (carried (part_times of) (part_texts of) n.step.period t test_known (point_periods n) (own_periods n));
    test_small = (let e = reach_kind n in let s = step_small n in let p = period_nat n in omega arith);
  }

  pub select_held : (parts : List Table) → ArePartsOf (constants db q) (part_times of) (part_texts of) period (IsSelectionOf (HasSome (constants db q) of) t) parts → IsStepInParts planned db q s parts
  select_held parts are = held n (λ of e. (let f : Select l t ≡ Extend of = e in cc)) (part_times of) (part_texts of) _ parts are
      (subst (Denotes (constants db q) (structure db q) (named_variables (part_times of) (part_texts of)) (IsSelectionOf (HasSome (constants db q) of) t)) (sym (formula_kind n))
      (select_keeps (constants db q) (structure db q) (named_variables (part_times of) (part_texts of)) (HasSome (constants db q) of) (IsSelectionOf (HasSome (constants db q) of) t) (formula_at planned l) t (denotes_in n h)
      (λ v c. ⊎_elim (λ a. test_known v a) (λ b. absurd (contains_none v b)) (in_one (variables_of_test t) [] v c))
      (λ env. ((λ h. (h.has, h.passes)), λ h. record { has = h.0; passes = h.1 }))))

-- ---- unions

module _ {planned : Steps} {db : List Relation} {q : Question} {s l r : ℕ} {period : ℤ} (n : IsOfPlan planned db q s (Union l r) period) {lefts rights : List Table} (lh : IsStepInParts planned db q l lefts) (rh : IsStepInParts planned db q r rights) where
  abbrev union_times : List Identifier
  union_times = joint (part_times lefts) (part_times rights)

  abbrev union_texts : List Identifier
  union_texts = joint (part_texts lefts) (part_texts rights)

  pub can_unite_parts : CanCombineInParts (constants db q) period lefts rights
  can_unite_parts = record {
    period_is = n.small;
    lefts_are = parts_in n lh (multiples n).0;
    rights_are = parts_in n rh (multiples n).1.0;
    columns = parts_meet n lh rh (narrow_kind n);
  }

  abbrev united : Assignment → Type 0
  united = IsUnionOf (constants db q) union_texts (HasSome (constants db q) lefts) (HasSome (constants db q) rights)

  decided : (env : Assignment) → Decided (united env)
  decided env =
      decided_iff {p = HasTexts (constants db q) union_texts env × (HasSome (constants db q) lefts env ⊎ HasSome (constants db q) rights env)} (λ h. record { known = h.0; has = h.1 }) (λ h. (h.known, h.has))
      (decided_both (decided_all (λ name. Contains (constants db q) (env.texts name)) (λ name. decided_contains (constants db q) (env.texts name)) union_texts) (decided_one (decided_in n lh env) (decided_in n rh env)))

  pub union_held : (parts : List Table) → ArePartsOf (constants db q) union_times union_texts period united parts → IsStepInParts planned db q s parts
  union_held parts are = held n (λ of e. (let f : Union l r ≡ Extend of = e in cc)) union_times union_texts united parts are
      (subst (Denotes (constants db q) (structure db q) (named_variables union_times union_texts) united) (sym (formula_kind n))
      (union_keeps (constants db q) (structure db q) (named_variables (part_times lefts) (part_texts lefts)) (named_variables (part_times rights) (part_texts rights)) (named_variables union_times union_texts)
      (HasSome (constants db q) lefts) (HasSome (constants db q) rights) united (formula_at planned l) (formula_at planned r) (denotes_in n lh) (denotes_in n rh)
      (joint_variables (part_times lefts) (part_texts lefts) (part_times rights) (part_texts rights)) decided
      (λ env. ((λ h. (texts_are (constants db q) union_times union_texts env h.known, h.has)), λ h. record { known = are_texts (constants db q) union_times union_texts env h.0; has = h.1 }))))

-- ---- differences and complements

module _ {planned : Steps} {db : List Relation} {q : Question} {s l r : ℕ} {period : ℤ} (n : IsOfPlan planned db q s (Minus l r) period) {lefts rights : List Table} (lh : IsStepInParts planned db q l lefts) (rh : IsStepInParts planned db q r rights) where
  pub can_minus_parts : CanMinusInParts (constants db q) period lefts rights
  can_minus_parts = record {
    period_is = n.small;
    ascends = ascends n;
    lefts_are = parts_in n lh (multiples n).0;
    rights_are = parts_in n rh (multiples n).1.0;
    columns = parts_variables n lh rh (variables_kind n);
  }

  pub minus_held : (parts : List Table) → ArePartsOf (constants db q) (part_times lefts) (part_texts lefts) period (IsDifferenceOf (HasSome (constants db q) lefts) (HasSome (constants db q) rights)) parts → IsStepInParts planned db q s parts
  minus_held parts are = held n (λ of e. (let f : Minus l r ≡ Extend of = e in cc)) (part_times lefts) (part_texts lefts) _ parts are
      (subst (Denotes (constants db q) (structure db q) (named_variables (part_times lefts) (part_texts lefts)) (IsDifferenceOf (HasSome (constants db q) lefts) (HasSome (constants db q) rights))) (sym (formula_kind n))
      (minus_keeps (constants db q) (structure db q) (named_variables (part_times lefts) (part_texts lefts)) (named_variables (part_times rights) (part_texts rights)) (HasSome (constants db q) lefts) (HasSome (constants db q) rights)
      (IsDifferenceOf (HasSome (constants db q) lefts) (HasSome (constants db q) rights)) (formula_at planned l) (formula_at planned r) (denotes_in n lh) (denotes_in n rh)
      (λ v c. (lh.variables v).1 (variables_kind n v ((rh.variables v).0 c))) (λ env. ((λ h. (h.has, h.none)), λ h. record { has = h.0; none = h.1 }))))

module _ {planned : Steps} {db : List Relation} {q : Question} {s l : ℕ} {period : ℤ} (n : IsOfPlan planned db q s (Complement l) period) {of : List Table} (h : IsStepInParts planned db q l of) where
  pub can_complement_parts : AreOperand (constants db q) period of
  can_complement_parts = record { period_is = n.small; parts_are = parts_in n h (multiples n).0 }

  -- what the parts lack is the meaning of its formula
  pub complement_denotes : Denotes (constants db q) (structure db q) (named_variables (part_times of) (part_texts of)) (IsComplementOf (constants db q) (part_texts of) (HasSome (constants db q) of)) n.step.formula
  complement_denotes =
      subst (Denotes (constants db q) (structure db q) (named_variables (part_times of) (part_texts of)) (IsComplementOf (constants db q) (part_texts of) (HasSome (constants db q) of))) (sym (formula_kind n))
      (complement_keeps (constants db q) (structure db q) (named_variables (part_times of) (part_texts of)) (HasSome (constants db q) of) (IsComplementOf (constants db q) (part_texts of) (HasSome (constants db q) of)) (formula_at planned l) (denotes_in n h)
      (λ env. ((λ h. (texts_are (constants db q) (part_times of) (part_texts of) env h.known, h.none)), λ h. record { known = are_texts (constants db q) (part_times of) (part_texts of) env h.0; none = h.1 })))

  pub complement_held : (parts : List Table) → ArePartsOf (constants db q) (part_times of) (part_texts of) period (IsComplementOf (constants db q) (part_texts of) (HasSome (constants db q) of)) parts → IsStepInParts planned db q s parts
  complement_held parts are = held n (λ of e. (let f : Complement l ≡ Extend of = e in cc)) (part_times of) (part_texts of) _ parts are complement_denotes

-- ---- columns that go

module _ {planned : Steps} {db : List Relation} {q : Question} {s l : ℕ} {name : Identifier} {period : ℤ} (n : IsOfPlan planned db q s (DropTime l name) period) {of : List Table} (h : IsStepInParts planned db q l of) where
  pub can_drop_time_parts : AreOperand (constants db q) period of
  can_drop_time_parts = record { period_is = n.small; parts_are = parts_in n h (multiples n).0 }

  pub drop_time_held : (parts : List Table) → ArePartsOf (constants db q) (without name (part_times of)) (part_texts of) period (IsTimeCompleted name (HasSome (constants db q) of)) parts → IsStepInParts planned db q s parts
  drop_time_held parts are = held n (λ of e. (let f : DropTime l name ≡ Extend of = e in cc)) (without name (part_times of)) (part_texts of) (HasSome (constants db q) parts) parts
      (record { parts = are.parts; times_are = are.times_are; texts_are = are.texts_are; sound = λ env m. m; whole = λ env m. m })
      (subst (Denotes (constants db q) (structure db q) (named_variables (without name (part_times of)) (part_texts of)) (HasSome (constants db q) parts)) (sym (formula_kind n))
      (drop_time_keeps (constants db q) (structure db q) (named_variables (part_times of) (part_texts of)) (named_variables (without name (part_times of)) (part_texts of)) (HasSome (constants db q) of) (HasSome (constants db q) parts) (formula_at planned l) name
      (denotes_in n h) (time_dropped name (part_times of) (part_texts of)) (λ env. decided_parts (constants db q) (ascends n) period parts are.parts env) (λ env. ((λ m. are.sound env m), λ m. are.whole env m))))

module _ {planned : Steps} {db : List Relation} {q : Question} {s l : ℕ} {name : Identifier} {period : ℤ} (n : IsOfPlan planned db q s (DropData l name) period) {of : List Table} (h : IsStepInParts planned db q l of) where
  pub can_drop_data_parts : AreOperand (constants db q) period of
  can_drop_data_parts = record { period_is = n.small; parts_are = parts_in n h (multiples n).0 }

  pub drop_data_held : (parts : List Table) → ArePartsOf (constants db q) (part_times of) (without name (part_texts of)) period (IsTextCompleted (constants db q) name (HasSome (constants db q) of)) parts → IsStepInParts planned db q s parts
  drop_data_held parts are = held n (λ of e. (let f : DropData l name ≡ Extend of = e in cc)) (part_times of) (without name (part_texts of)) (HasSome (constants db q) parts) parts
      (record { parts = are.parts; times_are = are.times_are; texts_are = are.texts_are; sound = λ env m. m; whole = λ env m. m })
      (drop_data_keeps (constants db q) (structure db q) (named_variables (part_times of) (part_texts of)) (named_variables (part_times of) (without name (part_texts of))) (HasSome (constants db q) of) (HasSome (constants db q) parts) (formula_at planned l) n.step.formula name
      (denotes_in n h) (text_dropped name (part_times of) (part_texts of)) (λ env. decided_parts (constants db q) (ascends n) period parts are.parts env) (λ env. ((λ m. are.sound env m), λ m. are.whole env m)) (formula_kind n) ((sound_step n).drops l name (sym n.kind_is)))
