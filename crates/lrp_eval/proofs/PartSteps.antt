-- A step of a plan whose tables are held in parts: what is known of it, and of the parts that it reads.
use Rattle.std.proofs.Common.{◌≡◌, ◌↔◌, inl, inr, ◌≤◌, ◌^◌, ⊎_elim, ℕ, List, [], ◌∷◌, ◌++◌, Some, map, sym, ap, ap₂, subst, ◌∙◌, arith, Contains, unwrap_or, option_map, to_z, of_z, w64}
use Rattle.std.specs.Prelude.{ℤ, pos, nat_abs, ◌≤ℤ◌, flat_map}
use Rattle.std.specs.List.{AllByRecursion}
use Rattle.std.proofs.lemmas.Int.{ints}
use Rattle.lrp_theory.specs.Divides.{Divides, IsMultiple}
use Rattle.lrp_theory.proofs.Multiples.{Divides-trans}
use Rattle.lrp_model.specs.Texts.{Ascends, Identifier, Text}
use Rattle.lrp_model.specs.Formulas.{Question, conjunction, no_forms}
use Rattle.lrp_model.specs.Variables.{Variable, time_variable, data_variable, free}
use Rattle.lrp_model.specs.Satisfaction.{Assignment, Satisfies, structure}
use Rattle.lrp_model.specs.Domains.{constants, all_texts}
use Rattle.lrp_model.specs.Reach.{step_reach}
use Rattle.lrp_model.specs.Steps.{PlanStep, Steps, step_at, formula_at, reach_at}
use Rattle.lrp_model.specs.Plans.{query_reach}
use Rattle.lrp_model.specs.Sorts.{time_count}
use Rattle.lrp_model.specs.TestPoints.{points}
use Rattle.lrp_model.specs.declared.relations.Relation.{Relation}
use Rattle.lrp_model.specs.declared.plans.Plan.{Plan}
use Rattle.lrp_model.specs.declared.plans.StepKind.{StepKind}
use Rattle.lrp_model.specs.declared.plans.StepKind.TheVariants.{Extend}
use Rattle.lrp_model.proofs.Decided.{Decided, contains_first, contains_later, contains_none, cons_cases}
use Rattle.lrp_model.proofs.DomainLaws.{in_order_ascends}
use Rattle.lrp_store.specs.Stores.{IsStore}
use Rattle.lrp_tables.specs.declared.table.Table.{Table}
use Rattle.lrp_tables.specs.Calls.{AreVariablesOf, CanMeet}
use Rattle.lrp_tables.specs.Columns.{joint}
use Rattle.lrp_tables.specs.Tables.{HasAssignment, named_variables}
use Rattle.lrp_tables.proofs.TableLaws.{decided_table}
use Rattle.lrp_periods.specs.Parts.{AreParts, ArePartsOf, HasSome, IsSmallPeriod, part_texts, part_times}
use Rattle.lrp_plan_laws.specs.Made.{IsEarlier, IsMade, IsStepFormula, HasVariables, operands, head_step}
use Rattle.lrp_plan_laws.specs.Points.{step_points}
use Rattle.lrp_plan_laws.specs.Rising.{IsRising, named_periods, period_at}
use Rattle.lrp_plan_laws.specs.Scopes.{IsNarrow}
use Rattle.lrp_plan_laws.specs.Settled.{IsSoundStep}
use Rattle.lrp_plan_laws.proofs.Members.{all_by, in_left, in_right}
use Rattle.lrp_eval.specs.Grouped.{IsStepInParts}
use Rattle.lrp_eval.specs.Planned.{IsPlanOf}
use Rattle.lrp_eval.specs.Running.{HasConstants, SameVariables, variables_of}
use Rattle.lrp_eval.proofs.Denotes.{Denotes, Set}
use Rattle.lrp_eval.proofs.Named.{all_of, data_named, in_joint, time_named}
use Rattle.lrp_eval.proofs.Nexts.{half_reach}
use Rattle.lrp_eval.proofs.Reading.{first_differ, joint_differ, second_differ}

-- ---- some part has an assignment

decided_some : (domain : List Text) → Ascends domain → (parts : List Table) → ((part : Table) → Contains parts part → IsStore part.store) → (env : Assignment) → Decided (HasSome domain parts env)
decided_some domain a [] valid env = inr (λ h. contains_none h.part h.listed)
decided_some domain a (part ∷ parts) valid env = by (decided_table domain a part (valid part (contains_first part parts)) env) (decided_some domain a parts (λ p c. valid p (contains_later part p parts c)) env)
  where
    by : Decided (HasAssignment part domain env) → Decided (HasSome domain parts env) → Decided (HasSome domain (part ∷ parts) env)
    by (inl h) d = inl (record { part = part; listed = contains_first part parts; has = h })
    by (inr n) (inl h) = inl (record { part = h.part; listed = contains_later part h.part parts h.listed; has = h.has })
    by (inr n) (inr m) = inr (λ h. ⊎_elim (λ e. n (subst (λ t. HasAssignment t domain env) (sym e) h.has)) (λ c. m (record { part = h.part; listed = c; has = h.has })) (cons_cases part h.part parts h.listed))

pub decided_parts : (domain : List Text) → Ascends domain → (K : ℤ) (parts : List Table) → AreParts domain K parts → (env : Assignment) → Decided (HasSome domain parts env)
decided_parts domain a K parts are env = decided_some domain a parts (λ p c. (are.each p c).valid) env

-- ---- a step

-- step s of a plan has this kind, and this period, which is small
pub record IsOfPlan (planned : Steps) (db : List Relation) (q : Question) (s : ℕ) (kind : StepKind) (period : ℤ) : Type 0 where
  pub plan : (p : Plan) × IsPlanOf planned db q p
  pub step : PlanStep
  pub at : step_at planned s ≡ Some step
  pub kind_is : kind ≡ step.kind
  pub period_is : period ≡ pos step.period
  pub small : IsSmallPeriod period

-- the same step, by what its kind is
pub of_plan_as : {planned : Steps} {db : List Relation} {q : Question} {s : ℕ} {kind : StepKind} {period : ℤ} (k : StepKind) → IsOfPlan planned db q s kind period → kind ≡ k → IsOfPlan planned db q s k period
of_plan_as {planned} {db} {q} {s} {kind} {period} k n e = subst (λ t. IsOfPlan planned db q s t period) e n

module _ {planned : Steps} {db : List Relation} {q : Question} {s : ℕ} {kind : StepKind} {period : ℤ} (n : IsOfPlan planned db q s kind period) where
  pub sound_step : IsSoundStep planned db q s n.step
  sound_step = n.plan.1.sound.each s n.step n.at

  rises : IsRising planned db q s n.step
  rises = sound_step.rises

  made : IsMade (structure db q) (head_step planned db q) planned s n.step
  made = sound_step.made

  of_kind : (p : StepKind → Type 0) → p n.step.kind → p kind
  of_kind p h = subst p (sym n.kind_is) h

  pub formula_kind : IsStepFormula (structure db q) (head_step planned db q) (formula_at planned) kind n.step.formula
  formula_kind = of_kind (λ k. IsStepFormula (structure db q) (head_step planned db q) (formula_at planned) k n.step.formula) made.formula

  pub variables_kind : HasVariables (formula_at planned) kind
  variables_kind = of_kind (λ k. HasVariables (formula_at planned) k) made.variables

  pub reach_kind : n.step.reach ≡ step_reach db (reach_at planned) n.step.period kind
  reach_kind = of_kind (λ k. n.step.reach ≡ step_reach db (reach_at planned) n.step.period k) made.reach

  pub narrow_kind : IsNarrow (flat_map (λ l. free (formula_at planned l)) (operands kind))
  narrow_kind = of_kind (λ k. IsNarrow (flat_map (λ l. free (formula_at planned l)) (operands k))) sound_step.narrow.read

  pub multiples : AllByRecursion (λ l. IsMultiple (period_at planned l) n.step.period) (operands kind)
  multiples = of_kind (λ k. AllByRecursion (λ l. IsMultiple (period_at planned l) n.step.period) (operands k)) rises.multiple

  -- the period is its word
  pub worded : IsOfPlan planned db q s kind (to_z w64 (of_z w64 period))
  worded =
      let low : pos 1 ≤ℤ period = n.small.low in
      let high : nat_abs period ≤ 2 ^ 56 = n.small.high in
      let e : period ≡ to_z w64 (of_z w64 period) = omega (arith, ints, low, high) in
      subst (λ p. IsOfPlan planned db q s kind p) e n

  pub earlier : AllByRecursion (IsEarlier s) (operands kind)
  earlier = of_kind (λ k. AllByRecursion (IsEarlier s) (operands k)) made.earlier

  pub period_nat : nat_abs period ≡ n.step.period
  period_nat = ap nat_abs n.period_is

  pub step_small : n.step.reach ≤ 2 ^ 61
  step_small = let a = rises.below in let b : query_reach planned ≤ 2 ^ 61 = half_reach (time_count q.head) (query_reach planned) n.plan.1.reach in omega arith

  pub point_periods : AllByRecursion (λ at. pos 1 ≤ℤ at.period) (step_points kind)
  point_periods = of_kind (λ k. AllByRecursion (λ at. pos 1 ≤ℤ at.period) (step_points k))
      (all_by (λ at. pos 1 ≤ℤ at.period) (step_points n.step.kind) (λ at c.
      all_of (λ at. pos 1 ≤ℤ at.period) (points q.body) at n.plan.1.points
      (all_of (Contains (points q.body)) (step_points n.step.kind) at sound_step.points c)))

  pub own_periods : AllByRecursion (λ k. (1 ≤ k) × IsMultiple k n.step.period) (named_periods db kind)
  own_periods = of_kind (λ k. AllByRecursion (λ k. (1 ≤ k) × IsMultiple k n.step.period) (named_periods db k)) rises.points

  pub at_formula : formula_at planned s ≡ n.step.formula
  at_formula = ap (λ p. unwrap_or (option_map (λ step. step.formula) p) (conjunction no_forms)) n.at

  pub at_period : period_at planned s ≡ n.step.period
  at_period = ap (λ p. unwrap_or (option_map (λ step. step.period) p) 1) n.at

  pub own_period : period ≡ pos (period_at planned s)
  own_period = n.period_is ∙ ap pos (sym at_period)

  pub ascends : Ascends (constants db q)
  ascends = in_order_ascends (map (λ entry. entry.1) (all_texts db q))

  -- ---- its own parts

  -- parts of a set that is the meaning of its formula
  pub held : ((of : ℕ) → kind ≡ Extend of → ⊥) → (times texts : List Identifier) (set : Set) (parts : List Table) → ArePartsOf (constants db q) times texts period set parts → Denotes (constants db q) (structure db q) (named_variables times texts) set n.step.formula
      → IsStepInParts planned db q s parts
  held other times texts set parts are d =
      let vs : named_variables (part_times parts) (part_texts parts) ≡ named_variables times texts = ap₂ named_variables are.times_are are.texts_are in
      record {
        parts_are = subst (λ k. AreParts (constants db q) k parts) own_period are.parts;
        variables = subst (λ ws. SameVariables ws (free (formula_at planned s))) (sym vs) (subst (λ f. SameVariables (named_variables times texts) (free f)) (sym at_formula) d.variables);
        means = λ env k.
            let m : set env ↔ Satisfies n.step.formula (structure db q) env = d.means env (subst (λ ws. HasConstants (constants db q) ws env) vs k) in
            subst (λ f. HasSome (constants db q) parts env ↔ Satisfies f (structure db q) env) (sym at_formula) ((λ h. m.0 (are.sound env h)), λ h. are.whole env (m.1 h));
        other = λ step of at e. let same : n.step ≡ step = cc (n.at, at) in other of (n.kind_is ∙ ap (λ s. s.kind) same ∙ e);
      }

  -- ---- parts that it reads

  module _ {l : ℕ} {parts : List Table} (h : IsStepInParts planned db q l parts) where
    pub denotes_in : Denotes (constants db q) (structure db q) (named_variables (part_times parts) (part_texts parts)) (HasSome (constants db q) parts) (formula_at planned l)
    denotes_in = record { variables = h.variables; means = h.means }

    pub parts_in : IsMultiple (period_at planned l) n.step.period → AreParts (constants db q) period parts
    parts_in m = record {
      some = h.parts_are.some;
      few = h.parts_are.few;
      each = λ part c.
          let e = h.parts_are.each part c in
          record {
            valid = e.valid;
            times_are = e.times_are;
            texts_are = e.texts_are;
            divides = Divides-trans (pos part.store.period) (pos (period_at planned l)) period e.divides (subst (λ k. Divides (pos (period_at planned l)) k) (sym n.period_is) m);
            numbered = e.numbered;
            reach = e.reach;
          };
    }

    pub decided_in : (env : Assignment) → Decided (HasSome (constants db q) parts env)
    decided_in env = decided_parts (constants db q) ascends (pos (period_at planned l)) parts h.parts_are env

    -- the variables of a part are those of the formula
    pub part_variables : (part : Table) → Contains parts part → (v : Variable) → Contains (variables_of part) v ↔ Contains (free (formula_at planned l)) v
    part_variables part c v =
        let e = h.parts_are.each part c in
        subst (λ vs. Contains vs v ↔ Contains (free (formula_at planned l)) v) (ap₂ named_variables (sym e.times_are) (sym e.texts_are)) (h.variables v)

  -- ---- parts of two tables that it reads

  module _ {l r : ℕ} {lefts rights : List Table} (lh : IsStepInParts planned db q l lefts) (rh : IsStepInParts planned db q r rights)
      (narrow : IsNarrow (free (formula_at planned l) ++ (free (formula_at planned r) ++ []))) where
    left_in : (left : Table) → Contains lefts left → (v : Variable) → Contains (variables_of left) v → Contains (free (formula_at planned l) ++ (free (formula_at planned r) ++ [])) v
    left_in left c v d = in_left (free (formula_at planned l)) (free (formula_at planned r) ++ []) v ((part_variables lh left c v).0 d)

    right_in : (right : Table) → Contains rights right → (v : Variable) → Contains (variables_of right) v → Contains (free (formula_at planned l) ++ (free (formula_at planned r) ++ [])) v
    right_in right c v d = in_right (free (formula_at planned l)) (free (formula_at planned r) ++ []) v (in_left (free (formula_at planned r)) [] v ((part_variables rh right c v).0 d))

    pub parts_meet : (left right : Table) → Contains lefts left → Contains rights right → CanMeet left right
    parts_meet left right lc rc = record {
      times = narrow.times (joint left.vars.times right.vars.times) (joint_differ left.vars.times right.vars.times (first_differ left.vars.times left.vars.texts left.names_differ))
          (all_by _ (joint left.vars.times right.vars.times) (λ v c.
          ⊎_elim (λ a. left_in left lc (time_variable v) ((time_named left.vars.times left.vars.texts v).1 a)) (λ b. right_in right rc (time_variable v) ((time_named right.vars.times right.vars.texts v).1 b))
          ((in_joint left.vars.times right.vars.times v).0 c)));
      texts = narrow.texts (joint left.vars.texts right.vars.texts) (joint_differ left.vars.texts right.vars.texts (second_differ left.vars.times left.vars.texts left.names_differ))
          (all_by _ (joint left.vars.texts right.vars.texts) (λ v c.
          ⊎_elim (λ a. left_in left lc (data_variable v) ((data_named left.vars.times left.vars.texts v).1 a)) (λ b. right_in right rc (data_variable v) ((data_named right.vars.times right.vars.texts v).1 b))
          ((in_joint left.vars.texts right.vars.texts v).0 c)));
      left_apart = λ v a b. narrow.kinds v (left_in left lc (time_variable v) ((time_named left.vars.times left.vars.texts v).1 a)) (right_in right rc (data_variable v) ((data_named right.vars.times right.vars.texts v).1 b));
      right_apart = λ v a b. narrow.kinds v (right_in right rc (time_variable v) ((time_named right.vars.times right.vars.texts v).1 a)) (left_in left lc (data_variable v) ((data_named left.vars.times left.vars.texts v).1 b));
    }

  -- the right ones have no variable but the left ones'
  module _ {l r : ℕ} {lefts rights : List Table} (lh : IsStepInParts planned db q l lefts) (rh : IsStepInParts planned db q r rights)
      (among : (v : Variable) → Contains (free (formula_at planned r)) v → Contains (free (formula_at planned l)) v) where
    known : (left right : Table) → Contains lefts left → Contains rights right → (v : Variable) → Contains (variables_of right) v → Contains (variables_of left) v
    known left right lc rc v c = (part_variables lh left lc v).1 (among v ((part_variables rh right rc v).0 c))

    pub parts_variables : (left right : Table) → Contains lefts left → Contains rights right → AreVariablesOf left right
    parts_variables left right lc rc = record {
      times = λ v c. (time_named left.vars.times left.vars.texts v).0 (known left right lc rc (time_variable v) ((time_named right.vars.times right.vars.texts v).1 c));
      texts = λ v c. (data_named left.vars.times left.vars.texts v).0 (known left right lc rc (data_variable v) ((data_named right.vars.times right.vars.texts v).1 c));
    }
