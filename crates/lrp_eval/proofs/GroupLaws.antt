-- Groups of steps in parts, one step after another.
use Rattle.std.proofs.Common.{◌≡◌, inl, inr, ◌≤◌, ◌<◌, ◌+◌, ◌-◌, ◌^◌, ⊎_elim, ℕ, zero, suc, List, [], ◌∷◌, ◌++◌, length, Some, slice_get, get_or, nat_eq, true, SFits, replicate, take, drop, refl, sym, ap, ap₂, subst, ◌∙◌, arith, Contains, Option, None, Result, Ok, Err, to_z, of_z, w64}
use Rattle.std.specs.Prelude.{ℤ, pos, nat_abs, ◌≤ℤ◌, IfOk, IfSome}
use Rattle.std.specs.FinMap as finite
use Rattle.std.proofs.lemmas.Bool.{eqb-true}
use Rattle.std.proofs.lemmas.Int.{ints, to_z-of_z}
use Rattle.std.proofs.lemmas.List.{length-replicate}
use Rattle.lrp_theory.specs.Divides.{Divides}
use Rattle.lrp_theory.proofs.Modulo.{Divides-self}
use Rattle.lrp_model.specs.Texts.{Identifier, Text}
use Rattle.lrp_model.specs.Formulas.{Question}
use Rattle.lrp_model.specs.Satisfaction.{structure}
use Rattle.lrp_model.specs.Variables.{free}
use Rattle.lrp_model.specs.Domains.{constants}
use Rattle.lrp_model.specs.Caps.{ManyAt}
use Rattle.lrp_model.specs.Rows.{relation_named}
use Rattle.lrp_model.specs.Kept.{IsKept}
use Rattle.lrp_model.specs.Plans.{IsStep}
use Rattle.lrp_model.specs.Steps.{PlanStep, Steps, formula_at, reach_at, step_at}
use Rattle.lrp_model.specs.declared.relations.Relation.{Relation}
use Rattle.lrp_model.specs.declared.formulas.Term.{Term}
use Rattle.lrp_model.specs.declared.plans.Step.{Step}
use Rattle.lrp_model.specs.declared.plans.StepKind.{StepKind}
use Rattle.lrp_model.specs.declared.plans.StepKind.TheVariants.{Extend, Scan}
use Rattle.lrp_model.proofs.Decided.{contains_first, contains_none, cons_cases}
use Rattle.lrp_cutting.proofs.Lists.{below_or}
use Rattle.lrp_store.specs.Stores.{HasReach, IsStore}
use Rattle.lrp_tables.specs.declared.table.Table.{Table}
use Rattle.lrp_tables.specs.declared.table.StepFault.{StepFault}
use Rattle.lrp_tables.specs.Caps.{InhabitsMoreThan}
use Rattle.lrp_tables.specs.Columns.{scan_times, scan_texts}
use Rattle.lrp_tables.specs.Tables.{HasAssignment, IsScanned, IsTableOf, named_variables}
use Rattle.lrp_periods.specs.Bounding.{HaveFewCells}
use Rattle.lrp_periods.specs.Operations.{AreOperand, CanScanInParts, IsWholeResult}
use Rattle.lrp_periods.specs.Parts.{AreParts, ArePartsOf, HasSome, IsPeriodPart, IsSmallPeriod, part_texts, part_times}
use Rattle.lrp_plan_laws.specs.Made.{IsEarlier, operands}
use Rattle.lrp_plan_laws.specs.Rising.{period_at}
use Rattle.lrp_plan_laws.proofs.Elements.{found, within}
use Rattle.lrp_eval.specs.Grouped.{AreFewParts, ArePartsAt, AreStepsInParts, CanBeWhole, HaveFew, IsNextStep, IsStepInParts, IsWholeTable, next_step_number}
use Rattle.lrp_eval.specs.Planned.{IsPlanOf}
use Rattle.lrp_eval.specs.Running.{AreRun, HasConstants, IsNext, IsStepTable, SameVariables, variables_of}
use Rattle.lrp_eval.specs.Together.{ArePassed, AreRunTogether}
use Rattle.lrp_eval.specs.declared.groups.Group.{Group}
use Rattle.lrp_eval.proofs.Denotes.{Denotes}
use Rattle.lrp_eval.proofs.LoopLaws.{at_push, more_count, step_here}
use Rattle.lrp_eval.proofs.Nexts.{suc_pred}
use Rattle.lrp_eval.proofs.PartSteps.{IsOfPlan, at_period, denotes_in, held, own_period, period_nat, step_small}
use Rattle.lrp_eval.proofs.PlanEnds.{no_other_head}
use Rattle.lrp_eval.proofs.ScanLaws.{can_scan, denotes as scan_denotes}
use Rattle.lrp_eval.proofs.ShownLaws.{all_own, of_denoted, reach_is, shown_few, shown_table}

-- what also holds of an Ok
pub also_ok : {A E : Type 0} (P Q : A → Type 0) (r : Result A E) → ((a : A) → P a → Q a) → IfOk r P → IfOk r Q
also_ok P Q (Ok a) f h = f a h
also_ok P Q (Err e) f h = tt

-- what holds of the value of an Ok
pub ok_value : {A E : Type 0} (P : A → Type 0) (r : Result A E) (a : A) → r ≡ Ok a → IfOk r P → P a
ok_value P (Ok b) a e h = let same : b ≡ a = (let f : Ok b ≡ Ok a = e in cc) in subst P same h
ok_value P (Err x) a e h = absurd (cc)

-- ---- one table as its one part

pub one_is : (t p : Table) → Contains (t ∷ []) p → t ≡ p
one_is t p c = ⊎_elim (λ e. e) (λ d. absurd (contains_none p d)) (cons_cases t p [] c)

module _ (planned : Steps) (db : List Relation) (q : Question) (cap s : ℕ) (step : PlanStep) (at : step_at planned s ≡ Some step) (other : (of : ℕ) → step.kind ≡ Extend of → ⊥) where
  pub alone : (t : Table) → IsStore t.store → HasReach t.store (2 ^ 59) → IsStepTable planned db q cap s t → IsStepInParts planned db q s (t ∷ [])
  alone t valid reach run =
      let own : IsPeriodPart (constants db q) t.vars.times t.vars.texts (pos (period_at planned s)) t = record {
        valid = valid;
        times_are = refl;
        texts_are = refl;
        divides = subst (λ k. Divides (pos t.store.period) (pos k)) run.period (Divides-self (pos t.store.period));
        numbered = run.numbered;
        reach = reach;
      } in
      record {
        parts_are = record {
          some = omega arith;
          few = omega arith;
          each = λ part c. subst (λ p. IsPeriodPart (constants db q) t.vars.times t.vars.texts (pos (period_at planned s)) p) (one_is t part c) own;
        };
        variables = subst (λ vs. SameVariables (variables_of t) vs) (all_own planned db q cap s step at other) run.variables;
        means = λ env k.
            let m = run.means env k in
            ((λ h. m.0 (subst (λ p. HasAssignment p (constants db q) env) (sym (one_is t h.part h.listed)) h.has)), λ x. record { part = t; listed = contains_first t []; has = m.1 x });
        other = λ this of e k. other of (let same : step ≡ this = cc (at, e) in ap (λ s. s.kind) same ∙ k);
      }

-- ---- steps that read no other

-- a table of nothing
pub blank : Table
blank = record {
  vars = record { times = []; texts = [] };
  store = record { shape = record { times = 0; texts = 0 }; period = 1; tables = finite.empty; spare = 0 };
  times_named = refl;
  texts_named = refl;
  names_differ = λ i j d low high. absurd (omega (arith, high));
}

-- such a step as the one after tables of nothing
pub after_blanks : {planned : Steps} {db : List Relation} {q : Question} {k : ℕ} {kind : StepKind} {period : ℤ} (cap : ℕ) (n : IsOfPlan planned db q (suc k) kind period) → operands kind ≡ [] → IsNext planned db q cap (constants db q) (replicate k blank) kind period
after_blanks {planned} {db} {q} {k} {kind} {period} cap n none = record {
  plan = n.plan;
  step = n.step;
  at = subst (λ i. step_at planned (suc i) ≡ Some n.step) (sym (length-replicate {A = Table} k blank)) n.at;
  kind_is = n.kind_is;
  period_is = n.period_is;
  domain_is = refl;
  before = λ i table at reads. absurd (contains_none (suc i) (subst (λ l. Contains l (suc i)) none reads));
}

module _ {planned : Steps} {db : List Relation} {q : Question} {k : ℕ} {name : Identifier} {terms : List Term} {period : ℤ} (cap : ℕ) (n : IsOfPlan planned db q (suc k) (Scan name terms) period)
    {relation : Relation} (named : relation_named db name ≡ Some relation) (kept : IsKept relation) where
  next : IsNext planned db q cap (constants db q) (replicate k blank) (Scan name terms) period
  next = after_blanks cap n refl

  pub can_scan_parts : CanScanInParts (constants db q) period relation terms
  can_scan_parts = record { period_is = n.small; scan = can_scan next named kept }

  same_step : next.step ≡ n.step
  same_step = cc (next.at, n.at, length-replicate {A = Table} k blank)

  pub scan_held : (parts : List Table) → ArePartsOf (constants db q) (scan_times terms) (scan_texts terms) period (IsScanned (constants db q) relation terms) parts → IsStepInParts planned db q (suc k) parts
  scan_held parts are = held n (λ of e. (let f : Scan name terms ≡ Extend of = e in cc)) (scan_times terms) (scan_texts terms) (IsScanned (constants db q) relation terms) parts are
      (subst (λ (s : PlanStep). Denotes (constants db q) (structure db q) (named_variables (scan_times terms) (scan_texts terms)) (IsScanned (constants db q) relation terms) s.formula) same_step (scan_denotes next named kept))

-- a table that the step's call made
pub run_held : {planned : Steps} {db : List Relation} {q : Question} {k : ℕ} {kind : StepKind} {period : ℤ} (cap : ℕ) (n : IsOfPlan planned db q (suc k) kind period) → ((of : ℕ) → kind ≡ Extend of → ⊥) → (t : Table) (parts : List Table)
    → IsStepTable planned db q cap (suc (length (replicate k blank))) t → parts ≡ t ∷ [] → IsStore t.store → HasReach t.store (2 ^ 59) → IsStepInParts planned db q (suc k) parts
run_held {planned} {db} {q} {k} cap n other t parts run is valid reach =
    subst (λ ps. IsStepInParts planned db q (suc k) ps) (sym is)
    (alone planned db q cap (suc k) n.step n.at (λ of e. other of (n.kind_is ∙ e)) t valid reach (subst (λ i. IsStepTable planned db q cap (suc i) t) (length-replicate {A = Table} k blank) run))

-- ---- a group

module _ (cap : ℕ) (g : Group) (planned : Steps) (q : Question) (h : IsPlanOf planned g.database.now q g.plan.now) where
  -- the next step of a group is one of the plan
  pub of_next : (made : List (List Table)) (step : Step) → IsNextStep g made step → IsOfPlan planned g.database.now q (next_step_number g made) step.kind step.period
  of_next made step n =
      let y : (y : PlanStep) × (slice_get planned (length g.tables.now + length made) ≡ Some y) × IsStep step y = step_here planned g.database.now q cap g.plan.now (length g.tables.now + length made) step h n.at in
      record { plan = (g.plan.now, h); step = y.0; at = y.1; kind_is = y.2.kind; period_is = y.2.period; small = n.small }

  -- what it reads is held
  pub parts_held : (made : List (List Table)) → AreRun planned g.database.now q cap g.tables.now → AreStepsInParts planned g.database.now q cap (length g.tables.now) made
      → {kind : StepKind} {period : ℤ} (n : IsOfPlan planned g.database.now q (next_step_number g made) kind period) → (l : ℕ) → Contains (operands kind) l → IsEarlier (next_step_number g made) l → (parts : List Table) → ArePartsAt g made l parts → IsStepInParts planned g.database.now q l parts
  parts_held made run all {kind} {period} n l reads early parts (inl x) =
      let pred : suc (l - 1) ≡ l = suc_pred l early.0 in
      let table : IsStepTable planned g.database.now q cap l x.table = subst (λ i. IsStepTable planned g.database.now q cap i x.table) pred (run.read (l - 1) x.table x.at (record {
        number = next_step_number g made;
        step = n.step;
        after = omega arith;
        at = n.at;
        reads = subst (λ k. Contains (operands k) (suc (l - 1))) n.kind_is (subst (λ i. Contains (operands kind) i) (sym pred) reads);
      })) in
      let inside : length g.tables.now + length made < length planned = within planned (length g.tables.now + length made) n.step n.at in
      let low : l < suc (length g.tables.now + length made) = early.1 in
      let some : 0 < l = early.0 in
      let y : (y : PlanStep) × (slice_get planned (l - 1) ≡ Some y) = found planned (l - 1) (omega (arith, inside, low, some)) in
      let at : step_at planned l ≡ Some y.0 = subst (λ i. step_at planned i ≡ Some y.0) pred y.1 in
      subst (λ ps. IsStepInParts planned g.database.now q l ps) (sym x.alone)
      (alone planned g.database.now q cap l y.0 at (no_other_head h.sound l y.0 at (omega (arith, inside, low))) x.table x.valid x.reach table)
  parts_held made run all {kind} {period} n l reads early parts (inr x) =
      let b : length g.tables.now < l = x.after in
      subst (λ i. IsStepInParts planned g.database.now q i parts) (let e : suc (length g.tables.now + (l - 1 - length g.tables.now)) ≡ l = omega (arith, b) in e) (all.each (l - 1 - length g.tables.now) parts x.at)

  -- parts of few cells show that their step has no more
  pub parts_few : (made : List (List Table)) (step : Step) (parts : List Table) → IsNextStep g made step → IsStepInParts planned g.database.now q (next_step_number g made) parts → HaveFew cap (constants g.database.now q) step.period parts → ManyAt planned g.database.now q cap (next_step_number g made) → ⊥
  parts_few made step parts next held few =
      let n = of_next made step next in
      shown_few planned g.database.now q cap (next_step_number g made) n.step n.at (part_times parts) (part_texts parts) (HasSome (constants g.database.now q) parts) (λ of e. held.other n.step of n.at e)
      (of_denoted planned g.database.now q cap (next_step_number g made) (part_times parts) (part_texts parts) (HasSome (constants g.database.now q) parts) (denotes_in n held)
      (λ m. few (subst (λ k. InhabitsMoreThan cap (constants g.database.now q) k (part_times parts) (part_texts parts) (HasSome (constants g.database.now q) parts)) (at_period n ∙ sym (period_nat n)) m)))

  -- one step more, which has few cells
  pub pushed_held : (made : List (List Table)) (parts : List Table) → AreStepsInParts planned g.database.now q cap (length g.tables.now) made → IsStepInParts planned g.database.now q (next_step_number g made) parts
      → (ManyAt planned g.database.now q cap (next_step_number g made) → ⊥) → AreStepsInParts planned g.database.now q cap (length g.tables.now) (made ++ parts ∷ [])
  pushed_held made parts all new few = record {
    each = λ j ps e. ⊎_elim (λ o. all.each j ps o)
        (λ x. subst (λ us. IsStepInParts planned g.database.now q (suc (length g.tables.now + j)) us) x.1 (subst (λ i. IsStepInParts planned g.database.now q (suc (length g.tables.now + i)) parts) (sym x.0) new)) (at_push made parts ps j e);
    few = λ s low high m.
        let count : length (made ++ parts ∷ []) ≡ length made + 1 = more_count made parts (length made) refl in
        elim (below_or (length g.tables.now + length made) s) [
          | inl more ↦ (let e : s ≡ next_step_number g made = omega (arith, high, count, more) in few (subst (ManyAt planned g.database.now q cap) e m))
          | inr less ↦ all.few s low less m
        ];
  }

  -- one step more, in the same parts or others
  pub next_held : (made : List (List Table)) (step : Step) (old parts : List Table) → IsNextStep g made step → AreStepsInParts planned g.database.now q cap (length g.tables.now) made → IsStepInParts planned g.database.now q (next_step_number g made) old
      → AreFewParts cap (constants g.database.now q) step.period old parts → AreStepsInParts planned g.database.now q cap (length g.tables.now) (made ++ parts ∷ [])
  next_held made step old parts next all held few =
      let n = of_next made step next in
      let new : IsStepInParts planned g.database.now q (next_step_number g made) parts = record {
        parts_are = subst (λ k. AreParts (constants g.database.now q) k parts) (own_period n) few.parts_are;
        variables = subst (λ vs. SameVariables vs (free (formula_at planned (next_step_number g made)))) (sym (ap₂ named_variables few.times_are few.texts_are)) held.variables;
        means = λ env k.
            let m = held.means env (subst (λ vs. HasConstants (constants g.database.now q) vs env) (ap₂ named_variables few.times_are few.texts_are) k) in
            ((λ x. m.0 ((few.same env).0 x)), λ y. (few.same env).1 (m.1 y));
        other = held.other;
      } in
      pushed_held made parts all new (parts_few made step old next held few.few)

  -- the last step of a group has a table
  pub ended_run : (made : List (List Table)) (step : Step) (parts : List Table) (table : Table) → IsNextStep g made step → AreStepsInParts planned g.database.now q cap (length g.tables.now) made → IsStepInParts planned g.database.now q (next_step_number g made) parts
      → IsWholeTable cap (constants g.database.now q) step.period parts table → HasReach table.store (nat_abs (to_z w64 (of_z w64 step.reach))) → ArePassed g.readers.now (length g.tables.now) (length made)
      → AreRunTogether planned g.database.now q cap g.readers.now g.tables.now (length made) table
  ended_run made step parts table next all held whole reach passed =
      let n = of_next made step next in
      let y : (y : PlanStep) × (slice_get planned (length g.tables.now + length made) ≡ Some y) × IsStep step y = step_here planned g.database.now q cap g.plan.now (length g.tables.now + length made) step h next.at in
      let small : y.0.reach ≤ 2 ^ 61 = subst (λ (p : PlanStep). p.reach ≤ 2 ^ 61) (let e : n.step ≡ y.0 = cc (n.at, y.1) in e) (step_small n) in
      let written : step.reach ≡ pos y.0.reach = y.2.reach in
      let word : nat_abs (to_z w64 (of_z w64 step.reach)) ≡ y.0.reach = omega (arith, ints, small, written) in
      let far : nat_abs (to_z w64 (of_z w64 step.reach)) ≡ reach_at planned (next_step_number g made) = word ∙ sym (reach_is planned g.database.now q cap (next_step_number g made) y.0 y.1) in
      let same : nat_abs step.period ≡ period_at planned (next_step_number g made) = period_nat n ∙ sym (at_period n) in
      record {
        run = shown_table planned g.database.now q cap (next_step_number g made) n.step n.at (part_times parts) (part_texts parts) (HasSome (constants g.database.now q) parts) (λ of e. held.other n.step of n.at e)
            (of_denoted planned g.database.now q cap (next_step_number g made) (part_times parts) (part_texts parts) (HasSome (constants g.database.now q) parts) (denotes_in n held)
            (λ m. whole.few (subst (λ k. InhabitsMoreThan cap (constants g.database.now q) k (part_times parts) (part_texts parts) (HasSome (constants g.database.now q) parts)) (sym same) m)))
            table whole.valid (subst (λ k. IsTableOf (constants g.database.now q) (part_times parts) (part_texts parts) k (HasSome (constants g.database.now q) parts) table) same whole.is) (subst (λ r. HasReach table.store r) far reach);
        few = λ s low high m. all.few s low high m;
        done = passed;
      }

  -- no step of a group is done yet
  pub none_held : AreStepsInParts planned g.database.now q cap (length g.tables.now) []
  none_held = record { each = λ j parts e. cc; few = λ s low high m. absurd (omega (arith, low, high)) }

-- ---- parts that are made whole

-- parts of few cells are their own
pub own_few : (cap : ℕ) (domain : List Text) (period : ℤ) (parts : List Table) → CanBeWhole domain period parts → HaveFew cap domain period parts → AreFewParts cap domain period parts parts
own_few cap domain period parts can few = record { parts_are = can.operand.parts_are; times_are = refl; texts_are = refl; same = λ env. ((λ h. h), λ h. h); few = few }

-- a bound shows that parts have few cells
pub bound_few : (cap : ℕ) (domain : List Text) (period : ℤ) (parts : List Table) (o : Option ℕ) → CanBeWhole domain period parts → IfSome o (λ n. HaveFewCells cap (nat_abs (to_z w64 (of_z w64 period))) parts) → IfSome o (λ n. HaveFew cap domain period parts)
bound_few cap domain period parts (Some n) can few =
    let low : pos 1 ≤ℤ period = can.operand.period_is.low in
    let high : nat_abs period ≤ 2 ^ 56 = can.operand.period_is.high in
    let e : nat_abs (to_z w64 (of_z w64 period)) ≡ nat_abs period = omega (arith, ints, low, high) in
    let p : pos (nat_abs period) ≡ period = omega (arith, ints, low) in
    (subst (λ k. HaveFewCells cap k parts) e few) domain can.ascends (subst (λ k. AreParts domain k parts) (sym p) can.operand.parts_are)
bound_few cap domain period parts None can few = tt

pub bound_low : (domain : List Text) (period : ℤ) (parts : List Table) → CanBeWhole domain period parts → 0 < nat_abs (to_z w64 (of_z w64 period))
bound_low domain period parts can = let low : pos 1 ≤ℤ period = can.operand.period_is.low in let high : nat_abs period ≤ 2 ^ 56 = can.operand.period_is.high in omega (arith, ints, low, high)

pub bound_multiples : (domain : List Text) (period : ℤ) (parts : List Table) → CanBeWhole domain period parts → (part : Table) → Contains parts part → Divides (pos part.store.period) (pos (nat_abs (to_z w64 (of_z w64 period))))
bound_multiples domain period parts can part c =
    let low : pos 1 ≤ℤ period = can.operand.period_is.low in
    let high : nat_abs period ≤ 2 ^ 56 = can.operand.period_is.high in
    let e : period ≡ pos (nat_abs (to_z w64 (of_z w64 period))) = omega (arith, ints, low, high) in
    subst (λ k. Divides (pos part.store.period) k) e (can.operand.parts_are.each part c).divides

-- one table of a list
pub slice_one : (xs : List Table) (i : ℕ) (x : Table) (n : ℕ) → n ≡ 1 → slice_get xs i ≡ Some x → take n (drop i xs) ≡ x ∷ []
slice_one xs i x n one e = subst (λ k. take k (drop i xs) ≡ x ∷ []) (sym one) (first_of xs i x e)
  where
    first_of : (xs : List Table) (i : ℕ) (x : Table) → slice_get xs i ≡ Some x → take 1 (drop i xs) ≡ x ∷ []
    first_of [] i x e = absurd (cc)
    first_of (y ∷ ys) zero x e = let s : y ≡ x = (let f : Some y ≡ Some x = e in cc) in ap (λ z. z ∷ []) s
    first_of (y ∷ ys) (suc i) x e = first_of ys i x e

-- the one part of a whole period is its table
pub one_whole : (cap : ℕ) (domain : List Text) (period : ℤ) (parts : List Table) (table : Table) → CanBeWhole domain period parts → parts ≡ table ∷ [] → pos table.store.period ≡ period → HaveFew cap domain period parts → IsWholeTable cap domain period parts table
one_whole cap domain period parts table can is same few =
    let part : IsPeriodPart domain (part_times parts) (part_texts parts) period table = can.operand.parts_are.each table (subst (λ ps. Contains ps table) (sym is) (contains_first table [])) in
    record {
      valid = part.valid;
      is = record {
        times_are = part.times_are;
        texts_are = part.texts_are;
        period_is = (let e : table.store.period ≡ nat_abs period = ap nat_abs same in e);
        sound = λ env x. record { part = table; listed = subst (λ ps. Contains ps table) (sym is) (contains_first table []); has = x };
        whole = λ env h. subst (λ p. HasAssignment p domain env) (sym (one_is table h.part (subst (λ ps. Contains ps h.part) is h.listed))) h.has;
        numbered = part.numbered;
      };
      few = few;
    }

-- a period is its word
pub period_word : (period : ℤ) → IsSmallPeriod period → to_z w64 (of_z w64 period) ≡ period
period_word period small = let low : pos 1 ≤ℤ period = small.low in let high : nat_abs period ≤ 2 ^ 56 = small.high in omega (arith, ints, low, high)

pub whole_asks : (domain : List Text) (period : ℤ) (parts : List Table) → CanBeWhole domain period parts → AreOperand domain (to_z w64 (of_z w64 period)) parts
whole_asks domain period parts can = subst (λ k. AreOperand domain k parts) (sym (period_word period can.operand.period_is)) can.operand

pub whole_makes : (cap : ℕ) (domain : List Text) (period : ℤ) (parts : List Table) (result : Result Table StepFault) (table : Table) → CanBeWhole domain period parts → result ≡ Ok table → IsWholeResult cap domain (to_z w64 (of_z w64 period)) parts result → IsWholeTable cap domain period parts table
whole_makes cap domain period parts result table can e is =
    made (subst (λ r. IsWholeResult cap domain period parts r) e (subst (λ k. IsWholeResult cap domain k parts result) (period_word period can.operand.period_is) is))
  where
    made : IsWholeResult cap domain period parts (Ok table) → IsWholeTable cap domain period parts table
    made w = record { valid = w.valid; is = w.table; few = w.few }

-- one table of a list that has one
pub one_of : (parts : List Table) (t : Table) → 1 ≤ length parts → length parts < 2 → t ≡ get_or parts 0 t → parts ≡ t ∷ []
one_of [] t low high e = absurd (omega (arith, low))
one_of (x ∷ []) t low high e = ap (λ z. z ∷ []) (sym e)
one_of (x ∷ y ∷ zs) t low high e = absurd (omega (arith, high))

-- two periods with one word
pub same_word : (a b : ℤ) → SFits w64 a → SFits w64 b → nat_eq (of_z w64 a) (of_z w64 b) ≡ true → a ≡ b
same_word a b f g e = sym (to_z-of_z w64 a f) ∙ ap (to_z w64) (eqb-true (of_z w64 a) (of_z w64 b) e) ∙ to_z-of_z w64 b g
