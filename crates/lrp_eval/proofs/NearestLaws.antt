-- The first answer of a plan that ends with a complement of one time column.
use Rattle.std.proofs.Common.{◌≡◌, ◌≢◌, ◌↔◌, ◌⊎◌, inl, inr, ◌≤◌, ◌<◌, ◌+◌, ◌-◌, ℕ, zero, suc, Bool, true, false, List, [], ◌∷◌, length, map, Contains, Result, Ok, Err, Option, Some, None, refl, sym, ap, ap₂, subst, ◌∙◌, arith, to_z, of_z, w64}
use Rattle.std.proofs.lemmas.Int.{ints}
use Rattle.std.specs.Prelude.{ℤ, pos, nat_abs}
use Rattle.std.specs.Cmp.{IsTotalOrder}
use Rattle.std.specs.Ordering.{nat_cmp, ordering_then}
use Rattle.std.specs.declared.cmp.Ordering.{Ordering}
use Rattle.std.proofs.lemmas.Cmp.{by_ranked, ranked, lists_total, nat_cmp_total, nat_list_cmp_total, on_total, then_total, tied_itself}
use Rattle.std.specs.declared.cmp.Ordering.TheVariants.{Less, Equal, Greater}
use Rattle.lrp_theory.specs.Residues.{rank}
use Rattle.lrp_model.specs.Texts.{Identifier, Text}
use Rattle.lrp_model.specs.Rows.{Datum, Tuple, text, texts_of, time, times_of}
use Rattle.lrp_model.specs.Formulas.{Question}
use Rattle.lrp_model.specs.Order.{rank_cmp}
use Rattle.lrp_model.specs.Variables.{data_variable}
use Rattle.lrp_model.specs.Satisfaction.{Assignment, HasShape, IsAnswer, IsOfKind, Satisfies, assignment, structure}
use Rattle.lrp_model.specs.Domains.{constants}
use Rattle.lrp_model.specs.Caps.{ManyAt}
use Rattle.lrp_model.specs.Steps.{Steps, formula_at}
use Rattle.lrp_model.specs.Plans.{query_reach}
use Rattle.lrp_model.specs.declared.relations.Column.{Column}
use Rattle.lrp_model.specs.declared.relations.Relation.{Relation}
use Rattle.lrp_model.specs.declared.relations.Sort.{Sort}
use Rattle.lrp_model.specs.declared.relations.Sort.TheVariants.{Time, Data, Named}
use Rattle.lrp_model.specs.declared.plans.Plan.{Plan}
use Rattle.lrp_model.specs.declared.plans.Step.{Step}
use Rattle.lrp_model.specs.declared.plans.StepKind.TheVariants.{Complement, Extend}
use Rattle.lrp_model.proofs.Decided.{contains_none}
use Rattle.lrp_cutting.proofs.Lists.{below_or, in_one, one_in}
use Rattle.lrp_store.specs.Stores.{HasReach, InStore, IsStore}
use Rattle.lrp_store.specs.Tables.{InAnswer}
use Rattle.lrp_steps.proofs.Steps.{farther}
use Rattle.lrp_answers.specs.declared.answer.Answer.{Answer}
use Rattle.lrp_answers.specs.Parts.{IsInSomePart}
use Rattle.lrp_tables.specs.declared.table.Table.{Table}
use Rattle.lrp_tables.specs.Caps.{InhabitsMoreThan}
use Rattle.lrp_tables.specs.Columns.{head_times, head_texts, text_name, with_time_name}
use Rattle.lrp_tables.specs.Tables.{HasAssignment, named_variables}
use Rattle.lrp_periods.specs.Nearest.{HasNoFarther, IsNearestLeft}
use Rattle.lrp_periods.specs.Parts.{HasSome, IsPeriodPart, part_texts, part_times}
use Rattle.lrp_periods.specs.Sets.{IsComplementOf}
use Rattle.lrp_periods.proofs.NearestLaws.{line_within}
use Rattle.lrp_tables.proofs.Numbers.{texts_known}
use Rattle.lrp_tables.proofs.TupleLaws.{tuple_times}
use Rattle.lrp_plan_laws.specs.Rising.{period_at}
use Rattle.lrp_eval.specs.Answered.{AreAnswersInParts, HaveFirstAnswer, IsAnswerPart}
use Rattle.lrp_eval.specs.Ending.{IsAnswerUnder, IsLastNearest, IsNearestHeld, IsOneUnder}
use Rattle.lrp_eval.specs.Grouped.{AreHeld, ArePartsAt, CanRunGroup, IsNextStep, IsStepInParts, next_step_number}
use Rattle.lrp_eval.specs.Planned.{IsPlanOf}
use Rattle.lrp_eval.specs.Running.{HasConstants}
use Rattle.lrp_eval.specs.declared.groups.Group.{Group}
use Rattle.lrp_eval.proofs.AnswerLaws.{fits_known, shape_of}
use Rattle.lrp_eval.proofs.Denotes.{Denotes}
use Rattle.lrp_eval.proofs.EndLaws.{answer_part, end_period, head_means, part_held, past_few, to_table}
use Rattle.lrp_eval.proofs.GroupLaws.{period_word}
use Rattle.lrp_eval.proofs.GroupSteps.{as_step, domain_is, operand_at}
use Rattle.lrp_eval.proofs.HeadTuples.{tuple_known}
use Rattle.lrp_eval.proofs.LoopLaws.{zip_length}
use Rattle.lrp_eval.proofs.Named.{data_named}
use Rattle.lrp_eval.proofs.PartLaws.{complement_denotes}
use Rattle.lrp_eval.proofs.PartSteps.{IsOfPlan, at_formula, at_period, own_period, period_nat}
use Rattle.lrp_eval.proofs.ShownLaws.{of_denoted, shown_few}

-- where there are no data columns, there is nothing to be known
no_constants : (domain : List Text) (times texts : List Identifier) (env : Assignment) → texts ≡ [] → HasConstants domain (named_variables times texts) env
no_constants domain times texts env none v c = absurd (contains_none v (subst (λ ts. Contains ts v) none ((data_named times texts v).0 c)))

-- ---- the complement before `head`

module _ {cap : ℕ} {domain : List Text} {g : Group} {made : List (List Table)} {step : Step} (can : CanRunGroup cap domain g) (all : AreHeld cap g made) (next : IsNextStep g made step) {l : ℕ} {of : List Table} (at : ArePartsAt g made l of) (kind : step.kind ≡ Complement l)
    (place : next_step_number g made + 1 ≡ length g.plan.now.steps) (one : length (part_times of) ≡ 1) (none : part_texts of ≡ []) (times : part_times of ≡ head_times g.plan.now.head.columns) (texts : part_texts of ≡ head_texts g.plan.now.head.columns)
    (within : nat_abs (to_z w64 (of_z w64 step.period)) ≤ cap) (table : Table) (is : IsNearestLeft domain (to_z w64 (of_z w64 step.period)) of table) where
  pub near_held : IsNearestHeld cap g table
  near_held planned q h run =
      let size : length g.plan.now.steps ≡ length planned = zip_length g.plan.now.steps planned h.is.steps in
      let before : next_step_number g made ≡ length planned - 1 = omega (arith, place, size) in
      let n : IsOfPlan planned g.database.now q (next_step_number g made) (Complement l) (to_z w64 (of_z w64 step.period)) = as_step can all next planned q h (Complement l) kind in
      let read : IsStepInParts planned g.database.now q l of = operand_at can all next planned q h run (Complement l) kind l (one_in l) of at in
      let d : Denotes (constants g.database.now q) (structure g.database.now q) (named_variables (part_times of) (part_texts of)) (IsComplementOf (constants g.database.now q) (part_texts of) (HasSome (constants g.database.now q) of)) (formula_at planned (next_step_number g made)) =
      subst (Denotes (constants g.database.now q) (structure g.database.now q) (named_variables (part_times of) (part_texts of)) (IsComplementOf (constants g.database.now q) (part_texts of) (HasSome (constants g.database.now q) of))) (sym (at_formula n)) (complement_denotes n read) in
      let near : IsNearestLeft (constants g.database.now q) (to_z w64 (of_z w64 step.period)) of table = subst (λ ts. IsNearestLeft ts (to_z w64 (of_z w64 step.period)) of table) (domain_is can all next planned q h) is in
      let times_are : part_times of ≡ head_times q.head = times ∙ ap head_times h.is.head in
      let texts_are : part_texts of ≡ head_texts q.head = texts ∙ ap head_texts h.is.head in
      let low : period_at planned (next_step_number g made) ≤ cap = subst (λ k. k ≤ cap) (period_nat n ∙ sym (at_period n)) within in
      let few : InhabitsMoreThan cap (constants g.database.now q) (period_at planned (next_step_number g made)) (part_times of) (part_texts of) (IsComplementOf (constants g.database.now q) (part_texts of) (HasSome (constants g.database.now q) of)) → ⊥ =
      line_within (constants g.database.now q) cap (period_at planned (next_step_number g made)) low (part_times of) (part_texts of) (IsComplementOf (constants g.database.now q) (part_texts of) (HasSome (constants g.database.now q) of)) one none in
      let means : (env : Assignment) → HasConstants (constants g.database.now q) (named_variables (head_times q.head) (head_texts q.head)) env → IsComplementOf (constants g.database.now q) (part_texts of) (HasSome (constants g.database.now q) of) env ↔ Satisfies (formula_at planned (length planned - 1)) (structure g.database.now q) env =
      (λ env k. subst (λ s. IsComplementOf (constants g.database.now q) (part_texts of) (HasSome (constants g.database.now q) of) env ↔ Satisfies (formula_at planned s) (structure g.database.now q) env) before
      (d.means env (no_constants (constants g.database.now q) (part_times of) (part_texts of) env none))) in
      let less : InhabitsMoreThan cap (constants g.database.now q) (period_at planned (length planned - 1)) (head_times q.head) (head_texts q.head) (IsComplementOf (constants g.database.now q) (part_texts of) (HasSome (constants g.database.now q) of)) → ⊥ =
      line_within (constants g.database.now q) cap (period_at planned (length planned - 1)) (subst (λ s. period_at planned s ≤ cap) before low) (head_times q.head) (head_texts q.head) (IsComplementOf (constants g.database.now q) (part_texts of) (HasSome (constants g.database.now q) of)) (sym (ap length times_are) ∙ one) (sym texts_are ∙ none) in
      let known : (env : Assignment) → HasConstants (constants g.database.now q) (named_variables (head_times q.head) (head_texts q.head)) env = (λ env. no_constants (constants g.database.now q) (head_times q.head) (head_texts q.head) env (sym texts_are ∙ none)) in
      let period : to_z w64 (of_z w64 step.period) ≡ pos (period_at planned (length planned)) = own_period n ∙ ap (λ s. pos (period_at planned s)) before ∙ ap pos (end_period h.sound) in
      record {
        part = subst (λ k. IsPeriodPart (constants g.database.now q) (head_times q.head) (head_texts q.head) k table) period
            (subst (λ ns. IsPeriodPart (constants g.database.now q) ns (head_texts q.head) (to_z w64 (of_z w64 step.period)) table) times_are
            (subst (λ ns. IsPeriodPart (constants g.database.now q) (part_times of) ns (to_z w64 (of_z w64 step.period)) table) texts_are near.part));
        line = sym (ap length times_are) ∙ one;
        texts = sym texts_are ∙ none;
        sound = λ env a. (head_means h.sound means env (known env)).0 (near.sound env a);
        near = λ env s. subst (λ ns. HasNoFarther ns table.store env) times_are (near.near env ((head_means h.sound means env (known env)).1 s));
        reach = farther table.store 0 (query_reach planned) (omega arith) near.free;
        few = λ s m. elim (below_or (length g.tables.now) s) [
          | inl after ↦ elim (below_or (length g.tables.now + length made) s) [
            | inl more ↦ elim (below_or (next_step_number g made) s) [
              | inl end ↦ past_few h.sound means cap less s (let e = before in omega (arith, end, e)) m
              | inr this ↦ (let e : s ≡ next_step_number g made = omega (arith, more, this) in
                  shown_few planned g.database.now q cap (next_step_number g made) n.step n.at (part_times of) (part_texts of) (IsComplementOf (constants g.database.now q) (part_texts of) (HasSome (constants g.database.now q) of))
                  (λ o f. (let x : Complement l ≡ Extend o = n.kind_is ∙ f in cc))
                  (of_denoted planned g.database.now q cap (next_step_number g made) (part_times of) (part_texts of) (IsComplementOf (constants g.database.now q) (part_texts of) (HasSome (constants g.database.now q) of)) d few)
                  (subst (ManyAt planned g.database.now q cap) e m))
            ]
            | inr less ↦ (all planned q h run).few s after less m
          ]
          | inr first ↦ run.few s first m
        ];
      }

-- ---- tuples of one time

no_column : (columns : List Column) → length (head_times columns) ≡ 0 → head_texts columns ≡ [] → columns ≡ []
no_column [] a b = refl
no_column (d ∷ ds) a b = absurd (by d.sort a b)
  where
    by : (s : Sort) → length (with_time_name s d.name (head_times ds)) ≡ 0 → text_name s d.name (head_texts ds) ≡ [] → ⊥
    by Time e f = omega (arith, e)
    by Data e f = cc
    by (Named name) e f = cc

-- a head of one time column and no other
record IsOneColumn (columns : List Column) : Type 0 where
  column : Column
  alone : columns ≡ column ∷ []
  sort_is : column.sort ≡ Time

one_column : (columns : List Column) → length (head_times columns) ≡ 1 → head_texts columns ≡ [] → IsOneColumn columns
one_column [] a b = absurd (omega (arith, a))
one_column (d ∷ ds) a b = by d.sort refl a b
  where
    by : (s : Sort) → d.sort ≡ s → length (with_time_name s d.name (head_times ds)) ≡ 1 → text_name s d.name (head_texts ds) ≡ [] → IsOneColumn (d ∷ ds)
    by Time is e f = record { column = d; alone = ap (λ cs. d ∷ cs) (no_column ds (let g : suc (length (head_times ds)) ≡ 1 = e in omega (arith, g)) f); sort_is = is }
    by Data is e f = cc
    by (Named name) is e f = cc

one_shape : (columns : List Column) → IsOneColumn columns → (y : ℤ) → HasShape columns (time y ∷ [])
one_shape columns one y = subst (λ cs. HasShape cs (time y ∷ [])) (sym one.alone) (subst (λ s. IsOfKind s (time y)) (sym one.sort_is) tt, tt)

-- a tuple of it is one time
one_time : (columns : List Column) → IsOneColumn columns → (tuple : Tuple) → HasShape columns tuple → (x : ℤ) × (tuple ≡ time x ∷ [])
one_time columns one tuple k = by tuple (subst (λ cs. HasShape cs tuple) one.alone k)
  where
    by : (t : Tuple) → HasShape (one.column ∷ []) t → (x : ℤ) × (t ≡ time x ∷ [])
    by [] h = absurd h
    by (time x ∷ []) h = (x, refl)
    by (time x ∷ d ∷ ds) h = absurd h.1
    by (text t ∷ ds) h = absurd (subst (λ s. IsOfKind s (text t)) one.sort_is h.0)

-- it comes after no tuple of a number that is as far
not_after : (x y : ℤ) → rank y ≤ rank x → rank_cmp (time y ∷ []) (time x ∷ []) ≢ Greater
not_after x y l = by (nat_cmp (rank y) (rank x)) (lesser (rank y) (rank x) l)
  where
    lesser : (m n : ℕ) → m ≤ n → nat_cmp m n ≢ Greater
    lesser m n h = by_ranked (m < n) (m ≡ n) (n < m) (nat_cmp m n) (ranked m n (nat_cmp m n) refl) (λ e k g. (let f : Less ≡ Greater = sym e ∙ g in cc)) (λ e k g. (let f : Equal ≡ Greater = sym e ∙ g in cc)) (λ e k. absurd (omega arith))

    by : (o : Ordering) → o ≢ Greater → ordering_then (ordering_then o Equal) Equal ≢ Greater
    by Less h e = cc
    by Equal h e = cc
    by Greater h e = h refl

-- ---- the part with the first answer

one_of : {X : Type 0} (xs : List X) → length xs ≡ 1 → (x : X) × (xs ≡ x ∷ [])
one_of [] e = absurd (omega (arith, e))
one_of (x ∷ []) e = (x, refl)
one_of (x ∷ y ∷ xs) e = absurd (omega (arith, e))

module _ {planned : Steps} {db : List Relation} {q : Question} {p : Plan} {cap : ℕ} {table : Table} (h : IsPlanOf planned db q p) (n : IsLastNearest planned db q cap table) where
  abbrev one : IsOneColumn q.head
  one = one_column q.head n.line n.texts

  -- the value of the one variable is the tuple's time
  value_is : (v : Identifier) → head_times q.head ≡ v ∷ [] → (x : ℤ) (tuple : Tuple) → HasShape q.head tuple → tuple ≡ time x ∷ [] → (assignment q.head tuple).times v ≡ x
  value_is v e x tuple k same =
      let m : map (assignment q.head tuple).times (head_times q.head) ≡ times_of tuple = tuple_times q.head tuple _ h.settled.names k in
      let l : (assignment q.head tuple).times v ∷ [] ≡ x ∷ [] = sym (ap (map (assignment q.head tuple).times) e) ∙ m ∙ ap times_of same in
      cc

  module _ (a : Answer) (u : IsAnswerUnder p table.store a) where
    is_answer : (tuple : Tuple) → InAnswer a.head.columns a.domain a.store tuple → IsAnswer db q tuple
    is_answer tuple i =
        let x : InAnswer q.head (constants db q) table.store tuple = (to_table h n.part a u tuple).0 i in
        (h.sound.answers tuple x.shape (texts_known (constants db q) x.held.0 (texts_of tuple) x.held.1)).0 (n.sound (assignment q.head tuple) ((part_held h n.part tuple x.shape).1 x.held))

    comes_first : (tuple : Tuple) → IsAnswer db q tuple → (early : Tuple) × InAnswer a.head.columns a.domain a.store early × (rank_cmp early tuple ≢ Greater)
    comes_first tuple is =
        let k : HasShape q.head tuple = shape_of db q q.head tuple is.fits in
        let x = one_time q.head one tuple k in
        let v = one_of (head_times q.head) n.line in
        let s : Satisfies (formula_at planned (length planned)) (structure db q) (assignment q.head tuple) = (h.sound.answers tuple k (fits_known planned db q h.sound q.head tuple is.fits)).1 is in
        let y = n.near (assignment q.head tuple) s in
        let near : rank y.0 ≤ rank x.0 = subst (λ z. rank y.0 ≤ rank z) (value_is v.0 v.1 x.0 tuple k x.1) (y.2 v.0 (subst (λ ns. Contains ns v.0) (sym v.1) (one_in v.0))) in (
          time y.0 ∷ [],
          (to_table h n.part a u (time y.0 ∷ [])).1 (record { shape = one_shape q.head one y.0; held = ([], tt, y.1) }),
          subst (λ t. rank_cmp (time y.0 ∷ []) t ≢ Greater) (sym x.1) (not_after x.0 y.0 near),
        )

  pub first_answer : (parts : List Answer) → IsOneUnder p table.store parts → HaveFirstAnswer planned db q cap parts
  first_answer parts u = subst (HaveFirstAnswer planned db q cap) (sym u.alone) (record {
    some = omega arith;
    each = λ a c. subst (IsAnswerPart planned db q) (in_one u.answer a c) (answer_part h n.part u.answer u.under n.reach);
    sound = λ tuple i. is_answer u.answer u.under tuple (subst (λ (a : Answer). InAnswer a.head.columns a.domain a.store tuple) (sym (in_one u.answer i.part i.listed)) i.is);
    first = λ tuple is. let e = comes_first u.answer u.under tuple is in (e.0, record { part = u.answer; listed = one_in u.answer; is = e.1 }, e.2);
    few = n.few;
  })

-- ---- all answers

ranks_total : IsTotalOrder rank_cmp
ranks_total = then_total (on_total times_of (lists_total (on_total rank nat_cmp_total))) (on_total texts_of (lists_total nat_list_cmp_total))

-- the first one is among them
pub all_first : {planned : Steps} {db : List Relation} {q : Question} {cap : ℕ} {parts : List Answer} → AreAnswersInParts planned db q cap parts → HaveFirstAnswer planned db q cap parts
all_first are = record {
  some = are.some;
  each = are.each;
  sound = λ tuple i. (are.answers tuple).0 i;
  first = λ tuple a. (tuple, (are.answers tuple).1 a, λ later. (let e : rank_cmp tuple tuple ≡ Equal = tied_itself ranks_total tuple in let f : Equal ≡ Greater = sym e ∙ later in cc));
  few = are.few;
}
