-- The parts of the last steps are the answer.
use Rattle.std.proofs.Common.{◌≡◌, ◌↔◌, ◌⊎◌, inl, inr, ⊎_elim, ◌≤◌, ◌<◌, ◌+◌, ◌-◌, ◌*◌, ◌^◌, ℕ, zero, suc, List, [], ◌∷◌, ◌++◌, length, Some, Contains, unwrap_or, option_map, slice_get, refl, sym, ap, ap₂, subst, ◌∙◌, arith, to_z, of_z, w64}
use Rattle.std.proofs.lemmas.Int.{ints}
use Rattle.std.proofs.Math.Nat.{mul-le-mul_right, mul-le-mul_left}
use Rattle.std.specs.Prelude.{ℤ, pos, nat_abs}
use Rattle.std.specs.List.{AllByRecursion, AllZip}
use Rattle.lrp_theory.proofs.Multiples.{multiple_le}
use Rattle.lrp_model.specs.Texts.{Text}
use Rattle.lrp_model.specs.DataTexts.{IsDomain}
use Rattle.lrp_model.specs.Rows.{Datum, texts_of, times_of}
use Rattle.lrp_model.specs.Formulas.{Question, conjunction, no_forms}
use Rattle.lrp_model.specs.Variables.{Variable, data_variable, time_variable, free, head_variables}
use Rattle.lrp_model.specs.Satisfaction.{Assignment, HasShape, IsAnswer, Satisfies, assignment, structure}
use Rattle.lrp_model.specs.Domains.{constants}
use Rattle.lrp_model.specs.Caps.{ManyAt, step_variables, variables_with}
use Rattle.lrp_model.specs.Plans.{IsStep, query_reach}
use Rattle.lrp_model.specs.Sorts.{time_count}
use Rattle.lrp_model.specs.Steps.{PlanStep, Steps, formula_at, step_at}
use Rattle.lrp_model.specs.declared.relations.Column.{Column}
use Rattle.lrp_model.specs.declared.relations.Relation.{Relation}
use Rattle.lrp_model.specs.declared.plans.Plan.{Plan}
use Rattle.lrp_model.specs.declared.plans.Step.{Step}
use Rattle.lrp_model.specs.declared.tuples.Cell.{Cell}
use Rattle.lrp_model.proofs.Decided.{cons_cases, contains_first, contains_later, contains_none}
use Rattle.lrp_zone.specs.Zones.{ZoneView, IsZone, columns_of, reach_of}
use Rattle.lrp_store.specs.Stores.{HasReach, IsStore, StoreView, tables_at, zone_of, zones_at}
use Rattle.lrp_store.specs.Tables.{AreNumbered, InAnswer, StoreHolds}
use Rattle.lrp_store.proofs.Held.{zone_held}
use Rattle.lrp_tables.specs.declared.table.Table.{Table}
use Rattle.lrp_tables.specs.Caps.{InhabitsMoreThan}
use Rattle.lrp_tables.specs.Columns.{head_times, head_texts}
use Rattle.lrp_tables.specs.Tables.{HasAssignment, HasTexts, named_variables}
use Rattle.lrp_tables.specs.Steps.{CanExtend}
use Rattle.lrp_tables.proofs.HeadNames.{head_names_differ}
use Rattle.lrp_tables.proofs.TableLaws.{table_texts}
use Rattle.lrp_tables.proofs.HeadCounts.{columns_counted, times_counted}
use Rattle.lrp_tables.proofs.Numbers.{texts_known}
use Rattle.lrp_cutting.specs.Differences.{greatest_reach}
use Rattle.lrp_cutting.specs.Settling.{IsSettlement, IsSmallZone}
use Rattle.lrp_cutting.proofs.LineLaws.{more_small}
use Rattle.lrp_cutting.proofs.Lists.{below_or, from_map, greatest_below, in_one, one_in}
use Rattle.lrp_periods.specs.Parts.{AreParts, HasSome, IsPeriodPart, part_texts, part_times}
use Rattle.lrp_answers.specs.declared.answer.Answer.{Answer}
use Rattle.lrp_plan_laws.specs.Rising.{KeepsPeriod, period_at}
use Rattle.lrp_plan_laws.specs.Scopes.{IsNarrow}
use Rattle.lrp_plan_laws.specs.Settled.{IsSoundPlan}
use Rattle.lrp_plan_laws.proofs.Members.{all_by, in_left, in_one as in_either}
use Rattle.lrp_eval.specs.Answered.{AreAnswersInParts, IsAnswerOf, IsAnswerPart}
use Rattle.lrp_eval.specs.Ending.{AreLastHeld, AreLastParts, AreOverHead, CanStandOver, CanStandUnder, IsAnswerUnder}
use Rattle.lrp_eval.specs.Grouped.{AreHeld, CanBeWhole, CanRunGroup, HaveFew, IsGroupHeld, IsNextStep, IsStepInParts, next_step_number}
use Rattle.lrp_eval.specs.Planned.{IsPlanOf}
use Rattle.lrp_eval.specs.Running.{AreRun, HasConstants, SameVariables}
use Rattle.lrp_eval.specs.declared.groups.Group.{Group}
use Rattle.lrp_eval.proofs.AnsweredLaws.{fewer}
use Rattle.lrp_eval.proofs.AnswerLaws.{fits_known, shape_of}
use Rattle.lrp_eval.proofs.Counted.{many_at}
use Rattle.lrp_eval.proofs.GroupLaws.{of_next, parts_few}
use Rattle.lrp_eval.proofs.GroupSteps.{held_whole}
use Rattle.lrp_eval.proofs.Reading.{first_differ, second_differ}
use Rattle.lrp_eval.proofs.HeadTuples.{tuple_held, tuple_known}
use Rattle.lrp_eval.proofs.LoopLaws.{many_in, step_here, zip_length}
use Rattle.lrp_eval.proofs.Named.{are_texts, data_named, head_columns, texts_in_head, time_named, times_in_head}
use Rattle.lrp_eval.proofs.PartSteps.{at_period, own_period, period_nat}
use Rattle.lrp_eval.proofs.PlanEnds.{last_step, some_steps, wide_last}
use Rattle.lrp_eval.proofs.Nexts.{half_reach}
use Rattle.lrp_eval.proofs.ShownLaws.{reach_is}
use Rattle.lrp_eval.proofs.SingleLaws.{alone}

-- ---- lists whose elements belong together

pub zip_count : {X Y : Type 0} (R : X → Y → Type 0) (xs : List X) (ys : List Y) → AllZip R xs ys → length xs ≡ length ys
zip_count R [] [] h = refl
zip_count R [] (y ∷ ys) h = absurd h
zip_count R (x ∷ xs) [] h = absurd h
zip_count R (x ∷ xs) (y ∷ ys) h = ap suc (zip_count R xs ys h.1)

zip_left : {X Y : Type 0} (R : X → Y → Type 0) (xs : List X) (ys : List Y) → AllZip R xs ys → (y : Y) → Contains ys y → (x : X) × Contains xs x × R x y
zip_left R [] [] h y c = absurd (contains_none y c)
zip_left R [] (z ∷ ys) h y c = absurd h
zip_left R (x ∷ xs) [] h y c = absurd h
zip_left R (x ∷ xs) (z ∷ ys) h y c = ⊎_elim (λ e. (x, contains_first x xs, subst (λ w. R x w) e h.0)) (λ d. let r = zip_left R xs ys h.1 y d in (r.0, contains_later x r.0 xs r.1, r.2)) (cons_cases z y ys c)

zip_right : {X Y : Type 0} (R : X → Y → Type 0) (xs : List X) (ys : List Y) → AllZip R xs ys → (x : X) → Contains xs x → (y : Y) × Contains ys y × R x y
zip_right R [] [] h x c = absurd (contains_none x c)
zip_right R [] (y ∷ ys) h x c = absurd h
zip_right R (z ∷ xs) [] h x c = absurd h
zip_right R (z ∷ xs) (y ∷ ys) h x c = ⊎_elim (λ e. (y, contains_first y ys, subst (λ w. R w y) e h.0)) (λ d. let r = zip_right R xs ys h.1 x d in (r.0, contains_later y r.0 ys r.1, r.2)) (cons_cases z x xs c)

pub zip_push : {X Y : Type 0} (R : X → Y → Type 0) (xs : List X) (ys : List Y) (x : X) (y : Y) → AllZip R xs ys → R x y → AllZip R (xs ++ x ∷ []) (ys ++ y ∷ [])
zip_push R [] [] x y h r = (r, tt)
zip_push R [] (w ∷ ys) x y h r = absurd h
zip_push R (z ∷ xs) [] x y h r = absurd h
zip_push R (z ∷ xs) (w ∷ ys) x y h r = (h.0, zip_push R xs ys x y h.1 r)

-- ---- tuples of the same store

same_in : (columns other : List Column) (domain more : List Text) (s t : StoreView) (tuple : List Datum) → columns ≡ other → domain ≡ more → s ≡ t → InAnswer columns domain s tuple ↔ InAnswer other more t tuple
same_in columns other domain more s t tuple c d e = (
  (λ x. subst (λ u. InAnswer other more u tuple) e (subst (λ ts. InAnswer other ts s tuple) d (subst (λ cs. InAnswer cs domain s tuple) c x))),
  λ x. subst (λ cs. InAnswer cs domain s tuple) (sym c) (subst (λ ts. InAnswer other ts s tuple) (sym d) (subst (λ u. InAnswer other more u tuple) (sym e) x)),
)

-- ---- bounds

-- a zone's bounds are small for its columns
pub small_within : (s : StoreView) → IsStore s → (m R : ℕ) → s.shape.times ≡ m → HasReach s R → (cell : Cell) (z : ZoneView) → Contains (zones_at s cell) z → IsSmallZone z (m * R)
small_within s is m R e r cell z k =
    let t = from_map (zone_of s cell) (tables_at s cell) z k in
    let valid : IsZone z = subst IsZone t.2 (zone_held s is cell t.0 t.1) in
    let own : IsSettlement z (z ∷ []) (z ∷ []) = alone z valid in
    let g : greatest_reach (z ∷ []) ≤ R = greatest_below (z ∷ []) R (λ y c. subst (λ (v : ZoneView). reach_of v ≤ R) (t.2 ∙ in_one z y c) (r.each cell t.0 t.1)) in
    let f : columns_of z ≤ m = subst (λ n. columns_of z ≤ n) e (subst (λ (v : ZoneView). columns_of v ≤ s.shape.times) t.2 (fewer s.shape.times cell.residues)) in
    let a : columns_of z * greatest_reach (z ∷ []) ≤ columns_of z * R = mul-le-mul_left (columns_of z) g in
    let b : columns_of z * R ≤ m * R = mul-le-mul_right R f in
    more_small z (columns_of z * greatest_reach (z ∷ [])) (m * R) (omega (arith, a, b)) (own.small z (one_in z))

-- ---- the step `head` after a step that has its columns

module _ {planned : Steps} {db : List Relation} {q : Question} (sound : IsSoundPlan planned db q) where
  abbrev last : PlanStep
  last = (last_step sound).0

  at_last : step_at planned (length planned) ≡ Some last
  at_last = (last_step sound).1.at

  abbrev names : List Variable
  names = named_variables (head_times q.head) (head_texts q.head)

  -- its period is that of the step before
  same_period : last.period ≡ period_at planned (length planned - 1)
  same_period = subst (λ k. KeepsPeriod (period_at planned) last.period k) (last_step sound).1.kind (sound.each (length planned) last at_last).rises.keeps

  pub end_period : period_at planned (length planned - 1) ≡ period_at planned (length planned)
  end_period = sym same_period ∙ sym (ap (λ p. unwrap_or (option_map (λ step. step.period) p) 1) at_last)

  formula_is : formula_at planned (length planned) ≡ last.formula
  formula_is = ap (λ p. unwrap_or (option_map (λ step. step.formula) p) (conjunction no_forms)) at_last

  step_is : step_variables q.head last ≡ head_variables q.head ++ free last.formula
  step_is = ap (λ k. variables_with k q.head (free last.formula)) (last_step sound).1.kind

  same_variables : SameVariables names (step_variables q.head last)
  same_variables v = (
    (λ c. subst (λ vs. Contains vs v) (sym step_is) (in_left (head_variables q.head) (free last.formula) v ((head_columns q.head v).0 c))),
    λ c. (head_columns q.head v).1 (⊎_elim (λ a. a) (λ b. sound.last v (subst (λ f. Contains (free f) v) (sym formula_is) b)) (in_either (head_variables q.head) (free last.formula) v (subst (λ vs. Contains vs v) step_is c))),
  )

  -- what is the meaning of that one's formula is that of its own
  module _ {set : Assignment → Type 0} (before : (env : Assignment) → HasConstants (constants db q) (named_variables (head_times q.head) (head_texts q.head)) env → set env ↔ Satisfies (formula_at planned (length planned - 1)) (structure db q) env) where
    pub head_means : (env : Assignment) → HasConstants (constants db q) names env → set env ↔ Satisfies (formula_at planned (length planned)) (structure db q) env
    head_means env k =
        let m : set env ↔ Satisfies (formula_at planned (length planned - 1)) (structure db q) env = before env k in
        let t : Satisfies (formula_at planned (length planned - 1)) (structure db q) env ↔ Satisfies (formula_at planned (length planned)) (structure db q) env = sound.says env (λ v c. k v ((head_columns q.head (data_variable v)).1 c)) in
        ((λ h. t.0 (m.0 h)), λ h. m.1 (t.1 h))

    module _ (cap : ℕ) (few : InhabitsMoreThan cap (constants db q) (period_at planned (length planned - 1)) (head_times q.head) (head_texts q.head) set → ⊥) where
      -- it has no more cells
      head_few : ManyAt planned db q cap (length planned) → ⊥
      head_few many =
          let m : InhabitsMoreThan cap (constants db q) last.period (head_times q.head) (head_texts q.head) set =
          (many_at planned db q names set last (length planned) cap at_last same_variables (λ env k. subst (λ f. set env ↔ Satisfies f (structure db q) env) formula_is (head_means env k))).1 many in
          few (subst (λ k. InhabitsMoreThan cap (constants db q) k (head_times q.head) (head_texts q.head) set) same_period m)

      -- nor has any after it, since there is none
      pub past_few : (s : ℕ) → length planned - 1 < s → ManyAt planned db q cap s → ⊥
      past_few zero low m = absurd (omega (arith, low))
      past_few (suc j) low m =
          let lt : j < length planned = many_in planned db q cap (slice_get planned j) j refl m in
          let e : suc j ≡ length planned = omega (arith, low, lt) in
          head_few (subst (ManyAt planned db q cap) e m)

-- ---- the parts of a group up to the plan's end

module _ {cap : ℕ} {domain : List Text} {g : Group} {made : List (List Table)} {step : Step} (can : CanRunGroup cap domain g) (all : AreHeld cap g made) (next : IsNextStep g made step) (parts : List Table) (are : IsGroupHeld cap g (next_step_number g made) parts) (place : next_step_number g made + 1 ≡ length g.plan.now.steps) where
  -- the columns of the parts are the head's
  module _ (planned : Steps) (q : Question) (h : IsPlanOf planned g.database.now q g.plan.now) (run : AreRun planned g.database.now q cap g.tables.now) where
    before : next_step_number g made ≡ length planned - 1
    before = let size : length g.plan.now.steps ≡ length planned = zip_length g.plan.now.steps planned h.is.steps in omega (arith, place, size)

    held_before : IsStepInParts planned g.database.now q (length planned - 1) parts
    held_before = subst (λ s. IsStepInParts planned g.database.now q s parts) before (are planned q h run)

    among : (v : Variable) → Contains (named_variables (part_times parts) (part_texts parts)) v → Contains (head_variables q.head) v
    among v c = h.sound.core v ((held_before.variables v).0 c)

  pub can_stand_over : CanStandOver domain step.period g.plan.now.head.columns parts
  can_stand_over = record {
    ascends = whole.ascends;
    extend = record {
      operand = whole.operand;
      columns_are = λ part c. subst (λ cs. CanExtend domain cs part) (sym h.is.head) (record {
        numbered = (whole.operand.parts_are.each part c).numbered;
        times = λ v k. (times_in_head q.head v).1 (among planned q h run (time_variable v) ((time_named (part_times parts) (part_texts parts) v).1 (subst (λ ns. Contains ns v) (whole.operand.parts_are.each part c).times_are k)));
        texts = λ v k. (texts_in_head q.head v).1 (among planned q h run (data_variable v) ((data_named (part_times parts) (part_texts parts) v).1 (subst (λ ns. Contains ns v) (whole.operand.parts_are.each part c).texts_are k)));
        names = h.settled.names;
        few_times = narrow.times (head_times q.head) (first_differ (head_times q.head) (head_texts q.head) (head_names_differ q.head h.settled.names))
            (all_by _ (head_times q.head) (λ v k. in_left (head_variables q.head) (free q.body) (time_variable v) ((times_in_head q.head v).0 k)));
        few_texts = narrow.texts (head_texts q.head) (second_differ (head_times q.head) (head_texts q.head) (head_names_differ q.head h.settled.names))
            (all_by _ (head_texts q.head) (λ v k. in_left (head_variables q.head) (free q.body) (data_variable v) ((texts_in_head q.head v).0 k)));
      });
    };
  }
    where
      planned : Steps
      planned = can.run.0

      q : Question
      q = can.run.1

      h : IsPlanOf planned g.database.now q g.plan.now
      h = can.run.2

      run : AreRun planned g.database.now q cap g.tables.now
      run = can.run.3

      whole : CanBeWhole domain step.period parts
      whole = held_whole can all next parts are

      narrow : IsNarrow (head_variables q.head ++ free q.body)
      narrow = h.settled.whole

  module _ (new : List Table) (over : AreOverHead cap domain step.period g.plan.now.head.columns parts new) (own : HaveFew cap domain step.period parts)
      (last : Step) (at : slice_get g.plan.now.steps (length g.plan.now.steps - 1) ≡ Some last) (reach : (part : Table) → Contains new part → HasReach part.store (nat_abs (to_z w64 (of_z w64 last.reach)))) where
    pub last_held : AreLastHeld cap g new
    last_held planned q h run =
        let db : List Relation = g.database.now in
        let n = of_next cap g planned q h made step next in
        let e : next_step_number g made ≡ length planned - 1 = before planned q h run in
        let domain_are : domain ≡ constants db q = can.domain_is ∙ h.is.domain in
        let period : nat_abs step.period ≡ period_at planned (length planned - 1) = period_nat n ∙ sym (at_period n) ∙ ap (period_at planned) e in
        let head : AreOverHead cap (constants db q) step.period q.head parts new = subst (λ cs. AreOverHead cap (constants db q) step.period cs parts new) h.is.head (subst (λ d. AreOverHead cap d step.period g.plan.now.head.columns parts new) domain_are over) in
        let o = head.parts_are in
        let means : (env : Assignment) → HasConstants (constants db q) (named_variables (head_times q.head) (head_texts q.head)) env → HasSome (constants db q) new env ↔ Satisfies (formula_at planned (length planned - 1)) (structure db q) env =
        (λ env k.
        let m : HasSome (constants db q) parts env ↔ Satisfies (formula_at planned (length planned - 1)) (structure db q) env =
        (held_before planned q h run).means env (λ v c. k v ((head_columns q.head (data_variable v)).1 (among planned q h run (data_variable v) c))) in
        ((λ x. m.0 (o.sound env x).has), λ x. o.whole env (record { known = are_texts (constants db q) (head_times q.head) (head_texts q.head) env k; has = m.1 x }))) in
        let less : InhabitsMoreThan cap (constants db q) (period_at planned (length planned - 1)) (head_times q.head) (head_texts q.head) (HasSome (constants db q) new) → ⊥ =
        (λ x. head.few (subst (λ k. InhabitsMoreThan cap (constants db q) k (part_times new) (part_texts new) (HasSome (constants db q) new)) (sym period)
        (subst (λ ns. InhabitsMoreThan cap (constants db q) (period_at planned (length planned - 1)) ns (part_texts new) (HasSome (constants db q) new)) (sym o.times_are)
        (subst (λ ns. InhabitsMoreThan cap (constants db q) (period_at planned (length planned - 1)) (head_times q.head) ns (HasSome (constants db q) new)) (sym o.texts_are) x)))) in
        let told : HaveFew cap (constants db q) step.period parts = subst (λ d. HaveFew cap d step.period parts) domain_are own in
        let size : length g.plan.now.steps ≡ length planned = zip_length g.plan.now.steps planned h.is.steps in
        let y : (y : PlanStep) × (slice_get planned (length g.plan.now.steps - 1) ≡ Some y) × IsStep last y = step_here planned db q cap g.plan.now (length g.plan.now.steps - 1) last h at in
        let some : 0 < length planned = some_steps h.sound in
        let end : suc (length g.plan.now.steps - 1) ≡ length planned = omega (arith, size, some) in
        let here : step_at planned (length planned) ≡ Some y.0 = subst (λ i. step_at planned i ≡ Some y.0) end y.1 in
        let far : query_reach planned ≡ y.0.reach = reach_is planned db q cap (length planned) y.0 here in
        let high : query_reach planned ≤ 2 ^ 61 = half_reach (time_count q.head) (query_reach planned) h.reach in
        let written : last.reach ≡ pos y.0.reach = y.2.reach in
        let small : y.0.reach ≤ 2 ^ 61 = subst (λ r. r ≤ 2 ^ 61) far high in
        let own_word : nat_abs (to_z w64 (of_z w64 last.reach)) ≡ y.0.reach = omega (arith, ints, small, written) in
        let word : nat_abs (to_z w64 (of_z w64 last.reach)) ≡ query_reach planned = own_word ∙ sym far in
        record {
          parts_are = subst (λ k. AreParts (constants db q) k new) (own_period n ∙ ap (λ s. pos (period_at planned s)) e ∙ ap pos (end_period h.sound)) o.parts;
          times = o.times_are;
          texts = o.texts_are;
          means = head_means h.sound means;
          reach = λ part c. subst (λ r. HasReach part.store r) word (reach part c);
          few = λ s m. elim (below_or (length g.tables.now) s) [
            | inl after ↦ elim (below_or (length g.tables.now + length made) s) [
              | inl more ↦ elim (below_or (next_step_number g made) s) [
                | inl later ↦ past_few h.sound means cap less s (omega (arith, later, e)) m
                | inr this ↦ (let f : s ≡ next_step_number g made = omega (arith, more, this) in parts_few cap g planned q h made step parts next (are planned q h run) told (subst (ManyAt planned db q cap) f m))
              ]
              | inr fewer ↦ (all planned q h run).few s after fewer m
            ]
            | inr first ↦ run.few s first m
          ];
        }

-- parts that have the head's columns in order stand over it
pub as_they_are : {cap : ℕ} {domain : List Text} {period : ℤ} {columns : List Column} {parts : List Table} → CanStandOver domain period columns parts → HaveFew cap domain period parts → part_times parts ≡ head_times columns → part_texts parts ≡ head_texts columns → AreOverHead cap domain period columns parts parts
as_they_are {cap} {domain} {period} {columns} {parts} can few times texts = record {
  parts_are = record {
    parts = can.extend.operand.parts_are;
    times_are = times;
    texts_are = texts;
    sound = λ env x. record { known = subst (λ ns. HasTexts domain ns env) ((can.extend.operand.parts_are.each x.part x.listed).texts_are ∙ texts) (table_texts domain x.part env x.has); has = x };
    whole = λ env x. x.has;
  };
  few = few;
}

-- ---- a last part as an answer

module _ {planned : Steps} {db : List Relation} {q : Question} {p : Plan} (h : IsPlanOf planned db q p) {table : Table} (e : IsPeriodPart (constants db q) (head_times q.head) (head_texts q.head) (pos (period_at planned (length planned))) table) where
  -- its period is within the last reach
  part_period : table.store.period ≤ query_reach planned
  part_period =
      let last = last_step h.sound in
      let own : period_at planned (length planned) ≡ last.0.period = ap (λ p. unwrap_or (option_map (λ step. step.period) p) 1) last.1.at in
      let low : 1 ≤ last.0.period = (h.sound.each (length planned) last.0 last.1.at).rises.positive in
      let wide : period_at planned (length planned) ≤ query_reach planned = wide_last h.sound in
      let le : table.store.period ≤ period_at planned (length planned) = multiple_le table.store.period (period_at planned (length planned)) (omega (arith, own, low)) e.divides in
      omega (arith, le, wide)

  pub part_held : (tuple : List Datum) → HasShape q.head tuple → HasAssignment table (constants db q) (assignment q.head tuple) ↔ StoreHolds (constants db q) table.store (times_of tuple) (texts_of tuple)
  part_held tuple k = tuple_held q.head h.settled.names (constants db q) tuple k table e.times_are e.texts_are

  -- its store stands under the head
  pub part_stands : CanStandUnder p table.store
  part_stands =
      let times : time_count q.head ≡ table.store.shape.times = times_counted q.head ∙ ap (λ ns. length ns) (sym e.times_are) ∙ table.times_named in
      let texts : length (head_texts q.head) ≡ table.store.shape.texts = ap (λ ns. length ns) (sym e.texts_are) ∙ table.texts_named in
      let whole : length q.head ≡ length (head_times q.head) + length (head_texts q.head) = columns_counted q.head in
      let counted : time_count q.head ≡ length (head_times q.head) = times_counted q.head in
      record {
        valid = e.valid;
        times = ap time_count h.is.head ∙ times;
        columns = ap (λ cs. length cs) h.is.head ∙ (let sum : length q.head ≡ table.store.shape.times + table.store.shape.texts = omega (arith, whole, counted, times, texts) in sum);
        numbered = subst (λ d. AreNumbered d table.store) (sym h.is.domain) e.numbered;
      }

  module _ (a : Answer) (u : IsAnswerUnder p table.store a) where
    -- an answer of its store is a part of the answer
    pub answer_part : HasReach table.store (query_reach planned) → IsAnswerPart planned db q a
    answer_part reach =
        let times : table.store.shape.times ≡ time_count q.head = sym part_stands.times ∙ ap time_count h.is.head in
        record {
          head = ap (λ x. x.columns) u.head ∙ h.is.head;
          domain = u.domain ∙ h.is.domain;
          period = subst (λ (s : StoreView). s.period ≤ query_reach planned) (sym u.store_is) part_period;
          small = subst (λ (s : StoreView). (cell : Cell) (z : ZoneView) → Contains (zones_at s cell) z → IsSmallZone z (time_count q.head * query_reach planned)) (sym u.store_is)
              (small_within table.store e.valid (time_count q.head) (query_reach planned) times reach);
        }

    -- a tuple of it is one of the part's
    pub to_table : (tuple : List Datum) → InAnswer a.head.columns a.domain a.store tuple ↔ InAnswer q.head (constants db q) table.store tuple
    to_table tuple = same_in a.head.columns q.head a.domain (constants db q) a.store table.store tuple (ap (λ x. x.columns) u.head ∙ h.is.head) (u.domain ∙ h.is.domain) u.store_is

-- ---- the last parts as answers

module _ {planned : Steps} {db : List Relation} {q : Question} {p : Plan} {cap : ℕ} {tables : List Table} (h : IsPlanOf planned db q p) (l : AreLastParts planned db q cap tables) where
  part_of : (table : Table) → Contains tables table → IsPeriodPart (constants db q) (head_times q.head) (head_texts q.head) (pos (period_at planned (length planned))) table
  part_of table c =
      subst (λ ns. IsPeriodPart (constants db q) ns (head_texts q.head) (pos (period_at planned (length planned))) table) l.times
      (subst (λ ns. IsPeriodPart (constants db q) (part_times tables) ns (pos (period_at planned (length planned))) table) l.texts (l.parts_are.each table c))

  -- some part has the assignment of a tuple of constants exactly where it is an answer
  some_holds : (tuple : List Datum) → HasShape q.head tuple → AllByRecursion (Contains (constants db q)) (texts_of tuple) → HasSome (constants db q) tables (assignment q.head tuple) ↔ IsAnswer db q tuple
  some_holds tuple k c =
      let m : HasSome (constants db q) tables (assignment q.head tuple) ↔ Satisfies (formula_at planned (length planned)) (structure db q) (assignment q.head tuple) = l.means (assignment q.head tuple) (tuple_known q.head h.settled.names (constants db q) tuple k c (head_times q.head) (head_texts q.head) refl) in
      let a : Satisfies (formula_at planned (length planned)) (structure db q) (assignment q.head tuple) ↔ IsAnswer db q tuple = h.sound.answers tuple k c in
      ((λ x. a.0 (m.0 x)), λ x. m.1 (a.1 x))

  pub all_stand : AllByRecursion (λ table. CanStandUnder p table.store) tables
  all_stand = all_by (λ table. CanStandUnder p table.store) tables (λ table c. part_stands h (part_of table c))

  module _ (parts : List Answer) (are : AllZip (λ table. IsAnswerUnder p table.store) tables parts) where
    pub parts_answer : AreAnswersInParts planned db q cap parts
    parts_answer = record {
      some = (let e : length tables ≡ length parts = zip_count (λ t. IsAnswerUnder p t.store) tables parts are in let low : 0 < length tables = l.parts_are.some in omega (arith, e, low));
      each = λ a c. let t = zip_left (λ t. IsAnswerUnder p t.store) tables parts are a c in answer_part h (part_of t.0 t.1) a t.2 (l.reach t.0 t.1);
      answers = λ tuple. (
        (λ i.
            let t = zip_left (λ t. IsAnswerUnder p t.store) tables parts are i.part i.listed in
            let x : InAnswer q.head (constants db q) t.0.store tuple = (to_table h (part_of t.0 t.1) i.part t.2 tuple).0 i.is in
            (some_holds tuple x.shape (texts_known (constants db q) x.held.0 (texts_of tuple) x.held.1)).0 (record { part = t.0; listed = t.1; has = (part_held h (part_of t.0 t.1) tuple x.shape).1 x.held })),
        λ a.
            let k : HasShape q.head tuple = shape_of db q q.head tuple a.fits in
            let s : HasSome (constants db q) tables (assignment q.head tuple) = (some_holds tuple k (fits_known planned db q h.sound q.head tuple a.fits)).1 a in
            let t = zip_right (λ t. IsAnswerUnder p t.store) tables parts are s.part s.listed in
            record { part = t.0; listed = t.1; is = (to_table h (part_of s.part s.listed) t.0 t.2 tuple).1 (record { shape = k; held = (part_held h (part_of s.part s.listed) tuple k).0 s.has }) },
      );
      few = l.few;
    }

    pub parts_valid : AllByRecursion (λ part. IsStore part.store) parts
    parts_valid = all_by (λ part. IsStore part.store) parts (λ a c. (zip_left (λ t. IsAnswerUnder p t.store) tables parts are a c).2.valid)

    pub parts_known : AllByRecursion (λ part. IsDomain part.domain) parts
    parts_known = all_by (λ part. IsDomain part.domain) parts (λ a c. (zip_left (λ t. IsAnswerUnder p t.store) tables parts are a c).2.known)

-- ---- one answer as the one part

pub one_answers : (planned : Steps) (db : List Relation) (q : Question) (p : Plan) (cap : ℕ) (a : Answer) → IsPlanOf planned db q p → IsAnswerOf planned db q cap a → AreAnswersInParts planned db q cap (a ∷ [])
one_answers planned db q p cap a h is =
    let same : pos a.store.period ≡ pos (period_at planned (length planned)) = sym a.period_is ∙ is.period in
    let period : a.store.period ≡ period_at planned (length planned) = cc in
    let wide : period_at planned (length planned) ≤ query_reach planned = wide_last h.sound in
    let own : IsAnswerPart planned db q a = record { head = is.head; domain = is.domain; period = omega (arith, period, wide); small = is.small } in
    record {
      some = omega arith;
      each = λ b c. subst (IsAnswerPart planned db q) (in_one a b c) own;
      answers = λ tuple. (
        (λ i. (is.answers tuple).0 (subst (λ (b : Answer). InAnswer b.head.columns b.domain b.store tuple) (sym (in_one a i.part i.listed)) i.is)),
        λ x. record { part = a; listed = one_in a; is = (is.answers tuple).1 x },
      );
      few = is.few;
    }
