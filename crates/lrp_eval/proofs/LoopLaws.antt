-- The steps of a plan, one after another.
use Rattle.std.proofs.Common.{◌≡◌, ◌⊎◌, inl, inr, ⊎_elim, ◌≤◌, ◌<◌, ◌+◌, ◌-◌, ℕ, zero, suc, List, [], ◌∷◌, ◌++◌, length, get_or, Option, Some, None, slice_get, refl, sym, ap, subst, ◌∙◌, arith, length-append}
use Rattle.std.specs.Prelude.{MatchOption, Contains}
use Rattle.std.specs.List.{AllZip}
use Rattle.lrp_model.specs.Texts.{Text}
use Rattle.lrp_model.specs.Formulas.{Question}
use Rattle.lrp_model.specs.Satisfaction.{structure}
use Rattle.lrp_model.specs.Domains.{constants}
use Rattle.lrp_model.specs.Caps.{ManyAt, IsFirstMany, step_variables}
use Rattle.lrp_model.specs.Cells.{ManyCells}
use Rattle.lrp_model.specs.Steps.{PlanStep, Steps, step_at}
use Rattle.lrp_model.specs.Plans.{IsStep}
use Rattle.lrp_model.specs.declared.relations.Relation.{Relation}
use Rattle.lrp_model.specs.declared.plans.Plan.{Plan}
use Rattle.lrp_model.specs.declared.plans.Step.{Step}
use Rattle.lrp_tables.specs.declared.table.Table.{Table}
use Rattle.lrp_plan_laws.proofs.Elements.{within}
use Rattle.lrp_eval.specs.declared.evaluation.EvalFault.{EvalFault}
use Rattle.lrp_eval.specs.declared.evaluation.EvalFault.TheVariants.{TooManyCells, Memory}
use Rattle.lrp_eval.specs.Planned.{IsPlanOf, IsEvalCause}
use Rattle.lrp_plan_laws.specs.Made.{operands}
use Rattle.lrp_eval.specs.Freeing.{AreLastReaders, AreLeftOrFreed, IsDone}
use Rattle.lrp_eval.specs.Running.{IsStepTable, IsReadAfter, AreRun, IsNext, IsLastRun}
use Rattle.lrp_cutting.proofs.Lists.{below_or}
use Rattle.lrp_eval.specs.Together.{AreRunTogether, IsNarrowing, IsNarrowingNext, IsNarrowingRun, IsProjection, IsProjectionNext, IsProjectionRun}
use Rattle.lrp_eval.specs.declared.projecting.Projection.{Projection}
use Rattle.lrp_eval.specs.declared.together.Narrowing.{Narrowing}
use Rattle.lrp_eval.proofs.Nexts.{as_kind, suc_pred}
use Rattle.lrp_eval.proofs.PlanEnds.{some_steps}
use Rattle.std.specs.Prelude.{pos}
use Rattle.std.proofs.lemmas.Int.{ints}
use Rattle.std.proofs.lemmas.Option.{get_or_from_slice_get}
use Rattle.lrp_model.specs.declared.plans.StepKind.TheVariants.{DropTime, Join, Minus}

zip_at : (xs : List Step) (ys : List PlanStep) (i : ℕ) (x : Step) → AllZip IsStep xs ys → i < length xs → x ≡ get_or xs i x → (y : PlanStep) × (slice_get ys i ≡ Some y) × IsStep x y
zip_at [] ys i x h lt e = absurd (omega arith)
zip_at (z ∷ zs) [] i x h lt e = absurd h
zip_at (z ∷ zs) (y ∷ ys) zero x h lt e = (y, refl, subst (λ s. IsStep s y) (sym e) h.0)
zip_at (z ∷ zs) (y ∷ ys) (suc i) x h lt e = zip_at zs ys i x h.1 (omega arith) e

pub zip_length : (xs : List Step) (ys : List PlanStep) → AllZip IsStep xs ys → length xs ≡ length ys
zip_length [] [] h = refl
zip_length [] (y ∷ ys) h = absurd h
zip_length (x ∷ xs) [] h = absurd h
zip_length (x ∷ xs) (y ∷ ys) h = ap suc (zip_length xs ys h.1)

-- the step that a step of the plan is written as
zip_back : (xs : List Step) (ys : List PlanStep) (i : ℕ) (y : PlanStep) → AllZip IsStep xs ys → slice_get ys i ≡ Some y → (x : Step) × (slice_get xs i ≡ Some x) × IsStep x y
zip_back [] [] i y h e = cc
zip_back [] (z ∷ zs) i y h e = absurd h
zip_back (x ∷ xs) [] i y h e = cc
zip_back (x ∷ xs) (z ∷ zs) zero y h e = (x, refl, subst (IsStep x) (let s : Some z ≡ Some y = e in cc) h.0)
zip_back (x ∷ xs) (z ∷ zs) (suc i) y h e = zip_back xs zs i y h.1 e

pub at_push : {X : Type 0} (xs : List X) (x y : X) (i : ℕ) → slice_get (xs ++ x ∷ []) i ≡ Some y → (slice_get xs i ≡ Some y) ⊎ ((i ≡ length xs) × (x ≡ y))
at_push [] x y zero e = inr (refl, cc)
at_push [] x y (suc i) e = cc
at_push (z ∷ zs) x y zero e = inl e
at_push (z ∷ zs) x y (suc i) e = ⊎_elim (λ l. inl l) (λ r. inr (ap suc r.0, r.1)) (at_push zs x y i e)

pub at_last : {X : Type 0} (xs : List X) (x : X) → slice_get (xs ++ x ∷ []) (length xs) ≡ Some x
at_last [] x = refl
at_last (z ∷ zs) x = at_last zs x

pub more_count : {X : Type 0} (xs : List X) (x : X) (n : ℕ) → length xs ≡ n → length (xs ++ x ∷ []) ≡ n + 1
more_count xs x n e = length-append xs (x ∷ []) ∙ (omega arith)

module _ (planned : Steps) (db : List Relation) (q : Question) (cap : ℕ) where
  -- the next step
  pub next_step : (p : Plan) (tables : List Table) (i : ℕ) (step : Step) (steps : List Step) → IsPlanOf planned db q p → steps ≡ p.steps → i < length steps → step ≡ get_or steps i step → length tables ≡ i → AreRun planned db q cap tables
      → IsNext planned db q cap p.domain tables step.kind step.period
  next_step p tables i step steps h same lt e count run =
      let y : (y : PlanStep) × (slice_get planned i ≡ Some y) × IsStep step y = zip_at steps planned i step (subst (λ l. AllZip IsStep l planned) (sym same) h.is.steps) lt e in
      record {
        plan = (p, h);
        step = y.0;
        at = subst (λ n. slice_get planned n ≡ Some y.0) (sym count) y.1;
        kind_is = y.2.kind;
        period_is = y.2.period;
        domain_is = h.is.domain;
        before = λ i table at reads. run.read i table at (record {
          number = suc (length tables);
          step = y.0;
          after = omega arith;
          at = subst (λ n. slice_get planned n ≡ Some y.0) (sym count) y.1;
          reads = subst (λ k. Contains (operands k) (suc i)) y.2.kind reads;
        });
      }

  -- one table more
  pub more_run : (tables new : List Table) (t : Table) → new ≡ tables ++ t ∷ [] → AreRun planned db q cap tables → IsStepTable planned db q cap (suc (length tables)) t → AreRun planned db q cap new
  more_run tables new t same run r =
      let count : length new ≡ length tables + 1 = ap length same ∙ more_count tables t (length tables) refl in
      let at : (i : ℕ) (table : Table) → slice_get new i ≡ Some table → (slice_get tables i ≡ Some table) ⊎ ((i ≡ length tables) × (t ≡ table)) = λ i table e. at_push tables t table i (subst (λ l. slice_get l i ≡ Some table) same e) in
      let this : (i : ℕ) (table : Table) → (i ≡ length tables) × (t ≡ table) → IsStepTable planned db q cap (suc i) table = λ i table x. subst (λ n. IsStepTable planned db q cap (suc n) table) (sym x.0) (subst (λ u. IsStepTable planned db q cap (suc (length tables)) u) x.1 r) in
      record {
        read = λ i table e after. ⊎_elim
            (λ l. run.read i table l (let h : length new < after.number = after.after in record { number = after.number; step = after.step; after = omega arith; at = after.at; reads = after.reads }))
            (λ x. this i table x) (at i table e);
        last = λ i table e whole. ⊎_elim (λ l. let lt : i < length tables = within tables i table l in absurd (omega arith)) (λ x. this i table x) (at i table e);
        few = λ s le m. few_more (length tables) s t run.few r (omega arith) m;
      }
    where
      few_more : (n s : ℕ) (t : Table) → ((s : ℕ) → s ≤ n → ManyAt planned db q cap s → ⊥) → IsStepTable planned db q cap (suc n) t → s ≤ suc n → ManyAt planned db q cap s → ⊥
      few_more n s t few r le m = elim (below_or n s) [
        | inl lt ↦ (let same : s ≡ suc n = omega arith in r.few (subst (ManyAt planned db q cap) same m))
        | inr low ↦ few s low m
      ]

  pub none_run : (tables : List Table) → tables ≡ [] → AreRun planned db q cap tables
  none_run tables none = record {
    read = λ i table e after. let n : slice_get [] i ≡ Some table = subst (λ l. slice_get l i ≡ Some table) none e in cc;
    last = λ i table e whole. let n : slice_get [] i ≡ Some table = subst (λ l. slice_get l i ≡ Some table) none e in cc;
    few = λ s le m. let zero_is : s ≡ 0 = (let z : length tables ≡ 0 = ap length none in omega arith) in subst (ManyAt planned db q cap) zero_is m;
  }

  -- a step that is done is read by none after
  pub not_after : (p : Plan) (readers : List ℕ) (count i : ℕ) → IsPlanOf planned db q p → AreLastReaders p.steps readers → IsDone readers count i → IsReadAfter planned count (suc i) → ⊥
  not_after p readers count i h noted d after = by after.number refl
    where
      by : (number : ℕ) → after.number ≡ number → ⊥
      by zero e = let b : count < after.number = after.after in omega arith
      by (suc j) e =
          let at : slice_get planned j ≡ Some after.step = subst (λ n. step_at planned n ≡ Some after.step) e after.at in
          let x : (step : Step) × (slice_get p.steps j ≡ Some step) × IsStep step after.step = zip_back p.steps planned j after.step h.is.steps at in
          let lt : j < d.reader = noted j i d.reader x.0 (within p.steps j x.0 x.1) x.1 (subst (λ k. Contains (operands k) (suc i)) (sym x.2.kind) after.reads) d.noted in
          let b : count < after.number = after.after in
          let c : d.reader ≤ count = d.run in
          omega arith

  -- tables that no later step reads are not looked at again
  pub left_run : (p : Plan) (readers : List ℕ) (tables new : List Table) → IsPlanOf planned db q p → AreLastReaders p.steps readers → AreRun planned db q cap tables → AreLeftOrFreed readers tables new → AreRun planned db q cap new
  left_run p readers tables new h noted run left =
      let old : (i : ℕ) (table : Table) → slice_get new i ≡ Some table → (IsDone readers (length tables) i → ⊥) → slice_get tables i ≡ Some table = λ i table e keeps. ⊎_elim (λ same. sym same ∙ e) (λ d. absurd (keeps d)) (left.each i) in
      record {
        read = λ i table e after. run.read i table (old i table e (λ d. not_after p readers (length tables) i h noted d (subst (λ n. IsReadAfter planned n (suc i)) left.count after))) (subst (λ n. IsReadAfter planned n (suc i)) left.count after);
        last = λ i table e whole. run.last i table (old i table e (λ d. let b : suc i < length tables = d.before in let c : length new ≡ length tables = left.count in omega arith)) (whole ∙ left.count);
        few = λ s le m. run.few s (subst (λ n. s ≤ n) left.count le) m;
      }

  few_below : (tables : List Table) → AreRun planned db q cap tables → (t : ℕ) → t < suc (length tables) → ManyAt planned db q cap t → ⊥
  few_below tables run t lt m = run.few t (omega arith) m

  -- a step that has too many cells after steps that have not is the first one
  pub first_many : (tables : List Table) → AreRun planned db q cap tables → ManyAt planned db q cap (suc (length tables)) → IsFirstMany planned db q cap (suc (length tables))
  first_many tables run m = record { is = m; first = few_below tables run }

  pub many_in : (o : Option PlanStep) (j : ℕ) → slice_get planned j ≡ o → MatchOption o ⊥ (λ step. ManyCells (structure db q) step.period (constants db q) (step_variables q.head step) step.formula cap) → j < length planned
  many_in None j e m = absurd m
  many_in (Some step) j e m = within planned j step e

  few_all : (tables : List Table) → AreRun planned db q cap tables → length planned ≤ length tables → (s : ℕ) → ManyAt planned db q cap s → ⊥
  few_all tables run whole zero m = m
  few_all tables run whole (suc j) m = let lt : j < length planned = many_in (slice_get planned j) j refl m in few_below tables run (suc j) (omega arith) m

  -- a plan has a step
  pub some_step : (p : Plan) → IsPlanOf planned db q p → 0 < length p.steps
  some_step p h =
      let a : length p.steps ≡ length planned = zip_length p.steps planned h.is.steps in
      let b : 0 < length planned = some_steps h.sound in
      omega (arith, a, b)

  -- the last table
  pub last_run : (p : Plan) (tables front : List Table) (t : Table) → IsPlanOf planned db q p → length p.steps ≤ length tables → length tables ≤ length p.steps → AreRun planned db q cap tables → tables ≡ front ++ t ∷ [] → IsLastRun planned db q cap t
  last_run p tables front t h low high run same =
      let a : length p.steps ≡ length planned = zip_length p.steps planned h.is.steps in
      let b : length tables ≡ length front + 1 = ap length same ∙ more_count front t (length front) refl in
      let c : suc (length front) ≡ length planned = omega arith in
      record {
        run = subst (λ n. IsStepTable planned db q cap n t) c (run.last (length front) t (subst (λ l. slice_get l (length front) ≡ Some t) (sym same) (at_last front t)) (omega (arith, b)));
        few = few_all tables run (omega arith);
      }

-- a fault is its own cause where it has too many cells only at the first step that has
pub cause : (db : List Relation) (p : Plan) (cap : ℕ) (r : EvalFault) → ((step : ℕ) → r ≡ TooManyCells step → (planned : Steps) (q : Question) → IsPlanOf planned db q p → IsFirstMany planned db q cap step) → IsEvalCause db p cap r
cause db p cap (TooManyCells step) f = f step refl
cause db p cap Memory f = tt

-- ---- steps that are run together

-- more tables than there were
at_more : {X : Type 0} (xs ys : List X) (i : ℕ) → i < length xs → slice_get (xs ++ ys) i ≡ slice_get xs i
at_more [] ys i lt = absurd (omega arith)
at_more (x ∷ xs) ys zero lt = refl
at_more (x ∷ xs) ys (suc i) lt = at_more xs ys i (omega arith)

module _ (planned : Steps) (db : List Relation) (q : Question) (cap : ℕ) where
  -- a step of a plan that is written at a place
  pub step_here : (p : Plan) (i : ℕ) (step : Step) → IsPlanOf planned db q p → slice_get p.steps i ≡ Some step → (y : PlanStep) × (slice_get planned i ≡ Some y) × IsStep step y
  step_here p i step h at = zip_at p.steps planned i step h.is.steps (within p.steps i step at) (sym (get_or_from_slice_get p.steps i step step at))

  pub next_here : (p : Plan) (tables : List Table) (step : Step) → IsPlanOf planned db q p → slice_get p.steps (length tables) ≡ Some step → AreRun planned db q cap tables → IsNext planned db q cap p.domain tables step.kind step.period
  next_here p tables step h at run = next_step planned db q cap p tables (length tables) step p.steps h refl (within p.steps (length tables) step at) (sym (get_or_from_slice_get p.steps (length tables) step step at)) refl run

  pub next_run : (p : Plan) (tables ts : List Table) (domain : List Text) (i : ℕ) (step : Step) (steps : List Step) → domain ≡ p.domain → ts ≡ tables → steps ≡ p.steps → i ≡ length tables → i < length steps → step ≡ get_or steps i step → IsPlanOf planned db q p → AreRun planned db q cap tables
      → IsNext planned db q cap domain ts step.kind step.period
  next_run p tables ts domain i step steps names same written count lt at h run =
      subst (λ d. IsNext planned db q cap d ts step.kind step.period) (sym names) (subst (λ us. IsNext planned db q cap p.domain us step.kind step.period) (sym same) (next_step planned db q cap p tables i step steps h written lt at (sym count) run))

  -- the three steps that narrow a difference, in the plan
  module _ (p : Plan) (tables : List Table) (readers : List ℕ) (n : Narrowing) (h : IsPlanOf planned db q p) (run : AreRun planned db q cap tables) (is : IsNarrowing p.steps readers (length tables) n) where
    second_here : (y : PlanStep) × (slice_get planned (suc (length tables)) ≡ Some y) × IsStep is.second y
    second_here = step_here p (suc (length tables)) is.second h is.second_at

    third_here : (y : PlanStep) × (slice_get planned (suc (suc (length tables))) ≡ Some y) × IsStep is.third y
    third_here = step_here p (suc (suc (length tables))) is.third h is.third_at

    same_nat : (a b : ℕ) → pos a ≡ pos b → a ≡ b
    same_nat a b e = omega (arith, ints)

    pub narrowing_next : IsNarrowingNext planned db q cap p.domain tables n
    narrowing_next = record {
      first = subst (λ z. IsNext planned db q cap p.domain tables (Minus n.left n.right) z) is.first_period (as_kind (Minus n.left n.right) (next_here p tables is.first h is.first_at run) is.first_kind);
      second = second_here.0;
      second_at = second_here.1;
      second_kind = sym second_here.2.kind ∙ is.second_kind;
      third = third_here.0;
      third_at = third_here.1;
      third_kind = sym third_here.2.kind ∙ is.third_kind;
      period_is = sym is.third_period ∙ third_here.2.period;
      reach_is = same_nat n.reach third_here.0.reach (sym is.reach ∙ third_here.2.reach);
      small = is.small;
      known = is.known;
      run = λ table at.
          let e : suc (n.from - 1) ≡ n.from = suc_pred n.from is.known.0 in
          subst (λ s. IsStepTable planned db q cap s table) e (run.read (n.from - 1) table at (record {
            number = suc (suc (suc (length tables)));
            step = third_here.0;
            after = omega arith;
            at = third_here.1;
            reads = subst (λ k. Contains (operands k) (suc (n.from - 1))) (sym is.third_kind ∙ third_here.2.kind) (0, omega arith, sym e);
          }));
    }

    pub narrowing_together : (made : Table) → IsNarrowingRun planned db q cap tables made → AreRunTogether planned db q cap readers tables 2 made
    narrowing_together made r = record {
      run = subst (λ s. IsStepTable planned db q cap s made) (let e : suc (suc (suc (length tables))) ≡ suc (length tables + 2) = omega arith in e) r.run;
      few = λ s low high m. elim (below_or (suc (length tables)) s) [
        | inl more ↦ (let e : s ≡ suc (suc (length tables)) = omega arith in r.second_few (subst (ManyAt planned db q cap) e m))
        | inr less ↦ (let e : s ≡ suc (length tables) = omega arith in r.first_few (subst (ManyAt planned db q cap) e m))
      ];
      done = is.done;
    }

  -- a join whose variables are dropped, in the plan
  module _ (p : Plan) (tables : List Table) (readers : List ℕ) (r : Projection) (h : IsPlanOf planned db q p) (run : AreRun planned db q cap tables) (is : IsProjection p.steps readers (length tables) r) where
    pub projection_next : IsProjectionNext planned db q cap p.domain tables r
    projection_next = record {
      first = subst (λ z. IsNext planned db q cap p.domain tables (Join r.left r.right r.tests.now) z) is.first_period (as_kind (Join r.left r.right r.tests.now) (next_here p tables is.first h is.first_at run) is.first_kind);
      drops = λ j name e.
          let d = is.drops j name e in
          let x = step_here p (length tables + 1 + j) d.0 h d.1 in
          subst (λ i. (step : PlanStep) × (step_at planned (suc i) ≡ Some step) × (step.kind ≡ DropTime i name)) (let f : length tables + 1 + j ≡ suc (length tables) + j = omega arith in f) (x.0, x.1, sym x.2.kind ∙ d.2);
    }

    pub projection_together : (made : Table) → IsProjectionRun planned db q cap tables r made → AreRunTogether planned db q cap readers tables (length r.names) made
    projection_together made x = record { run = x.run; few = x.few; done = is.done }

  -- the tables after them
  pub together_run : (p : Plan) (readers : List ℕ) (tables more : List Table) (made : Table) (between : ℕ) → length more ≡ between → IsPlanOf planned db q p → AreLastReaders p.steps readers → AreRun planned db q cap tables → AreRunTogether planned db q cap readers tables between made
      → AreRun planned db q cap ((tables ++ more) ++ made ∷ [])
  together_run p readers tables more made between size h noted run t =
      let front : length (tables ++ more) ≡ length tables + between = length-append tables more ∙ ap (λ k. length tables + k) size in
      let all : length ((tables ++ more) ++ made ∷ []) ≡ suc (length tables + between) = (let e = more_count (tables ++ more) made (length tables + between) front in omega (arith, e)) in
      let this : (i : ℕ) (table : Table) → (i ≡ length (tables ++ more)) × (made ≡ table) → IsStepTable planned db q cap (suc i) table = λ i table x. subst (λ u. IsStepTable planned db q cap (suc i) u) x.1 (subst (λ k. IsStepTable planned db q cap (suc k) made) (sym (x.0 ∙ front)) t.run) in
      record {
        read = λ i table e after. ⊎_elim
            (λ l. elim (below_or i (length tables)) [
              | inl old ↦ run.read i table (sym (at_more tables more i old) ∙ l) (record { number = after.number; step = after.step; after = (let b : length ((tables ++ more) ++ made ∷ []) < after.number = after.after in omega (arith, all, b)); at = after.at; reads = after.reads })
              | inr new ↦ absurd (not_after planned db q cap p readers (suc (length tables + between)) i h noted (t.done i new (let lt : i < length (tables ++ more) = within (tables ++ more) i table l in omega (arith, lt, front))) (subst (λ k. IsReadAfter planned k (suc i)) all after))
            ])
            (λ x. this i table x) (at_push (tables ++ more) made table i e);
        last = λ i table e whole. ⊎_elim (λ l. let lt : i < length (tables ++ more) = within (tables ++ more) i table l in absurd (omega (arith, lt, front, all, whole))) (λ x. this i table x) (at_push (tables ++ more) made table i e);
        few = λ s le m. elim (below_or (length tables) s) [
          | inl new ↦ elim (below_or (length tables + between) s) [
            | inl last ↦ (let e : s ≡ suc (length tables + between) = omega (arith, le, all, last) in t.run.few (subst (ManyAt planned db q cap) e m))
            | inr before ↦ t.few s new before m
          ]
          | inr old ↦ run.few s old m
        ];
      }
