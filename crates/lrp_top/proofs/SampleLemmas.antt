-- The sample: what is left of its refusals, and what is told of it.
use Rattle.std.proofs.Common.{◌≡◌, ◌<◌, ◌≤◌, ◌*◌, ◌^◌, ℕ, Bool, true, false, List, [], ◌∷◌, length, map, Option, Some, None, Err, refl, sym, ap, subst, ◌∙◌, arith}
use Rattle.std.specs.Prelude.{ℤ, pos, option_map, IfNone, IfSome, IsTrue}
use Rattle.std.specs.FinMap as finite
use Rattle.std.specs.List.{AllByRecursion}
use Rattle.std.proofs.lemmas.List.{length-map}
use Rattle.lrp_model.specs.Caps.{ManyAt}
use Rattle.lrp_model.specs.Checked.{plain_question}
use Rattle.lrp_model.specs.DatabaseReading.{IsDatabase}
use Rattle.lrp_model.specs.Formulas.{Question}
use Rattle.lrp_model.specs.Order.{IsLeast}
use Rattle.lrp_model.specs.Pages.{IsAhead, IsPage, Rises}
use Rattle.lrp_model.specs.Rows.{Tuple}
use Rattle.lrp_model.specs.Plans.{plan, scaled_reach, IsWithinLimits}
use Rattle.lrp_model.specs.QueryReading.{IsQuery}
use Rattle.lrp_model.specs.Satisfaction.{IsAnswer}
use Rattle.lrp_model.specs.Sorting.{IsWellSorted}
use Rattle.lrp_model.specs.Steps.{Steps}
use Rattle.lrp_model.specs.declared.plans.Planning.{Planning}
use Rattle.lrp_model.specs.declared.plans.Planning.TheVariants.{Written}
use Rattle.lrp_model.specs.declared.relations.Relation.{Relation}
use Rattle.lrp_model.specs.declared.tuples.Spot.{Spot}
use Rattle.lrp_store.specs.Least.{IsLeastSpot}
use Rattle.lrp_store.specs.Tables.{InAnswer}
use Rattle.lrp_answers.specs.declared.answer.Answer.{Answer}
use Rattle.lrp_plan_laws.specs.GuardedPlans.{plan_by}
use Rattle.lrp_eval.specs.Answered.{IsAnswerOf}
use Rattle.lrp_sample.specs.Texts.{sample_database, sample_query}
use Rattle.lrp_sample.specs.Trees.{raw_sample, sample_question, sample_relations}
use Rattle.lrp_sample.specs.Plans.{HasAtMostCells, IsOfFirstDay, IsSampleSize, IsSampleWithinLimits, sample_steps}
use Rattle.lrp_top.specs.Due.{IsCounted, IsOutput, IsPlanned}
use Rattle.lrp_outputs.specs.Spots.{answer_tuple}
use Rattle.lrp_outputs.specs.Outputs.{least_of, sample_text}
use Rattle.lrp_top.specs.Questions.{IsMemory}
use Rattle.lrp_eval.specs.Counts.{HasAnswerCount}
use Rattle.lrp_top.specs.Sampled.{TellsSample}
use Rattle.lrp_outputs.specs.SampleLines.{sample_lines}
use Rattle.lrp_outputs.specs.First.{IsFirst}
use Rattle.lrp_outputs.specs.declared.refusal.Refusal.{Refusal}
use Rattle.lrp_outputs.specs.declared.refusal.Refusal.TheVariants.{PeriodLimit, BoundLimit, Cells, Memory}
use Rattle.lrp_outputs.specs.declared.report.Report.{Report}
use Rattle.lrp_top.proofs.Answered.{StandForTuples, same_page}

-- ---- want of memory

-- is a refusal of every output
pub output_memory : (Tells : List ℕ → Type 0) (refusal : Refusal) → IsMemory refusal → IsOutput Tells (Err refusal)
output_memory Tells Memory h = tt
output_memory Tells _ h = absurd h

-- is all that is left of a plan within the limits
planned_memory : (db : List Relation) (q : Question) (refusal : Refusal) → IsWithinLimits (plan db q) db q → IsPlanned Written db q (Err refusal) → IsMemory refusal
planned_memory db q Memory h is = tt
planned_memory db q PeriodLimit h is = omega (arith, h.period, is)
planned_memory db q BoundLimit h is = let far : 2 ^ 62 < scaled_reach (plan db q) q = is.1 in omega (arith, h.reach, far)
planned_memory db q _ h is = is

-- and of steps with few cells
counted_memory : (db : List Relation) (q : Question) (most : ℕ) (refusal : Refusal) → ((s : ℕ) → ManyAt (plan db q) db q most s → ⊥) → IsCounted Written db q most (Err refusal) → IsMemory refusal
counted_memory db q most Memory h is = tt
counted_memory db q most (Cells n step) h is = h step is.1.is
counted_memory db q most _ h is = is

-- ---- a question of the sample's relations and the sample's query

module _ (seed size : ℕ) (db : List Relation) (q : Question) (d : db ≡ sample_relations seed size) (e : q ≡ sample_question) where
  -- what holds of the sample's holds of these
  of_sample : (P : List Relation → Question → Type 0) → P (sample_relations seed size) sample_question → P db q
  of_sample P h = subst (λ r. P r q) (sym d) (subst (λ x. P (sample_relations seed size) x) (sym e) h)

  -- its plan is refused for want of memory alone, and so are its cells
  pub sample_planned : (refusal : Refusal) → IsSampleWithinLimits seed size → IsPlanned Written db q (Err refusal) → IsMemory refusal
  sample_planned refusal h is = planned_memory db q refusal (of_sample (λ r x. IsWithinLimits (plan r x) r x) h) is

  pub sample_counted : (way : Planning) → way ≡ Written → (most : ℕ) (refusal : Refusal) → HasAtMostCells seed size most → IsCounted way db q most (Err refusal) → IsMemory refusal
  sample_counted way written most refusal h is = counted_memory db q most refusal (of_sample (λ r x. (s : ℕ) → ManyAt (plan r x) r x most s → ⊥) h) (subst (λ w. IsCounted w db q most (Err refusal)) written is)

  -- and its answers are the sample's
  pub sample_answered : (way : Planning) → way ≡ Written → (most : ℕ) (a : Answer) → IsAnswerOf (plan_by way db q) db q most a → IsAnswerOf (sample_steps seed size) (sample_relations seed size) sample_question most a
  sample_answered way written most a h =
      let as_written : IsAnswerOf (plan db q) db q most a = subst (λ w. IsAnswerOf (plan_by w db q) db q most a) written h in
      subst (λ x. IsAnswerOf (plan (sample_relations seed size) x) (sample_relations seed size) x most a) e (subst (λ r. IsAnswerOf (plan r q) r q most a) d as_written)

-- ---- the least answer

pub least_is : StandForTuples → (steps : Steps) (db : List Relation) (q : Question) (most : ℕ) (a : Answer) (o : Option Spot) → IsAnswerOf steps db q most a
    → IfNone o ((tuple : Tuple) → InAnswer a.head.columns a.domain a.store tuple → ⊥) → IfSome o (λ spot. IsLeastSpot a.head.columns a.domain a.store spot) → IsFirst db q (option_map (answer_tuple a) o)
least_is stood steps db q most a None is none some = λ tuple h. none tuple ((is.answers tuple).1 h)
least_is stood steps db q most a (Some spot) is none some =
    subst (λ t. IsLeast (IsAnswer db q) t) (sym (stood a.head.columns a.store.shape a.domain spot some.tuple some.least.is.shape some.stands))
    (record { is = (is.answers some.tuple).0 some.least.is; first = λ other h. some.least.first other ((is.answers other).1 h) })

-- ---- the first day

-- the answers of a page that are ahead of nothing are those of the day
days : (seed size : ℕ) (page : List Tuple) → AllByRecursion (IsAhead (IsAnswer (sample_relations seed size) sample_question) (pos 0) (pos 1439) None) page → AllByRecursion (IsOfFirstDay seed size) page
days seed size [] h = tt
days seed size (t ∷ ts) h = (record { is = h.0.is; inside = h.0.inside }, days seed size ts h.1)

-- no page is longer than 16 for each trip
abbrev pub HasFewAnswers : Type 0
HasFewAnswers = (seed size : ℕ) (page : List Tuple) → Rises page → AllByRecursion (IsOfFirstDay seed size) page → length page ≤ 16 * size

not_true : (b : Bool) → (IsTrue b → ⊥) → b ≡ false
not_true false h = refl
not_true true h = absurd (h refl)

-- what a page without more after it counts
abbrev pub ArePagesCounted : Type 0
ArePagesCounted = (db : List Relation) (q : Question) (from to : ℤ) (limit : ℕ) (page : List Tuple) → IsPage (IsAnswer db q) from to None limit page false → HasAnswerCount db q from to (length page)

-- so a page of a million has all of them
whole_day : HasFewAnswers → ArePagesCounted → (seed size : ℕ) (page : List Tuple) (more : Bool) → IsSampleSize size → IsPage (IsAnswer (sample_relations seed size) sample_question) (pos 0) (pos 1439) None 1000000 page more
    → HasAnswerCount (sample_relations seed size) sample_question (pos 0) (pos 1439) (length page)
whole_day few counted seed size page more some h =
    let low : length page ≤ 16 * size = few seed size page h.rises (days seed size page h.due) in
    let none : more ≡ false = not_true more (λ m. omega (arith, low, some.most, h.full m)) in
    counted (sample_relations seed size) sample_question (pos 0) (pos 1439) 1000000 page
    (subst (λ b. IsPage (IsAnswer (sample_relations seed size) sample_question) (pos 0) (pos 1439) None 1000000 page b) none h)

-- ---- what is told

pub told_sample : (seed size most : ℕ) (a : Answer) (spots : List Spot) (more : Bool) (report : Report) → HasFewAnswers → ArePagesCounted → IsDatabase (sample_database seed size) (sample_relations seed size) → IsQuery sample_query raw_sample
    → IsWellSorted (sample_relations seed size) raw_sample → plain_question raw_sample ≡ sample_question → IsSampleSize size → IsAnswerOf (sample_steps seed size) (sample_relations seed size) sample_question most a
    → IsPage (InAnswer a.head.columns a.domain a.store) (pos 0) (pos 1439) None 1000000 (map (answer_tuple a) spots) more → IsFirst (sample_relations seed size) sample_question (least_of report.first)
    → report.rows ≡ size → report.cells ≡ finite.len a.store.tables → report.window ≡ length spots → TellsSample seed size (sample_text report)
told_sample seed size most a spots more report few counted database query sorted plain some is page first rows cells window = record {
  db = sample_relations seed size;
  q = sample_question;
  database = database;
  query = record { raw = raw_sample; query = query; sorted = sorted; plain = sym plain };
  cells = finite.len a.store.tables;
  counted = is.cells;
  first = least_of report.first;
  least = first;
  window = length spots;
  answers = subst (λ n. HasAnswerCount (sample_relations seed size) sample_question (pos 0) (pos 1439) n) (length-map spots (answer_tuple a)) (whole_day few counted seed size (map (answer_tuple a) spots) more some
      (same_page (InAnswer a.head.columns a.domain a.store) (IsAnswer (sample_relations seed size) sample_question) is.answers (pos 0) (pos 1439) None 1000000 (map (answer_tuple a) spots) more page));
  spelled = ap (λ n. sample_lines n report.cells (least_of report.first) report.window) rows ∙ ap (λ n. sample_lines size n (least_of report.first) report.window) cells
      ∙ ap (λ n. sample_lines size (finite.len a.store.tables) (least_of report.first) n) window;
}
