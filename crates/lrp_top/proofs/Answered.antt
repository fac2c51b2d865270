-- What the answers of a query leave room for, and what is told of them.
use Rattle.std.proofs.Common.{◌≡◌, ◌↔◌, inl, inr, map, ◌≤◌, ◌<◌, ◌+◌, ◌*◌, ◌^◌, ℕ, List, [], ◌∷◌, ◌++◌, length, take, Option, Some, None, unwrap_or, option_map, Bool, refl, sym, ap, subst, ◌∙◌, arith}
use Rattle.std.specs.Prelude.{ℤ, pos, codes, Contains, IfNone, IfSome, MatchOption}
use Rattle.std.specs.List.{AllByRecursion}
use Rattle.lrp_model.specs.Texts.{Text}
use Rattle.lrp_model.specs.Formulas.{Question}
use Rattle.lrp_model.specs.Pages.{IsAhead, IsPage}
use Rattle.lrp_model.specs.Rows.{Tuple}
use Rattle.lrp_model.specs.Periods.{period}
use Rattle.lrp_model.specs.Plans.{query_reach, scaled_reach}
use Rattle.lrp_model.specs.Sorts.{time_count}
use Rattle.lrp_model.specs.Steps.{PlanStep, Steps, step_at}
use Rattle.lrp_model.specs.declared.tuples.Cell.{Cell}
use Rattle.lrp_model.specs.declared.relations.Relation.{Relation}
use Rattle.lrp_model.specs.Satisfaction.{HasShape}
use Rattle.lrp_model.specs.declared.relations.Column.{Column}
use Rattle.lrp_model.specs.declared.tuples.Shape.{Shape}
use Rattle.lrp_model.specs.declared.tuples.Spot.{Spot}
use Rattle.lrp_cutting.specs.Settling.{IsSmallZone}
use Rattle.lrp_outputs.specs.SmallAnswers.{IsSmallAnswer}
use Rattle.lrp_plan_laws.specs.Rising.{IsRising, period_at}
use Rattle.lrp_plan_laws.specs.Settled.{IsSoundPlan}
use Rattle.lrp_zone.specs.Zones.{reach_of}
use Rattle.lrp_store.specs.Least.{IsLeastSpot, StandsFor}
use Rattle.lrp_store.specs.Stores.{StoreView, tables_at, zone_of}
use Rattle.lrp_store.specs.Tables.{InAnswer}
use Rattle.lrp_answers.specs.declared.answer.Answer.{Answer}
use Rattle.lrp_answers.specs.Spots.{spot_tuple}
use Rattle.lrp_canon.specs.Canonical.{CanMakeCanonical}
use Rattle.lrp_eval.specs.Answered.{IsAnswerOf}
use Rattle.lrp_top.proofs.Lists.{in_map}
use Rattle.lrp_outputs.specs.Spots.{HasKnownTexts}
use Rattle.lrp_outputs.specs.Outputs.{spot_text}
use Rattle.lrp_outputs.specs.First.{least_line}
use Rattle.lrp_top.specs.Telling.{TellsWitness}

-- ---- room for the least answer

-- the last step of a plan is no wider than its reach, since each step is
wide_at : (steps : Steps) (db : List Relation) (q : Question) (Is : PlanStep → Type 0) → ((s : ℕ) (step : PlanStep) → step_at steps s ≡ Some step → IsRising steps db q s step) → MatchOption (step_at steps (length steps)) ⊥ Is → period_at steps (length steps) ≤ query_reach steps
wide_at steps db q Is rises last = by (step_at steps (length steps)) refl last
  where
    by : (o : Option PlanStep) → step_at steps (length steps) ≡ o → MatchOption o ⊥ Is → unwrap_or (option_map (λ step. step.period) o) 1 ≤ unwrap_or (option_map (λ step. step.reach) o) 0
    by None e m = absurd m
    by (Some step) e m = (rises (length steps) step e).wide

pub last_wide : (steps : Steps) (db : List Relation) (q : Question) → IsSoundPlan steps db q → period_at steps (length steps) ≤ query_reach steps
last_wide steps db q sound = wide_at steps db q _ (λ s step e. (sound.each s step e).rises) sound.head

-- a zone of a cell, by its table
zone_in : (s : StoreView) (cell : Cell) (tables : List (List (Option ℤ))) (table : List (Option ℤ)) → Contains tables table → Contains (map (zone_of s cell) tables) (zone_of s cell table)
zone_in s cell tables table held = in_map (zone_of s cell) tables table held

module _ (steps : Steps) (db : List Relation) (q : Question) (cap : ℕ) (a : Answer) (is : IsAnswerOf steps db q cap a) (reach : scaled_reach steps q ≤ 2 ^ 62) (wide : period_at steps (length steps) ≤ query_reach steps) where
  pub small_answer : IsSmallAnswer a (query_reach steps)
  small_answer =
      let k : pos a.store.period ≡ pos (period_at steps (length steps)) = sym a.period_is ∙ is.period in
      let same : a.store.period ≡ period_at steps (length steps) = cc in
      record {
        period = subst (λ n. n ≤ query_reach steps) (sym same) wide;
        scaled = subst (λ cs. 2 ^ (time_count cs + 1) * query_reach steps ≤ 2 ^ 62) (sym is.head) reach;
        small = λ cell z held. subst (λ cs. IsSmallZone z (time_count cs * query_reach steps)) (sym is.head) (is.small cell z held);
      }

-- ---- room for the canonical answer

-- one time column of the head is one of the store
pub one_column : (steps : Steps) (db : List Relation) (q : Question) (cap : ℕ) (a : Answer) → IsAnswerOf steps db q cap a → time_count q.head ≡ 1 → a.store.shape.times ≡ 1
one_column steps db q cap a is one = sym a.times_are ∙ ap time_count is.head ∙ one

module _ (steps : Steps) (db : List Relation) (q : Question) (cap : ℕ) (a : Answer) (is : IsAnswerOf steps db q cap a) (reach : scaled_reach steps q ≤ 2 ^ 62) (wide : period_at steps (length steps) ≤ query_reach steps) (one : time_count q.head ≡ 1) where
  same_period : a.store.period ≡ period_at steps (length steps)
  same_period = let k : pos a.store.period ≡ pos (period_at steps (length steps)) = sym a.period_is ∙ is.period in cc

  pub can_be_canonical : CanMakeCanonical a.store
  can_be_canonical = record {
    column = one_column steps db q cap a is one;
    reach = record {
      each = λ cell table held.
          let z = zone_of a.store cell table in
          let small : reach_of z ≤ 1 * query_reach steps = subst (λ n. reach_of z ≤ n * query_reach steps) one (is.small cell z (zone_in a.store cell (tables_at a.store cell) table held)).stored in
          let four : 2 ^ (1 + 1) * query_reach steps ≤ 2 ^ 62 = subst (λ n. 2 ^ (n + 1) * query_reach steps ≤ 2 ^ 62) one reach in
          let low : a.store.period ≤ query_reach steps = subst (λ n. n ≤ query_reach steps) (sym same_period) wide in
          omega arith;
    };
  }

-- ---- the period

pub period_of : (steps : Steps) (db : List Relation) (q : Question) (cap : ℕ) (a : Answer) → IsAnswerOf steps db q cap a → period_at steps (length steps) ≡ period db q.body → a.store.period ≡ period db q.body
period_of steps db q cap a is last = let same : pos a.store.period ≡ pos (period db q.body) = sym a.period_is ∙ is.period ∙ ap pos last in cc

-- ---- the least answer

-- the tuple that is told of a spot is the one that it stands for
abbrev pub StandForTuples : Type 0
StandForTuples = (columns : List Column) (shape : Shape) (domain : List Text) (spot : Spot) (tuple : Tuple) → HasShape columns tuple → StandsFor shape domain spot tuple → spot_tuple columns shape domain spot ≡ tuple

module _ (stood : StandForTuples) (steps : Steps) (db : List Relation) (q : Question) (cap : ℕ) (a : Answer) (is : IsAnswerOf steps db q cap a) (dates : Bool) where
  pub told_none : ((tuple : Tuple) → InAnswer a.head.columns a.domain a.store tuple → ⊥) → TellsWitness dates db q (spot_text dates a None)
  told_none none = inl (record { none = λ tuple h. none tuple ((is.answers tuple).1 h); spelled = refl })

  pub told_some : (spot : Spot) → IsLeastSpot a.head.columns a.domain a.store spot → TellsWitness dates db q (spot_text dates a (Some spot))
  told_some spot l = inr (record {
    tuple = l.tuple;
    least = record { is = (is.answers l.tuple).0 l.least.is; first = λ other h. l.least.first other ((is.answers other).1 h) };
    spelled = ap (λ (t : Tuple). codes "Nonempty\n" ++ least_line dates t) (stood a.head.columns a.store.shape a.domain spot l.tuple l.least.is.shape l.stands);
  })

  pub told_least : (o : Option Spot) → IfNone o ((tuple : Tuple) → InAnswer a.head.columns a.domain a.store tuple → ⊥) → IfSome o (λ spot. IsLeastSpot a.head.columns a.domain a.store spot) → TellsWitness dates db q (spot_text dates a o)
  told_least None n s = told_none n
  told_least (Some spot) n s = told_some spot s

-- ---- texts by their numbers

-- a spot that stands for a tuple has numbers of the domain
abbrev pub HaveKnownTexts : Type 0
HaveKnownTexts = (shape : Shape) (domain : List Text) (spot : Spot) (tuple : Tuple) → StandsFor shape domain spot tuple → AllByRecursion (λ n. n < length domain) (take shape.texts spot.texts)

pub known_least : HaveKnownTexts → (a : Answer) (o : Option Spot) → IfSome o (λ spot. IsLeastSpot a.head.columns a.domain a.store spot) → IfSome o (HasKnownTexts a)
known_least known a None h = tt
known_least known a (Some spot) h = known a.store.shape a.domain spot h.tuple h.stands

-- ---- pages

module _ (P Q : Tuple → Type 0) (same : (t : Tuple) → P t ↔ Q t) (from to : ℤ) (after : Option Tuple) where
  due_to : (t : Tuple) → IsAhead P from to after t → IsAhead Q from to after t
  due_to t d = record { is = (same t).0 d.is; inside = d.inside; later = d.later }

  due_from : (t : Tuple) → IsAhead Q from to after t → IsAhead P from to after t
  due_from t d = record { is = (same t).1 d.is; inside = d.inside; later = d.later }

  all_due : (ts : List Tuple) → AllByRecursion (IsAhead P from to after) ts → AllByRecursion (IsAhead Q from to after) ts
  all_due [] h = tt
  all_due (t ∷ ts) h = (due_to t h.0, all_due ts h.1)

  -- the page of the same answers
  pub same_page : (limit : ℕ) (page : List Tuple) (more : Bool) → IsPage P from to after limit page more → IsPage Q from to after limit page more
  same_page limit page more h = record {
    rises = h.rises;
    due = all_due page h.due;
    whole = λ t d unless. h.whole t (due_from t d) unless;
    more_is = ((λ m. let r = h.more_is.0 m in (r.0, due_to r.0 r.1, r.2)), λ r. h.more_is.1 (r.0, due_from r.0 r.1, r.2));
    short = h.short;
    full = h.full;
  }
