-- What the answer of a plan is.
use Rattle.std.specs.Prelude.{◌≡◌, ◌≢◌, ◌↔◌, ◌<◌, ◌≤◌, ℕ, ◌*◌, pos, List, length, Contains}
use Rattle.std.specs.FinMap as finite
use Rattle.std.specs.declared.cmp.Ordering.TheVariants.{Greater}
use Rattle.lrp_model.specs.Order.{rank_cmp}
use Rattle.lrp_model.specs.Rows.{Datum, Tuple}
use Rattle.lrp_model.specs.Formulas.{Question}
use Rattle.lrp_model.specs.Satisfaction.{IsAnswer}
use Rattle.lrp_model.specs.Domains.{constants}
use Rattle.lrp_model.specs.Caps.{ManyAt}
use Rattle.lrp_model.specs.Steps.{Steps}
use Rattle.lrp_model.specs.Plans.{query_reach}
use Rattle.lrp_model.specs.Sorts.{time_count}
use Rattle.lrp_model.specs.declared.relations.Relation.{Relation}
use Rattle.lrp_model.specs.declared.tuples.Cell.{Cell}
use Rattle.lrp_zone.specs.Zones.{ZoneView}
use Rattle.lrp_store.specs.Stores.{zones_at}
use Rattle.lrp_store.specs.Settled.{AreSettled}
use Rattle.lrp_store.specs.Tables.{InAnswer}
use Rattle.lrp_answers.specs.Parts.{IsInSomePart}
use Rattle.lrp_answers.specs.declared.answer.Answer.{Answer}
use Rattle.lrp_cutting.specs.Settling.{IsSmallZone}
use Rattle.lrp_plan_laws.specs.Rising.{period_at}
use Rattle.lrp_eval.specs.Counts.{HasCells}

-- the answer has the head, the constants and the answers of the query, and the period and the number of cells of the last of these steps; its cells are settled, no bound of theirs is above the last reach times the head's time columns, and no step has more than cap cells
pub record IsAnswerOf (planned : Steps) (db : List Relation) (q : Question) (cap : ℕ) (a : Answer) : Type 0 where
  pub head : a.head.columns ≡ q.head
  pub domain : a.domain ≡ constants db q
  pub period : a.period ≡ pos (period_at planned (length planned))
  pub answers : (tuple : List Datum) → InAnswer a.head.columns a.domain a.store tuple ↔ IsAnswer db q tuple
  pub cells : HasCells planned db q (length planned) (finite.len a.store.tables)
  pub settled : (cell : Cell) (z : ZoneView) → Contains (zones_at a.store cell) z → AreSettled z (zones_at a.store cell)
  pub small : (cell : Cell) (z : ZoneView) → Contains (zones_at a.store cell) z → IsSmallZone z (time_count q.head * query_reach planned)
  pub few : (s : ℕ) → ManyAt planned db q cap s → ⊥

-- ---- answers in parts, each in cells of a period of its own

-- a part has the head and the constants of the query, and its period and bounds are within the last reach as an answer's are
pub record IsAnswerPart (planned : Steps) (db : List Relation) (q : Question) (part : Answer) : Type 0 where
  pub head : part.head.columns ≡ q.head
  pub domain : part.domain ≡ constants db q
  pub period : part.store.period ≤ query_reach planned
  pub small : (cell : Cell) (z : ZoneView) → Contains (zones_at part.store cell) z → IsSmallZone z (time_count q.head * query_reach planned)

-- at least one part; together they have just the answers of the query, and no step has more than cap cells
pub record AreAnswersInParts (planned : Steps) (db : List Relation) (q : Question) (cap : ℕ) (parts : List Answer) : Type 0 where
  pub some : 0 < length parts
  pub each : (part : Answer) → Contains parts part → IsAnswerPart planned db q part
  pub answers : (tuple : List Datum) → IsInSomePart parts tuple ↔ IsAnswer db q tuple
  pub few : (s : ℕ) → ManyAt planned db q cap s → ⊥

-- ---- the first answer

-- at least one part; each tuple of theirs is an answer of the query, no answer comes before all of theirs by ranks, and no step has more than cap cells
pub record HaveFirstAnswer (planned : Steps) (db : List Relation) (q : Question) (cap : ℕ) (parts : List Answer) : Type 0 where
  pub some : 0 < length parts
  pub each : (part : Answer) → Contains parts part → IsAnswerPart planned db q part
  pub sound : (tuple : Tuple) → IsInSomePart parts tuple → IsAnswer db q tuple
  pub first : (tuple : Tuple) → IsAnswer db q tuple → (early : Tuple) × IsInSomePart parts early × (rank_cmp early tuple ≢ Greater)
  pub few : (s : ℕ) → ManyAt planned db q cap s → ⊥
