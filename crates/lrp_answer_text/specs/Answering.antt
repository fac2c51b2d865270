-- When an answer is that of a query, settled, and can be read back.
use Rattle.std.specs.Prelude.{◌≡◌, ◌↔◌, List, [], Contains, codes}
use Rattle.std.specs.List.{AllByRecursion}
use Rattle.lrp_model.specs.Formulas.{Question}
use Rattle.lrp_model.specs.Rows.{Datum}
use Rattle.lrp_model.specs.Satisfaction.{IsAnswer}
use Rattle.lrp_model.specs.Texts.{Ascends}
use Rattle.lrp_model.specs.DataTexts.{IsDataText}
use Rattle.lrp_model.specs.declared.relations.Column.{Column}
use Rattle.lrp_model.specs.declared.relations.Relation.{Relation}
use Rattle.lrp_model.specs.declared.tuples.Cell.{Cell}
use Rattle.lrp_model.specs.Kept.{IsKept}
use Rattle.lrp_zone.specs.Zones.{ZoneView}
use Rattle.lrp_store.specs.Least.{HasRoom}
use Rattle.lrp_store.specs.Settled.{AreSettled}
use Rattle.lrp_store.specs.Stores.{IsStore, zones_at}
use Rattle.lrp_store.specs.Tables.{InAnswer}
use Rattle.lrp_answers.specs.declared.answer.Answer.{Answer}

-- the columns can be those of a relation `answer` that is read
abbrev pub AreAnswerColumns : List Column → Type 0
AreAnswerColumns columns = IsKept (record { name = codes "answer"; columns = columns; rows = [] })

-- the answer has the head and just the answers of the query; the zones of each cell are settled and have room; its texts are data texts, and the head's columns can be those of a relation that is read
pub record IsSettledAnswer (db : List Relation) (q : Question) (a : Answer) : Type 0 where
  pub store : IsStore a.store
  pub ascends : Ascends a.domain
  pub head : a.head.columns ≡ q.head
  pub answers : (tuple : List Datum) → InAnswer a.head.columns a.domain a.store tuple ↔ IsAnswer db q tuple
  pub settled : (cell : Cell) (z : ZoneView) → Contains (zones_at a.store cell) z → AreSettled z (zones_at a.store cell)
  pub room : HasRoom a.store
  pub texts : AllByRecursion IsDataText a.domain
  pub columns : AreAnswerColumns q.head
