-- What tables and answers stand for: stores whose columns have names.
use Rattle.std.specs.Prelude.{◌≡◌, ℕ, ℤ, ◌<◌, List, map, length, Some, slice_get, slice_index, IsSome}
use Rattle.std.specs.List.{AllZip}
use Rattle.std.specs.FinMap as finite
use Rattle.lrp_model.specs.Texts.{Text, Identifier}
use Rattle.lrp_model.specs.Rows.{Datum, times_of, texts_of}
use Rattle.lrp_model.specs.Satisfaction.{Assignment, HasShape}
use Rattle.lrp_model.specs.declared.relations.Column.{Column}
use Rattle.lrp_model.specs.declared.tuples.Cell.{Cell}
use Rattle.lrp_store.specs.Stores.{StoreView, InStore}

-- the texts with these numbers in a domain
abbrev pub AreTexts : List Text → List ℕ → List Text → Type 0
AreTexts domain numbers texts = AllZip (λ n t. slice_get domain n ≡ Some t) numbers texts

-- the times and the texts are in the store, whose numbers of texts are those of the domain
abbrev pub StoreHolds : List Text → StoreView → List ℤ → List Text → Type 0
StoreHolds domain s times texts = (numbers : List ℕ) × AreTexts domain numbers texts × InStore s times numbers

-- a store whose columns are named by variables stands for the assignments whose values it holds
abbrev pub InTable : List Text → List Identifier → List Identifier → StoreView → Assignment → Type 0
InTable domain times texts s env = StoreHolds domain s (map env.times times) (map env.texts texts)

-- the tuple has the shape of the head, and its times and its texts are in the store: an answer stands for these tuples
pub record InAnswer (columns : List Column) (domain : List Text) (s : StoreView) (tuple : List Datum) : Type 0 where
  pub shape : HasShape columns tuple
  pub held : StoreHolds domain s (times_of tuple) (texts_of tuple)

-- each number of a text in a cell that is held is a number of the domain
abbrev pub AreNumbered : List Text → StoreView → Type 0
AreNumbered domain s = (cell : Cell) (i : ℕ) → IsSome (finite.get s.tables cell) → i < s.shape.texts → slice_index cell.texts i < length domain
