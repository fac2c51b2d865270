-- The program's least answers, against those of the query.
use Rattle.std.specs.Prelude.{◌≡◌, ◌≤◌, ◌<◌, ◌-◌, ◌^◌, true, List, [], ◌∷◌, ◌++◌, length, take, Option, IfSome, option_map}
use Rattle.std.specs.List.{AllByRecursion, AllZip}
use Rattle.lrp_model.specs.Core.{HasElements}
use Rattle.lrp_model.specs.Formulas.{Question, question_of}
use Rattle.lrp_model.specs.Sorts.{time_count}
use Rattle.lrp_model.specs.Texts.{Text}
use Rattle.lrp_model.specs.declared.formulas.Query.{Query}
use Rattle.lrp_model.specs.declared.relations.Column.{Column}
use Rattle.lrp_model.specs.declared.relations.Relation.{Relation}
use Rattle.lrp_model.specs.declared.tuples.Shape.{Shape}
use Rattle.lrp_model.specs.declared.tuples.Spot.{Spot}
use Rattle.lrp_answers.specs.declared.answer.Answer.{Answer}
use Rattle.lrp_tables.specs.Columns.{head_texts, head_times}
use Rattle.lrp_answers.specs.Spots.{spot_tuple}
use Rattle.lrp_edits.specs.declared.edits.Edit.{Edit}
use Rattle.lrp_kept.specs.KeptForm.{is_kept}
use Rattle.lrp_keep.specs.Keeps.{CanBeAdded, KeepView, scaled_reach_of, shape_for}
use Rattle.lrp_watch.specs.Edits.{AreMade, last_kept}
use Rattle.lrp_outputs.specs.First.{IsFirst}

-- ---- spots of the answers of one query

-- a head has at most eight time columns, and at most eight others
pub record HasFewColumns (columns : List Column) : Type 0 where
  pub times : length (head_times columns) ≤ 8
  pub texts : length (head_texts columns) ≤ 8

-- an answer has the query's head, and its texts are numbered in the domain
pub record IsOverHead (query : Query) (domain : List Text) (a : Answer) : Type 0 where
  pub head : a.head.columns ≡ query.head.columns
  pub named : a.domain ≡ domain

-- the spot stands for the query's least answer over the relations, where there is one, and its line can be written
pub record IsLeastOver (q : Question) (domain : List Text) (db : List Relation) (least : Option Spot) : Type 0 where
  pub first : IsFirst db q (option_map (spot_tuple q.head (shape_for q.head) domain) least)
  pub known : IfSome least (λ spot. AllByRecursion (λ n. n < length domain) (take (shape_for q.head).texts spot.texts))

-- ---- what goes on being so

-- the row of an edit can be held in its relation
abbrev pub CanBeMade : KeepView → Edit → Type 0
CanBeMade k e = CanBeAdded k e.relation e.row

-- each of the edits can be made
pub record CanGoOn (k : KeepView) (edits : List Edit) : Type 0 where
  pub can : AllByRecursion (CanBeMade k) edits

-- the edits are made of what was kept, and so it is as it is now; the spots are the least answers before them and after each
pub record AreDone (edits : List Edit) (old now : KeepView) (spots : List (Option Spot)) : Type 0 where
  pub later : List KeepView
  pub made : AreMade edits old later
  pub now_is : now ≡ last_kept old later
  pub leasts : AllZip (λ k least. IsLeastOver (question_of old.query) old.domain k.relations least) (old ∷ later) spots

-- after the spots stands one for the least answer over what is kept now
pub record IsTold (k : KeepView) (old new : List (Option Spot)) : Type 0 where
  pub least : Option Spot
  pub is : IsLeastOver (question_of k.query) k.domain k.relations least
  pub more : new ≡ old ++ least ∷ []
