-- The lines of the least answers of a query over a database as it is read, and after each of some edits.
use Rattle.std.specs.Prelude.{◌≡◌, ℕ, true, List, [], ◌∷◌, ◌++◌, flat_map, map, Option, ◌≤ℤ◌, pos}
use Rattle.std.specs.List.{AllByRecursion, AllZip}
use Rattle.lrp_model.specs.Domains.{all_texts}
use Rattle.lrp_model.specs.Formulas.{Question, question_of}
use Rattle.lrp_model.specs.Rows.{Tuple}
use Rattle.lrp_model.specs.Texts.{Text, in_order}
use Rattle.lrp_model.specs.TestPoints.{points}
use Rattle.lrp_model.specs.declared.relations.Value.{Value}
use Rattle.lrp_model.specs.declared.relations.Value.TheVariants.{Point, Const}
use Rattle.lrp_model.specs.declared.relations.Relation.{Relation}
use Rattle.lrp_edits.specs.EditMeaning.{IsEditOf}
use Rattle.lrp_edits.specs.declared.edits.Edit.{Edit}
use Rattle.lrp_kept.specs.KeptForm.{is_kept}
use Rattle.lrp_keep.specs.Keeps.{IsSortedQuery, KeepView, opened, StaysWithinLimits}
use Rattle.lrp_keep.specs.declared.faults.KeepFault.{KeepFault}
use Rattle.lrp_watch.specs.Edits.{AreMade, IsPassedAt}
use Rattle.lrp_outputs.specs.First.{IsFirst, first_line}

-- ---- what is kept at first

-- the data text of a value, where it is one
abbrev pub texts_of_value : Value → List Text
texts_of_value (Point at) = []
texts_of_value (Const t) = t ∷ []

-- the data texts in the row of an edit
abbrev pub row_texts_of : Edit → List Text
row_texts_of e = flat_map texts_of_value e.row.values

-- the constants of a database, a query and edits, each once, in order of bytes
abbrev pub watched_constants : List Relation → Question → List Edit → List Text
watched_constants db q edits = in_order (map (λ entry. entry.1) (all_texts db q) ++ flat_map row_texts_of edits)

-- what is kept of the query, in whatever form it is held, over the database as it is read
pub record IsOpened (db : List Relation) (q : Question) (edits : List Edit) (cap : ℕ) (k : KeepView) : Type 0 where
  pub query : question_of k.query ≡ q
  pub is : k ≡ opened k.query db (watched_constants db q edits) cap

-- ---- what is told

-- there is a line for the least answer over the database as it is read, and one after each edit; none of them passes a limit
pub record TellsLeasts (db : List Relation) (q : Question) (edits : List Edit) (cap : ℕ) (bytes : List ℕ) : Type 0 where
  pub kept : KeepView
  pub opened : IsOpened db q edits cap kept
  pub within : StaysWithinLimits kept
  pub later : List KeepView
  pub made : AreMade edits kept later
  pub firsts : List (Option Tuple)
  pub are : AllZip (λ k first. IsFirst k.relations q first) (kept ∷ later) firsts
  pub spelled : bytes ≡ flat_map first_line firsts

-- the limit is passed at the edit of this number and none before; the opening is edit 0
pub record IsPassed (db : List Relation) (q : Question) (edits : List Edit) (cap number : ℕ) (fault : KeepFault) : Type 0 where
  pub kept : KeepView
  pub opened : IsOpened db q edits cap kept
  pub at : IsPassedAt edits kept number fault

-- ---- what is asked for

-- a well-sorted query in kept form, whose points have periods of at least 1, and edits of the database
pub record CanBeWatched (db : List Relation) (q : Question) (edits : List Edit) : Type 0 where
  pub query : IsSortedQuery db q
  pub kept : is_kept q ≡ true
  pub points : AllByRecursion (λ at. pos 1 ≤ℤ at.period) (points q.body)
  pub lawful : AllByRecursion (IsEditOf db) edits
