-- What a query is decided anew by, the program's own values.
use Rattle.std.specs.Prelude.{◌≡◌, ◌↔◌, ◌≤ℤ◌, ◌<◌, ℕ, pos, Contains, List, ◌∷◌, flat_map, length, map, take, Option}
use Rattle.std.specs.List.{AllByRecursion, AllZip}
use Rattle.lrp_model.specs.Domains.{form_texts}
use Rattle.lrp_model.specs.Formulas.{Question}
use Rattle.lrp_model.specs.TestPoints.{points}
use Rattle.lrp_model.specs.Rows.{Tuple}
use Rattle.lrp_model.specs.Satisfaction.{IsAnswer}
use Rattle.lrp_model.specs.Texts.{Text}
use Rattle.lrp_model.specs.Tuples.{texts_at}
use Rattle.lrp_model.specs.declared.plans.Planning.{Planning}
use Rattle.lrp_model.specs.declared.relations.Relation.{Relation}
use Rattle.lrp_model.specs.declared.relations.Row.{Row}
use Rattle.lrp_model.specs.declared.tuples.Spot.{Spot}
use Rattle.lrp_answers.specs.declared.answer.Answer.{Answer}
use Rattle.lrp_store.specs.Tables.{InAnswer}
use Rattle.lrp_edits.specs.declared.edits.Edit.{Edit}
use Rattle.lrp_keep.specs.Keeps.{IsSortedQuery}
use Rattle.lrp_watch.specs.Anew.{IsWithinPlan}
use Rattle.lrp_watch.specs.Edited.{AreEdited}
use Rattle.lrp_watch.specs.LeastAnswers.{IsLeastOver}
use Rattle.lrp_watch.specs.Watching.{texts_of_value}

-- a well-sorted query, whose points have periods of at least 1
pub record CanBeDecided (db : List Relation) (q : Question) : Type 0 where
  pub query : IsSortedQuery db q
  pub points : AllByRecursion (λ at. pos 1 ≤ℤ at.period) (points q.body)

-- the texts are all in the domain
abbrev pub HasEachText : List Text → List Text → Type 0
HasEachText domain = AllByRecursion (Contains domain)

-- those of a row are
abbrev pub HasRowTexts : List Text → Row → Type 0
HasRowTexts domain row = HasEachText domain (flat_map texts_of_value row.values)

-- so are those of the query, of all rows of the relations, and of the rows of the edits
pub record HasAllTexts (domain : List Text) (q : Question) (es : List Edit) (db : List Relation) : Type 0 where
  pub query : HasEachText domain (map (λ entry. entry.1) (form_texts q.body db q.head))
  pub rows : AllByRecursion (λ r. AllByRecursion (HasRowTexts domain) r.rows) db
  pub edits : AllByRecursion (λ e. HasRowTexts domain e.row) es

-- the spots are the least answers over the relations and over those after each edit, none of which passes a limit
pub record AreDecided (way : Planning) (q : Question) (cap : ℕ) (domain : List Text) (edits : List Edit) (db : List Relation) (spots : List (Option Spot)) : Type 0 where
  pub later : List (List Relation)
  pub edited : AreEdited edits db later
  pub within : AllByRecursion (IsWithinPlan way q cap) (db ∷ later)
  pub leasts : AllZip (λ held least. IsLeastOver q domain held least) (db ∷ later) spots

-- the spot of an answer with the numbers that its texts have in another domain
pub record IsRenumbered (a : Answer) (domain : List Text) (old new : Spot) : Type 0 where
  pub times : new.times ≡ old.times
  pub texts : texts_at domain (take a.store.shape.texts new.texts) ≡ texts_at a.domain (take a.store.shape.texts old.texts)
  pub known : AllByRecursion (λ n. n < length domain) (take a.store.shape.texts new.texts)

-- the answer has the head and just the answers of the query over the relations
pub record IsAnsweredOver (db : List Relation) (q : Question) (a : Answer) : Type 0 where
  pub head : a.head.columns ≡ q.head
  pub answers : (tuple : Tuple) → InAnswer a.head.columns a.domain a.store tuple ↔ IsAnswer db q tuple
