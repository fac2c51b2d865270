-- What a keeper of answers stands for, what edits make of it, and why it is refused.
use Rattle.std.specs.Prelude.{◌≡◌, ◌↔◌, ◌<◌, ◌≤◌, ◌≤ℤ◌, ◌*◌, ◌-◌, ℕ, max, pos, true, List, [], ◌∷◌, ◌++◌, length, map, Contains, Option, Some, None, if◌then◌else◌}
use Rattle.std.specs.List.{All, AllByRecursion, AllZip}
use Rattle.std.specs.Str.{bytes_eq}
use Rattle.lrp_model.specs.Texts.{Text, Identifier}
use Rattle.lrp_model.specs.Sorts.{time_count}
use Rattle.lrp_model.specs.Rows.{rows_of}
use Rattle.lrp_model.specs.Formulas.{Question, form_of, question_of}
use Rattle.lrp_model.specs.declared.formulas.Query.{Query}
use Rattle.lrp_model.specs.Periods.{period}
use Rattle.lrp_model.specs.Domains.{constants}
use Rattle.lrp_model.specs.Checked.{plain_question}
use Rattle.lrp_model.specs.Core.{HasElements}
use Rattle.lrp_model.specs.RawQueries.{RawQuestion}
use Rattle.lrp_model.specs.Sorting.{IsWellSorted}
use Rattle.lrp_model.specs.TestPoints.{points}
use Rattle.lrp_model.specs.declared.relations.Column.{Column}
use Rattle.lrp_model.specs.declared.relations.Value.{Value}
use Rattle.lrp_model.specs.declared.relations.Value.TheVariants.{Point, Const}
use Rattle.lrp_model.specs.declared.relations.Row.{Row}
use Rattle.lrp_model.specs.declared.relations.Relation.{Relation}
use Rattle.lrp_tables.specs.Calls.{CanStand, IsColumnBound}
use Rattle.lrp_model.specs.Rows.{Datum}
use Rattle.lrp_model.specs.Order.{IsLeast}
use Rattle.lrp_model.specs.Satisfaction.{HasShape, IsAnswer}
use Rattle.lrp_model.specs.declared.tuples.Cell.{Cell}
use Rattle.lrp_model.specs.declared.tuples.Shape.{Shape}
use Rattle.lrp_model.specs.declared.tuples.Spot.{Spot}
use Rattle.lrp_zone.specs.Zones.{ZoneView}
use Rattle.lrp_store.specs.Least.{StandsFor}
use Rattle.lrp_store.specs.Stores.{zones_at}
use Rattle.lrp_store.specs.Tables.{InAnswer}
use Rattle.lrp_answers.specs.declared.answer.Answer.{Answer}
use Rattle.lrp_cutting.specs.Settling.{IsSmallZone}
use Rattle.lrp_kept.specs.KeptForm.{is_kept}
use Rattle.lrp_kept.specs.Choices.{HasLargeChoicePart}
use Rattle.lrp_kept.specs.EqualRows.{AreEqualRows}
use Rattle.lrp_keep.specs.Replaced.{replaced}
use Rattle.lrp_kept.specs.Limits.{kept_reach, raised_period, row_bound, relation_bound, names_relation, scaled_kept_reach}
use Rattle.lrp_keep.specs.declared.faults.KeepFault.{KeepFault}
use Rattle.lrp_keep.specs.declared.faults.KeepFault.TheVariants.{PeriodLimit, BoundLimit, TooManyCells, Memory}
use Rattle.lrp_model.specs.Limits.{greatest_number}

-- a query, the constants, the greatest number of cells, the relations with the rows now held, the least common multiple of the periods that ever were, and for each relation the greatest bound that ever was
pub record KeepView : Type 0 where
  pub query : Query
  pub domain : List Text
  pub cap : ℕ
  pub relations : List Relation
  pub period : ℕ
  pub bounds : List ℕ

-- ---- rows

-- a point of a period of at least 1 in a column of times, a text of the domain in one of a data sort
abbrev pub CanStandAlone : List Text → Column → Value → Type 0
CanStandAlone domain c (Point at) = CanStand domain at.period c (Point at)
CanStandAlone domain c (Const t) = CanStand domain (pos 1) c (Const t)

-- a row with one value for each column, and bounds on its time columns
pub record CanBeHeld (domain : List Text) (columns : List Column) (row : Row) : Type 0 where
  pub values : AllZip (CanStandAlone domain) columns row.values
  pub bounds : AllByRecursion (IsColumnBound (time_count columns)) row.bounds

-- ---- edits of the relations

-- some relation has the name
pub record IsRelationOf (db : List Relation) (name : Identifier) (relation : Relation) : Type 0 where
  pub listed : Contains db relation
  pub named : relation.name ≡ name

-- a row after the others of the relation
abbrev pub with_row : List Relation → Identifier → Row → List Relation
with_row db name row = replaced db name (rows_of db name ++ row ∷ [])

-- the first row that is equal is taken out
pub record IsTakenOut (row : Row) (old new : List Row) : Type 0 where
  pub front : List Row
  pub held : Row
  pub back : List Row
  pub were : old ≡ front ++ held ∷ back
  pub are : new ≡ front ++ back
  pub equal : AreEqualRows held row
  pub first : All (λ other. AreEqualRows other row → ⊥) front

-- no row is equal
abbrev pub HasNoEqual : Row → List Row → Type 0
HasNoEqual row rows = All (λ other. AreEqualRows other row → ⊥) rows

-- the number beside the relation of this name is raised to another one; each relation has a number, so the last case is that of none
abbrev pub raised_at : Identifier → ℕ → List Relation → List ℕ → List ℕ
raised_at name most (r ∷ rs) (n ∷ ns) = (if bytes_eq r.name name then max n most else n) ∷ raised_at name most rs ns
raised_at name most _ ns = ns

-- ---- what calls make

-- over the rows of a database
abbrev pub opened : Query → List Relation → List Text → ℕ → KeepView
opened q db domain cap = record { query = q; domain = domain; cap = cap; relations = db; period = period db (form_of q.body); bounds = map relation_bound db }

-- with a further row
abbrev pub with_added : KeepView → Identifier → Row → KeepView
with_added k name row =
    record {
      query = k.query;
      domain = k.domain;
      cap = k.cap;
      relations = with_row k.relations name row;
      period = if names_relation (form_of k.query.body) name then raised_period k.period row else k.period;
      bounds = raised_at name (row_bound row) k.relations k.bounds;
    }

-- old without the first row of the relation that is equal to this one
pub record IsWithout (name : Identifier) (row : Row) (old new : KeepView) : Type 0 where
  pub rows : List Row
  pub taken : IsTakenOut row (rows_of old.relations name) rows
  pub is : new ≡ record old { relations = replaced old.relations name rows }

-- ---- limits

-- 2^(m + 1) times the kept reach, with m time columns in the head
abbrev pub scaled_reach_of : KeepView → ℕ
scaled_reach_of k = scaled_kept_reach k.relations k.bounds k.period (question_of k.query)

-- some part of a choice of held rows inhabits more than cap cells
abbrev pub HasTooManyCells : KeepView → Type 0
HasTooManyCells k = HasLargeChoicePart k.relations (question_of k.query) k.domain k.period k.cap

-- neither the period nor the scaled reach is above the greatest number, and no part of a choice has too many cells
pub record StaysWithinLimits (k : KeepView) : Type 0 where
  pub period : k.period ≤ greatest_number
  pub reach : scaled_reach_of k ≤ greatest_number
  pub cells : HasTooManyCells k → ⊥

-- the first of them that is passed, or no memory
abbrev pub IsPastLimit : KeepView → KeepFault → Type 0
IsPastLimit k PeriodLimit = greatest_number < k.period
IsPastLimit k BoundLimit = (k.period ≤ greatest_number) × (greatest_number < scaled_reach_of k)
IsPastLimit k TooManyCells = (k.period ≤ greatest_number) × (scaled_reach_of k ≤ greatest_number) × HasTooManyCells k
IsPastLimit k Memory = Unit {0}

-- ---- what is asked for, and what each keeper keeps

-- the query is that of a well-sorted raw one, each `and` and `or` of which has an element
pub record IsSortedQuery (db : List Relation) (q : Question) : Type 0 where
  pub raw : RawQuestion
  pub sorted : IsWellSorted db raw
  pub is : q ≡ plain_question raw
  pub elements : HasElements q.body

-- a well-sorted query in kept form, whose points have periods of at least 1; the domain has all constants, and the rows have texts of it
pub record CanBeKept (q : Question) (db : List Relation) (domain : List Text) : Type 0 where
  pub query : IsSortedQuery db q
  pub kept : is_kept q ≡ true
  pub points : AllByRecursion (λ at. pos 1 ≤ℤ at.period) (points q.body)
  pub known : AllByRecursion (Contains domain) (constants db q)
  pub rows : AllByRecursion (λ r. AllByRecursion (CanBeHeld domain r.columns) r.rows) db

-- the relation is one of the keeper's, and the row can be held in it
pub record CanBeAdded (k : KeepView) (name : Identifier) (row : Row) : Type 0 where
  pub relation : Relation
  pub is : IsRelationOf k.relations name relation
  pub row_fits : CanBeHeld k.domain relation.columns row

-- the answer has the keeper's head, constants and period, and just the answers of the query over the rows now held; no bound of its zones is above the kept reach times the head's time columns
pub record IsKeptAnswer (k : KeepView) (a : Answer) : Type 0 where
  pub head : a.head.columns ≡ k.query.head.columns
  pub domain : a.domain ≡ k.domain
  pub period : a.period ≡ pos k.period
  pub answers : (tuple : List Datum) → InAnswer a.head.columns a.domain a.store tuple ↔ IsAnswer k.relations (question_of k.query) tuple
  pub small : (cell : Cell) (z : ZoneView) → Contains (zones_at a.store cell) z → IsSmallZone z (time_count k.query.head.columns * kept_reach k.relations k.bounds k.period (question_of k.query))

-- ---- the least answer

-- how many time columns a head has, and how many others
abbrev pub shape_for : List Column → Shape
shape_for columns = record { times = time_count columns; texts = length columns - time_count columns }

-- the spot stands for the least answer of the query over the rows now held
pub record IsKeptLeastSpot (k : KeepView) (spot : Spot) : Type 0 where
  pub tuple : List Datum
  pub shape : HasShape k.query.head.columns tuple
  pub stands : StandsFor (shape_for k.query.head.columns) k.domain spot tuple
  pub least : IsLeast (IsAnswer k.relations (question_of k.query)) tuple

-- so it is, and where there is no spot the query has no answer
abbrev pub IsKeptLeast : KeepView → Option Spot → Type 0
IsKeptLeast k None = (tuple : List Datum) → IsAnswer k.relations (question_of k.query) tuple → ⊥
IsKeptLeast k (Some spot) = IsKeptLeastSpot k spot
