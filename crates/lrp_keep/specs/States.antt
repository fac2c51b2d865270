-- The rows that are held for a query, with what is derived from them.
use Rattle.std.specs.Prelude.{◌≡◌, ◌≢◌, ◌≤◌, ◌<◌, ◌-◌, ◌^◌, ◌++◌, ◌∷◌, ℕ, zero, suc, pos, true, List, [], Contains, MatchOption, Option, Some, None, flat_map, length, map, slice_get, if◌then◌else◌}
use Rattle.std.specs.List.{AllByRecursion, list_any}
use Rattle.slab.specs.Slab.{get}
use Rattle.lrp_model.specs.Domains.{constants}
use Rattle.lrp_model.specs.Formulas.{Question, question_of}
use Rattle.lrp_model.specs.Texts.{AreDistinct, Ascends, Identifier}
use Rattle.lrp_theory.specs.Divides.{IsMultiple}
use Rattle.lrp_model.specs.Periods.{row_periods}
use Rattle.lrp_model.specs.declared.relations.Relation.{Relation}
use Rattle.lrp_model.specs.declared.relations.Row.{Row}
use Rattle.lrp_store.specs.Stores.{HasReach, IsStore}
use Rattle.lrp_answers.specs.declared.answer.Answer.{Answer}
use Rattle.lrp_tables.specs.Columns.{head_texts, head_times}
use Rattle.lrp_parts.specs.Derivations.{AreReleased, CanDerive, Ground, HasLargePart, HoldsIn, IsDerivedFrom, Levels, ground_of}
use Rattle.lrp_kept.specs.Disjuncts.{AreDisjunctsOf}
use Rattle.lrp_kept.specs.Held.{AreLowRows, greatest_bounds, names_of, relations_of, held_row}
use Rattle.lrp_kept.specs.Keys.{keys_of}
use Rattle.lrp_kept.specs.Limits.{raised_period, relation_bound, row_bound}
use Rattle.lrp_kept.specs.Sizes.{is_reader, period_number, scaled_over, tested_periods}
use Rattle.lrp_limits.specs.Facts.{KeepsMultiples}
use Rattle.lrp_limits.specs.declared.periods.Period.{Period}
use Rattle.lrp_kept.specs.Sketches.{AreSketchesOf, CanBeSketched}
use Rattle.lrp_kept.specs.Choices.{listed_disjuncts}
use Rattle.lrp_kept.specs.Drafts.{CanBeJoinedUp}
use Rattle.lrp_parts.specs.declared.parts.DerivationSetting.{DerivationSetting}
use Rattle.lrp_keep.specs.Keeps.{CanBeHeld, CanBeKept, IsSortedQuery, KeepView, opened, scaled_reach_of, with_added, with_row, IsPastLimit}
use Rattle.lrp_kept.specs.KeptForm.{is_kept}
use Rattle.lrp_kept.specs.Keyed.{AreHeldRows, AreRelisted, AreSameRows, IsEmptyOf, IsFirstEqual, IsLetGoAt}
use Rattle.lrp_kept.specs.SortedForms.{HaveColumnsOf}
use Rattle.lrp_keep.specs.Taken.{HeldHaveReach}
use Rattle.lrp_keep.specs.Unions.{AreDerived, AreDerivedBut, RemainWithout, HoldsAll}
use Rattle.lrp_kept.specs.declared.disjuncts.Disjunct.{Disjunct}
use Rattle.lrp_keep.specs.declared.faults.KeepFault.{KeepFault}
use Rattle.lrp_keep.specs.declared.kept_query.KeptQuery.{KeptQuery}
use Rattle.lrp_kept.specs.declared.rows.HeldRelation.{HeldRelation}
use Rattle.lrp_kept.specs.declared.rows.HeldRows.{HeldRows}
use Rattle.lrp_kept.specs.declared.rows.HeldRow.{HeldRow}
use Rattle.lrp_parts.specs.declared.derivation.Derived.{Derived}
use Rattle.lrp_keep.specs.declared.states.State.{State}

-- what derivations from the rows rest on, in cells of this period
abbrev pub ground_at : KeptQuery → HeldRows → ℕ → Ground
ground_at of rows period = record { domain = of.domain; period = period; cap = of.cap; head = of.query.now.head.columns; rows = rows }

-- each listed disjunct of a query can be joined up over the rows, and these are the disjuncts
abbrev pub CanAllBeJoinedUp : HeldRows → Question → Type 0
CanAllBeJoinedUp rows q = AllByRecursion (CanBeJoinedUp (names_of rows)) (listed_disjuncts q)

abbrev pub AreDisjunctsFor : HeldRows → Question → KeptQuery → Type 0
AreDisjunctsFor rows q of = AreDisjunctsOf (names_of rows) q of.disjuncts.items

-- a row's sketches are those of a query
abbrev pub AreSketchesFor : KeptQuery → ℕ → Row → HeldRow → Type 0
AreSketchesFor of relation row source = AreSketchesOf of.domain of.disjuncts.items relation row source.sketches.items

-- ---- states

-- what is derived, by disjuncts
abbrev pub levels_in : List Derived → List Levels
levels_in derived = map (λ d. d.levels.items) derived

abbrev pub levels_of : State → List Levels
levels_of s = levels_in s.derived.items

-- each disjunct can be derived
abbrev pub CanDeriveEach : Ground → List Disjunct → Type 0
CanDeriveEach g ds = (i : ℕ) (d : Disjunct) → slice_get ds i ≡ Some d → CanDerive g d

-- some disjunct has choices, and some part of one has too many cells
pub record HasSomeLargePart (g : Ground) (ds : List Disjunct) : Type 0 where
  pub disjunct : Disjunct
  pub listed : Contains ds disjunct
  pub large : HasLargePart g disjunct

-- the same of a query's disjuncts, from the rows in cells of this period
abbrev pub CanDeriveAt : KeptQuery → HeldRows → ℕ → Type 0
CanDeriveAt of rows period = CanDeriveEach (ground_at of rows period) of.disjuncts.items

abbrev pub HasLargePartAt : KeptQuery → HeldRows → ℕ → Type 0
HasLargePartAt of rows period = HasSomeLargePart (ground_at of rows period) of.disjuncts.items

abbrev pub AreDerivedAt : KeptQuery → HeldRows → ℕ → List Levels → Type 0
AreDerivedAt of rows period levels = AreDerived (ground_at of rows period) of.disjuncts.items levels

abbrev pub IsDerivedAt : KeptQuery → HeldRows → ℕ → State → Type 0
IsDerivedAt of rows period s = AreDerivedAt of rows period (levels_of s)

-- all is derived that the rows make without the one under a key
abbrev pub IsDerivedWithout : KeptQuery → ℕ → State → Type 0
IsDerivedWithout of key s = AreDerivedBut (ground_at of s.rows s.period.number) of.disjuncts.items key (levels_of s)

-- what is derived from the rows of a setting, with the last one, and without it
abbrev pub AreDerivedIn : DerivationSetting → KeptQuery → List Derived → Type 0
AreDerivedIn setting of derived = AreDerived (ground_of setting) of.disjuncts.items (levels_in derived)

abbrev pub AreDerivedInBut : DerivationSetting → KeptQuery → ℕ → List Derived → Type 0
AreDerivedInBut setting of key derived = AreDerivedBut (ground_of setting) of.disjuncts.items key (levels_in derived)

abbrev pub RemainInWithout : DerivationSetting → KeptQuery → ℕ → List Derived → Type 0
RemainInWithout setting of key derived = RemainWithout (ground_of setting) of.disjuncts.items key (levels_in derived)

-- new has what is derived of the disjunct after the others
pub record IsDerivedAfter (g : Ground) (d : Disjunct) (old new : List Derived) : Type 0 where
  pub derived : Derived
  pub are : new ≡ old ++ derived ∷ []
  pub is : IsDerivedFrom g d derived.levels.items

-- the rows are held under keys, and what is derived of each disjunct is derived from them
pub record IsStateOf (of : KeptQuery) (s : State) : Type 0 where
  pub rows : AreHeldRows s.rows
  pub disjuncts : AreDisjunctsOf (names_of s.rows) (question_of of.query.now) of.disjuncts.items
  pub can : CanDeriveEach (ground_at of s.rows s.period.number) of.disjuncts.items
  pub derived : AreDerived (ground_at of s.rows s.period.number) of.disjuncts.items (levels_of s)

-- ---- keepers

-- a database as it is opened
abbrev pub opened_with : KeptQuery → List Relation → KeepView
opened_with of db = opened of.query.now db of.domain of.cap

-- the kept reach in cells of this period, doubled once and once more for each time column of the head
abbrev pub scaled_at : KeptQuery → HeldRows → ℕ → ℕ
scaled_at of rows period = scaled_over (greatest_bounds rows.relations.items) period of.query.now.head.columns of.disjuncts.items

-- what a keeper stands for
abbrev pub keeper_view : KeptQuery → State → KeepView
keeper_view of s =
    record {
      query = of.query.now;
      domain = of.domain;
      cap = of.cap;
      relations = relations_of (get s.rows.sources) s.rows.relations.items;
      period = s.period.number;
      bounds = greatest_bounds s.rows.relations.items;
    }

-- the query is well-sorted for relations of these columns
pub record IsSortedOver (relations : List Relation) (q : Question) : Type 0 where
  pub db : List Relation
  pub query : IsSortedQuery db q
  pub columns : HaveColumnsOf db relations

-- a state of a query in kept form, whose constants are known, with the greatest bounds of its rows beside the relations
pub record IsKeeping (of : KeptQuery) (s : State) : Type 0 where
  pub state : IsStateOf of s
  pub query : IsSortedOver (keeper_view of s).relations (question_of of.query.now)
  pub kept : is_kept (question_of of.query.now) ≡ true
  pub distinct : AreDistinct (names_of s.rows)
  pub ascends : Ascends of.domain
  pub known : AllByRecursion (Contains of.domain) (constants (keeper_view of s).relations (question_of of.query.now))
  pub rows : AllByRecursion (λ r. AllByRecursion (CanBeHeld of.domain r.columns) r.rows) (keeper_view of s).relations
  pub low : AreLowRows s.rows

-- one within the limits
pub record IsKeeper (of : KeptQuery) (s : State) : Type 0 where
  pub keeping : IsKeeping of s
  pub reach : scaled_reach_of (keeper_view of s) ≤ 2 ^ 62

-- a database whose rows can be held in relations of which none is held
pub record CanBeOpened (of : KeptQuery) (db : List Relation) (relations : HeldRows) : Type 0 where
  pub can : CanBeKept (question_of of.query.now) db of.domain
  pub empty : IsEmptyOf db relations
  pub disjuncts : AreDisjunctsOf (names_of relations) (question_of of.query.now) of.disjuncts.items
  pub distinct : AreDistinct (names_of relations)
  pub ascends : Ascends of.domain

-- the answers of all choices, over the columns of the head
pub record IsAnswerOfState (of : KeptQuery) (s : State) (a : Answer) : Type 0 where
  pub head : a.head.columns ≡ of.query.now.head.columns
  pub domain : a.domain ≡ of.domain
  pub period : a.period ≡ pos s.period.number
  pub valid : IsStore a.store
  pub times : a.store.shape.times ≡ length (head_times of.query.now.head.columns)
  pub texts : a.store.shape.texts ≡ length (head_texts of.query.now.head.columns)
  pub holds : HoldsAll (levels_of s) of.domain a.store
  pub reach : (high : ℕ) → ((levels : Levels) → Contains (levels_of s) levels → HeldHaveReach (HoldsIn levels (length levels - 1)) high) → HasReach a.store high

-- ---- a row more

-- the row can be held in the relation of this number
pub record CanBeAddedAt (of : KeptQuery) (s : State) (relation : ℕ) (row : Row) : Type 0 where
  pub held : HeldRelation
  pub at : slice_get s.rows.relations.items relation ≡ Some held
  pub row_fits : CanBeHeld of.domain held.columns row

-- the least common multiple of the kept period and those of the row, where some atom reads its relation
abbrev pub period_with : KeptQuery → State → ℕ → Row → ℕ
period_with of s relation row = if list_any (is_reader relation) of.disjuncts.items then raised_period s.period.number row else s.period.number

-- it, or none where it is above the limit
abbrev pub IsPeriodWith : KeptQuery → State → ℕ → Row → Option Period → Type 0
IsPeriodWith of s relation row found = MatchOption found (2 ^ 62 < period_with of s relation row) (λ p. p.number ≡ period_with of s relation row)

-- and its bounds are no greater than the number beside the relation; the period is a multiple of the kept one, and of the row's
pub record CanBeHeldIn (of : KeptQuery) (s : State) (relation : ℕ) (row : Row) (period : ℕ) : Type 0 where
  pub held : HeldRelation
  pub at : slice_get s.rows.relations.items relation ≡ Some held
  pub row_fits : CanBeHeld of.domain held.columns row
  pub low : row_bound row ≤ held.most
  pub grown : IsMultiple s.period.number period
  pub periods : list_any (is_reader relation) of.disjuncts.items ≡ true → AllByRecursion (λ k. IsMultiple k period) (row_periods row)

-- the same rows with a further one, in cells of another period
abbrev pub with_held : KeepView → Identifier → Row → ℕ → KeepView
with_held k name row period =
    record { query = k.query; domain = k.domain; cap = k.cap; relations = with_row k.relations name row; period = period; bounds = k.bounds }

-- new has the row in the relation of this number
pub record IsHeldAt (of : KeptQuery) (relation : ℕ) (row : Row) (period : ℕ) (old new : State) : Type 0 where
  pub is : (name : Identifier) → slice_get (names_of old.rows) relation ≡ Some name → keeper_view of new ≡ with_held (keeper_view of old) name row period

-- and its number and period are raised
pub record IsAddedAt (of : KeptQuery) (relation : ℕ) (row : Row) (old new : State) : Type 0 where
  pub is : (name : Identifier) → slice_get (names_of old.rows) relation ≡ Some name → keeper_view of new ≡ with_added (keeper_view of old) name row

-- the limit that is passed with the row, by the name of its relation
pub record IsHoldingCause (of : KeptQuery) (s : State) (relation : ℕ) (row : Row) (period : ℕ) (fault : KeepFault) : Type 0 where
  pub cause : (name : Identifier) → slice_get (names_of s.rows) relation ≡ Some name → IsPastLimit (with_held (keeper_view of s) name row period) fault

pub record IsAddingCause (of : KeptQuery) (s : State) (relation : ℕ) (row : Row) (fault : KeepFault) : Type 0 where
  pub cause : (name : Identifier) → slice_get (names_of s.rows) relation ≡ Some name → IsPastLimit (with_added (keeper_view of s) name row) fault

-- the same rows and period, and all that is derived from them
pub record IsStillState (of : KeptQuery) (old new : State) : Type 0 where
  pub rows : AreSameRows old.rows new.rows
  pub period : new.period ≡ old.period
  pub held : AreHeldRows new.rows
  pub derived : AreDerived (ground_at of new.rows new.period.number) of.disjuncts.items (levels_of new)

-- the period is as it was, and all is derived from the rows but the one under the key
pub record IsUndone (of : KeptQuery) (key : ℕ) (old new : State) : Type 0 where
  pub period : new.period ≡ old.period
  pub derived : RemainWithout (ground_at of old.rows old.period.number) of.disjuncts.items key (levels_of new)

-- another number stands beside a relation
pub record IsRelationMarked (relation most : ℕ) (old new : HeldRows) : Type 0 where
  pub sources : new.sources ≡ old.sources
  pub count : length new.relations.items ≡ length old.relations.items
  pub rest : (i : ℕ) → i ≢ relation → slice_get new.relations.items i ≡ slice_get old.relations.items i
  pub at : (h : HeldRelation) → slice_get old.relations.items relation ≡ Some h → slice_get new.relations.items relation ≡ Some (record h { most = most })

-- ---- the rows of a database

-- beside each of the first relations stands the greatest bound of its rows in the database
pub record AreMarkedBy (db : List Relation) (number : ℕ) (old new : HeldRows) : Type 0 where
  pub sources : new.sources ≡ old.sources
  pub count : length new.relations.items ≡ length old.relations.items
  pub rest : (i : ℕ) → number ≤ i → slice_get new.relations.items i ≡ slice_get old.relations.items i
  pub at : (i : ℕ) (h : HeldRelation) (r : Relation) → i < number → slice_get old.relations.items i ≡ Some h → slice_get db i ≡ Some r → slice_get new.relations.items i ≡ Some (record h { most = relation_bound r })

-- a row with its sketches
pub record HasSketches (of : KeptQuery) (relation : ℕ) (o : Option HeldRow) : Type 0 where
  pub source : HeldRow
  pub is : o ≡ Some source
  pub sketches : AreSketchesOf of.domain of.disjuncts.items relation source.row source.sketches.items

-- the rows stand after the others of the relation
pub record AreHeldAlso (of : KeptQuery) (number : ℕ) (all : List Row) (old new : HeldRows) : Type 0 where
  pub held : AreHeldRows new
  pub keys : List ℕ
  pub listed : AreRelisted number (keys_of old number ++ keys) old.relations.items new.relations.items
  pub under : flat_map (λ key. held_row (get new.sources key)) keys ≡ all
  pub others : (i k : ℕ) → Contains (keys_of old i) k → get new.sources k ≡ get old.sources k
  pub sketched : (k : ℕ) → Contains keys k → HasSketches of number (get new.sources k)

-- the relation has these rows in the place of none
pub record HasRowsFilled (sources : ℕ → Option HeldRow) (rows : List Row) (old new : HeldRelation) : Type 0 where
  pub name : new.name ≡ old.name
  pub columns : new.columns ≡ old.columns
  pub most : new.most ≡ old.most
  pub under : flat_map (λ key. held_row (sources key)) new.keys.items ≡ rows

-- each of the first relations has its rows in the database
pub record AreAllHeld (of : KeptQuery) (db : List Relation) (number : ℕ) (old new : HeldRows) : Type 0 where
  pub held : AreHeldRows new
  pub count : length new.relations.items ≡ length old.relations.items
  pub rest : (i : ℕ) → number ≤ i → slice_get new.relations.items i ≡ slice_get old.relations.items i
  pub at : (i : ℕ) (h : HeldRelation) (r : Relation) → i < number → slice_get old.relations.items i ≡ Some h → slice_get db i ≡ Some r → (s : HeldRelation) × (slice_get new.relations.items i ≡ Some s) × HasRowsFilled (get new.sources) r.rows h s
  pub sketched : (i k : ℕ) → Contains (keys_of new i) k → HasSketches of i (get new.sources k)

-- the periods in the rows of a relation that some atom reads, and none of another; only relations that are there are asked for
abbrev pub periods_at : List Disjunct → ℕ → Option Relation → List ℕ
periods_at ds number None = []
periods_at ds number (Some r) = if list_any (is_reader number) ds then flat_map row_periods r.rows else []

-- and of so many of the first relations
abbrev pub read_periods : List Disjunct → List Relation → ℕ → List ℕ
read_periods ds db zero = []
read_periods ds db (suc n) = read_periods ds db n ++ periods_at ds n (slice_get db n)

-- the new period is the least common multiple of the old one and these, where none is above the limit
abbrev pub IsRaisedBy : List ℕ → Option Period → Option Period → Type 0
IsRaisedBy periods old new = KeepsMultiples periods (period_number old) (period_number new)

-- the periods in tests, and in the rows that some atom reads
abbrev pub whole_periods : KeptQuery → List Relation → List ℕ
whole_periods of db = flat_map tested_periods of.disjuncts.items ++ read_periods of.disjuncts.items db (length db)

-- each row of each relation can be sketched for the disjuncts
abbrev pub CanAllBeSketched : KeptQuery → List Relation → Type 0
CanAllBeSketched of db = (i : ℕ) (r : Relation) → slice_get db i ≡ Some r → AllByRecursion (CanBeSketched of.disjuncts.items i) r.rows

-- ---- a row less

-- the row at a place is gone with all that is held for its key; the period and the query's disjuncts are as they were
pub record IsLetGoFrom (relation place : ℕ) (old new : State) : Type 0 where
  pub key : ℕ
  pub rows : IsLetGoAt relation place key old.rows new.rows
  pub period : new.period ≡ old.period
  pub count : length new.derived.items ≡ length old.derived.items
  pub released : (i : ℕ) (before after : Levels) → slice_get (levels_of old) i ≡ Some before → slice_get (levels_of new) i ≡ Some after → AreReleased key before after

-- the first equal row is
pub record IsRemoved (relation : ℕ) (row : Row) (old new : State) : Type 0 where
  pub place : ℕ
  pub first : IsFirstEqual old.rows relation row place
  pub gone : IsLetGoFrom relation place old new
