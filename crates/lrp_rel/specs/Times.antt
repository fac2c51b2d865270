-- The time columns of a written relation, by their names.
use Rattle.std.specs.Prelude.{◌≡◌, ◌≤◌, ◌+◌, ℕ, List, [], ◌∷◌, map, filter, if◌then◌else◌}
use Rattle.std.specs.Str.{bytes_eq}
use Rattle.lrp_model.specs.Texts.{Identifier}
use Rattle.lrp_model.specs.Sorts.{is_time}
use Rattle.lrp_model.specs.Databases.{FitsRow, FitsRelation}
use Rattle.lrp_model.specs.DatabaseMeaning.{time_number}
use Rattle.lrp_model.specs.DatabaseFaults.{relation_faults}
use Rattle.lrp_model.specs.declared.raw.RawColumn.{RawColumn}
use Rattle.lrp_model.specs.declared.written.Located.{Located}
use Rattle.lrp_model.specs.declared.written.WrittenValue.{WrittenValue}
use Rattle.lrp_model.specs.declared.written.WrittenValue.TheVariants.{Constant, Instant, Point}
use Rattle.lrp_model.specs.declared.written.RawRow.{RawRow}
use Rattle.lrp_model.specs.declared.written.RawRelation.{RawRelation}
use Rattle.lrp_database.specs.Once.{once}

-- the names of the time columns, in order
abbrev pub time_names : List RawColumn → List Identifier
time_names cs = map (λ c. c.name) (filter (λ c. is_time c.sort) cs)

-- the names are those of the time columns, each once, in order of first sight
abbrev pub AreTimesOf : List RawColumn → List Identifier → Type 0
AreTimesOf cs names = names ≡ once (time_names cs)

-- the number of the first of the names that is this one, counted on from `before`; 0 where none is
abbrev pub place_from : ℕ → List Identifier → Identifier → ℕ
place_from before [] n = 0
place_from before (m ∷ ms) n = if bytes_eq n m then before + 1 else place_from (before + 1) ms n

-- the places of names are the numbers of time columns
abbrev pub AreTimePlaces : List RawColumn → List Identifier → Type 0
AreTimePlaces cs names = (n : Identifier) → place_from 0 names n ≡ time_number 0 cs n

-- how many time columns a value takes
abbrev pub point_count : WrittenValue → ℕ
point_count (Constant t) = 0
point_count (Instant i) = 1
point_count (Point i k) = 1

-- how many of the values are no texts
abbrev pub points_in : List (Located WrittenValue) → ℕ
points_in [] = 0
points_in (v ∷ vs) = point_count v.item + points_in vs

-- what the meaning of a row asks for: lawful numbers, and few enough time columns
pub record HasRowMeaning (row : RawRow) : Type 0 where
  pub fits : FitsRow row
  pub few : points_in row.values ≤ 8

-- what the meaning of a relation asks for: lawful numbers, and no fault
pub record HasMeaning (r : RawRelation) : Type 0 where
  pub fits : FitsRelation r
  pub sound : relation_faults r ≡ []
