-- What the planner knows of the rows of a relation.
use Rattle.std.specs.Prelude.{◌≡◌, ℕ, List, ◌++◌, Option, flat_map, map, nat_abs, length}
use Rattle.std.specs.Option.{option_map}
use Rattle.lrp_model.specs.Periods.{row_periods}
use Rattle.lrp_model.specs.Reach.{greatest}
use Rattle.lrp_model.specs.declared.relations.Row.{Row}
use Rattle.lrp_limits.specs.declared.facts.Facts.{Facts}
use Rattle.lrp_limits.specs.Multiples.{IsPeriodOf, IsLeastWithinLimit}

-- the magnitudes of its bounds
abbrev pub most_of_row : Row → List ℕ
most_of_row row = map (λ bound. nat_abs bound.most) row.bounds

-- their least common multiple, the greatest magnitude, and their number
pub record AreFacts (all : List Row) (facts : Facts) : Type 0 where
  pub period : IsPeriodOf (flat_map row_periods all) (option_map (λ p. p.number) facts.period)
  pub bound : facts.bound ≡ greatest (flat_map most_of_row all)
  pub rows : facts.rows ≡ length all

-- a least common multiple, and the one with further numbers
pub record KeepsMultiples (further : List ℕ) (old new : Option ℕ) : Type 0 where
  pub keeps : (ks : List ℕ) → IsPeriodOf ks old → IsPeriodOf (ks ++ further) new

-- a least common multiple, and the one with that of other numbers, if they have one
pub record KeepsRows (rows : Option ℕ) (old : ℕ) (new : Option ℕ) : Type 0 where
  pub keeps : (ks ls : List ℕ) → IsLeastWithinLimit ks old → IsPeriodOf ls rows → IsPeriodOf (ks ++ ls) new

-- and the one with those of rows
pub record KeepsFacts (facts : Facts) (old new : Option ℕ) : Type 0 where
  pub keeps : (all : List Row) → AreFacts all facts → KeepsMultiples (flat_map row_periods all) old new
