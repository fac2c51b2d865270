-- Groups of columns that bounds tie.
use Rattle.std.specs.Prelude.{◌≡◌, ◌<◌, ◌≤◌, ◌==◌, ℕ, List, length, slice_index, slice_get, Some, if◌then◌else◌}
use Rattle.lrp_model.specs.declared.relations.Bound.{Bound}
use Rattle.lrp_lint.specs.Flaws.{AreTied}

-- the bound is between columns up to this number; column 0 is the number zero
pub record AreBetween (most : ℕ) (bound : Bound) : Type 0 where
  pub left : bound.left ≤ most
  pub right : bound.right ≤ most

-- columns of one group are tied by bounds, and the first n bounds are each within a group
pub record IsGrouped (bounds : List Bound) (n : ℕ) (groups : List ℕ) : Type 0 where
  pub size : length groups ≡ 9
  pub tied : (p q : ℕ) → p < 9 → q < 9 → slice_index groups p ≡ slice_index groups q → AreTied bounds p q
  pub one : (i : ℕ) (bound : Bound) → i < n → slice_get bounds i ≡ Some bound → 0 < bound.left → 0 < bound.right → slice_index groups bound.left ≡ slice_index groups bound.right

-- the group of the right column is that of the left one
pub record IsMerged (old : List ℕ) (left right : ℕ) (new : List ℕ) : Type 0 where
  pub size : length new ≡ 9
  pub each : (p : ℕ) → p < 9 → slice_index new p ≡ (if slice_index old p == slice_index old right then slice_index old left else slice_index old p)
