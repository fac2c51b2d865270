-- Columns that go.
use Rattle.std.specs.Prelude.{◌≡◌, ℕ, ◌+◌, ◌<◌, ◌≤◌, List, length, slice_index_or}

-- eight values without that at a place; those after it move up, and nought is last
pub record IsCut {X : Type 0} (nought : X) (place : ℕ) (old new : List X) : Type 0 where
  pub size : length new ≡ 8
  pub before : (i : ℕ) → i < place → slice_index_or new i nought ≡ slice_index_or old i nought
  pub after : (i : ℕ) → place ≤ i → slice_index_or new i nought ≡ slice_index_or old (i + 1) nought
