-- Which step is the last that reads a table, and the tables that no later step reads.
use Rattle.std.specs.Prelude.{◌≡◌, ◌≢◌, ◌⊎◌, ◌<◌, ◌≤◌, ℕ, suc, List, length, Contains, Some, slice_get}
use Rattle.lrp_model.specs.declared.plans.Step.{Step}
use Rattle.lrp_plan_laws.specs.Made.{operands}
use Rattle.lrp_tables.specs.declared.table.Table.{Table}

-- a reader is noted for a step, and each other step has the one that it had
abbrev pub IsNoted : ℕ → ℕ → List ℕ → List ℕ → Type 0
IsNoted of reader old new = (s r : ℕ) → slice_get new s ≡ Some r → ((suc s ≡ of) × (r ≡ reader)) ⊎ ((suc s ≢ of) × (slice_get old s ≡ Some r))

-- none of the first `count` steps reads a step after the reader that is noted for it
abbrev pub AreNoted : List Step → ℕ → List ℕ → Type 0
AreNoted steps count readers = (j s r : ℕ) (step : Step) → j < count → slice_get steps j ≡ Some step → Contains (operands step.kind) (suc s) → slice_get readers s ≡ Some r → j < r

-- no step reads a step after the reader that is noted for it
abbrev pub AreLastReaders : List Step → List ℕ → Type 0
AreLastReaders steps readers = AreNoted steps (length steps) readers

-- of this number of tables the one at place i is not the last, and its last reader is one of their steps
pub record IsDone (readers : List ℕ) (count i : ℕ) : Type 0 where
  pub before : suc i < count
  pub reader : ℕ
  pub noted : slice_get readers i ≡ Some reader
  pub run : reader ≤ count

-- as many tables, each as it was, or done
pub record AreLeftOrFreed (readers : List ℕ) (old new : List Table) : Type 0 where
  pub count : length new ≡ length old
  pub each : (i : ℕ) → (slice_get new i ≡ slice_get old i) ⊎ IsDone readers (length old) i
