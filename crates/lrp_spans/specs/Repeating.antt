-- Sets of integers that repeat: the integers of some residues, and the numbers with which such a set goes over into itself.
use Rattle.std.specs.Prelude.{◌≡◌, ℕ, ℤ, ◌+◌, ◌*◌, ◌/◌, ◌%◌, ◌^◌, ◌<◌, ◌≤◌, List, length, Contains, AllPairs, pos, slice_index_or, ◌+ℤ◌, ◌-ℤ◌, ◌≤ℤ◌, neg_ℤ}
use Rattle.lrp_theory.specs.Divides.{Divides}

-- x has one of the residues modulo the period
pub record HasOneOf (period : ℕ) (residues : List ℕ) (x : ℤ) : Type 0 where
  pub residue : ℕ
  pub listed : Contains residues residue
  pub is : Divides (pos period) (x -ℤ pos residue)

-- the set goes over into itself when its numbers grow by the step, and when they fall by it
pub record Repeats (set : ℤ → Type 0) (step : ℕ) : Type 0 where
  pub positive : 0 < step
  pub on : (x : ℤ) → set x → set (x +ℤ pos step)
  pub back : (x : ℤ) → set (x +ℤ pos step) → set x

-- the set repeats with the step, and each number with which it does is a multiple of it
pub record IsLeastStep (set : ℤ → Type 0) (step : ℕ) : Type 0 where
  pub is : Repeats set step
  pub least : (other : ℕ) → Repeats set other → Divides (pos step) (pos other)

-- from the bound on the set goes over into itself so, and so it does below the negative bound
pub record RepeatsAtEnds (set : ℤ → Type 0) (bound step : ℕ) : Type 0 where
  pub on : (x : ℤ) → pos bound ≤ℤ x → set x → set (x +ℤ pos step)
  pub back : (x : ℤ) → pos bound ≤ℤ x → set (x +ℤ pos step) → set x
  pub down : (x : ℤ) → x ≤ℤ neg_ℤ (pos bound) → set x → set (x -ℤ pos step)
  pub up : (x : ℤ) → x ≤ℤ neg_ℤ (pos bound) → set (x -ℤ pos step) → set x

-- residues modulo the period, ascending
pub record AreAscendingResidues (period : ℕ) (residues : List ℕ) : Type 0 where
  pub low : 0 < period
  pub ascending : AllPairs ◌<◌ residues
  pub below : (i : ℕ) → i < length residues → slice_index_or residues i 0 < period

-- the numbers of the residues from the first on, ascending: after the last residue comes the first one, a period further on; asked for where there are residues
abbrev pub nth : ℕ → List ℕ → ℕ → ℕ
nth period residues i = slice_index_or residues (i % length residues) 0 + period * (i / length residues)

-- each of the residues is so much below the number that stands so many places further on as the first one
abbrev pub Moves : ℕ → List ℕ → ℕ → Type 0
Moves period residues places = (i : ℕ) → i < length residues → nth period residues (i + places) + nth period residues 0 ≡ slice_index_or residues i 0 + nth period residues places

-- residues modulo a period that fits, and a number of places less than theirs
pub record CanMove (period : ℕ) (rs : List ℕ) (places : ℕ) : Type 0 where
  pub residues : AreAscendingResidues period rs
  pub high : period ≤ 2 ^ 62
  pub low : 0 < places
  pub inside : places < length rs

-- so many places divide the number of residues, and move them so
pub record IsShift (period : ℕ) (residues : List ℕ) (places : ℕ) : Type 0 where
  pub divides : length residues % places ≡ 0
  pub each : Moves period residues places
