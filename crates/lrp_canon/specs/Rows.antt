-- Sets of numbers with texts as finitely many periodic rows, the least period of such rows, and the number of maximal rows. The
-- texts are of any type T: texts, or numbers of texts.
use Rattle.std.specs.Prelude.{◌≡◌, ◌≢◌, ℕ, ℤ, ◌+◌, ◌<◌, ◌≤◌, List, length, Option, AllPairs, Contains, pos, ◌-ℤ◌, ◌≤ℤ◌}
use Rattle.lrp_theory.specs.Bounds.{Within}
use Rattle.lrp_theory.specs.Divides.{Divides}
use Rattle.lrp_matrix.specs.Ranges.{Above}
use Rattle.lrp_zone.specs.Zones.{IsResidue}

-- the numbers of a residue from one end to another, both included, with these texts; without an end it goes on for ever
pub record PeriodicRow (T : Type 0) : Type 0 where
  pub texts : List T
  pub residue : ℤ
  pub least : Option ℤ
  pub most : Option ℤ

-- the number has the row's residue modulo the period and lies between its ends, and the texts are the row's
pub record IsInPeriodicRow {T : Type 0} (period : ℕ) (row : PeriodicRow T) (x : ℤ) (texts : List T) : Type 0 where
  pub named : row.texts ≡ texts
  pub residue : Divides (pos period) (x -ℤ row.residue)
  pub low : Above x row.least
  pub high : Within x row.most

-- some of the rows has the number with the texts
pub record InSomeRow {T : Type 0} (period : ℕ) (rows : List (PeriodicRow T)) (x : ℤ) (texts : List T) : Type 0 where
  pub row : PeriodicRow T
  pub listed : Contains rows row
  pub inside : IsInPeriodicRow period row x texts

-- the set is that of finitely many rows that all have this period
pub record IsSetOfRows {T : Type 0} (set : ℤ → List T → Type 0) (period : ℕ) : Type 0 where
  pub positive : 0 < period
  pub rows : List (PeriodicRow T)
  pub sound : (x : ℤ) (texts : List T) → InSomeRow period rows x texts → set x texts
  pub whole : (x : ℤ) (texts : List T) → set x texts → InSomeRow period rows x texts

-- the least number such that the set is that of finitely many rows that all have it as their period
pub record IsLeastPeriod {T : Type 0} (set : ℤ → List T → Type 0) (period : ℕ) : Type 0 where
  pub is : IsSetOfRows set period
  pub least : (other : ℕ) → IsSetOfRows set other → period ≤ other

-- a number with texts
pub record Moment (T : Type 0) : Type 0 where
  pub number : ℤ
  pub texts : List T

-- the set has the number, and not the one a period less: a maximal row begins there
pub record IsStart {T : Type 0} (set : ℤ → List T → Type 0) (period : ℕ) (p : Moment T) : Type 0 where
  pub inside : set p.number p.texts
  pub first : set (p.number -ℤ pos period) p.texts → ⊥

-- the number is a residue, and the set has all numbers of it from some bound down: a maximal row of it has no beginning
pub record IsOpenBelow {T : Type 0} (set : ℤ → List T → Type 0) (period : ℕ) (p : Moment T) : Type 0 where
  pub residue : IsResidue period p.number
  pub bound : ℤ
  pub all : (x : ℤ) → x ≤ℤ bound → Divides (pos period) (x -ℤ p.number) → set x p.texts

-- the moments are just those of the kind, each once
pub record AreJust {T : Type 0} (kind : Moment T → Type 0) (moments : List (Moment T)) : Type 0 where
  pub apart : AllPairs ◌≢◌ moments
  pub to : (p : Moment T) → Contains moments p → kind p
  pub from : (p : Moment T) → kind p → Contains moments p

-- The set has so many maximal rows of its least period. A maximal row has all numbers of a residue between two ends, and neither
-- the number a period before its least one nor that after its greatest. So each has its own beginning, which is a start, or has
-- none, and then it is the only one of its residue and texts that has none.
pub record HasRowCount {T : Type 0} (set : ℤ → List T → Type 0) (count : ℕ) : Type 0 where
  pub period : ℕ
  pub least : IsLeastPeriod set period
  pub starts : List (Moment T)
  pub begun : AreJust (IsStart set period) starts
  pub endless : List (Moment T)
  pub unbegun : AreJust (IsOpenBelow set period) endless
  pub total : length starts + length endless ≡ count
