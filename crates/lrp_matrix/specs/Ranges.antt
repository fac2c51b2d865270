-- What one column may have after integers for the columns before it.
use Rattle.std.specs.Prelude.{◌≡◌, ℕ, ℤ, ◌<◌, ◌≤◌, Option, Some, None, List, length, ◌-ℤ◌, ◌≤ℤ◌, neg_ℤ}
use Rattle.lrp_theory.specs.Bounds.{Within}
use Rattle.lrp_theory.specs.Entries.{entry, node, AtMost}
use Rattle.lrp_matrix.specs.Matrices.{MatrixView, MeetsBounds}

-- the number d is at least the end, where there is one
abbrev pub Above : ℤ → Option ℤ → Type 0
Above d None = Unit {0}
Above d (Some a) = a ≤ℤ d

-- the number with the other sign, where there is one
abbrev pub negation : Option ℤ → Option ℤ
negation None = None
negation (Some a) = Some (neg_ℤ a)

-- the magnitudes of the integers are at most h
pub record AreSmall (h : ℕ) (xs : List ℤ) : Type 0 where
  pub each : (p : ℕ) → p ≤ length xs → AtMost h (Some (node xs p))

-- zero and the integers of the prefix, for the columns before i, meet the bounds among them
pub record MeetsBefore (m : MatrixView) (i : ℕ) (prefix : List ℤ) : Type 0 where
  pub each : (p q : ℕ) → p < i → q < i → Within (node prefix p -ℤ node prefix q) (entry m.cells p q)

-- column i may have v: some integers meet all bounds, with the prefix before i and v at i
pub record MayHave (m : MatrixView) (i : ℕ) (prefix : List ℤ) (v : ℤ) : Type 0 where
  pub integers : List ℤ
  pub meet : MeetsBounds m integers
  pub before : (p : ℕ) → p < i → node integers p ≡ node prefix p
  pub here : node integers i ≡ v

-- e is the least integer of those with the property, and None where they have no least one
pub record IsLeastWith (p : ℤ → Type 0) (e : Option ℤ) : Type 0 where
  pub met : (v : ℤ) → p v → Above v e
  pub reached : (d : ℤ) → Above d e → (v : ℤ) × p v × (v ≤ℤ d)

-- e is the greatest integer of those with the property, and None where they have no greatest one
pub record IsGreatestOf (p : ℤ → Type 0) (e : Option ℤ) : Type 0 where
  pub met : (v : ℤ) → p v → Within v e
  pub reached : (d : ℤ) → Within d e → (v : ℤ) × p v × (d ≤ℤ v)

-- low and high are the ends that the bounds to the columns before i give column i
pub record AreEndsOf (cells : List (Option ℤ)) (i : ℕ) (prefix : List ℤ) (low high : Option ℤ) : Type 0 where
  pub above : (v : ℤ) → Above v low → (p : ℕ) → p < i → Within (node prefix p -ℤ v) (entry cells p i)
  pub from_above : (v : ℤ) → ((p : ℕ) → p < i → Within (node prefix p -ℤ v) (entry cells p i)) → Above v low
  pub below : (v : ℤ) → Within v high → (p : ℕ) → p < i → Within (v -ℤ node prefix p) (entry cells i p)
  pub from_below : (v : ℤ) → ((p : ℕ) → p < i → Within (v -ℤ node prefix p) (entry cells i p)) → Within v high
