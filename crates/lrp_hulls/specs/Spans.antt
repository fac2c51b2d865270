-- Where the values of a column lie: from a low to a high end, where there are such ends, and modulo a period.
use Rattle.std.specs.Prelude.{ℕ, ℤ, ◌-◌, ◌^◌, ◌⊎◌, ◌≤◌, ◌≤ℤ◌, ◌-ℤ◌, List, neg_ℤ, pos, slice_index_or}
use Rattle.lrp_theory.specs.Divides.{Divides}
use Rattle.lrp_hulls.specs.declared.hull.TextSpan.{TextSpan}
use Rattle.lrp_hulls.specs.declared.span.ColumnSpan.{ColumnSpan}

-- modulo k, x is a number from the first to the last one
pub record HasResidueAmong (k : ℕ) (first last x : ℤ) : Type 0 where
  pub r : ℤ
  pub low : first ≤ℤ r
  pub high : r ≤ℤ last
  pub same : Divides (pos k) (x -ℤ r)

-- x is at least the low end, where there is one: the least number of 64 bits is none
abbrev pub IsFromLowEnd : ℤ → ℤ → Type 0
IsFromLowEnd low x = (low ≤ℤ neg_ℤ (pos (2 ^ 63))) ⊎ (low ≤ℤ x)

-- x is at most the high end, where there is one: the greatest number of 64 bits is none
abbrev pub IsToHighEnd : ℤ → ℤ → Type 0
IsToHighEnd high x = (pos (2 ^ 63 - 1) ≤ℤ high) ⊎ (x ≤ℤ high)

-- x is between the ends that there are, and has one of the residues
pub record IsInHullSpan (k : ℕ) (span : ColumnSpan) (x : ℤ) : Type 0 where
  pub low : IsFromLowEnd span.low x
  pub high : IsToHighEnd span.high x
  pub residue : HasResidueAmong k span.first span.last x

-- new has the numbers that old has
pub record IsWiderSpan (old new : ColumnSpan) : Type 0 where
  pub covers : (k : ℕ) (x : ℤ) → IsInHullSpan k old x → IsInHullSpan k new x

-- n is a number from the first to the last one
pub record IsInTextSpan (span : TextSpan) (n : ℕ) : Type 0 where
  pub low : span.first ≤ n
  pub high : n ≤ span.last

-- new has the numbers that old has
pub record IsWiderText (old new : TextSpan) : Type 0 where
  pub covers : (n : ℕ) → IsInTextSpan old n → IsInTextSpan new n

-- all numbers of one residue modulo 1
abbrev pub whole_span : ColumnSpan
whole_span = record { low = neg_ℤ (pos (2 ^ 63)); high = pos (2 ^ 63 - 1); first = pos 0; last = pos 0 }

-- the span of the column after i
abbrev pub span_at : List ColumnSpan → ℕ → ColumnSpan
span_at spans i = slice_index_or spans i whole_span

-- the span of the texts in the column after i
abbrev pub text_span_at : List TextSpan → ℕ → TextSpan
text_span_at spans i = slice_index_or spans i (record { first = 0; last = 0 })
