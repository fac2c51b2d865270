-- The part of a zone that has residues of a multiple of its period.
use Rattle.std.specs.Prelude.{◌≡◌, ℕ, ◌+◌, ◌-◌, ◌≤◌, List, length, pos, ◌-ℤ◌}
use Rattle.std.specs.Prelude.{ℤ}
use Rattle.lrp_theory.specs.Divides.{Divides}
use Rattle.lrp_theory.specs.Entries.{entry, node}
use Rattle.lrp_matrix.specs.Matrices.{MatrixView, MeetsBounds}
use Rattle.lrp_zone.specs.Zones.{ZoneView, IsMember, reach_of}
use Rattle.lrp_zone.specs.Tight.{IsTightened}

-- xs has the residues rs modulo k
pub record HasResidues (k : ℤ) (rs xs : List ℤ) : Type 0 where
  pub each : (p : ℕ) → p ≤ length rs → Divides k (node xs p -ℤ node rs p)

-- w holds the tuples of z with the residues rs modulo k
pub record IsRefined (z : ZoneView) (k : ℤ) (rs : List ℤ) (w : ZoneView) : Type 0 where
  pub period : pos w.period ≡ k
  pub residues : w.residues ≡ rs
  pub to : (xs : List ℤ) → IsMember w xs → IsMember z xs × HasResidues k rs xs
  pub from : (xs : List ℤ) → IsMember z xs → HasResidues k rs xs → IsMember w xs
  pub reach : reach_of w ≤ reach_of z + (w.period - 1)

-- no tuple of z has these residues
pub record HasNoRefined (z : ZoneView) (k : ℤ) (rs : List ℤ) : Type 0 where
  pub none : (xs : List ℤ) → IsMember z xs → HasResidues k rs xs → ⊥

-- z holds the integers that meet the bounds and have the residues rs modulo k, and stores each bound tightened to them
pub record IsCutToResidues (k : ℤ) (rs : List ℤ) (m : MatrixView) (z : ZoneView) : Type 0 where
  pub period : pos z.period ≡ k
  pub residues : z.residues ≡ rs
  pub to : (xs : List ℤ) → IsMember z xs → MeetsBounds m xs
  pub from : (xs : List ℤ) → MeetsBounds m xs → HasResidues k rs xs → IsMember z xs
  pub stored : (i j : ℕ) → i ≤ length rs → j ≤ length rs → IsTightened k (node rs i -ℤ node rs j) (entry m.cells i j) (entry z.bounds i j)

-- no integers that meet the bounds have the residues rs modulo k
pub record HasNoCut (k : ℤ) (rs : List ℤ) (m : MatrixView) : Type 0 where
  pub none : (xs : List ℤ) → MeetsBounds m xs → HasResidues k rs xs → ⊥
