-- The hull of zones: the least zone of their cell that holds them all.
use Rattle.std.specs.Prelude.{◌≡◌, ◌⊎◌, ℕ, ℤ, ◌^◌, ◌≤◌, List, ◌++◌, [], ◌∷◌, Option, Some, None, Contains}
use Rattle.lrp_theory.specs.Bounds.{Within}
use Rattle.lrp_theory.specs.Entries.{AtMost, entry}
use Rattle.lrp_matrix.specs.Matrices.{MatrixView, IsClosed, HaveSameIntegers}
use Rattle.lrp_model.specs.declared.relations.Bound.{Bound}
use Rattle.lrp_zone.specs.Zones.{ZoneView, IsZone, IsMember}
use Rattle.lrp_zone.specs.Pairs.{IsOfCell, IsWithin}
use Rattle.lrp_store.specs.Least.{matrix_of}
use Rattle.lrp_store.specs.Settled.{InSome}
use Rattle.lrp_cutting.specs.declared.pairs.NodePair.{NodePair}

-- m has the closed bounds of z
pub record IsClosureOf (z : ZoneView) (m : MatrixView) : Type 0 where
  pub closed : IsClosed m
  pub integers : HaveSameIntegers (matrix_of z) m

-- the matrices are the closed bounds of the zones
pub record AreClosures (zones : List ZoneView) (ms : List MatrixView) : Type 0 where
  pub valid : (z : ZoneView) → Contains zones z → IsZone z
  pub to : (z : ZoneView) → Contains zones z → (m : MatrixView) × Contains ms m × IsClosureOf z m
  pub from : (m : MatrixView) → Contains ms m → (z : ZoneView) × Contains zones z × IsClosureOf z m

-- e is the greatest of the matrices' bounds at a place, and None where some matrix has none there
pub record IsWidest (ms : List MatrixView) (i j : ℕ) (e : Option ℤ) : Type 0 where
  pub to : (d : ℤ) → Within d e → (m : MatrixView) × Contains ms m × Within d (entry m.cells i j)
  pub from : (d : ℤ) (m : MatrixView) → Contains ms m → Within d (entry m.cells i j) → Within d e

-- g is the greater of two bounds, and None where one of them is
pub record IsWider (e f g : Option ℤ) : Type 0 where
  pub one : (g ≡ e) ⊎ (g ≡ f)
  pub left : (d : ℤ) → Within d e → Within d g
  pub right : (d : ℤ) → Within d f → Within d g

-- the new bounds are the old ones and the greatest of the matrices' bounds at a place, if there is one
pub record AppendsWidest (ms : List MatrixView) (i j : ℕ) (old new : List Bound) : Type 0 where
  pub is : (IsWidest ms i j None × (new ≡ old)) ⊎ ((a : ℤ) × IsWidest ms i j (Some a) × (new ≡ old ++ record { left = i; right = j; most = a } ∷ []))

-- the greatest of the matrices' bounds at a place is one of the bounds, or there is none
pub record HasWidest (ms : List MatrixView) (bs : List Bound) (i j : ℕ) : Type 0 where
  pub is : IsWidest ms i j None ⊎ ((a : ℤ) × IsWidest ms i j (Some a) × Contains bs (record { left = i; right = j; most = a }))

-- the bounds are the greatest of the matrices' bounds, both ways for each of the pairs
pub record AreWidest (ms : List MatrixView) (ps : List NodePair) (bs : List Bound) : Type 0 where
  pub all : (p : NodePair) → Contains ps p → HasWidest ms bs p.left p.right × HasWidest ms bs p.right p.left
  pub only : (b : Bound) → Contains bs b → IsWidest ms b.left b.right (Some b.most) × ((p : NodePair) × Contains ps p × (((b.left ≡ p.left) × (b.right ≡ p.right)) ⊎ ((b.left ≡ p.right) × (b.right ≡ p.left))))

-- h is the least zone of the cell of z that holds the zones, and small for them
pub record IsHull (z : ZoneView) (zones : List ZoneView) (h : ZoneView) : Type 0 where
  pub valid : IsZone h
  pub cell : IsOfCell z h
  pub holds : (xs : List ℤ) → InSome zones xs → IsMember h xs
  pub least : (w : ZoneView) → IsZone w → IsOfCell z w → ((xs : List ℤ) → InSome zones xs → IsMember w xs) → IsWithin h w

-- the matrices have the place, and their bounds there have magnitudes of at most 2^62
pub record HasPlace (ms : List MatrixView) (i j : ℕ) : Type 0 where
  pub left : (m : MatrixView) → Contains ms m → i ≤ m.columns
  pub right : (m : MatrixView) → Contains ms m → j ≤ m.columns
  pub small : (m : MatrixView) → Contains ms m → AtMost (2 ^ 62) (entry m.cells i j)
