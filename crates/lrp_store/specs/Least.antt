-- The least tuple of a zone, of a store and of an answer: the first by the ranks of its times, and then by its texts.
use Rattle.std.specs.Prelude.{◌≡◌, ◌≢◌, ℕ, ℤ, pos, ◌-ℤ◌, ◌+◌, ◌*◌, ◌^◌, ◌<◌, ◌≤◌, List, Option, Some, None, Contains, take}
use Rattle.std.specs.Ordering.{nat_cmp, ordering_then}
use Rattle.std.specs.declared.cmp.Ordering.{Ordering}
use Rattle.std.specs.declared.cmp.Ordering.TheVariants.{Greater}
use Rattle.std.specs.Cmp.Lexicographic.{slice_cmp}
use Rattle.lrp_theory.specs.Divides.{Divides}
use Rattle.lrp_theory.specs.Entries.{node, AtMost, IsSmallClosure}
use Rattle.lrp_matrix.specs.Matrices.{MatrixView, IsClosed, HaveSameIntegers}
use Rattle.lrp_zone.specs.Zones.{ZoneView, IsMember, columns_of}
use Rattle.lrp_zone.specs.Order.{at}
use Rattle.lrp_model.specs.Order.{IsLeast}
use Rattle.lrp_model.specs.Rows.{Datum, times_of, texts_of}
use Rattle.lrp_model.specs.Texts.{Text}
use Rattle.lrp_model.specs.declared.relations.Column.{Column}
use Rattle.lrp_model.specs.declared.tuples.Cell.{Cell}
use Rattle.lrp_model.specs.declared.tuples.Shape.{Shape}
use Rattle.lrp_model.specs.declared.tuples.Spot.{Spot}
use Rattle.lrp_store.specs.Stores.{StoreView, InStore, IsPadded, zone_of, tables_at}
use Rattle.lrp_store.specs.Tables.{AreTexts, InAnswer}
use Rattle.lrp_theory.specs.Residues.{rank}

-- the bounds of a zone without its residues
abbrev pub matrix_of : ZoneView → MatrixView
matrix_of z = record { columns = columns_of z; cells = z.bounds }

-- the period and each bound that all integers within the zone's bounds meet have a magnitude of at most h, and so many times h as the zone has columns is at most 2^62
pub record IsRoom (z : ZoneView) (h : ℕ) : Type 0 where
  pub room : columns_of z * h ≤ 2 ^ 62
  pub period : z.period ≤ h
  pub closed : (m : MatrixView) → IsClosed m → HaveSameIntegers (matrix_of z) m → IsSmallClosure (columns_of z + 1) h m.cells

-- each zone has such a number
pub record HasRoom (s : StoreView) : Type 0 where
  pub each : (cell : Cell) (table : List (Option ℤ)) → Contains (tables_at s cell) table → (h : ℕ) × IsRoom (zone_of s cell table) h

-- x is the number of the residue r modulo k that is nearest to zero, and its magnitude is at most k
pub record IsNearestOf (k : ℕ) (r x : ℤ) : Type 0 where
  pub residue : Divides (pos k) (x -ℤ r)
  pub first : (y : ℤ) → Divides (pos k) (y -ℤ r) → rank x ≤ rank y
  pub small : AtMost k (Some x)

-- of tuples of n values, ys has the values of xs, or a greater rank at the first place where they differ
pub record IsNotNearer (n : ℕ) (xs ys : List ℤ) : Type 0 where
  pub place : ℕ
  pub low : place ≤ n
  pub same : (i : ℕ) → i < place → at ys i ≡ at xs i
  pub farther : place < n → rank (at xs place) < rank (at ys place)

-- the first n values of xs, after which are zeros, are those of some tuple of z, and of no tuple that is nearer
pub record IsNearestTo (z : ZoneView) (n : ℕ) (xs : List ℤ) : Type 0 where
  pub padded : IsPadded (pos 0) n xs
  pub member : List ℤ
  pub is : IsMember z member
  pub same : (i : ℕ) → i < n → at member i ≡ at xs i
  pub first : (ys : List ℤ) → IsMember z ys → IsNotNearer n xs ys
  pub near : (h : ℕ) → IsRoom z h → (i : ℕ) → i ≤ n → AtMost (n * h) (Some (node xs i))

-- by the ranks of the times, and then by the numbers of the texts
abbrev pub held_cmp : List ℤ → List ℕ → List ℤ → List ℕ → Ordering
held_cmp xs ns ys ms = ordering_then (slice_cmp (λ x y. nat_cmp (rank x) (rank y)) xs ys) (slice_cmp nat_cmp ns ms)

-- the first values of a spot are times and numbers of texts that the store holds, and after them are zeros
pub record IsSpotOf (s : StoreView) (spot : Spot) : Type 0 where
  pub times : IsPadded (pos 0) s.shape.times spot.times
  pub texts : IsPadded 0 s.shape.texts spot.texts
  pub held : InStore s (take s.shape.times spot.times) (take s.shape.texts spot.texts)

-- the spot that was found, if any, is one of the store
abbrev pub IsFoundSpot : StoreView → Option Spot → Type 0
IsFoundSpot s None = Unit {0}
IsFoundSpot s (Some spot) = IsSpotOf s spot

-- and does not come after these times and texts
abbrev pub IsNotAfter : StoreView → Option Spot → List ℤ → List ℕ → Type 0
IsNotAfter s None times texts = ⊥
IsNotAfter s (Some spot) times texts = held_cmp (take s.shape.times spot.times) (take s.shape.texts spot.texts) times texts ≢ Greater

-- the first values of a spot are the times of the tuple and the numbers of its texts, and after them are zeros
pub record StandsFor (shape : Shape) (domain : List Text) (spot : Spot) (tuple : List Datum) : Type 0 where
  pub times : take shape.times spot.times ≡ times_of tuple
  pub texts : AreTexts domain (take shape.texts spot.texts) (texts_of tuple)
  pub times_padded : IsPadded (pos 0) shape.times spot.times
  pub texts_padded : IsPadded 0 shape.texts spot.texts

-- the spot stands for the least answer
pub record IsLeastSpot (columns : List Column) (domain : List Text) (s : StoreView) (spot : Spot) : Type 0 where
  pub tuple : List Datum
  pub stands : StandsFor s.shape domain spot tuple
  pub least : IsLeast (InAnswer columns domain s) tuple
