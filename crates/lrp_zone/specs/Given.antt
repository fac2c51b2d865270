-- The zone of given bounds.
use Rattle.std.specs.Prelude.{◌≡◌, ℕ, ◌+◌, ◌-◌, ◌<◌, ◌≤◌, ◌≢◌, ◌⊎◌, List, Option, Some, None, length, slice_index_or, nat_abs, pos, ◌-ℤ◌, ◌≤ℤ◌, ◌<ℤ◌}
use Rattle.std.specs.Prelude.{ℤ}
use Rattle.lrp_theory.specs.Entries.{entry, node, IsBelow, IsLesser}
use Rattle.lrp_model.specs.declared.relations.Bound.{Bound}
use Rattle.lrp_zone.specs.Zones.{ZoneView, IsMember, columns_of, reach_of}
use Rattle.lrp_zone.specs.Residues.{HasResidues}
use Rattle.lrp_zone.specs.Tight.{CanTighten, IsStored}

-- the given bound with the number i; only numbers of bounds are asked for
abbrev pub bound_at : List Bound → ℕ → Bound
bound_at bs i = slice_index_or bs i (record { left = 0; right = 0; most = pos 0 })

-- the bound is on the columns, and it is tight or leaves room for the period
pub record IsGiven (k : ℤ) (rs : List ℤ) (b : Bound) : Type 0 where
  pub left : b.left ≤ length rs
  pub right : b.right ≤ length rs
  pub fits : CanTighten k (node rs b.left -ℤ node rs b.right) b.most

-- each bound is such
pub record AreGiven (k : ℤ) (rs : List ℤ) (bs : List Bound) : Type 0 where
  pub each : (i : ℕ) → i < length bs → IsGiven k rs (bound_at bs i)

-- xs has the residues and meets the bounds
pub record MeetsGiven (k : ℤ) (rs : List ℤ) (bs : List Bound) (xs : List ℤ) : Type 0 where
  pub count : length xs ≡ length rs
  pub residues : HasResidues k rs xs
  pub meets : (i : ℕ) → i < length bs → (node xs (bound_at bs i).left -ℤ node xs (bound_at bs i).right) ≤ℤ (bound_at bs i).most

-- what is stored for the bound b: nothing on the diagonal, else the tightened bound
pub record IsStoredFor (k : ℤ) (rs : List ℤ) (b : Bound) (e : Option ℤ) : Type 0 where
  pub same : b.left ≡ b.right → e ≡ None
  pub apart : b.left ≢ b.right → IsStored k (node rs b.left -ℤ node rs b.right) (Some b.most) e

-- at each place stands the least of what is stored for the first n bounds
pub record IsGathered (k : ℤ) (rs : List ℤ) (bs : List Bound) (n : ℕ) (out : List (Option ℤ)) : Type 0 where
  pub below : (i : ℕ) → i < n → (e : Option ℤ) × IsStoredFor k rs (bound_at bs i) e × IsBelow (entry out (bound_at bs i).left (bound_at bs i).right) e
  pub one : (p q : ℕ) → p < 9 → q < 9 → (entry out p q ≡ None) ⊎ ((i : ℕ) × (i < n) × ((bound_at bs i).left ≡ p) × ((bound_at bs i).right ≡ q) × IsStoredFor k rs (bound_at bs i) (entry out p q))

-- z holds the tuples that have the residues and meet the bounds
pub record IsGivenZone (k : ℤ) (rs : List ℤ) (bs : List Bound) (z : ZoneView) : Type 0 where
  pub period : pos z.period ≡ k
  pub residues : z.residues ≡ rs
  pub to : (xs : List ℤ) → IsMember z xs → MeetsGiven k rs bs xs
  pub from : (xs : List ℤ) → MeetsGiven k rs bs xs → IsMember z xs
  pub stored : IsGathered k rs bs (length bs) z.bounds
  pub reach : (h : ℕ) → ((i : ℕ) → i < length bs → nat_abs (bound_at bs i).most ≤ h) → reach_of z ≤ h + (z.period - 1)

-- no tuple has the residues and meets the bounds
pub record HasNone (k : ℤ) (rs : List ℤ) (bs : List Bound) : Type 0 where
  pub none : (xs : List ℤ) → MeetsGiven k rs bs xs → ⊥

-- k, rs and bs are the period, the residues and the stored bounds of z
pub record AreOwnBounds (z : ZoneView) (k : ℤ) (rs : List ℤ) (bs : List Bound) : Type 0 where
  pub period : k ≡ pos z.period
  pub residues : rs ≡ z.residues
  pub stored : (i : ℕ) → i < length bs → ((bound_at bs i).left ≤ columns_of z) × ((bound_at bs i).right ≤ columns_of z) × (entry z.bounds (bound_at bs i).left (bound_at bs i).right ≡ Some (bound_at bs i).most)
  pub all : (p q : ℕ) (a : ℤ) → p ≤ columns_of z → q ≤ columns_of z → entry z.bounds p q ≡ Some a → (i : ℕ) × (i < length bs) × ((bound_at bs i).left ≡ p) × ((bound_at bs i).right ≡ q)

-- some given bound of a column from itself is negative
pub record HasNegative (bs : List Bound) : Type 0 where
  pub place : ℕ
  pub low : place < length bs
  pub same : (bound_at bs place).left ≡ (bound_at bs place).right
  pub negative : (bound_at bs place).most <ℤ pos 0

-- the bounds new are the bounds old with what is stored for b
pub record IsWith (k : ℤ) (rs : List ℤ) (b : Bound) (old new : List (Option ℤ)) : Type 0 where
  pub here : (e : Option ℤ) × IsStoredFor k rs b e × IsLesser (entry new b.left b.right) (entry old b.left b.right) e
  pub others : (p q : ℕ) → q < 9 → (p ≡ b.left → q ≡ b.right → ⊥) → entry new p q ≡ entry old p q
