-- What the bounds of a comparison stand for.
use Rattle.std.specs.Prelude.{◌≡◌, ℕ, ℤ, ◌+◌, ◌≤◌, ◌+ℤ◌, ◌-ℤ◌, ◌≤ℤ◌, List, length, map, take, nat_abs, All, ◌⊎◌}
use Rattle.lrp_theory.specs.Entries.{node}
use Rattle.lrp_model.specs.Satisfaction.{Compares}
use Rattle.lrp_model.specs.declared.relations.Bound.{Bound}
use Rattle.lrp_model.specs.declared.formulas.Op.{Op}
use Rattle.lrp_zone.specs.Zones.{ZoneView, IsMember, columns_of, reach_of}
use Rattle.lrp_zone.specs.Spread.{ArePlaces}
use Rattle.lrp_steps.specs.declared.comparisons.OwnSides.{OwnSides}
use Rattle.lrp_steps.specs.declared.comparisons.ShiftedColumn.{ShiftedColumn}

-- the value of a side
abbrev pub side_value : ShiftedColumn → List ℤ → ℤ
side_value side xs = node xs side.column +ℤ side.plus

-- the bounds hold exactly where the left value compares with the right one and the number
pub record AreBounds (op : Op) (left right : ℕ) (most : ℤ) (bounds : List Bound) : Type 0 where
  pub count : length bounds ≡ 2
  pub between : All (λ b. (b.left ≤ left ⊎ b.left ≤ right) × (b.right ≤ left ⊎ b.right ≤ right)) bounds
  pub small : All (λ b. nat_abs b.most ≤ 1 + nat_abs most) bounds
  pub to : (xs : List ℤ) → All (λ b. (node xs b.left -ℤ node xs b.right) ≤ℤ b.most) bounds → Compares op (node xs left) (node xs right +ℤ most)
  pub from : (xs : List ℤ) → Compares op (node xs left) (node xs right +ℤ most) → All (λ b. (node xs b.left -ℤ node xs b.right) ≤ℤ b.most) bounds

-- the zone holds the tuples of so many times whose sides compare
pub record IsCompared (left : ShiftedColumn) (op : Op) (right : ShiftedColumn) (columns : ℕ) (z : ZoneView) : Type 0 where
  pub period : z.period ≡ 1
  pub count : columns_of z ≡ columns
  pub to : (xs : List ℤ) → IsMember z xs → Compares op (side_value left xs) (side_value right xs)
  pub from : (xs : List ℤ) → length xs ≡ columns → Compares op (side_value left xs) (side_value right xs) → IsMember z xs
  pub reach : reach_of z ≤ 1 + nat_abs (left.plus -ℤ right.plus)

-- no tuple of so many times has sides that compare
pub record HasNoCompared (left : ShiftedColumn) (op : Op) (right : ShiftedColumn) (columns : ℕ) : Type 0 where
  pub none : (xs : List ℤ) → length xs ≡ columns → Compares op (side_value left xs) (side_value right xs) → ⊥

-- own are the sides over the columns alone that they have, of which each has its place among so many times
pub record IsOverOwn (times : ℕ) (left right : ShiftedColumn) (own : OwnSides) : Type 0 where
  pub few : own.columns ≤ 8
  pub count : length (take own.columns own.places) ≡ own.columns
  pub places : ArePlaces (take own.columns own.places) times
  pub left_high : own.left.column ≤ own.columns
  pub right_high : own.right.column ≤ own.columns
  pub left_plus : own.left.plus ≡ left.plus
  pub right_plus : own.right.plus ≡ right.plus
  pub left_value : (xs : List ℤ) → side_value own.left (map (node xs) (take own.columns own.places)) ≡ side_value left xs
  pub right_value : (xs : List ℤ) → side_value own.right (map (node xs) (take own.columns own.places)) ≡ side_value right xs
