-- Rows that are equal: an edit takes out the first that is.
use Rattle.std.specs.Prelude.{◌≡◌}
use Rattle.std.specs.List.{AllZip}
use Rattle.lrp_theory.specs.Divides.{IsPointMember}
use Rattle.lrp_model.specs.declared.relations.RowPoint.{RowPoint}
use Rattle.lrp_model.specs.declared.relations.Value.{Value}
use Rattle.lrp_model.specs.declared.relations.Value.TheVariants.{Point, Const}
use Rattle.lrp_model.specs.declared.relations.Row.{Row}

-- one period, and offsets that are equal modulo it
pub record AreEqualPoints (at other : RowPoint) : Type 0 where
  pub period : at.period ≡ other.period
  pub offset : IsPointMember at.offset at.period other.offset

-- equal points, or equal texts
abbrev pub AreEqualValues : Value → Value → Type 0
AreEqualValues (Point at) (Point other) = AreEqualPoints at other
AreEqualValues (Const t) (Const u) = t ≡ u
AreEqualValues _ _ = ⊥

-- equal values, column by column, and equal lists of bounds
pub record AreEqualRows (row other : Row) : Type 0 where
  pub values : AllZip AreEqualValues row.values other.values
  pub bounds : row.bounds ≡ other.bounds
