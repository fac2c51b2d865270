-- How the texts of a tuple are chosen, column by column.
use Rattle.std.specs.Prelude.{◌≡◌, ℕ, ℤ, ◌<◌, ◌≤◌, List, Option, slice_index}
use Rattle.lrp_model.specs.declared.tuples.Shape.{Shape}
use Rattle.lrp_steps.specs.declared.filling.Choices.{Choices}
use Rattle.lrp_steps.specs.declared.pattern.Pattern.{Pattern}
use Rattle.lrp_steps.specs.Patterns.{AreEqual, AreKnown, IsKnown, IsOver, MatchesPattern}

-- the tuples that the pattern asks for, with these numbers before a column
pub record IsFilled (shape : Shape) (size : ℕ) (pattern : Pattern) (column : ℕ) (chosen : List ℕ) (times : List ℤ) (texts : List ℕ) : Type 0 where
  pub over : IsOver shape size (MatchesPattern pattern) times texts
  pub same : (i : ℕ) → i < column → slice_index texts i ≡ slice_index chosen i

-- the choices are numbers below the size, and have the known one, or each if none is known
pub record AreChoices (known : Option ℕ) (size : ℕ) (c : Choices) : Type 0 where
  pub to : (n : ℕ) → c.from ≤ n → n < c.to → n < size
  pub from : (n : ℕ) → n < size → IsKnown known n → (c.from ≤ n) × (n < c.to)

-- all texts that the pattern asks for, with these numbers before the column, have this number in it, if there is one
pub record IsSoleText (pattern : Pattern) (column : ℕ) (chosen : List ℕ) (found : Option ℕ) : Type 0 where
  pub each : (texts : List ℕ) → AreKnown pattern.texts texts → AreEqual pattern.equal texts → ((i : ℕ) → i < column → slice_index texts i ≡ slice_index chosen i) → IsKnown found (slice_index texts column)
