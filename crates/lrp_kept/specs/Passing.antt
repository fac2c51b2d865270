-- Values of terms, as far as spans tell them.
use Rattle.std.specs.Prelude.{◌≡◌, ◌+ℤ◌, ℕ, ℤ, List, Some, slice_get}
use Rattle.lrp_model.specs.Satisfaction.{Assignment, Compares}
use Rattle.lrp_model.specs.Texts.{Identifier}
use Rattle.lrp_kept.specs.declared.passing.PlacedTerm.{PlacedTerm}
use Rattle.lrp_kept.specs.declared.passing.PlacedTerm.TheVariants.{At, Int}
use Rattle.lrp_kept.specs.declared.passing.PlacedTest.{PlacedTest}

-- the integers are the values of the variables, by their places
abbrev pub AreTimesIn : Assignment → List Identifier → (ℕ → ℤ) → Type 0
AreTimesIn env times xs = (i : ℕ) (v : Identifier) → slice_get times i ≡ Some v → xs i ≡ env.times v

-- the value of a term whose variable stands at a place
abbrev pub placed_value : PlacedTerm → (ℕ → ℤ) → ℤ
placed_value (At place plus) xs = xs place +ℤ plus
placed_value (Int value) xs = value

-- the times pass the comparison
abbrev pub PassesPlaced : PlacedTest → (ℕ → ℤ) → Type 0
PassesPlaced p xs = Compares p.op (placed_value p.left xs) (placed_value p.right xs)
