-- Rows of which one is taken out, by its place, and a spot that is told after others.
use Rattle.std.specs.Prelude.{◌≡◌, ◌+◌, ℕ, List, [], ◌∷◌, ◌++◌, take, drop, All, Option, Some, slice_get}
use Rattle.lrp_model.specs.Formulas.{Question}
use Rattle.lrp_model.specs.Texts.{Text}
use Rattle.lrp_model.specs.declared.relations.Relation.{Relation}
use Rattle.lrp_model.specs.declared.relations.Row.{Row}
use Rattle.lrp_model.specs.declared.tuples.Spot.{Spot}
use Rattle.lrp_kept.specs.EqualRows.{AreEqualRows}
use Rattle.lrp_watch.specs.LeastAnswers.{IsLeastOver}

-- the row at the place is equal, and none before it is
pub record IsFirstEqualAt (row : Row) (rows : List Row) (place : ℕ) : Type 0 where
  pub held : Row
  pub at : slice_get rows place ≡ Some held
  pub equal : AreEqualRows held row
  pub first : All (λ other. AreEqualRows other row → ⊥) (take place rows)

-- the rows before the place and after it
abbrev pub IsWithoutPlace : ℕ → List Row → List Row → Type 0
IsWithoutPlace place old new = new ≡ take place old ++ drop (place + 1) old

-- after the spots stands one for the query's least answer over the relations
pub record IsToldOver (q : Question) (domain : List Text) (db : List Relation) (old new : List (Option Spot)) : Type 0 where
  pub least : Option Spot
  pub is : IsLeastOver q domain db least
  pub more : new ≡ old ++ least ∷ []
