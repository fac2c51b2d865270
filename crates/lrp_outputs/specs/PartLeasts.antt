-- The least answer of answers in parts.
use Rattle.std.specs.Prelude.{◌≡◌, ℕ, List, Some, IfNone, IfSome, slice_get, take}
use Rattle.lrp_model.specs.Order.{IsLeast}
use Rattle.lrp_model.specs.Rows.{Tuple}
use Rattle.lrp_model.specs.Satisfaction.{HasShape}
use Rattle.lrp_model.specs.declared.tuples.Spot.{Spot}
use Rattle.lrp_store.specs.Least.{StandsFor}
use Rattle.lrp_answers.specs.declared.answer.Answer.{Answer}
use Rattle.lrp_answers.specs.Parts.{IsInSomePart}
use Rattle.lrp_outputs.specs.declared.least.PartLeast.{PartLeast}

-- the spot stands for the least answer of the parts, by the shape and the domain of this one
pub record IsLeastOfParts (parts : List Answer) (part : Answer) (spot : Spot) : Type 0 where
  pub tuple : Tuple
  pub shape : HasShape part.head.columns tuple
  pub stands : StandsFor part.store.shape part.domain spot tuple
  pub least : IsLeast (IsInSomePart parts) tuple

-- the first n parts have no answer, or the least of them is that of the part at this place
pub record IsLeastUpTo (parts : List Answer) (n : ℕ) (found : PartLeast) : Type 0 where
  pub none : IfNone found.least ((tuple : Tuple) → IsInSomePart (take n parts) tuple → ⊥)
  pub some : IfSome found.least (λ spot. (part : Answer) × (slice_get parts found.part ≡ Some part) × IsLeastOfParts (take n parts) part spot)
