-- The times and texts of a spot, and its token.
use Rattle.std.specs.Prelude.{ℕ, ℤ, List, [], Some, take}
use Rattle.lrp_model.specs.Texts.{Text}
use Rattle.lrp_model.specs.PrintedPages.{token_text}
use Rattle.lrp_model.specs.declared.tuples.Shape.{Shape}
use Rattle.lrp_model.specs.declared.tuples.Spot.{Spot}
use Rattle.lrp_model.specs.Tuples.{texts_at}

-- the times in the shape's places
abbrev pub times_in : Shape → Spot → List ℤ
times_in shape spot = take shape.times spot.times

-- the texts of the numbers in the shape's places
abbrev pub texts_in : Shape → List Text → Spot → List Text
texts_in shape domain spot = texts_at domain (take shape.texts spot.texts)

-- the token of these times and texts and of a digest
abbrev pub spot_token : Shape → List Text → List ℕ → Spot → List ℕ
spot_token shape domain digest spot = token_text (Some digest) (times_in shape spot) (texts_in shape domain spot)
