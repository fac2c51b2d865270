-- Spots of an answer: the tuples that they stand for, and whether their lines can be written.
use Rattle.std.specs.Prelude.{Option, IfSome}
use Rattle.lrp_model.specs.Rows.{Tuple}
use Rattle.lrp_model.specs.declared.tuples.Spot.{Spot}
use Rattle.lrp_answers.specs.declared.answer.Answer.{Answer}
use Rattle.lrp_answers.specs.Spots.{spot_tuple, IsOfTexts}

-- the tuple that a spot of the answer stands for
abbrev pub answer_tuple : Answer → Spot → Tuple
answer_tuple a spot = spot_tuple a.head.columns a.store.shape a.domain spot

-- the numbers of its texts are numbers of the domain
abbrev pub HasKnownTexts : Answer → Spot → Type 0
HasKnownTexts a spot = IsOfTexts a spot.texts

-- the spot's are, where there is one
abbrev pub IsKnownLeast : Answer → Option Spot → Type 0
IsKnownLeast a least = IfSome least (HasKnownTexts a)
