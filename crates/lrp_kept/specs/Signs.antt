-- Core forms by sign: of a formula, or of its negation.
use Rattle.std.specs.Prelude.{Bool, true, false}
use Rattle.lrp_model.specs.Formulas.{Form}
use Rattle.lrp_model.specs.Core.{positive, negative}

-- the core form of the formula where it is to hold, else that of its negation
abbrev pub kept_signed : Bool → Form → Form
kept_signed true f = positive f false
kept_signed false f = negative f false
