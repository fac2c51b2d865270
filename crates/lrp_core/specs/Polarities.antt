-- A formula, or its negation, in core form.
use Rattle.std.specs.Prelude.{Bool}
use Rattle.lrp_model.specs.Formulas.{Form, Forms, negation}
use Rattle.lrp_model.specs.Core.{positive, negative, positives, negatives, positive_test, negative_test}
use Rattle.lrp_model.specs.declared.formulas.Test.{Test}
use Rattle.lrp_core.specs.declared.polarities.Polarity.{Polarity}
use Rattle.lrp_core.specs.declared.polarities.Polarity.TheVariants.{Positive, Negative}
use Rattle.lrp_core.specs.declared.junctions.Junction.{Junction}
use Rattle.lrp_core.specs.declared.junctions.Junction.TheVariants.{And, Or}

-- the other one
abbrev pub opposite : Polarity → Polarity
opposite Positive = Negative
opposite Negative = Positive

-- a form as it stands, or its negation
abbrev pub with_polarity : Polarity → Form → Form
with_polarity Positive f = f
with_polarity Negative f = negation f

-- the core form of a formula, or of its negation
abbrev pub formed : Polarity → Form → Bool → Form
formed Positive f named = positive f named
formed Negative f named = negative f named

-- those of each formula
abbrev pub all_formed : Polarity → Forms → Bool → Forms
all_formed Positive fs named = positives fs named
all_formed Negative fs named = negatives fs named

-- that of a test
abbrev pub formed_test : Polarity → Test → Form
formed_test Positive t = positive_test t
formed_test Negative t = negative_test t

-- how the formulas of an `or` are joined: their negations by `and`
abbrev pub choice : Polarity → Junction
choice Positive = Or
choice Negative = And
