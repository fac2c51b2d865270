-- The first byte and the rest.
use Rattle.lrp_words.proofs.NumberLemmas.{other_numeral}
use Rattle.lrp_words.proofs.numbers.is_numeral.Goals as goal

pub returns-else-first-eq48 : goal.returns-else-first-eq48
returns-else-first-eq48 c = other_numeral c.args.bytes.now c.in-Some.first.now c.in-Some.rest.now c.are_digits.result c.in-Some.ensures.cases.0 c.if-first-eq48.false c.are_digits.ensures
