-- What is parsed is the number that the text spells, and what is not is too large.
use Rattle.std.proofs.Common.{◌∙◌, sym, ap, arith}
use Rattle.lrp_words.specs.Numbers.{is_numeral, within}
use Rattle.lrp_words.proofs.NumberLemmas.{parsed_ok, parsed_err}
use Rattle.lrp_words.proofs.numbers.within.Goals as goal

pub returns-in-Ok-clause-value : goal.returns-in-Ok-clause-value
returns-in-Ok-clause-value c = c.between.ensures.value ∙ sym (ap (within c.args.low c.args.high) (parsed_ok c.args.text.now c.parse.result c.in-Ok.number c.parse.ensures.value.0 (ap is_numeral (sym c.as_bytes.ensures.value) ∙ sym c.is_numeral.ensures ∙ c.if-not-is_numeral.false) c.in-Ok.is))

pub returns-in-Err-clause-value : goal.returns-in-Err-clause-value
returns-in-Err-clause-value c = sym (parsed_err c.args.text.now c.parse.result c.in-Err.field-0 c.args.low c.args.high c.parse.ensures.value.0 (ap is_numeral (sym c.as_bytes.ensures.value) ∙ sym c.is_numeral.ensures ∙ c.if-not-is_numeral.false) c.in-Err.is (omega arith))
