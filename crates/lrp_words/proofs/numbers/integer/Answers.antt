-- An integer by its sign.
use Rattle.std.proofs.Common.{◌∙◌, ◌^◌, sym, ap}
use Rattle.std.specs.Prelude.{pos, option_map}
use Rattle.lrp_words.proofs.NumberLemmas.{without_minus}
use Rattle.lrp_words.proofs.numbers.integer.Goals as goal

pub returns-in-None-clause-value : goal.returns-in-None-clause-value
unfolding lib.Utf8.encode
returns-in-None-clause-value c = c.positive.ensures.value ∙ ap (option_map (λ n. pos n)) c.within-in-None.ensures.value ∙ sym (without_minus (2 ^ 62) c.args.text.now c.in-None.ensures.cases)
