-- Both tests of the words.
use Rattle.std.proofs.Common.{refl, ◌∙◌}
use Rattle.lrp_words.proofs.EntryLemmas.{given_words, given_both, given_first}
use Rattle.lrp_words.proofs.entries.are_given.Goals as goal

pub returns-then-are_known : goal.returns-then-are_known
returns-then-are_known c = given_both c.are_known.result c.are_single.result _ c.if-are_known.true (given_words c.args.keys.now c.args.words.now c.are_known.result c.are_single.result c.are_known.ensures c.are_single.ensures)

pub returns-else-are_known : goal.returns-else-are_known
returns-else-are_known c = c.if-are_known.false ∙ given_first c.are_known.result _ _ c.if-are_known.false (given_words c.args.keys.now c.args.words.now c.are_known.result _ c.are_known.ensures refl)
