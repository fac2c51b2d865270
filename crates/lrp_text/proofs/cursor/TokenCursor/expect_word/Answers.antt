use Rattle.lrp_text.specs.Taking.{is_word}
use Rattle.lrp_text.proofs.Looking.{expects_eaten, expects_missed}
use Rattle.lrp_text.proofs.cursor.TokenCursor.expect_word.Goals as goal

pub returns-then-eat_word-clause-value : goal.returns-then-eat_word-clause-value
returns-then-eat_word-clause-value c = expects_eaten (is_word c.args.word) _ _ _ c.eat_word.ensures.value c.if-eat_word.true

pub returns-else-eat_word-clause-value : goal.returns-else-eat_word-clause-value
returns-else-eat_word-clause-value c = expects_missed (is_word c.args.word) _ _ _ c.eat_word.ensures.value c.if-eat_word.false
