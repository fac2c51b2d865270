use Rattle.lrp_text.specs.Taking.{is_symbol}
use Rattle.lrp_text.proofs.Looking.{expects_eaten, expects_missed}
use Rattle.lrp_text.proofs.cursor.TokenCursor.expect.Goals as goal

pub returns-then-eat-clause-value : goal.returns-then-eat-clause-value
returns-then-eat-clause-value c = expects_eaten (is_symbol c.args.symbol) _ _ _ c.eat.ensures.value c.if-eat.true

pub returns-else-eat-clause-value : goal.returns-else-eat-clause-value
returns-else-eat-clause-value c = expects_missed (is_symbol c.args.symbol) _ _ _ c.eat.ensures.value c.if-eat.false
