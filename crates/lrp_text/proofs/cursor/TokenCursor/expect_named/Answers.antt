use Rattle.lrp_text.specs.Taking.{is_token_named, is_named_token}
use Rattle.std.proofs.Common.{refl}
use Rattle.lrp_text.proofs.Looking.{expects_seen, expects_unseen, goes_seen}
use Rattle.lrp_text.proofs.cursor.TokenCursor.expect_named.Goals as goal

pub advance-requires : goal.advance-requires
advance-requires c = goes_seen (is_named_token c.args.word.now) _ _ _ refl refl c.sees_named.ensures c.if-not-sees_named.false

pub returns-then-not-sees_named-clause-value : goal.returns-then-not-sees_named-clause-value
returns-then-not-sees_named-clause-value c = expects_unseen (is_token_named c.args.word.now) _ _ _ c.sees_named.ensures c.if-not-sees_named.true

pub returns-clause-value : goal.returns-clause-value
returns-clause-value c = expects_seen (is_token_named c.args.word.now) _ _ _ _ _ c.sees_named.ensures c.if-not-sees_named.false c.advance.ensures.1
