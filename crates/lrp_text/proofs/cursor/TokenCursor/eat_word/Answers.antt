use Rattle.std.proofs.Common.{refl}
use Rattle.lrp_text.specs.Taking.{is_word, is_word_token}
use Rattle.lrp_text.proofs.Looking.{eats_seen, eats_unseen, goes_seen}
use Rattle.lrp_text.proofs.cursor.TokenCursor.eat_word.Goals as goal

pub returns-then-not-sees_word-clause-value : goal.returns-then-not-sees_word-clause-value
returns-then-not-sees_word-clause-value c = eats_unseen (is_word c.args.word) _ _ _ c.sees_word.ensures c.if-not-sees_word.true

pub advance-requires : goal.advance-requires
advance-requires c = goes_seen (is_word_token c.args.word) _ _ _ refl refl c.sees_word.ensures c.if-not-sees_word.false

pub returns-clause-value : goal.returns-clause-value
returns-clause-value c = eats_seen (is_word c.args.word) _ _ _ _ c.advance.ensures.0 c.sees_word.ensures c.if-not-sees_word.false c.advance.ensures.1
