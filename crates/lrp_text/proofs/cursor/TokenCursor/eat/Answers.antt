use Rattle.std.proofs.Common.{refl}
use Rattle.lrp_text.specs.Taking.{is_symbol, is_symbol_token}
use Rattle.lrp_text.proofs.Looking.{eats_seen, eats_unseen, goes_seen}
use Rattle.lrp_text.proofs.cursor.TokenCursor.eat.Goals as goal

pub returns-then-not-sees-clause-value : goal.returns-then-not-sees-clause-value
returns-then-not-sees-clause-value c = eats_unseen (is_symbol c.args.symbol) _ _ _ c.sees.ensures c.if-not-sees.true

pub advance-requires : goal.advance-requires
advance-requires c = goes_seen (is_symbol_token c.args.symbol) _ _ _ refl refl c.sees.ensures c.if-not-sees.false

pub returns-clause-value : goal.returns-clause-value
returns-clause-value c = eats_seen (is_symbol c.args.symbol) _ _ _ _ c.advance.ensures.0 c.sees.ensures c.if-not-sees.false c.advance.ensures.1
