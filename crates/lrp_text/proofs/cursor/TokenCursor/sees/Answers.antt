use Rattle.std.proofs.Common.{◌∙◌, ap, sym, Ok}
use Rattle.lrp_text.proofs.Looking.{look_symbol}
use Rattle.lrp_text.proofs.cursor.TokenCursor.sees.Goals as goal

pub returns : goal.returns
returns c = look_symbol c.args.symbol _ _ _ _ c.peek.ensures ∙ ap (λ b. Ok (b, c.args.self.now)) (sym c.is_symbol.ensures)
