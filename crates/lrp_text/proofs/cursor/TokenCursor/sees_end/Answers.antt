use Rattle.std.proofs.Common.{◌∙◌, ap, sym, Ok}
use Rattle.lrp_text.proofs.Looking.{look_end}
use Rattle.lrp_text.proofs.cursor.TokenCursor.sees_end.Goals as goal

pub returns : goal.returns
returns c = look_end _ _ _ _ c.peek.ensures ∙ ap (λ b. Ok (b, c.args.self.now)) (sym c.is_end.ensures)
