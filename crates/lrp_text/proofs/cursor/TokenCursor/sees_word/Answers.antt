use Rattle.std.proofs.Common.{◌∙◌, ap, sym, Ok}
use Rattle.lrp_text.proofs.Looking.{look_word}
use Rattle.lrp_text.proofs.cursor.TokenCursor.sees_word.Goals as goal

pub returns : goal.returns
returns c = look_word c.args.word _ _ _ _ c.peek.ensures ∙ ap (λ b. Ok (b, c.args.self.now)) (sym c.is_word.ensures)
