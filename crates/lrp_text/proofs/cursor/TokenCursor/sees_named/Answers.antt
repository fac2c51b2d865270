use Rattle.std.proofs.Common.{◌∙◌, refl, ap, sym, Ok}
use Rattle.lrp_text.proofs.Looking.{look_named}
use Rattle.lrp_text.proofs.cursor.TokenCursor.sees_named.Goals as goal

pub returns-then-is_name : goal.returns-then-is_name
returns-then-is_name c = look_named _ _ _ _ _ _ _ c.peek-next.ensures (sym c.is_name.ensures ∙ c.if-is_name.true) (sym c.eq.ensures)

pub returns-else-is_name : goal.returns-else-is_name
returns-else-is_name c = look_named _ _ _ _ _ _ _ c.peek-next.ensures (sym c.is_name.ensures ∙ c.if-is_name.false) refl ∙ ap (λ b. Ok (b, c.args.self.now)) (sym c.if-is_name.false)
