use Rattle.std.proofs.Common.{◌∙◌, ap, sym, Ok}
use Rattle.lrp_text.proofs.Looking.{name_read, name_refused}
use Rattle.lrp_text.proofs.cursor.TokenCursor.name.Goals as goal

pub returns-then-not-is_name-clause-value : goal.returns-then-not-is_name-clause-value
returns-then-not-is_name-clause-value c = name_refused _ _ _ _ c.peek-next.ensures (sym c.is_name.ensures ∙ c.if-not-is_name.true)

pub returns-clause-value : goal.returns-clause-value
returns-clause-value c = name_read _ _ _ _ _ c.advance.ensures.0 c.peek-next.ensures (sym c.is_name.ensures ∙ c.if-not-is_name.false) c.advance.ensures.1 ∙ ap (λ x. Ok ((x, c.peek-next.result.place), c.advance.new.self)) (sym c.in_ok-name.ensures)
