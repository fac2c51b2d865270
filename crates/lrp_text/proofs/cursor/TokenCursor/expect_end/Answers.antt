use Rattle.std.proofs.Common.{◌∙◌, sym}
use Rattle.lrp_text.proofs.Looking.{end_read, end_refused}
use Rattle.lrp_text.proofs.cursor.TokenCursor.expect_end.Goals as goal

pub returns-then-is_end-clause-value : goal.returns-then-is_end-clause-value
returns-then-is_end-clause-value c = end_read _ _ _ _ c.peek.ensures (sym c.is_end.ensures ∙ c.if-is_end.true)

pub returns-else-is_end-clause-value : goal.returns-else-is_end-clause-value
returns-else-is_end-clause-value c = end_refused _ _ _ _ c.peek.ensures (sym c.is_end.ensures ∙ c.if-is_end.false)
