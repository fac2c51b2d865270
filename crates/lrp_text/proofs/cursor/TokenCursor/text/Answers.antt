use Rattle.std.proofs.Common.{subst, arith}
use Rattle.lrp_text.specs.Sources.{Stands}
use Rattle.lrp_text.proofs.Looking.{text_read, text_refused, text_too_long}
use Rattle.lrp_text.proofs.cursor.TokenCursor.text.Goals as goal

pub returns-in-LongText-clause-value : goal.returns-in-LongText-clause-value
returns-in-LongText-clause-value c =
    let ts = c.args.self.now in
    let next = c.peek-next.result in
    text_too_long ts next.slice.now next.place (subst (λ l. Stands ts l next.slice.now next.place) c.in-LongText.is c.peek-next.ensures)

pub returns-in_default : goal.returns-in_default
returns-in_default c = record { value = text_refused _ _ _ _ c.in_default.not-Text c.in_default.not-LongText c.peek-next.ensures; shorter = omega arith; fewer = tt }

pub returns-clause-value : goal.returns-clause-value
returns-clause-value c =
    let ts = c.args.self.now in
    let next = c.peek-next.result in
    text_read ts _ next.slice.now next.place c.advance.ensures.0 _ (subst (λ l. Stands ts l next.slice.now next.place) c.in-Text.is c.peek-next.ensures) c.in_ok-text.ensures c.advance.ensures.1
