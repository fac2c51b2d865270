-- The text is not in the span.
use Rattle.std.proofs.Common.{◌∙◌, get_or, subst, sym}
use Rattle.lrp_hulls.specs.Columns.{StandsAt}
use Rattle.lrp_hulls.specs.Queries.{piece_at}
use Rattle.lrp_hulls.proofs.columns.SpanColumns.may_have_text.Goals as goal

pub returns-in-Some : goal.returns-in-Some
returns-in-Some c = λ beyond pieces have near.
    c.may_have.ensures beyond (get_or (piece_at pieces c.args.number).cell.texts c.args.i 0)
    (have.texts c.args.i c.args.number c.in-Some.span (subst (λ l. StandsAt l c.args.i c.args.number c.in-Some.span) c.as_slice.ensures.value c.in-Some.ensures) near.low)
    (λ number e. near.asked.texts c.args.i number c.requires (sym c.known_text.ensures ∙ e))
