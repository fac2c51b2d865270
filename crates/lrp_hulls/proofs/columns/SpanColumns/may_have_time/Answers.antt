-- No value of the span is in the range.
use Rattle.std.proofs.Common.{◌+◌, ◌<◌, ◌≤◌, arith, subst, sym}
use Rattle.std.specs.Prelude.{pos}
use Rattle.lrp_theory.specs.Divides.{Divides}
use Rattle.lrp_theory.specs.Entries.{node}
use Rattle.lrp_zone.specs.Zones.{columns_of}
use Rattle.lrp_hulls.specs.Columns.{StandsAt}
use Rattle.lrp_hulls.specs.Queries.{piece_at}
use Rattle.lrp_hulls.specs.Ranges.{IsInHullRange as IsInRange}
use Rattle.lrp_hulls.specs.declared.range.ColumnRange.{ColumnRange}
use Rattle.lrp_hulls.proofs.columns.SpanColumns.may_have_time.Goals as goal

pub returns-in-Some : goal.returns-in-Some
returns-in-Some c = λ beyond pieces have near.
    let at = piece_at pieces c.args.number in
    let low : c.args.i < c.args.query.now.columns = c.requires.column in
    let has : c.args.query.now.columns ≤ columns_of at.zone = near.can.columns in
    c.may_meet.ensures beyond at.zone.period
    (subst (λ (r : ColumnRange). Divides (pos r.window.step) (pos at.zone.period)) (sym c.range_of_column.ensures) (near.can.divides c.args.i low))
    (node near.xs (c.args.i + 1))
    (have.times c.args.i c.args.number c.in-Some.span (subst (λ l. StandsAt l c.args.i c.args.number c.in-Some.span) c.as_slice.ensures.value c.in-Some.ensures) near.low (omega (arith, low, has)) near.xs near.asked.member)
    (subst (λ r. IsInRange r (node near.xs (c.args.i + 1))) (sym c.range_of_column.ensures) (near.asked.times c.args.i low))
