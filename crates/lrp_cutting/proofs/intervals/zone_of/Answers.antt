-- The zone of the bounds that the ends are.
use Rattle.std.proofs.Common.{◌≡◌, ◌∷◌, [], ◌∙◌}
use Rattle.lrp_cutting.specs.Intervals.{ends_of}
use Rattle.lrp_cutting.proofs.SpanLaws.{ends_stored, meets_ends, span_is}
use Rattle.lrp_cutting.proofs.intervals.zone_of.Goals as goal

pub bounded-requires : goal.bounded-requires
bounded-requires c =
    let e : c.deref.result.now ≡ ends_of c.args.interval = c.deref.ensures.value ∙ c.in_ok-bounds.ensures in
    rw e (ends_stored c.args.cell.now c.args.interval c.requires.column c.requires.interval)

pub unreachable-requires : goal.unreachable-requires
unreachable-requires c =
    let e : c.deref.result.now ≡ ends_of c.args.interval = c.deref.ensures.value ∙ c.in_ok-bounds.ensures in
    c.in-None.ensures.none (c.requires.interval.number ∷ []) (rw e (meets_ends c.args.cell.now c.args.interval c.requires.column c.requires.interval.number c.requires.interval.is))

pub returns : goal.returns
returns c =
    let e : c.deref.result.now ≡ ends_of c.args.interval = c.deref.ensures.value ∙ c.in_ok-bounds.ensures in
    span_is c.args.cell.now c.args.interval c.requires.column c.in-Some.zone (rw e at c.in-Some.ensures.some)
