-- One column more.
use Rattle.std.proofs.Common.{◌≡◌, ◌≤◌, arith}
use Rattle.lrp_zone.specs.Zones.{columns_of}
use Rattle.lrp_hulls.proofs.Hulled.{spans_more}
use Rattle.lrp_hulls.proofs.hull.closed_spans.Goals as goal

pub loop-i-preserved : goal.loop-i-preserved
loop-i-preserved c =
    let high : columns_of c.args.zone.now ≤ 8 = c.columns-i-end.ensures.valid.shape.columns in
    let is : c.columns-i-end.result ≡ columns_of c.args.zone.now = c.columns-i-end.ensures.value in
    spans_more c.args.zone.now c.loop-i.i c.loop-i.spans c.span_in.result (omega (arith, high, is, c.loop-i-test.true)) c.loop-i.invariant c.span_in.ensures

pub returns : goal.returns
returns c =
    let is : c.columns-i-end.result ≡ columns_of c.args.zone.now = c.columns-i-end.ensures.value in
    record { each = λ i low below xs m. c.loop-i.invariant.each i (omega (arith, is, below, c.loop-i-test.false)) xs m }
