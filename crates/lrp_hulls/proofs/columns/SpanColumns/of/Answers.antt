-- The spans of hulls are spans of their zones.
use Rattle.std.proofs.Common.{arith}
use Rattle.lrp_hulls.proofs.Columned.{all_spans}
use Rattle.lrp_hulls.proofs.columns.SpanColumns.of.Goals as goal

pub returns : goal.returns
returns c =
    let times = c.from.ensures in
    let texts = c.from-2.ensures in
    all_spans c.args.hulls.now _ c.from.result c.from-2.result (omega (arith, times, c.requires.times)) (omega (arith, texts, c.requires.texts)) c.in_ok-times.ensures c.in_ok-texts.ensures
