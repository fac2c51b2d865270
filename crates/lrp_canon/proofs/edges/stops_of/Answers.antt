-- The spans moved by the step, less the spans.
use Rattle.std.proofs.Common.{◌+◌, ◌^◌, subst, sym}
use Rattle.std.proofs.lemmas.Result.{IfOk-weaker}
use Rattle.lrp_spans.specs.Spans.{AreOrdered, SpansHaveNumber, IsSpanDifference}
use Rattle.lrp_canon.specs.Edges.{AreEdgeSpans, StopsAt}
use Rattle.lrp_canon.proofs.EdgeLaws.{ordered_wider, step_of, stops_are}
use Rattle.lrp_canon.proofs.edges.stops_of.Goals as goal

pub shifted-requires-clause-step : goal.shifted-requires-clause-step
shifted-requires-clause-step c = step_of c.args.periods c.args.spans.now c.requires

pub difference-requires-clause-spans : goal.difference-requires-clause-spans
difference-requires-clause-spans c = subst (AreOrdered (2 ^ 62 + 1)) (sym c.deref.ensures.value) c.in_ok-before.ensures.ordered

pub difference-requires-clause-holes : goal.difference-requires-clause-holes
difference-requires-clause-holes c = ordered_wider (2 ^ 62) c.args.spans.now c.requires.ordered

pub returns : goal.returns
returns c = IfOk-weaker c.difference.result (λ made. IsSpanDifference (2 ^ 62 + 1) c.deref.result.now c.args.spans.now made.items) (λ made. AreEdgeSpans c.args.periods.whole (StopsAt (SpansHaveNumber c.args.periods.whole c.args.spans.now) c.args.periods.least) made.items) (λ made d. stops_are c.args.periods c.args.spans.now c.in_ok-before.before.items c.requires c.in_ok-before.ensures made.items
    (subst (λ spans. IsSpanDifference (2 ^ 62 + 1) spans c.args.spans.now made.items) c.deref.ensures.value d)) c.difference.ensures
