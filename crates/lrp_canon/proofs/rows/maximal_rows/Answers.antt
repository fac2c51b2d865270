-- The rows from each start to the first stop after it.
use Rattle.std.proofs.Common.{◌+◌, ◌-◌, ◌^◌, arith, subst, sym}
use Rattle.std.specs.Prelude.{AllPairs}
use Rattle.std.proofs.lemmas.Result.{IfOk-weaker}
use Rattle.lrp_spans.specs.Spans.{SpansHaveNumber}
use Rattle.lrp_canon.specs.Edges.{AreBeginnings, AreStops, IsEarlierEdge}
use Rattle.lrp_canon.specs.Making.{AreRowsOf}
use Rattle.lrp_canon.specs.Pairing.{AreRowsFrom, AreStopEdges}
use Rattle.lrp_canon.proofs.EdgeLaws.{step_of}
use Rattle.lrp_canon.proofs.Maximal.{rows_are}
use Rattle.lrp_canon.proofs.PairLaws.{stop_edges}
use Rattle.lrp_canon.proofs.SpanDecisions.{decided_number}
use Rattle.lrp_canon.proofs.rows.maximal_rows.Goals as goal

pub paired-requires-clause-starts : goal.paired-requires-clause-starts
paired-requires-clause-starts c = subst (AllPairs IsEarlierEdge) (sym c.deref.ensures.value) c.in_ok-starts.ensures.apart

pub paired-requires-clause-stops : goal.paired-requires-clause-stops
paired-requires-clause-stops c = subst (AreStopEdges c.args.periods.least) (sym c.deref-2.ensures.value)
    (stop_edges (SpansHaveNumber c.args.periods.whole c.args.spans.now) c.args.periods.least c.in_ok-stops.stops.items
    (omega (arith, step_of c.args.periods c.args.spans.now c.requires, c.requires.high)) c.in_ok-stops.ensures)

pub returns : goal.returns
returns c = IfOk-weaker c.paired.result (λ made. AreRowsFrom c.args.periods.least c.deref-2.result.now c.deref.result.now made.items) (λ made. AreRowsOf (SpansHaveNumber c.args.periods.whole c.args.spans.now) c.args.periods.least made.items)
    (λ made paired. rows_are (SpansHaveNumber c.args.periods.whole c.args.spans.now) (λ x. decided_number c.args.periods.whole c.args.spans.now x c.requires.positive) c.args.periods.least (2 ^ 62 - c.args.periods.whole + 1) c.requires.low c.requires.repeats
    c.deref.result.now c.deref-2.result.now
    (subst (AreBeginnings (SpansHaveNumber c.args.periods.whole c.args.spans.now) c.args.periods.least) (sym c.deref.ensures.value) c.in_ok-starts.ensures)
    (subst (AreStops (SpansHaveNumber c.args.periods.whole c.args.spans.now) c.args.periods.least) (sym c.deref-2.ensures.value) c.in_ok-stops.ensures)
    made.items paired (omega (arith, step_of c.args.periods c.args.spans.now c.requires, c.requires.high))) c.paired.ensures
