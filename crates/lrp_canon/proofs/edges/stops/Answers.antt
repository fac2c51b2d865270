-- The numbers of the stops.
use Rattle.std.proofs.Common.{subst, sym}
use Rattle.lrp_spans.specs.Spans.{SpansHaveNumber}
use Rattle.lrp_canon.specs.Edges.{AddsEdges, AreEdgeNumbers, StopsAt}
use Rattle.lrp_canon.proofs.EdgeLaws.{edge_numbers}
use Rattle.lrp_canon.proofs.PushLaws.{stops_edges}
use Rattle.lrp_canon.proofs.edges.stops.Goals as goal

pub push_numbers-requires : goal.push_numbers-requires
push_numbers-requires c = subst (AreEdgeNumbers c.args.periods) (sym c.deref.ensures.value) (edge_numbers c.args.periods c.args.spans.now c.in_ok-stops.stops.items (StopsAt (SpansHaveNumber c.args.periods.whole c.args.spans.now) c.args.periods.least) c.requires c.in_ok-stops.ensures)

pub returns : goal.returns
returns c = stops_edges c.args.periods c.args.spans.now c.requires c.in_ok-stops.stops.items c.new-edges.result.items c.push_numbers.new.edges.items c.put_in_order.new.edges.items c.in_ok-stops.ensures c.new-edges.ensures.items
    (subst (λ stops. AddsEdges c.args.periods.least (SpansHaveNumber c.args.periods.whole stops) c.new-edges.result.items c.push_numbers.new.edges.items) c.deref.ensures.value c.in_ok-push_numbers.ensures) c.put_in_order.ensures
