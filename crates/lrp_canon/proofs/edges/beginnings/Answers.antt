-- The residues that go on downwards, and the numbers of the starts.
use Rattle.std.proofs.Common.{subst, sym}
use Rattle.lrp_spans.specs.Spans.{SpansHaveNumber}
use Rattle.lrp_canon.specs.Edges.{AddsEdges, AddsOpen, AreEdgeNumbers, Begins}
use Rattle.lrp_canon.proofs.EdgeLaws.{edge_numbers}
use Rattle.lrp_canon.proofs.PushLaws.{beginnings_are}
use Rattle.lrp_canon.proofs.edges.beginnings.Goals as goal

pub push_numbers-requires : goal.push_numbers-requires
push_numbers-requires c = subst (AreEdgeNumbers c.args.periods) (sym c.deref-2.ensures.value) (edge_numbers c.args.periods c.args.spans.now c.in_ok-starts.starts.items (Begins (SpansHaveNumber c.args.periods.whole c.args.spans.now) c.args.periods.least) c.requires c.in_ok-starts.ensures)

pub returns : goal.returns
returns c = beginnings_are c.args.periods c.args.spans.now c.requires c.in_ok-open.open.items c.in_ok-starts.starts.items c.new-edges.result.items c.push_open.new.edges.items c.push_numbers.new.edges.items c.put_in_order.new.edges.items c.in_ok-open.ensures c.in_ok-starts.ensures c.new-edges.ensures.items
    (subst (λ residues. AddsOpen c.args.periods.least residues c.new-edges.result.items c.push_open.new.edges.items) c.deref.ensures.value c.in_ok-push_open.ensures)
    (subst (λ starts. AddsEdges c.args.periods.least (SpansHaveNumber c.args.periods.whole starts) c.push_open.new.edges.items c.push_numbers.new.edges.items) c.deref-2.ensures.value c.in_ok-push_numbers.ensures) c.put_in_order.ensures
