-- One more span.
use Rattle.std.proofs.Common.{None, arith}
use Rattle.std.proofs.lemmas.List.Elements.{Contains-get_or}
use Rattle.lrp_canon.proofs.PushLaws.{edge_numbers_at, spans_all, spans_begin, spans_next}
use Rattle.lrp_canon.proofs.edges.push_numbers.Goals as goal

pub loop-span-init : goal.loop-span-init
loop-span-init c = spans_begin c.args.periods c.args.spans.now c.args.edges.now.items

pub push_span-requires-clause-ends : goal.push_span-requires-clause-ends
push_span-requires-clause-ends c = c.requires.ends _ (Contains-get_or c.args.spans.now c.loop-span.span-index (record { residue = 0; first = None; last = None }) c.loop-span-test.true)

pub push_span-requires-clause-numbers : goal.push_span-requires-clause-numbers
push_span-requires-clause-numbers c = edge_numbers_at c.args.periods c.args.spans.now _ (Contains-get_or c.args.spans.now c.loop-span.span-index (record { residue = 0; first = None; last = None }) c.loop-span-test.true) c.requires

pub loop-span-preserved : goal.loop-span-preserved
loop-span-preserved c = spans_next c.args.periods c.args.spans.now c.loop-span.span-index (record { residue = 0; first = None; last = None }) c.args.edges.now.items c.loop-span.edges.items c.push_span.new.edges.items c.loop-span-test.true c.in_ok-push_span.ensures c.loop-span.invariant

pub returns : goal.returns
returns c = spans_all c.args.periods c.args.spans.now c.loop-span.span-index c.args.edges.now.items c.loop-span.edges.items (omega (arith, c.loop-span-test.false)) c.loop-span.invariant
