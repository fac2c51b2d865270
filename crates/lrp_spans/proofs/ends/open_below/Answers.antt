-- The next span has an end there, or it has none.
use Rattle.std.proofs.Common.{None, get_or}
use Rattle.lrp_spans.proofs.OpenLaws.{none_not, first_apart, open_more, open_same}
use Rattle.lrp_spans.proofs.ends.open_below.Goals.{then-is_none+in_ok-push, else-is_none}
use Rattle.lrp_spans.proofs.ends.open_below.Goals as goal
use Rattle.lrp_matrix.proofs.Pivots.{none_found}

pub loop-span-preserved : goal.loop-span-preserved
loop-span-preserved c = elim c.if-is_none.branch [
  | then-is_none+in_ok-push w ↦ rw (w.made-is, w.in_ok-push.ensures.items)
      (open_more (λ s. s.first) first_apart c.args.spans.now c.loop-span.span-index (record { residue = 0; first = None; last = None }) c.loop-span-test.true c.requires c.loop-span.made.items
      (none_found (get_or c.args.spans.now c.loop-span.span-index (record { residue = 0; first = None; last = None })).first c.is_none.result c.is_none.ensures w.if-is_none.true) c.loop-span.invariant)
  | else-is_none w ↦ rw w.made-is
      (open_same (λ s. s.first) first_apart c.args.spans.now c.loop-span.span-index (record { residue = 0; first = None; last = None }) c.loop-span-test.true c.requires c.loop-span.made.items
      (none_not (get_or c.args.spans.now c.loop-span.span-index (record { residue = 0; first = None; last = None })).first c.is_none.result c.is_none.ensures w.if-is_none.false) c.loop-span.invariant)
]
