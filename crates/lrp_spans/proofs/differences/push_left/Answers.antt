-- One more hole is cut out of the span.
use Rattle.std.proofs.Common.{◌+◌, ◌^◌, None, inr, arith}
use Rattle.lrp_spans.proofs.CutLaws.{same_residues}
use Rattle.lrp_spans.proofs.CutSteps.{break_cut, end_cut, hole_after, hole_span, next_cut, start_cut, stop_cut}
use Rattle.lrp_spans.proofs.differences.push_left.Goals.{else-loop-hole-test, then-loop-hole-test+then-is_before}
use Rattle.lrp_spans.proofs.differences.push_left.Goals as goal

pub loop-hole-init : goal.loop-hole-init
loop-hole-init c = start_cut (2 ^ 62 + 1) c.args.span.now c.args.holes.now c.args.made.now.items c.requires.span c.requires.after

pub push_front-requires-clause-after : goal.push_front-requires-clause-after
push_front-requires-clause-after c = hole_after (2 ^ 62 + 1) c.args.span.now c.args.holes.now c.requires.holes c.loop-hole.hole-index _ c.loop-hole-test.true c.loop-hole.invariant.0 c.loop-hole.left c.loop-hole.invariant.2

pub rest-requires-clause-small : goal.rest-requires-clause-small
rest-requires-clause-small c = (hole_span (2 ^ 62 + 1) c.args.span.now c.args.holes.now c.requires.holes c.loop-hole.hole-index (record { residue = 0; first = None; last = None }) c.loop-hole-test.true).last

pub rest-requires-clause-meets : goal.rest-requires-clause-meets
rest-requires-clause-meets c = λ e. (
    let after = hole_after (2 ^ 62 + 1) c.args.span.now c.args.holes.now c.requires.holes c.loop-hole.hole-index (record { residue = 0; first = None; last = None }) c.loop-hole-test.true c.loop-hole.invariant.0 c.loop-hole.left c.loop-hole.invariant.2 in
    after (inr (same_residues _ c.loop-hole.left after (λ a. cc (c.is_before.ensures.1 a, c.if-is_before.false)), e)))

pub returns-in-None : goal.returns-in-None
returns-in-None c = stop_cut (2 ^ 62 + 1) c.args.span.now c.args.holes.now c.requires.holes c.loop-hole.hole-index (record { residue = 0; first = None; last = None }) c.loop-hole-test.true c.loop-hole.invariant.0 c.loop-hole.left c.loop-hole.invariant.2
    (λ a. cc (c.is_before.ensures.1 a, c.if-is_before.false)) c.args.made.now.items c.loop-hole.made.items c.push_front.new.made.items c.loop-hole.invariant.1 c.in_ok-push_front.ensures c.in-None.ensures.none

pub loop-hole-preserved : goal.loop-hole-preserved
loop-hole-preserved c = next_cut (2 ^ 62 + 1) c.args.span.now c.args.holes.now c.requires.holes c.loop-hole.hole-index (record { residue = 0; first = None; last = None }) c.loop-hole-test.true c.loop-hole.invariant.0 c.loop-hole.left c.loop-hole.invariant.2
    (λ a. cc (c.is_before.ensures.1 a, c.if-is_before.false)) c.args.made.now.items c.loop-hole.made.items c.push_front.new.made.items c.in-Some.rest c.loop-hole.invariant.1 c.in_ok-push_front.ensures c.in-Some.ensures.some

pub returns : goal.returns
returns c = rw c.in_ok-push.ensures.items (elim c.loop-hole-test.branch [
  | else-loop-hole-test w ↦ end_cut (2 ^ 62 + 1) c.args.span.now c.args.holes.now c.loop-hole.hole-index c.args.made.now.items c.loop-hole.invariant.0 c.loop-hole.made.items c.loop-hole.left
      (omega (arith, w.loop-hole-test.false, c.loop-hole.auto.hole-index-end)) c.loop-hole.invariant.1 c.loop-hole.invariant.2
  | then-loop-hole-test+then-is_before w ↦ break_cut (2 ^ 62 + 1) c.args.span.now c.args.holes.now c.requires.holes c.loop-hole.hole-index (record { residue = 0; first = None; last = None }) w.loop-hole-test.true c.loop-hole.invariant.0 c.loop-hole.left c.loop-hole.invariant.2
      c.args.made.now.items c.loop-hole.made.items c.loop-hole.invariant.1 (w.is_before.ensures.0 w.if-is_before.true)
])
