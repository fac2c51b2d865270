-- One more residue, below the period or not.
use Rattle.std.proofs.Common.{arith}
use Rattle.lrp_canon.proofs.PushLaws.{opens_all, opens_begin, opens_next, opens_past}
use Rattle.lrp_canon.proofs.edges.push_open.Goals.{then-residue-period+in_ok-push, else-residue-period}
use Rattle.lrp_canon.proofs.edges.push_open.Goals as goal

pub loop-residue-init : goal.loop-residue-init
loop-residue-init c = opens_begin c.args.period c.args.residues.now c.args.edges.now.items

pub loop-residue-preserved : goal.loop-residue-preserved
loop-residue-preserved c = elim c.if-residue-period.branch [
  | then-residue-period+in_ok-push w ↦ rw (w.edges-is, w.in_ok-push.ensures.items)
      (opens_next c.args.period c.args.residues.now c.loop-residue.residue-index 0 c.loop-residue-test.true c.args.edges.now.items c.loop-residue.edges.items c.loop-residue.invariant w.if-residue-period.true)
  | else-residue-period w ↦ rw w.edges-is
      (opens_past c.args.period c.args.residues.now c.loop-residue.residue-index 0 c.loop-residue-test.true c.args.edges.now.items c.loop-residue.edges.items c.loop-residue.invariant w.if-residue-period.false)
]

pub returns : goal.returns
returns c = opens_all c.args.period c.args.residues.now c.loop-residue.residue-index c.args.edges.now.items c.loop-residue.edges.items (omega (arith, c.loop-residue-test.false)) c.loop-residue.invariant
