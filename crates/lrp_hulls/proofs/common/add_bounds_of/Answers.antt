-- One bound more is met by all.
use Rattle.std.proofs.Common.{sym, subst}
use Rattle.lrp_hulls.specs.Common.{AreCommonBounds}
use Rattle.lrp_hulls.proofs.Commoned.{one_common}
use Rattle.lrp_hulls.proofs.common.add_bounds_of.Goals as goal
use Rattle.lrp_hulls.proofs.common.add_bounds_of.Goals.{in-Some+in_ok-push, in_default}

pub loop-j-preserved : goal.loop-j-preserved
loop-j-preserved c = elim c.match-common_bound.branch [
  | in-Some+in_ok-push w ↦ subst (λ v. AreCommonBounds c.args.columns c.args.pieces.now v.items) (sym w.bounds-is) (subst (AreCommonBounds c.args.columns c.args.pieces.now) (sym w.in_ok-push.ensures.items) (one_common c.args.columns c.args.pieces.now c.loop-j.bounds.items w.in-Some.bound c.loop-j.invariant w.in-Some.ensures))
  | in_default w ↦ subst (λ v. AreCommonBounds c.args.columns c.args.pieces.now v.items) (sym w.bounds-is) c.loop-j.invariant
]
