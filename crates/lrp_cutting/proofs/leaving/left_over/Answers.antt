-- What is appended to nothing is all that is left.
use Rattle.std.proofs.Common.{◌+◌, ◌∷◌, [], arith, subst}
use Rattle.lrp_cutting.specs.Differences.{greatest_reach}
use Rattle.lrp_cutting.specs.Leaving.{AppendsLeft}
use Rattle.lrp_cutting.proofs.LeavingLaws.{left_alone}
use Rattle.lrp_cutting.proofs.leaving.left_over.Goals as goal

pub returns : goal.returns
returns c =
    left_alone c.args.zone.now (c.args.zone.now ∷ []) c.args.cutters.now _ c.new-made.result c.add_left.new.made c.new-made.ensures
    (subst (λ l. AppendsLeft c.args.zone.now (c.args.zone.now ∷ []) l (greatest_reach (c.args.zone.now ∷ c.args.cutters.now) + c.args.zone.now.period) c.new-made.result c.add_left.new.made) c.as_slice-2.ensures
    (c.in_ok-add_left.ensures (greatest_reach (c.args.zone.now ∷ c.args.cutters.now) + c.args.zone.now.period) (omega arith) (rw c.as_slice-2.ensures (omega arith))))
