-- One more column is compared.
use Rattle.std.proofs.Common.{◌≡◌, ◌+◌, arith, subst}
use Rattle.lrp_zone.specs.Zones.{columns_of}
use Rattle.lrp_cutting.specs.Covering.{IsBelowInRow}
use Rattle.lrp_cutting.proofs.CoverLaws.{row_none, row_more}
use Rattle.lrp_cutting.proofs.covering.row_lies_within.Goals as goal

pub loop-right-init : goal.loop-right-init
loop-right-init c = row_none _ _ _

pub returns-then-not-meets_bound : goal.returns-then-not-meets_bound
returns-then-not-meets_bound c = (λ t. absurd (cc t), λ h. absurd (cc (c.meets_bound.ensures.1 (h.each c.loop-right.right (omega (arith, c.loop-right-test.true, c.columns-right-end.ensures.value))), c.if-not-meets_bound.true)))

pub loop-right-preserved : goal.loop-right-preserved
loop-right-preserved c = row_more _ _ _ _ c.loop-right.invariant (c.meets_bound.ensures.0 c.if-not-meets_bound.false)

pub returns : goal.returns
returns c = (λ t. let all : c.loop-right.right ≡ columns_of c.args.other.now + 1 = omega (arith, c.loop-right-test.false, c.loop-right.auto, c.columns-right-end.ensures.value) in subst (λ n. IsBelowInRow n c.args.closed.now.cells c.args.other.now.bounds c.args.left) all c.loop-right.invariant, λ h. cc)
