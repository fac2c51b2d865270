-- One part more has none.
use Rattle.std.proofs.Common.{arith, refl}
use Rattle.std.specs.Prelude.{◌≤◌, length}
use Rattle.lrp_store.specs.Stores.{HasReach}
use Rattle.lrp_periods.proofs.Covers.{each_all, each_more, each_none}
use Rattle.lrp_eval.proofs.endings.have_reach.Goals as goal

pub loop-part-init : goal.loop-part-init
loop-part-init c = each_none (λ part. HasReach part.store c.args.reach) c.args.parts.now 0 refl

pub loop-part-preserved : goal.loop-part-preserved
loop-part-preserved c = each_more (λ part. HasReach part.store c.args.reach) c.args.parts.now c.loop-part.part-index c.part-item.result c.loop-part-test.true c.part-item.is c.loop-part.invariant (c.has_reach.ensures c.if-not-has_reach.false)

pub returns : goal.returns
returns c = λ e. each_all (λ part. HasReach part.store c.args.reach) c.args.parts.now c.loop-part.part-index (let l : length c.args.parts.now ≤ c.loop-part.part-index = omega (arith, c.loop-part-test.false) in l) c.loop-part.invariant
