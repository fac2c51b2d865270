use Rattle.std.proofs.Common.{◌≡◌, ◌*◌, rules}
use Rattle.lrp_limits.specs.Capped.{capped}
use Rattle.lrp_limits.proofs.Scales.{starts, goes_on}
use Rattle.lrp_limits.proofs.scaling.scaled.Goals as goal

pub loop-column-init : goal.loop-column-init
loop-column-init c = λ n h. let e : c.capped-all.result ≡ capped (2 * c.args.reach) = search rules in starts c.args.reach c.capped-all.result n e h

pub loop-column-preserved : goal.loop-column-preserved
loop-column-preserved c = λ n h. goes_on c.args.columns.now c.loop-column.column-index c.column-item.result n c.loop-column.all c.doubled_for-all.result c.loop-column-test.true c.column-item.is (c.loop-column.invariant n h) c.doubled_for-all.ensures
