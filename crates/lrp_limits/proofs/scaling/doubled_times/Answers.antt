use Rattle.std.proofs.Common.{◌≡◌, ◌*◌, rules}
use Rattle.lrp_limits.specs.Capped.{capped}
use Rattle.lrp_limits.proofs.Scales.{none_times, once_more}
use Rattle.lrp_limits.proofs.scaling.doubled_times.Goals as goal

pub loop-turn-init : goal.loop-turn-init
loop-turn-init c = λ n h. none_times c.args.reach n h

pub loop-turn-preserved : goal.loop-turn-preserved
loop-turn-preserved c = λ n h. let e : c.capped-all.result ≡ capped (2 * c.loop-turn.all) = search rules in once_more c.loop-turn._turn n c.loop-turn.all c.capped-all.result e (c.loop-turn.invariant n h)
