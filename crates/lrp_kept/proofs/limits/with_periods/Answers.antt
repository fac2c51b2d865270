use Rattle.std.proofs.Common.{[], ◌∷◌}
use Rattle.lrp_limits.proofs.Raised.{least_of_one}
use Rattle.lrp_kept.proofs.limits.with_periods.Goals as goal

pub returns : goal.returns
returns c = c.with_row.ensures.keeps (c.args.period.number ∷ []) (least_of_one c.args.period.number (record { low = c.args.period.low; high = c.args.period.high }))
