use Rattle.std.proofs.Common.{take, flat_map}
use Rattle.lrp_limits.specs.Multiples.{IsPeriodOf}
use Rattle.lrp_kept.specs.Sizes.{period_number, tested_periods}
use Rattle.lrp_kept.proofs.limits.tested_period.Given as goal

-- with the disjuncts so far
abbrev pub invariant-loop-disjunct : goal.invariant-loop-disjunct
invariant-loop-disjunct l = IsPeriodOf (flat_map tested_periods (take l.disjunct-index l.disjuncts)) (period_number l.period)
