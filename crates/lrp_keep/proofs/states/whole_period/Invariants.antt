use Rattle.std.proofs.Common.{◌++◌, flat_map}
use Rattle.lrp_limits.specs.Multiples.{IsPeriodOf}
use Rattle.lrp_kept.specs.Sizes.{period_number, tested_periods}
use Rattle.lrp_keep.specs.States.{read_periods}
use Rattle.lrp_keep.proofs.states.whole_period.Given as goal

-- with the relations so far
abbrev pub invariant-loop-i : goal.invariant-loop-i
invariant-loop-i l = IsPeriodOf (flat_map tested_periods l.of.disjuncts.items ++ read_periods l.of.disjuncts.items l.database l.i) (period_number l.period)
