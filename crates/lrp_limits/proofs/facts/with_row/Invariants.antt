use Rattle.std.proofs.Common.{take, flat_map}
use Rattle.std.specs.Option.{option_map}
use Rattle.lrp_model.specs.Periods.{value_periods}
use Rattle.lrp_limits.specs.Facts.{KeepsMultiples}
use Rattle.lrp_limits.proofs.facts.with_row.Given as goal

-- with the points so far
abbrev pub invariant-loop-value : goal.invariant-loop-value
invariant-loop-value l = KeepsMultiples (flat_map value_periods (take l.value-index l.value-items)) (option_map (λ p. p.number) l.fn.period) (option_map (λ p. p.number) l.all)
