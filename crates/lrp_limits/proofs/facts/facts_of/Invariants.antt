use Rattle.std.proofs.Common.{◌≡◌, take, flat_map}
use Rattle.std.specs.Option.{option_map}
use Rattle.lrp_model.specs.Reach.{greatest}
use Rattle.lrp_limits.specs.Multiples.{IsPeriodOf}
use Rattle.lrp_limits.specs.Facts.{most_of_row}
use Rattle.lrp_model.specs.Periods.{row_periods}
use Rattle.lrp_limits.proofs.facts.facts_of.Given as goal

-- with the rows so far
abbrev pub invariant-loop-row : goal.invariant-loop-row
invariant-loop-row l = record {
  period : IsPeriodOf (flat_map row_periods (take l.row-index l.rows)) (option_map (λ p. p.number) l.period);
  bound : l.bound ≡ greatest (flat_map most_of_row (take l.row-index l.rows));
}
