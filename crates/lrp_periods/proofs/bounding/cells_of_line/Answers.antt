-- There are as many residues as the period.
use Rattle.std.proofs.Common.{rules}
use Rattle.lrp_periods.proofs.LineLaws.{line_has_few}
use Rattle.lrp_periods.proofs.bounding.cells_of_line.Goals as goal

pub returns-then-period-from-clause-few : goal.returns-then-period-from-clause-few
returns-then-period-from-clause-few c = line_has_few c.args.period c.args.parts.now (c.is_line.ensures.times (search rules)) (c.is_line.ensures.texts (search rules))
