-- The mark at the remainder.
use Rattle.lrp_periods.proofs.Sieving.{marked_there, unmarked_there}
use Rattle.lrp_periods.proofs.sieves.is_marked.Goals as goal

pub returns-clause-shut : goal.returns-clause-shut
returns-clause-shut c = λ e. marked_there c.args.cover.now c.args.residue c.as_slice-marks.result.now c.as_slice-marks.ensures c.requires e

pub returns-clause-none : goal.returns-clause-none
returns-clause-none c = λ e. unmarked_there c.args.cover.now c.args.residue c.as_slice-marks.result.now c.as_slice-marks.ensures c.requires e
