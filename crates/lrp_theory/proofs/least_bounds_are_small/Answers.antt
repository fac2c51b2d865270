use Rattle.lrp_theory.proofs.Small.{small_entry}
use Rattle.lrp_theory.proofs.least_bounds_are_small.Goals as goal

pub returns : goal.returns
returns c = small_entry
