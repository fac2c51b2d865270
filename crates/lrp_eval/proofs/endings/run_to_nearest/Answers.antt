-- What the run up to the complement says.
use Rattle.lrp_eval.proofs.endings.run_to_nearest.Goals as goal

pub run_nearest-requires : goal.run_nearest-requires
run_nearest-requires c = record { domain_is = c.requires.domain_is; run = c.requires.run }
