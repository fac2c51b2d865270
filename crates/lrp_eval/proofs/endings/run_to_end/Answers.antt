-- What the run up to the plan's end says.
use Rattle.lrp_eval.proofs.endings.run_to_end.Goals as goal

pub run_last-requires : goal.run_last-requires
run_last-requires c = record { domain_is = c.requires.can.domain_is; run = c.requires.can.run }
