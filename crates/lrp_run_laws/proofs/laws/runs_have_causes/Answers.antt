use Rattle.lrp_run_laws.specs.Runs.{task_asked}
use Rattle.lrp_run_laws.proofs.Causes.{run_cause}
use Rattle.lrp_run_laws.proofs.laws.runs_have_causes.Goals as goal

pub returns : goal.returns
returns c = λ run is. run_cause (task_asked run) run is.outcome is.due is.ends
