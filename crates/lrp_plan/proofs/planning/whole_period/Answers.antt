use Rattle.std.proofs.Common.{Some, ap}
use Rattle.lrp_core.specs.Cores.{core_of}
use Rattle.lrp_model.specs.Periods.{periods}
use Rattle.lrp_plan.proofs.Whole.{from_one}
use Rattle.lrp_plan.proofs.planning.whole_period.Goals as goal

pub returns : goal.returns
returns c = λ M s. from_one (periods (core_of c.args.core.now) M.relations) _ _ (c.with_core.ensures M s) (ap Some c.one.ensures)
