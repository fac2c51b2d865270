use Rattle.std.proofs.Common.{map, refl}
use Rattle.lrp_core.specs.FreeVariables.{variable_of}
use Rattle.lrp_plan.proofs.Takes.{takes_off}
use Rattle.lrp_plan.proofs.taking.Taking.take_off.Goals as goal

pub returns : goal.returns
returns c = takes_off (map variable_of c.args.variables.now) c.args.self.now _ c.args.draft.now c.subtract.new.draft c.in_ok-covered.covered c.in_ok-covered.ensures.known c.in_ok-covered.ensures.all refl refl refl c.in_ok-subtract.ensures
