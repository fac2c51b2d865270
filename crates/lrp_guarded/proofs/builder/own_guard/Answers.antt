use Rattle.lrp_core.specs.Cores.{core_of}
use Rattle.lrp_guarded.proofs.Guarding.{own_from}
use Rattle.lrp_guarded.proofs.builder.own_guard.Goals as goal

pub returns-in-Some : goal.returns-in-Some
returns-in-Some c = own_from c.projected.result (core_of c.args.core.now) c.args.guard c.in-Some.guard c.args.variables.now c.args.making.now c.projected.new.making c.in-Some.is c.projected.ensures
