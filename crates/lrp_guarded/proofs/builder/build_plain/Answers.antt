use Rattle.lrp_core.specs.Cores.{core_of}
use Rattle.lrp_guarded.proofs.Built.{plain_built}
use Rattle.lrp_guarded.proofs.builder.build_plain.Goals as goal

pub returns-in-None : goal.returns-in-None
returns-in-None c = plain_built c.leaf.result (core_of c.args.core.now) c.args.guard c.args.making.now c.leaf.new.self c.in-None.is c.leaf.ensures
