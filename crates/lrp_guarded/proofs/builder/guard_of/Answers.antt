use Rattle.lrp_core.specs.Cores.{core_of}
use Rattle.lrp_guarded.proofs.Guarding.{guards_from}
use Rattle.lrp_guarded.proofs.builder.guard_of.Goals as goal

pub returns : goal.returns
returns c = guards_from c.projected.result c.args.standing.now.some c.is_leaf.result c.args.standing.now.result (core_of c.args.core.now) c.args.variables.now c.args.making.now c.projected.new.making c.if-not-standing.false c.is_leaf.ensures c.if-is_leaf.false c.projected.ensures
