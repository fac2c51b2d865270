use Rattle.lrp_core.specs.Cores.{core_of}
use Rattle.lrp_guarded.proofs.Built.{selected_built, joined_built}
use Rattle.lrp_guarded.proofs.builder.build_under.Goals as goal

pub returns-in-Some : goal.returns-in-Some
returns-in-Some c = selected_built c.select.result (core_of c.args.core.now) c.args.guard c.in-Some.test c.in_ok-test.field-0 c.args.making.now c.select.new.self c.in-Some.is c.in_ok-test.ensures c.select.ensures

pub returns-in_ok-leaf-in-None : goal.returns-in_ok-leaf-in-None
returns-in_ok-leaf-in-None c = joined_built c.join.result (core_of c.args.core.now) c.args.guard c.in_ok-test.field-0 c.new.result c.args.making.now c.leaf.new.self c.join.new.self c.in-None.is c.in_ok-test.ensures c.in_ok-leaf-in-None.ensures c.new.ensures c.join.ensures
