use Rattle.std.proofs.Common.{map, ap}
use Rattle.lrp_core.specs.Cores.{core_of}
use Rattle.lrp_core.specs.FreeVariables.{variable_of}
use Rattle.lrp_guarded.proofs.Guarding.{leaf_closed}
use Rattle.lrp_guarded.proofs.builder.build_leaf.Goals as goal

pub returns : goal.returns
returns c =
    leaf_closed c.drop_block.result (core_of c.args.core.now) (map variable_of c.args.within.block) (map variable_of c.into_parts-block.result.0) c.args.within.guard c.into_parts-block.result.1 c.args.making.now c.build_plain.new.making c.drop_block.new.self (ap (map variable_of) c.into_parts-block.ensures.block) c.into_parts-block.ensures.guard c.in_ok-build_plain.ensures c.drop_block.ensures
