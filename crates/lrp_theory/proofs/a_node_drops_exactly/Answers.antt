use Rattle.lrp_theory.proofs.Drop.{dropped}
use Rattle.lrp_theory.proofs.a_node_drops_exactly.Goals as goal

pub returns : goal.returns
returns c = dropped
