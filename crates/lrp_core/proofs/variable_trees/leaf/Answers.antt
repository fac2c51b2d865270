use Rattle.lrp_core.proofs.TreeViews.{tree-leaf}
use Rattle.lrp_core.proofs.variable_trees.leaf.Goals as goal

pub returns : goal.returns
returns c = tree-leaf _ _ c.in_ok-variables.ensures.value c.new.ensures.items
