use Rattle.std.proofs.Common.{◌≡◌, map, take}
use Rattle.lrp_model.specs.Variables.{free_each}
use Rattle.lrp_core.specs.Cores.{cores_of}
use Rattle.lrp_core.specs.FreeVariables.{variable_of, each_once}
use Rattle.lrp_core.specs.VariableTrees.{trees_of, free_trees}
use Rattle.lrp_core.proofs.variable_trees.+trees.Given as goal

-- the variables and the trees of the elements so far
abbrev pub invariant-tree_of_all-loop-core : goal.invariant-tree_of_all-loop-core
invariant-tree_of_all-loop-core l = record {
  variables : map variable_of l.variables ≡ each_once (free_each (cores_of (take l.core-index l.of)));
  inner : trees_of l.inner.items ≡ free_trees (cores_of (take l.core-index l.of));
}
