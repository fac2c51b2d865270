use Rattle.std.proofs.Common.{◌≡◌, take}
use Rattle.lrp_model.specs.Core.{head_elements}
use Rattle.lrp_core.specs.Cores.{cores_of}
use Rattle.lrp_core.proofs.forming.head_elements.Given as goal

-- the sort elements of the columns so far
abbrev pub invariant-loop-column : goal.invariant-loop-column
invariant-loop-column l = cores_of l.all.items ≡ head_elements (take l.column-index l.columns)
