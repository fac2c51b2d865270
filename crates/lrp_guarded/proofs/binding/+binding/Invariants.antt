use Rattle.std.proofs.Common.{map, take}
use Rattle.lrp_core.specs.Cores.{cores_of}
use Rattle.lrp_core.specs.FreeVariables.{variable_of}
use Rattle.lrp_plan_laws.specs.Binding.{binds_some as bound_in_some}
use Rattle.lrp_plan.specs.Taking.{HaveSame}
use Rattle.lrp_guarded.proofs.Bound.{EachSoFar}
use Rattle.lrp_guarded.proofs.binding.+binding.Given as goal

-- what each of those so far binds
abbrev pub invariant-binds_each-loop-core : goal.invariant-binds_each-loop-core
invariant-binds_each-loop-core l = EachSoFar (cores_of (take l.core-index l.of)) l.all

-- what some of those so far binds
abbrev pub invariant-binds_some-loop-core : goal.invariant-binds_some-loop-core
invariant-binds_some-loop-core l = HaveSame (map variable_of l.all) (bound_in_some (cores_of (take l.core-index l.of)))
