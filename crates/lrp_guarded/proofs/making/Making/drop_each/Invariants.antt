use Rattle.std.proofs.Common.{map, take}
use Rattle.lrp_core.specs.FreeVariables.{variable_of}
use Rattle.lrp_guarded.proofs.Steps.{DropsEach}
use Rattle.lrp_guarded.proofs.making.Making.drop_each.Given as goal

-- the variables so far were dropped
abbrev pub invariant-loop-variable : goal.invariant-loop-variable
invariant-loop-variable l = DropsEach l.fn.of (map variable_of (take l.variable-index l.variables)) l.fn.self l.self l.last
