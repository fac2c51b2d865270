use Rattle.std.proofs.Common.{map, subst}
use Rattle.lrp_core.specs.FreeVariables.{variable_of}
use Rattle.lrp_plan.proofs.Planned.{take_all_of}
use Rattle.lrp_guarded.proofs.Steps.{DropsEach, drops_none, drops_more}
use Rattle.lrp_guarded.proofs.making.Making.drop_each.Goals as goal

pub loop-variable-init : goal.loop-variable-init
loop-variable-init c = drops_none c.args.of c.args.self.now

pub loop-variable-preserved : goal.loop-variable-preserved
loop-variable-preserved c = drops_more c.args.of c.args.variables.now c.loop-variable.variable-index c.variable-item.result c.args.self.now c.loop-variable.self c.drop_variable.new.self c.loop-variable.last c.loop-variable-test.true c.variable-item.is c.loop-variable.invariant c.in_ok-drop_variable.ensures

pub returns : goal.returns
returns c = subst (λ xs. DropsEach c.args.of (map variable_of xs) c.args.self.now c.loop-variable.self c.loop-variable.last) (take_all_of c.args.variables.now c.loop-variable.variable-index c.loop-variable-test.false) c.loop-variable.invariant
