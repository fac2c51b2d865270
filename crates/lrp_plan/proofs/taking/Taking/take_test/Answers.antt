use Rattle.std.proofs.Common.{map, subst}
use Rattle.std.specs.Result.{OnOk}
use Rattle.lrp_core.specs.FreeVariables.{variable_of}
use Rattle.lrp_plan.specs.Taking.{TakesIn}
use Rattle.lrp_plan.proofs.Takes.{test_taken}
use Rattle.lrp_plan.proofs.taking.Taking.take_test.Goals as goal

pub returns : goal.returns
returns c = test_taken c.take_in.result c.args.test (map variable_of c.in_ok-variables.variables) c.args.self.now c.take_in.new.self c.args.draft.now c.leaf.new.self c.take_in.new.draft c.in_ok-variables.ensures c.in_ok-leaf.ensures
    (subst (λ vs. OnOk c.take_in.result (TakesIn (map variable_of vs) c.args.self.now c.take_in.new.self c.leaf.new.self c.take_in.new.draft)) c.as_slice.ensures c.take_in.ensures)
