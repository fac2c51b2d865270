use Rattle.std.proofs.Common.{map}
use Rattle.lrp_core.specs.FreeVariables.{variable_of}
use Rattle.lrp_plan.proofs.Settled.{splits_settled, splits_looked}
use Rattle.lrp_plan.proofs.taking.split_tests.Goals as goal

pub returns-then-settled : goal.returns-then-settled
returns-then-settled c = splits_settled c.args.settled (map variable_of c.args.variables.now) c.args.tests c.new.result c.if-settled.true c.new.ensures

pub returns : goal.returns
returns c = splits_looked c.split_covered.result c.args.settled (map variable_of c.args.variables.now) c.args.tests c.split_covered.ensures.covered c.split_covered.ensures.others
