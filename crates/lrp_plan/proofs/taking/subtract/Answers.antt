use Rattle.lrp_plan.proofs.Takes.{subtract_covered, subtract_joined, subtract_first}
use Rattle.lrp_plan.proofs.taking.subtract.Goals as goal

pub returns-in-Some : goal.returns-in-Some
returns-in-Some c = subtract_covered c.minus.result c.args.left c.in-Some.left c.args.covered c.args.draft.now c.minus.new.self c.in-Some.is c.if-covered.true c.minus.ensures

pub returns-in_ok-complement-in-Some-2 : goal.returns-in_ok-complement-in-Some-2
returns-in_ok-complement-in-Some-2 c =
    subtract_joined c.join.result c.args.left c.in-Some-2.left c.args.covered c.new.result c.args.draft.now c.complement.new.self c.join.new.self c.in-Some-2.is c.if-covered.false c.new.ensures c.in_ok-complement-in-Some-2.ensures c.join.ensures

pub returns-in-None : goal.returns-in-None
returns-in-None c = subtract_first c.complement-in-None.result c.args.left c.args.covered c.args.draft.now c.complement-in-None.new.self c.in-None.is c.complement-in-None.ensures
