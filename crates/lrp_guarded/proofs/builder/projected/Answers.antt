use Rattle.lrp_core.specs.Cores.{core_of}
use Rattle.lrp_guarded.proofs.Guarding.{projected_so, projected_not}
use Rattle.lrp_guarded.proofs.builder.projected.Goals as goal

pub returns-then-branch : goal.returns-then-branch
returns-then-branch c = λ h. projected_so (core_of c.args.core.now) c.args.of c.columns_of-columns.result.now c.args.variables.now c.in_ok-is_guarded_by.field-0 c.args.making.now c.project.new.self c.columns_of-columns.ensures c.in_ok-is_guarded_by.ensures c.in_ok-guard.guard c.if-branch.true c.in_ok-guard.ensures h

pub returns : goal.returns
returns c = λ h. projected_not (core_of c.args.core.now) c.args.of c.columns_of-columns.result.now c.args.variables.now c.in_ok-is_guarded_by.field-0 c.args.making.now c.args.making.now c.columns_of-columns.ensures c.in_ok-is_guarded_by.ensures c.if-branch.false h
