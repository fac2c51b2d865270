-- The bound is between two columns.
use Rattle.std.proofs.Common.{arith, subst}
use Rattle.lrp_lint.specs.Ties.{IsMerged}
use Rattle.lrp_lint.proofs.Tied.{merging}
use Rattle.lrp_lint.proofs.ties.tied.Goals as goal

pub returns-then-right-gt0 : goal.returns-then-right-gt0
returns-then-right-gt0 c = λ bounds n g all at.
    let bound = c.args.bound.now in
    merging bounds n c.args.groups.now c.merged.result bound g all at (omega (arith, c.if-left-gt0.true, c.from-left.ensures)) (omega (arith, c.if-right-gt0.true, c.from-right.ensures))
    (subst (λ l. IsMerged c.args.groups.now l bound.right c.merged.result) c.from-left.ensures (subst (λ r. IsMerged c.args.groups.now c.from-left.result r c.merged.result) c.from-right.ensures c.merged.ensures))
