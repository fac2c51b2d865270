use Rattle.std.proofs.Common.{arith}
use Rattle.lrp_theory.specs.Entries.{entry}
use Rattle.lrp_answer_text.specs.AnswerText.{bound_between}
use Rattle.lrp_answer_text.proofs.AnswerLines.{pushed}
use Rattle.lrp_answer_text.proofs.closures.push_row.Goals as goal

pub loop-column-preserved : goal.loop-column-preserved
loop-column-preserved c = record {
  bounds = pushed (λ j. bound_between c.args.row j (entry c.args.closed.now.cells c.args.row j)) c.loop-column.column c.args.bounds.now c.loop-column.bounds _ c.loop-column.invariant.bounds c.push_bound.ensures.bounds;
  few = omega (arith, c.loop-column.invariant.few, c.push_bound.ensures.few);
  small = λ h. c.push_bound.ensures.small (c.loop-column.invariant.small h);
}
