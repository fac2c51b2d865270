use Rattle.std.proofs.Common.{◌+◌, arith}
use Rattle.std.proofs.lemmas.Result.{err_from_is_err_and}
use Rattle.lrp_model.specs.PrintedPlans.{step_lines}
use Rattle.lrp_io.proofs.PieceLemmas.{written_err}
use Rattle.lrp_print.proofs.PlanLines.{line_step, line_front}
use Rattle.lrp_print.proofs.plans.write_steps.Goals as goal

pub returns-in_err-write_step-clause-text : goal.returns-in_err-write_step-clause-text
returns-in_err-write_step-clause-text g c =
    let p = err_from_is_err_and c.from_residual.result c.from_residual.ensures.1 in
    written_err _ _ (step_lines 1 c.args.steps.now) _ p.0 p.1
    (line_front c.args.steps.now c.loop-step.step-index (c.loop-step.number + 1) _ _ _ _ c.loop-step-test.true c.step-item.is (omega (arith, c.loop-step.invariant.numbered)) c.loop-step.invariant.so_far c.in_err-write_step.ensures.text)

pub loop-step-preserved : goal.loop-step-preserved
loop-step-preserved g c = record {
  so_far = line_step c.args.steps.now c.loop-step.step-index (c.loop-step.number + 1) _ _ _ _ c.loop-step-test.true c.step-item.is (omega (arith, c.loop-step.invariant.numbered)) c.loop-step.invariant.so_far c.in_ok-write_step.ensures.text;
  later = omega (arith, c.loop-step.invariant.later, c.write_step.ensures.cause.later);
  numbered = omega (arith, c.loop-step.invariant.numbered);
}
