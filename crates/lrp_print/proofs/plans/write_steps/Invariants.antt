use Rattle.std.proofs.Common.{◌≡◌, ◌≤◌, take}
use Rattle.lrp_io.specs.Bytes.{appended}
use Rattle.lrp_model.specs.PrintedPlans.{step_lines}
use Rattle.lrp_print.proofs.plans.write_steps.Given as goal

-- the lines so far were written, and the number is that of the last of them
abbrev pub invariant-loop-step : goal.invariant-loop-step
invariant-loop-step g l =
    let written = g.S.Sink.written in
    let faults = g.S.Sink.faults in
    record {
      so_far : written l.out ≡ appended (written l.fn.out) (step_lines 1 (take l.step-index l.steps));
      later : faults l.fn.out ≤ faults l.out;
      numbered : l.number ≡ l.step-index;
    }
