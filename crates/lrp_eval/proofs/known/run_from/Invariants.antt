-- The tables so far are those of the first steps, of which there are at least as many as turns, and those of parts are known.
use Rattle.std.proofs.Common.{◌≤◌, length}
use Rattle.lrp_model.specs.Formulas.{Question}
use Rattle.lrp_model.specs.Steps.{Steps}
use Rattle.lrp_eval.specs.Known.{AreKnownOver}
use Rattle.lrp_eval.specs.Planned.{IsPlanOf}
use Rattle.lrp_eval.specs.Running.{AreRun}
use Rattle.lrp_eval.proofs.known.run_from.Given as goal

abbrev pub invariant-loop-number : goal.invariant-loop-number
invariant-loop-number l = record {
  low : l.number ≤ length l.tables;
  high : length l.tables ≤ length l.plan.steps;
  run : (planned : Steps) (q : Question) → IsPlanOf planned l.resumed.database.now q l.plan → AreRun planned l.resumed.database.now q l.setting.cap l.tables;
  known : AreKnownOver l.resumed.database.now l.plan l.setting.cap l.made;
}
