-- What is due is what is told.
use Rattle.lrp_outputs.specs.Outputs.{told}
use Rattle.lrp_top.proofs.running.run.Goals as goal

pub returns-clause-run : goal.returns-clause-run
returns-clause-run g c = record { outcome = told c.due-outcome.result; due = c.due-outcome.ensures.due; ends = c.tell.ensures }
