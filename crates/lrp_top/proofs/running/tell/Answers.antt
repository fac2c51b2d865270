-- The text was written whole, or a front of it.
use Rattle.lrp_outputs.specs.Outputs.{told}
use Rattle.lrp_top.proofs.Endings.{ends_cut, ends_whole}
use Rattle.lrp_top.proofs.running.tell.Goals as goal

pub returns-in-Ok : goal.returns-in-Ok
returns-in-Ok g c = ends_whole (told c.args.outcome.now) _ _ c.in-Ok.ensures.text c.status_after.ensures

pub returns-in-Err : goal.returns-in-Err
returns-in-Err g c = ends_cut (told c.args.outcome.now) _ c.in-Err.ensures.text (c.in-Err.ensures.cause.failed)
