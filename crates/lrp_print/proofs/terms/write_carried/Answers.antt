use Rattle.lrp_print.proofs.Lines.{written_as}
use Rattle.lrp_print.proofs.PlanLines.{carried_are}
use Rattle.lrp_print.proofs.terms.write_carried.Goals as goal

pub returns-clause-text : goal.returns-clause-text
returns-clause-text g c = written_as _ _ _ _ _ (carried_are c.args.tests.now) c.write_after_where.ensures.text
