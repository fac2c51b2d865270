use Rattle.lrp_print.proofs.Lines.{written_as}
use Rattle.lrp_print.proofs.RowLemmas.{bounds_are}
use Rattle.lrp_print.proofs.relations.write_conditions.Goals as goal

pub returns-clause-text : goal.returns-clause-text
returns-clause-text g c = written_as _ _ _ _ _ (bounds_are c.args.columns.now c.args.bounds.now) c.write_after_where.ensures.text
