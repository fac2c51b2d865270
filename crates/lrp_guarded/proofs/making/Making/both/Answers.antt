use Rattle.lrp_guarded.proofs.Steps.{both_of}
use Rattle.lrp_guarded.proofs.making.Making.both.Goals as goal

pub returns : goal.returns
returns c = both_of c.args.self.now c.args.left c.in_ok-columns.columns c.columns_of-right.result.now c.add_variables.new.all c.in_ok-columns.ensures c.columns_of-right.ensures c.in_ok-add_variables.ensures
