use Rattle.std.proofs.Common.{map, ap, subst, ◌∙◌}
use Rattle.lrp_core.specs.FreeVariables.{variable_of, with_variables}
use Rattle.lrp_guarded.proofs.Steps.{copied_of}
use Rattle.lrp_guarded.proofs.making.Making.copied.Goals as goal

pub returns : goal.returns
returns c = copied_of c.args.self.now c.args.of c.new-columns.result c.columns_of.result.now c.add_variables.new.all c.new-columns.ensures c.columns_of.ensures c.in_ok-add_variables.ensures
