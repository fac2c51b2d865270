use Rattle.std.proofs.Common.{refl}
use Rattle.lrp_core.specs.FreeVariables.{variable_of}
use Rattle.lrp_guarded.proofs.Drops.{drop_makes}
use Rattle.lrp_guarded.proofs.making.Making.drop_variable.Goals as goal

pub returns : goal.returns
returns c = drop_makes c.args.of (variable_of c.args.variable.now) c.args.self.now _ c.drop_from.new.draft c.in_ok-columns.columns c.in_ok-columns.ensures c.in_ok-drop_from.ensures refl refl c.in_ok-push.ensures.items
