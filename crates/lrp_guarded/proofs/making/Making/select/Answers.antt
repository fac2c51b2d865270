use Rattle.std.proofs.Common.{refl}
use Rattle.lrp_guarded.proofs.Steps.{select_makes}
use Rattle.lrp_guarded.proofs.making.Making.select.Goals as goal

pub returns : goal.returns
returns c = λ a. select_makes c.args.of c.args.test c.args.self.now _ c.select_from.new.self c.in_ok-columns.columns c.add_test.new.all c.in_ok-columns.ensures c.in_ok-add_test.ensures c.in_ok-select_from.ensures refl refl c.in_ok-push.ensures.items a
