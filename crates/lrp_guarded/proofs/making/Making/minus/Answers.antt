use Rattle.std.proofs.Common.{refl}
use Rattle.lrp_guarded.proofs.Steps.{minus_makes}
use Rattle.lrp_guarded.proofs.making.Making.minus.Goals as goal

pub returns : goal.returns
returns c = minus_makes c.args.left c.args.self.now _ c.minus.new.self c.in_ok-columns.columns c.in_ok-columns.ensures c.in_ok-minus.ensures refl refl c.in_ok-push.ensures.items
