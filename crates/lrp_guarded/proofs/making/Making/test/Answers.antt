use Rattle.std.proofs.Common.{refl}
use Rattle.lrp_guarded.proofs.Drops.{test_makes}
use Rattle.lrp_guarded.proofs.making.Making.test.Goals as goal

pub returns : goal.returns
returns c = test_makes c.args.test c.args.self.now _ c.leaf.new.self c.in_ok-columns.columns c.in_ok-columns.ensures c.in_ok-leaf.ensures refl refl c.in_ok-push.ensures.items
