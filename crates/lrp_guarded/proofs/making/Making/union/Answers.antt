use Rattle.std.proofs.Common.{refl}
use Rattle.lrp_guarded.proofs.Steps.{union_makes}
use Rattle.lrp_guarded.proofs.making.Making.union.Goals as goal

pub returns : goal.returns
returns c = union_makes c.args.left c.args.self.now _ c.union.new.self c.in_ok-columns.columns c.in_ok-columns.ensures c.in_ok-union.ensures refl refl c.in_ok-push.ensures.items
