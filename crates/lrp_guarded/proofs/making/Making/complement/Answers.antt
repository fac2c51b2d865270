use Rattle.std.proofs.Common.{refl}
use Rattle.lrp_guarded.proofs.Steps.{complement_makes}
use Rattle.lrp_guarded.proofs.making.Making.complement.Goals as goal

pub returns : goal.returns
returns c = complement_makes c.args.self.now _ c.complement.new.self c.in_ok-columns.columns c.in_ok-columns.ensures c.in_ok-complement.ensures refl refl c.in_ok-push.ensures.items
