-- One zone more.
use Rattle.std.proofs.Common.{refl}
use Rattle.lrp_steps.proofs.Found.{parts_more}
use Rattle.lrp_steps.proofs.pattern.Pattern.with_zone.Goals as goal

pub returns : goal.returns
returns c = record {
  zones = parts_more c.args.self.zones _ c.at.result _ c.at.ensures c.in_ok-zones.ensures;
  texts = refl;
  equal = refl;
}
