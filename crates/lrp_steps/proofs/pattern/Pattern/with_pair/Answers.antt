-- One pair more.
use Rattle.std.proofs.Common.{refl}
use Rattle.lrp_steps.proofs.Conditioned.{pair_made}
use Rattle.lrp_steps.proofs.pattern.Pattern.with_pair.Goals as goal

pub returns : goal.returns
returns c = pair_made c.args.self _ c.args.left c.args.right _ c.args.self.equal refl refl c.in_ok-push.ensures.ok refl refl refl
