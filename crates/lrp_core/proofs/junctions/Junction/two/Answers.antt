use Rattle.lrp_core.specs.Cores.{core_of}
use Rattle.lrp_core.proofs.Joined.{two-joined}
use Rattle.lrp_core.proofs.junctions.Junction.two.Goals as goal

pub returns : goal.returns
returns c = two-joined c.args.self c.in_ok-of.of.items c.push.new.all.items c.push-2.new.all.items (core_of c.args.f) (core_of c.args.g) _ c.in_ok-of.ensures.items c.in_ok-push.ensures c.in_ok-push-2.ensures c.of.ensures
