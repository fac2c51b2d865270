use Rattle.lrp_core.specs.Cores.{core_of}
use Rattle.lrp_core.proofs.Members.{guarded-And}
use Rattle.lrp_core.proofs.forming.guarded.Goals as goal

pub returns : goal.returns
returns c = guarded-And c.args.columns.now c.in_ok-of.of.items c.push_conjunct.new.all (core_of c.args.body) c.in_ok-of.ensures c.in_ok-push_conjunct.ensures
