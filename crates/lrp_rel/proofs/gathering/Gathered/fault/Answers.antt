use Rattle.lrp_rel.proofs.GatheredLemmas.{gathered_fault}
use Rattle.lrp_rel.proofs.gathering.Gathered.fault.Goals as goal

pub returns : goal.returns
returns c = λ tree are. gathered_fault tree c.args.self.now c.sooner_of.result are c.sooner_of.ensures
