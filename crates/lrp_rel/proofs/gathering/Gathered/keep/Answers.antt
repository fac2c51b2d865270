-- One relation more.
use Rattle.lrp_rel.proofs.GatheredLemmas.{gathered_more}
use Rattle.lrp_rel.proofs.gathering.Gathered.keep.Goals as goal

pub returns : goal.returns
returns c = λ tree raw m g. gathered_more tree raw c.args.meaning c.args.self.now _ c.in_ok-found.found m g c.in_ok-found.ensures.found c.in_ok-found.ensures.names c.sooner_of-self.ensures c.sooner_of-self-2.ensures c.in_ok-push.ensures.ok
