use Rattle.lrp_rel.proofs.GatheredLemmas.{meaning_of}
use Rattle.lrp_rel.proofs.gathering.Meaning.of.Goals as goal

pub returns : goal.returns
returns c = λ rows h. meaning_of c.args.name c.args.heading rows c.args.body c.in_ok-columns.columns c.sooner_of-fault.result c.requires h c.sooner_of-fault.ensures c.in_ok-columns.ensures
