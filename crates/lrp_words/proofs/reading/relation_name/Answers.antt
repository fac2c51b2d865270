use Rattle.lrp_words.proofs.NameLemmas.{answer_named}
use Rattle.lrp_words.proofs.reading.relation_name.Goals as goal

pub returns-in-None-clause-name : goal.returns-in-None-clause-name
returns-in-None-clause-name c = answer_named
