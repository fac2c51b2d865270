use Rattle.lrp_rel.proofs.DatabaseRules.{one_tree}
use Rattle.lrp_rel.proofs.laws.database_texts_have_one_tree.Goals as goal

pub returns : goal.returns
returns c = λ tree other tokens lawful spelled again. one_tree tree other tokens lawful spelled again
