-- It is read as the words say.
use Rattle.lrp_top.proofs.QuestionLemmas.{asked_in}
use Rattle.lrp_top.proofs.files.query_asked.Goals as goal

pub returns-clause-asked : goal.returns-clause-asked
returns-clause-asked g c = asked_in c.args.database.now c.language_of.ensures c.query_of.ensures.asked
