-- It is read as the words say.
use Rattle.lrp_top.proofs.QuestionLemmas.{read_in}
use Rattle.lrp_top.proofs.files.usual_database.Goals as goal

pub returns-clause-read : goal.returns-clause-read
returns-clause-read g c = read_in c.usual_civil.ensures c.database_of.ensures.read
