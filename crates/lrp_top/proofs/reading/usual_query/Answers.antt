-- What is read is said, and what refuses the text refuses the query.
use Rattle.std.proofs.Common.{sym, subst}
use Rattle.lrp_top.specs.Languages.{usual_language}
use Rattle.lrp_top.specs.Questions.{IsMemory, IsUnreadIn}
use Rattle.lrp_top.proofs.ReadingLemmas.{unread_every, unread_usual}
use Rattle.lrp_top.proofs.reading.usual_query.Goals as goal

pub returns-in-Err-clause-refused : goal.returns-in-Err-clause-refused
returns-in-Err-clause-refused c = λ db. subst (IsUnreadIn (usual_language c.args.tense) db c.args.bytes.now) (sym c.unread.ensures) (unread_usual c.args.tense db c.args.bytes.now c.in-Err.read c.in-Err.ensures.refused)

pub returns-in-Err-clause-every : goal.returns-in-Err-clause-every
returns-in-Err-clause-every c = λ raw said. subst IsMemory (sym c.unread.ensures) (unread_every raw c.in-Err.read (c.in-Err.ensures.every raw said))
