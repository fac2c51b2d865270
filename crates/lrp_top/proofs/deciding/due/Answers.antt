-- Words that spell no command name no file.
use Rattle.lrp_io.proofs.StartsLemmas.{none_started}
use Rattle.lrp_top.proofs.deciding.due.Goals as goal

pub returns-in-Err-clause-starts : goal.returns-in-Err-clause-starts
returns-in-Err-clause-starts g c = none_started _ _
