-- What is told is the run's, and the database is kept.
use Rattle.std.proofs.Common.{Some, ap, sym}
use Rattle.lrp_c.proofs.SessionLemmas.{answered_over}
use Rattle.lrp_c.proofs.kept_file.reply_kept.Goals as goal

pub returns-clause-reply : goal.returns-clause-reply
returns-clause-reply c = λ words own files means has is.
    answered_over c.args.asked.now own files c.args.kept.file.bytes c.args.query _ c.ask-status.result.status _ means has is c.ask-status.ensures.told (ap Some c.new-text.ensures.empty) (ap Some (sym c.into_bytes-text.ensures))
