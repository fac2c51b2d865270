use Rattle.lrp_edits.proofs.EditLaws.{kept_said, kept_refused}
use Rattle.lrp_edits.proofs.read.edits_of_bytes.Goals as goal

pub returns-in-None-clause-read : goal.returns-in-None-clause-read
returns-in-None-clause-read c = kept_said c.args.bytes.now c.args.database.now c.in_ok-kept.kept c.in_ok-kept.ensures.kept c.in-None.is

pub returns-in-Some-clause-refused : goal.returns-in-Some-clause-refused
returns-in-Some-clause-refused c = kept_refused c.args.bytes.now c.args.database.now c.in_ok-kept.kept c.in-Some.fault c.in_ok-kept.ensures.kept c.in-Some.is
