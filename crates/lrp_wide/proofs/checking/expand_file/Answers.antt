use Rattle.std.proofs.Common.{IfOk, ◌≡◌}
use Rattle.lrp_model.specs.RawQueries.{raw_file_of}
use Rattle.lrp_wide.proofs.SortOutcomes.{every_file, every_refusal}
use Rattle.lrp_wide.proofs.SortPlain.{plain_answer}
use Rattle.lrp_wide.proofs.checking.expand_file.Goals as goal

pub returns-clause-plain : goal.returns-clause-plain
returns-clause-plain c = plain_answer c.args.db.now (raw_file_of c.args.file) c.answer.result c.answer.ensures.query

pub returns-clause-every_file : goal.returns-clause-every_file
returns-clause-every_file c = every_file c.args.db.now (raw_file_of c.args.file) c.answer.result c.answer.ensures.query c.answer.ensures.refused

pub returns-clause-every_refusal : goal.returns-clause-every_refusal
returns-clause-every_refusal c = every_refusal c.args.db.now (raw_file_of c.args.file) c.answer.result c.answer.ensures.small c.answer.ensures.sorted c.answer.ensures.refused
