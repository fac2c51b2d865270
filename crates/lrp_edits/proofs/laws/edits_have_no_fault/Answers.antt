-- What reads a text gives its edits.
use Rattle.std.proofs.Common.{Ok}
use Rattle.lrp_edits.proofs.EditLaws.{every_fault}
use Rattle.lrp_edits.proofs.laws.edits_have_no_fault.Goals as goal

pub returns : goal.returns
returns c = λ bytes relations edits fault said at. every_fault bytes relations (Ok edits) said tt fault at
