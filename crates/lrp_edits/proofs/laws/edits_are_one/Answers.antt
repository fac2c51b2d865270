-- What reads a text gives its edits.
use Rattle.std.proofs.Common.{Ok, sym}
use Rattle.lrp_edits.proofs.EditLaws.{every_edits}
use Rattle.lrp_edits.proofs.laws.edits_are_one.Goals as goal

pub returns : goal.returns
returns c = λ bytes relations edits other one two. sym (every_edits bytes relations (Ok other) two tt edits one)
