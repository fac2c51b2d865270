use Rattle.lrp_reading_laws.proofs.EveryDatabase.{every_edits}
use Rattle.lrp_reading_laws.proofs.laws.every_text_is_edits_or_faulty.Goals as goal

pub returns : goal.returns
returns c = λ bytes relations. every_edits bytes relations
